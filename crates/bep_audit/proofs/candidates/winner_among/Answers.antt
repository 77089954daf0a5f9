use Rattle.std.proofs.Common.{ℕ, IfNone, subst}
use Rattle.bep_choice.specs.Choice.{Candidate, IsChoice}
use Rattle.bep_audit.specs.Candidates.{own_by, owned_by}
use Rattle.bep_audit.proofs.candidates.winner_among.Goals as goal

pub returns-in-Some-Some-clause-none : goal.returns-in-Some-Some-clause-none
returns-in-Some-Some-clause-none c =
    subst (λ (chooser : ℕ). IfNone c.winner_within.result ((one : Candidate) → ¬ IsChoice chooser (owned_by (own_by c.args.owns) c.args.shares.now) one))
    c.in-Some-Some.ensures c.winner_within.ensures.none
