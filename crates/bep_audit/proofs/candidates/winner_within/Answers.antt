use Rattle.std.proofs.Common.{List, IfNone, subst}
use Rattle.bep_choice.specs.Choice.{Candidate, IsChoice}
use Rattle.bep_audit.specs.Candidates.{own_by}
use Rattle.bep_audit.proofs.CandidateFacts.{lent_rise}
use Rattle.bep_audit.proofs.candidates.winner_within.Goals as goal

pub chosen-requires : goal.chosen-requires
chosen-requires c = lent_rise (own_by c.args.owns) c.args.shares.now _ c.gather-count.ensures.candidates c.requires.rise

pub returns-clause-none : goal.returns-clause-none
returns-clause-none c =
    subst (λ (candidates : List Candidate). IfNone c.chosen.result ((one : Candidate) → ¬ IsChoice c.args.chooser candidates one))
    c.gather-count.ensures.candidates c.chosen.ensures.none
