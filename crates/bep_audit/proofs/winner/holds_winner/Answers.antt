use Rattle.std.proofs.Common.{option_map, refl, subst, ap}
use Rattle.bep_choice.specs.Choice.{candidate_of}
use Rattle.bep_audit.specs.Candidates.{FindsWinner}
use Rattle.bep_audit.proofs.WinnerFacts.{row_exactly}
use Rattle.bep_audit.proofs.winner.holds_winner.Goals as goal

pub returns-in-None : goal.returns-in-None
returns-in-None c = λ t finds.
    let row = c.args.row.now in
    let none = subst (FindsWinner t row.folder row.entry.name) (ap (option_map candidate_of) c.in-None.is) finds in
    (λ e. absurd (cc), λ wins. absurd (none (row.device, row.entry) wins))

pub returns-in-Some : goal.returns-in-Some
returns-in-Some c = λ t finds.
    let row = c.args.row.now in
    let found = subst (FindsWinner t row.folder row.entry.name) (ap (option_map candidate_of) c.in-Some.is) finds in
    let exactly = row_exactly c.winner_is_unique.ensures t row row.entry (candidate_of c.in-Some.one) refl found.0 in
    (λ same. exactly.0 (c.is_of_row.ensures.0 same), λ wins. c.is_of_row.ensures.1 (exactly.1 wins))
