use Rattle.bep_audit.proofs.WinnerFacts.{row_exactly, row_unwon}
use Rattle.bep_choice.specs.Choice.{candidate_of}
use Rattle.bep_tables.specs.Cut.{tables_of}
use Rattle.bep_audit.proofs.winner.is_winner.Goals as goal

pub returns-in-None : goal.returns-in-None
returns-in-None c =
    let row = c.args.row.now in
    let none = row_unwon (tables_of c.args.cut.now) row c.entry.result.now c.entry.ensures.value c.in-None.ensures.none in
    (λ e. absurd (cc), λ wins. absurd (none wins))

pub returns-in-Some : goal.returns-in-Some
returns-in-Some c =
    let row = c.args.row.now in
    let exactly = row_exactly c.winner_is_unique.ensures (tables_of c.args.cut.now) row c.entry.result.now (candidate_of c.in-Some.one) c.entry.ensures.value c.in-Some.ensures.wins in
    (λ same. exactly.0 (c.is_of_row.ensures.0 same), λ wins. c.is_of_row.ensures.1 (exactly.1 wins))
