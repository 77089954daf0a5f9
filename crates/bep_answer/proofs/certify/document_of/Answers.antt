use Rattle.std.proofs.Common.{◌≡◌, ◌≤◌, List, length, Contains, sym, subst}
use Rattle.bep_document.specs.Reading.{Read, most_bytes}
use Rattle.bep_model.specs.declared.row.Row.{Row}
use Rattle.bep_model.specs.Winner.{IsWinner}
use Rattle.bep_tables.specs.Cut.{tables_of}
use Rattle.bep_cut_document.specs.Room.{HasRoom}
use Rattle.bep_cut_document.specs.Trees.{check_document_text}
use Rattle.bep_cut_document.specs.Written.{check_of}
use Rattle.bep_answer.proofs.certify.document_of.Goals as goal

pub returns-clause-read_back : goal.returns-clause-read_back
returns-clause-read_back c =
    let cut = c.args.cut.now in
    let winners = subst (λ (rows : List Row). (row : Row) → Contains rows row → IsWinner (tables_of cut) row.folder row.entry.name (row.device, row.entry)) (sym c.rows.ensures) c.requires.winners in
    let version = c.args.version in
    subst (λ (rows : List Row). HasRoom version cut → length (check_document_text version cut rows) ≤ most_bytes → check_of (check_document_text version cut rows) ≡ Read (cut, rows)) c.rows.ensures
    (λ room few. c.in_ok-check_document.ensures.read_back room (c.winners_are_in_range.ensures.room version c.rows.result.now room winners) few (c.winners_are_in_range.ensures.range c.rows.result.now winners))
