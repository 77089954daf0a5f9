use Rattle.std.proofs.Common.{◌≡◌, Option, Some, None, refl, sym, ap, subst}
use Rattle.bep_row_document.proofs.FaultFacts.{row_is_above}
use Rattle.bep_rows.specs.AllRows.{key_of_row}
use Rattle.bep_rows.specs.Names.{IsAbove, Key}
use Rattle.bep_rows_answer.specs.Auditor.{last_of}
use Rattle.bep_rows_answer.proofs.Above.{above_from}
use Rattle.bep_rows_answer.proofs.rows.Rows.take.Goals as goal

pub returns-clause-ok : goal.returns-clause-ok
returns-clause-ok g c =
    let old = c.args.self.now in
    let row = c.in_ok-row.row in
    let key : (c.in_ok-folder.folder, c.in_ok-name.name) ≡ key_of_row c.in_ok-row.row = λ i. (c.in_ok-folder.ensures i, c.in_ok-name.ensures i) in
    let fits = c.row_fits.ensures.0 c.if-not-row_fits.false in
    let above = above_from (key_of_row row) old.last (row_is_above old.version old.header old.last c.args.line.now row c.in_ok-row.ensures) in (
      row,
      record {
        read = c.in_ok-row.ensures;
        fits = fits;
        version = refl;
        header = refl;
        last = ap (λ (k : Key). Some k) key;
      },
      λ asked rows last knows.
          c.in_ok-text.ensures asked rows
          (subst (λ (l : Option Key). IsAbove (key_of_row row) l) last above)
          knows,
    )
