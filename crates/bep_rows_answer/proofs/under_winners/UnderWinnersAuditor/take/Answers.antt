use Rattle.std.proofs.Common.{◌≡◌, ◌∙◌, ◌++◌, ◌∷◌, map, refl, ap, subst}
use Rattle.bep_rows.specs.AllRows.{key_of_row}
use Rattle.bep_rows.specs.Stream.{IsReadTo}
use Rattle.bep_rows_answer.specs.Counts.{counted}
use Rattle.bep_rows_answer.specs.Lines.{standing_line}
use Rattle.bep_rows_answer.proofs.Given.{above_old, one_more_known, stands_here}
use Rattle.bep_rows_answer.proofs.under_winners.UnderWinnersAuditor.take.Goals as goal

pub returns-in-Ok : goal.returns-in-Ok
returns-in-Ok c = λ asked rows next known.
    let header = c.args.header.now in
    let old = c.args.self.now in
    let row = c.args.row.now in
    let here = c.in_ok-here.here in
    let key : (c.in_ok-folder.folder, c.in_ok-name.name) ≡ key_of_row c.args.row.now = λ i. (c.in_ok-folder.ensures i, c.in_ok-name.ensures i) in
    let stands = stands_here asked.aim header rows row next here old.aim c.documents_say_only.ensures known.asked c.in_ok-here.ensures in (
      record {
        standing = here;
        stands = stands;
        told = c.in_ok-push_standing.ensures ∙ ap (λ text. text ++ standing_line here) c.new-text.ensures.items;
      },
      one_more_known asked.aim header rows row next here _ key stands old _ known refl c.in-Ok.ensures.last
          (c.in-Ok.ensures.read asked.aim)
          (c.new.ensures ∙ c.in_ok-counts.ensures ∙ ap (map (counted row)) c.as_slice.ensures),
    )

pub returns-in-Err : goal.returns-in-Err
returns-in-Err c = λ asked rows next known.
    let header = c.args.header.now in
    let old = c.args.self.now in
    let row = c.args.row.now in
    let here = c.in_ok-here.here in
    let key : (c.in_ok-folder.folder, c.in_ok-name.name) ≡ key_of_row c.args.row.now = λ i. (c.in_ok-folder.ensures i, c.in_ok-name.ensures i) in
    let stands = stands_here asked.aim header rows row next here old.aim c.documents_say_only.ensures known.asked c.in_ok-here.ensures in
    absurd (c.in-Err.ensures.order.0 refl (above_old asked.aim header rows row next here _ key stands old old known))
