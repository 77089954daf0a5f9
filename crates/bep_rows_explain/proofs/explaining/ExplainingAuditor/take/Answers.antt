use Rattle.std.proofs.Common.{subst}
use Rattle.bep_model.specs.Tables.{Tables}
use Rattle.bep_rows.specs.declared.aim.Aim.{Aim}
use Rattle.bep_rows_answer.proofs.Alone.{alone_says}
use Rattle.bep_rows_explain.specs.Explained.{Explains, ExplainsRow}
use Rattle.bep_rows_explain.proofs.explaining.ExplainingAuditor.take.Goals as goal

pub returns : goal.returns
returns c = λ asked rows next known.
    let header = c.args.header.now in
    let row = c.args.row.now in
    let aim = c.args.self.now.under.aim in (
      subst (λ (one : Aim). ExplainsRow one header row c.in_ok-text.text.items) known.asked
          (alone_says c.documents_say_only.ensures header row c.in_ok-cut.cut c.in_ok-cut.ensures (λ (t : Tables). Explains aim t c.in_ok-text.text.items) c.in_ok-text.ensures),
      (c.in_ok-_first.ensures asked.under rows next known).1,
    )
