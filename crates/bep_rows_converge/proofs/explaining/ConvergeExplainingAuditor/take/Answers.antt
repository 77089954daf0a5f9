use Rattle.bep_model.specs.Tables.{Tables}
use Rattle.bep_rows_answer.proofs.Alone.{alone_says}
use Rattle.bep_rows_converge.specs.Explained.{ExplainsConverging}
use Rattle.bep_rows_converge.proofs.explaining.ConvergeExplainingAuditor.take.Goals as goal

pub returns : goal.returns
returns c = λ asked rows next known. (
  alone_says c.documents_say_only.ensures c.args.header.now c.args.row.now c.in_ok-cut.cut c.in_ok-cut.ensures (λ (t : Tables). ExplainsConverging t c.in_ok-text.text.items) c.in_ok-text.ensures,
  (c.in_ok-_first.ensures c.args.self.now.under rows next known).1,
)
