use Rattle.std.proofs.lemmas.Result.{IfOk-weaker}
use Rattle.bep_rows_converge.proofs.explaining.ConvergeExplainingAuditor.end.Goals as goal

pub returns : goal.returns
returns c = IfOk-weaker c.end.result _ _ (λ told ends asked header rows quiet known. ends asked.under header rows quiet known) c.end.ensures
