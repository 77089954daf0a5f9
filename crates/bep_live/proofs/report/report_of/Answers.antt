use Rattle.std.proofs.Common.{IfOk, subst}
use Rattle.bep_play.specs.Played.{IsEnd}
use Rattle.bep_tables.specs.declared.cut.CutParts.{CutParts}
use Rattle.bep_live.proofs.report.report_of.Goals as goal

pub returns : goal.returns
returns c =
    subst (λ (cut : CutParts). IfOk c.report_on_cut.result (λ answer. IsEnd c.args.version cut c.args.told.items answer.0 answer.1.items)) c.cut.ensures.cut_of c.report_on_cut.ensures
