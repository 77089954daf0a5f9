use Rattle.std.proofs.Common.{IfOk, subst}
use Rattle.bep_answer.specs.Certified.{IsCertificate}
use Rattle.bep_tables.specs.declared.cut.CutParts.{CutParts}
use Rattle.bep_live.proofs.document.document_of.Goals as goal

pub returns : goal.returns
returns c =
    subst (λ (cut : CutParts). IfOk c.certify_cut.result (λ answer. IsCertificate c.args.version cut answer.0 answer.1.items)) c.cut.ensures.cut_of c.certify_cut.ensures
