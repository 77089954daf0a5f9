use Rattle.std.proofs.Common.{◌↔◌, List, IsTrue, subst}
use Rattle.bep_tables.specs.declared.link.LinkState.{LinkState}
use Rattle.bep_audit.specs.inner.Held.{AsksOf}
use Rattle.bep_audit.proofs.FailingDevice.{share_asked}
use Rattle.bep_audit.proofs.failing.meets_asked.Goals as goal

pub returns : goal.returns
returns c =
    let asked = share_asked c.cut_says.ensures c.share_is_asked.ensures c.args.cut.now c.links.ensures.a_cut c.args.row.now c.args.reason c.args.share.now c.requires in
    let met = subst (λ (links : List LinkState). IsTrue c.meets.result ↔ AsksOf c.args.reason c.args.row.now links c.args.share.now) c.links.ensures.value c.meets.ensures in
    (λ is. asked.0 (met.0 is), λ asks. met.1 (asked.1 asks))
