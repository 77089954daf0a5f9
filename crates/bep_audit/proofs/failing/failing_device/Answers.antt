use Rattle.std.proofs.Common.{Some, None, [], ◌∷◌, subst, sym}
use Rattle.bep_tables.specs.Cut.{tables_of}
use Rattle.bep_audit.specs.inner.Search.{FindsFailing}
use Rattle.bep_audit.proofs.CutFacts.{devices_rise}
use Rattle.bep_audit.proofs.FailingDevice.{finds_device}
use Rattle.bep_audit.proofs.failing.failing_device.Goals as goal

pub first_unmet-requires : goal.first_unmet-requires
first_unmet-requires c =
    devices_rise c.cut_says.ensures c.args.cut.now c.shares.ensures.a_cut c.args.row.now.folder c.shares.result.now c.shares.ensures.value

pub returns-in-None : goal.returns-in-None
returns-in-None c =
    finds_device c.cut_says.ensures c.share_is_asked.ensures c.args.cut.now c.shares.ensures.a_cut c.args.row.now c.args.reason c.requires
    c.links.result.now c.links.ensures.value c.shares.result.now c.shares.ensures.value None c.in-None.ensures

pub returns-in-Some : goal.returns-in-Some
returns-in-Some c =
    subst (λ place. FindsFailing (tables_of c.args.cut.now) (c.args.row.now ∷ []) c.args.reason (Some place)) (sym c.of_device.ensures)
    (finds_device c.cut_says.ensures c.share_is_asked.ensures c.args.cut.now c.shares.ensures.a_cut c.args.row.now c.args.reason c.requires
    c.links.result.now c.links.ensures.value c.shares.result.now c.shares.ensures.value (Some c.in-Some.device) c.in-Some.ensures)
