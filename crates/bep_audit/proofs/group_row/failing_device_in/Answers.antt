use Rattle.std.proofs.Common.{Some, None, [], ◌∷◌, map, subst, sym}
use Rattle.bep_tables.specs.Cut.{tables_of}
use Rattle.bep_tables.specs.Listed.{listed}
use Rattle.bep_audit.specs.inner.Search.{FindsFailing}
use Rattle.bep_audit.proofs.CutFacts.{devices_rise}
use Rattle.bep_audit.proofs.FailingDevice.{finds_by_group}
use Rattle.bep_audit.proofs.group_row.failing_device_in.Goals as goal

pub first_unmet_in-requires : goal.first_unmet_in-requires
first_unmet_in-requires c =
    devices_rise c.cut_says.ensures c.args.cut.now c.shares.ensures.a_cut c.args.row.now.folder c.shares.result.now c.shares.ensures.value

pub returns-in-None : goal.returns-in-None
returns-in-None c =
    finds_by_group c.cut_says.ensures c.share_is_asked.ensures c.args.cut.now c.shares.ensures.a_cut c.args.row.now c.entries_are_held.ensures.held (map listed c.args.group.now) c.requires.group
    c.args.reason c.requires.of_devices c.shares.result.now c.shares.ensures.value None c.in-None.ensures

pub returns-in-Some : goal.returns-in-Some
returns-in-Some c =
    subst (λ place. FindsFailing (tables_of c.args.cut.now) (c.args.row.now ∷ []) c.args.reason (Some place)) (sym c.of_device.ensures)
    (finds_by_group c.cut_says.ensures c.share_is_asked.ensures c.args.cut.now c.shares.ensures.a_cut c.args.row.now c.entries_are_held.ensures.held (map listed c.args.group.now) c.requires.group
    c.args.reason c.requires.of_devices c.shares.result.now c.shares.ensures.value (Some c.in-Some.device) c.in-Some.ensures)
