use Rattle.std.proofs.Common.{ap, ◌∙◌}
use Rattle.std.specs.Ordering.{nat_cmp}
use Rattle.std.specs.Cmp.{nat_cmp_total}
use Rattle.std.specs.Set.{remove_key}
use Rattle.std.specs.BTreeMap.{is_at}
use Rattle.bep_config.proofs.Kept.{taken_back, not_there, grown}
use Rattle.bep_config.proofs.growth.add_share.Goals as goal

pub returns-then-is_new-clause-err_devices : goal.returns-then-is_new-clause-err_devices
returns-then-is_new-clause-err_devices g c =
    let device = c.args.key.1 in
    let new = not_there c.in_ok-is_new.is_new _ c.in_ok-is_new.ensures.added c.if-is_new.true in
    c.remove.ensures.keys ∙ ap (remove_key (is_at (nat_cmp device))) c.in_ok-is_new.ensures.keys ∙ taken_back nat_cmp_total c.args.devices.now.keys device new

pub returns-clause-len : goal.returns-clause-len
returns-clause-len g c = grown _ _ c.in_ok-is_new.is_new _ c.in_ok-is_new.ensures.added c.in_ok-is_new.ensures.len
