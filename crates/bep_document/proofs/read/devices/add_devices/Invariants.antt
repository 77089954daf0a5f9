use Rattle.std.proofs.Common.{◌≡◌, ◌≤◌, length, map, drop}
use Rattle.bep_document.specs.read.Devices.{with_others}
use Rattle.bep_record.specs.declared.limits.TheConstants.{MAX_DEVICES}
use Rattle.bep_document.proofs.read.devices.add_devices.Given as goal

-- the known ones with the rest of these are those at first with all of these
abbrev pub invariant-loop-share : goal.invariant-loop-share
invariant-loop-share l = record {
  few : length l.known.items ≤ MAX_DEVICES;
  rest : with_others l.known.items (map (λ share. share.device) (drop l.share-index l.shares)) ≡ with_others l.fn.known.items (map (λ share. share.device) l.shares);
}
