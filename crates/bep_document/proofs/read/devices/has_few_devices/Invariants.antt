use Rattle.std.proofs.Common.{◌≡◌, ◌≤◌, [], length, drop}
use Rattle.bep_document.specs.read.Devices.{with_devices}
use Rattle.bep_record.specs.declared.limits.TheConstants.{MAX_DEVICES}
use Rattle.bep_document.proofs.read.devices.has_few_devices.Given as goal

-- the known ones with the rest of the folders are those of all folders
abbrev pub invariant-loop-folder : goal.invariant-loop-folder
invariant-loop-folder l = record {
  few : length l.known.items ≤ MAX_DEVICES;
  rest : with_devices l.known.items (drop l.folder-index l.folders) ≡ with_devices [] l.folders;
}
