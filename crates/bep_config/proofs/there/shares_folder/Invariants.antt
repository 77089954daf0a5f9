use Rattle.std.proofs.Common.{◌≡◌, is_some}
use Rattle.std.specs.Map.{lookup}
use Rattle.std.specs.BTreeMap.{is_at}
use Rattle.bep_config.specs.Config.{by_share}
use Rattle.bep_config.proofs.there.shares_folder.Given as goal

-- the device shares the folder exactly where this stands among what is left
abbrev pub invariant-loop-key : goal.invariant-loop-key
invariant-loop-key g l =
    is_some (lookup (is_at (by_share (l.folder, l.device))) l.key-iterator) ≡ is_some (lookup (is_at (by_share (l.folder, l.device))) l.shares.entries)
