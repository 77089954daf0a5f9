-- What a ClusterConfig says (BEP v1, 'Cluster Config').
use Rattle.std.specs.Prelude.{List, [], ◌∷◌, if◌then◌else◌}
use Rattle.std.specs.List.{flat_map}
use Rattle.std.specs.FinMap.{entries}
use Rattle.bep_map.specs.NameMap.{ByName}
use Rattle.bep_model.specs.Tables.{Device, Folder}
use Rattle.bep_machine.specs.declared.message.Announced.{Announced}
use Rattle.bep_machine.specs.Peer.{announced, is_shared_with}
use Rattle.bep_folder.specs.Held.{Held}

-- what is said of a folder, if the other device shares it
abbrev pub said_of : Device → Folder × Held → List Announced
said_of other one = if is_shared_with other one.1.tables then announced other one.0 one.1.tables ∷ [] else []

-- what is said of each folder that both share, names rising
abbrev pub config_of : Device → ByName Held → List Announced
config_of other folders = flat_map (said_of other) (entries folders)
