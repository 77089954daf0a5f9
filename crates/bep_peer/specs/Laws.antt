-- What the tables of a device are, by its folders; the function of src/laws.rt has this as its contract.
use Rattle.std.specs.Prelude.{◌≡◌, option_map}
use Rattle.std.specs.FinMap.{get, keys}
use Rattle.bep_model.specs.Tables.{Folder}
use Rattle.bep_peer.specs.Member.{Member, tables_of}

-- each folder's tables are found under its name
abbrev pub TablesAreFound : Type 0
TablesAreFound =
    (member : Member) (folder : Folder) →
    get (tables_of member).replicas folder ≡ option_map (λ held. held.tables) (get member.folders folder)

-- and there are no others
abbrev pub NoMoreTables : Type 0
NoMoreTables = (member : Member) → keys (tables_of member).replicas ≡ keys member.folders
