-- What is found of a cluster: a device that is behind on a name, or that none is (this project's profile).
use Rattle.std.specs.Prelude.{◌≡◌, ⊤, Option, Some, None}
use Rattle.bep_record.specs.declared.entry.Entry.{Entry}
use Rattle.bep_record.specs.Vector.{IsAtMost}
use Rattle.bep_model.specs.Tables.{Device, Folder, FileName, Shares}
use Rattle.bep_machine.specs.Cluster.{Cluster}
use Rattle.bep_machine.specs.Said.{tables_of_cluster}
use Rattle.bep_converge.specs.Prevails.{IsAtTop, Prevails, AllPrevail}
use Rattle.bep_converge.specs.Watched.{IsBehindOwner}
use Rattle.bep_rounds.specs.declared.wanted.Wanted.{Wanted}

-- the own record, if there is one, is at most this one
abbrev pub IsUpTo : Option Entry → Entry → Type 0
IsUpTo None top = ⊤
IsUpTo (Some own) top = IsAtMost own.version top.version

-- where some record of the name prevails, this one does, and the device isn't there
abbrev pub IsBehindHere : Cluster → Device → Device → Folder → Entry → Type 0
IsBehindHere cluster device owner folder top =
    (any : Entry) → Prevails (tables_of_cluster cluster) folder top.name any → IsBehindOwner cluster device owner folder top.name top

-- if the owner has the top of the name, each device is there
abbrev pub NoneIsBehind : Cluster → Device → Folder → FileName → Type 0
NoneIsBehind cluster owner folder name =
    (top : Entry) → Prevails (tables_of_cluster cluster) folder name top → (tables_of_cluster cluster).own owner folder name ≡ Some top →
    (device : Device) → Shares (tables_of_cluster cluster) device folder → IsAtTop ((tables_of_cluster cluster).own device folder name) top

-- where all names prevail, the device is behind the owner
abbrev pub IsWanted : Cluster → Wanted → Type 0
IsWanted cluster wanted =
    AllPrevail (tables_of_cluster cluster) → (top : Entry) × IsBehindOwner cluster wanted.device wanted.owner wanted.folder wanted.name top

-- a device that is behind is found; where none is found, this is so
abbrev pub IsFound : Cluster → Option Wanted → Type 0 → Type 0
IsFound cluster None none = none
IsFound cluster (Some wanted) none = IsWanted cluster wanted
