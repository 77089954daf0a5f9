-- Where a name of a folder is known from: what the devices have, and what is on its way (this project's profile).
use Rattle.std.specs.Prelude.{◌≡◌, ◌⊎◌, false, IsTrue, List, Some, Contains}
use Rattle.std.specs.FinMap.{get, contains_key}
use Rattle.bep_record.specs.declared.entry.Entry.{Entry}
use Rattle.bep_map.specs.NameMap.{ByName}
use Rattle.bep_model.specs.declared.flight.Flight.{Flight}
use Rattle.bep_model.specs.Tables.{Folder, FileName}
use Rattle.bep_tables.specs.declared.share.Share.{Share}
use Rattle.bep_tables.specs.declared.share.PeerView.{PeerView}
use Rattle.bep_tables.specs.declared.link.LinkState.{LinkState}

-- the map has a record of the name, one that isn't invalid
abbrev pub HasValid : ByName Entry → FileName → Type 0
HasValid records name = (entry : Entry) × (get records name ≡ Some entry) × (entry.invalid ≡ false)

-- one of the views has such a record
abbrev pub IsViewedIn : List PeerView → FileName → Type 0
IsViewedIn views name = (view : PeerView) × Contains views view × HasValid view.records name

-- the device pulls the name, or has it in a view
abbrev pub HasForeign : Share → FileName → Type 0
HasForeign share name = IsTrue (contains_key share.pulls name) ⊎ IsViewedIn share.views name

-- the device recorded the name, its store holds it, or the device has it from elsewhere
abbrev pub HasName : Share → FileName → Type 0
HasName share name = IsTrue (contains_key share.own name) ⊎ (IsTrue (contains_key share.store name) ⊎ HasForeign share name)

-- one of the devices has the name
abbrev pub IsHeldIn : List Share → FileName → Type 0
IsHeldIn shares name = (share : Share) × Contains shares share × HasName share name

-- the record is of the name, and isn't invalid
abbrev pub IsValidOf : FileName → Entry → Type 0
IsValidOf name entry = (entry.name ≡ name) × (entry.invalid ≡ false)

-- one of the records is
abbrev pub HasValidOf : FileName → List Entry → Type 0
HasValidOf name entries = (entry : Entry) × Contains entries entry × IsValidOf name entry

-- the message is of the folder, and has such a record
abbrev pub Brings : Folder → FileName → Flight → Type 0
Brings folder name flight = (flight.folder ≡ folder) × HasValidOf name flight.records

-- one of the messages does
abbrev pub IsBroughtBy : Folder → FileName → List Flight → Type 0
IsBroughtBy folder name flights = (flight : Flight) × Contains flights flight × Brings folder name flight

-- a message on its way over the link has such a record, one way or the other
abbrev pub IsOver : Folder → FileName → LinkState → Type 0
IsOver folder name link = IsBroughtBy folder name link.to_a ⊎ IsBroughtBy folder name link.to_b

-- over one of the links
abbrev pub IsOnItsWay : Folder → List LinkState → FileName → Type 0
IsOnItsWay folder links name = (link : LinkState) × Contains links link × IsOver folder name link

-- a device of the folder has the name, or it is on its way
abbrev pub IsKnownFrom : Folder → List Share → List LinkState → FileName → Type 0
IsKnownFrom folder shares links name = IsHeldIn shares name ⊎ IsOnItsWay folder links name
