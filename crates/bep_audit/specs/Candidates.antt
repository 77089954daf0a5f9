-- The own records of a name, as candidates for its winner.
use Rattle.std.specs.Prelude.{◌≡◌, ◌==◌, ℕ, List, [], ◌∷◌, Option, Some, None, map, if◌then◌else◌}
use Rattle.std.specs.List.{flat_map}
use Rattle.std.specs.FinMap.{get}
use Rattle.bep_record.specs.declared.entry.Entry.{Entry}
use Rattle.bep_choice.specs.Choice.{Candidate}
use Rattle.bep_tables.specs.declared.share.Share.{Share}
use Rattle.bep_tables.specs.declared.table.entry.Source.TheVariants.{Own}
use Rattle.bep_tables.specs.Listed.{Holding, Record, Node, Listed, listed}
use Rattle.bep_model.specs.Tables.{Tables, Device, Folder, FileName}
use Rattle.bep_model.specs.Winner.{IsWinner, beside, smallest}
use Rattle.bep_audit.specs.declared.owns.Owns.{Owns}
use Rattle.bep_audit.specs.declared.owns.Owns.TheVariants.{Named, Grouped}

-- what is held, if it is an own record
abbrev pub own_held : Holding → Option Entry
own_held (Record Own entry) = Some entry
own_held (Record source entry) = None
own_held (Node node) = None

-- what is picked of the entry, if it is of the device
abbrev pub picked_at : {X : Type 0} → (Holding → Option X) → Device → Listed → Option X
picked_at pick device one = if one.device == device then pick one.holding else None

-- the first, if it is there, or else the other
abbrev pub first_of : {X : Type 0} → Option X → Option X → Option X
first_of None other = other
first_of (Some found) other = Some found

-- the first that is picked of these entries, as far as they are of the device
abbrev pub picked_among : {X : Type 0} → (Holding → Option X) → Device → List Listed → Option X
picked_among pick device [] = None
picked_among pick device (one ∷ more) = first_of (picked_at pick device one) (picked_among pick device more)

-- the device's own record among these entries
abbrev pub own_among : Device → List Listed → Option Entry
own_among = picked_among own_held

-- the own record of a share's device, looked up by the name or among the name's entries
abbrev pub own_by : Owns → Share → Option Entry
own_by (Named name) share = get share.own name.now
own_by (Grouped group) share = own_among share.device (map listed group.now)

-- these own records, each beside its device
abbrev pub owned_by : (Share → Option Entry) → List Share → List Candidate
owned_by own = flat_map (λ (share : Share). beside share.device (own share))

-- the own records of a name in these shares
abbrev pub owned_in : FileName → List Share → List Candidate
owned_in name = owned_by (λ share. get share.own name)

-- the smallest of the devices of these shares
abbrev pub chooser_of : List Share → ℕ
chooser_of shares = smallest (map (λ share. (share.device, share.kind)) shares)

-- what is found of a name's winner: nothing, where there is none, or else the winner, whose record has the name
abbrev pub FindsWinner : Tables → Folder → FileName → Option Candidate → Type 0
FindsWinner t folder name None = (one : Candidate) → ¬ IsWinner t folder name one
FindsWinner t folder name (Some one) = IsWinner t folder name one × (one.1.name ≡ name)
