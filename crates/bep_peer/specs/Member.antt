-- What a device has: its folders, its sessions, the devices with which it has links, and what its last action did (BEP v1,
-- 'Cluster Config'; sessions are this project's profile).
use Rattle.std.specs.Prelude.{◌≡◌, ◌↔◌, ◌<◌, false, List, map, Some, None, IsSome, Contains, refl}
use Rattle.std.specs.Coded.{Coded, code_by, coded×, coded_ℕ, coded_list}
use Rattle.std.specs.FinMap.{code, empty, get, entries, from_entries}
use Rattle.bep_map.specs.NameMap.{ByName}
use Rattle.bep_model.specs.Tables.{Device, Folder}
use Rattle.bep_machine.specs.Replica.{ByDevice, Replica}
use Rattle.bep_machine.specs.Peer.{Session, Peer}
use Rattle.bep_machine.specs.Exchange.{IsNamed}
use Rattle.bep_folder.specs.Held.{Held, AreOthers}
use Rattle.bep_peer.specs.declared.trace.Trace.{Trace}

-- a device of the cluster
pub record Member : Type 0 where
  pub number : Device
  -- its folders, each as it has it
  pub folders : ByName Held
  pub sessions : ByDevice Session
  -- the other devices with which it has a link
  pub linked : List Device
  -- what its last action did
  pub trace : Trace

-- a member is stored as its parts, by the codes of a folder, a session and a trace
abbrev pub member_code : Coded Held → Coded Session → Coded Trace → Coded Member
member_code held session trace =
    code_by (Device × (ByName Held × (ByDevice Session × (List Device × Trace))))
    (coded× coded_ℕ (coded× (code (coded_list coded_ℕ) held) (coded× (code coded_ℕ session) (coded× (coded_list coded_ℕ) trace))))
    (λ m. (m.number, (m.folders, (m.sessions, (m.linked, m.trace)))))
    (λ p. record { number = p.0; folders = p.1.0; sessions = p.1.1.0; linked = p.1.1.1.0; trace = p.1.1.1.1 })
    (λ _. refl)

-- each folder is this device's, and stands under its own name
abbrev pub AreOwn : Device → ByName Held → Type 0
AreOwn device folders = (folder : Folder) (held : Held) → get folders folder ≡ Some held → (held.device ≡ device) × (held.folder ≡ folder)

-- each session names only folders that both devices share
abbrev pub NameShared : ByName Held → ByDevice Session → Type 0
NameShared folders sessions = (other : Device) (session : Session) (folder : Folder) →
    get sessions other ≡ Some session → IsNamed session folder →
    (held : Held) × (get folders folder ≡ Some held) × Contains held.tables.others other

-- what holds of every member
pub record IsMember (number : Device) (folders : ByName Held) (sessions : ByDevice Session) (linked : List Device) : Type 0 where
  pub own : AreOwn number folders
  pub named : NameShared folders sessions
  pub linked_to : AreOthers number linked

-- ---- what the tables of a cluster say of it

-- each folder's tables
abbrev pub tables_in : ByName Held → ByName Replica
tables_in folders = from_entries (map (λ one. (one.0, one.1.tables)) (entries folders))

abbrev pub tables_of : Member → Peer
tables_of member = record { replicas = tables_in member.folders; sessions = member.sessions }

-- ---- what an action did

-- no call of a store failed, no copy was written and nothing was sent
abbrev pub nothing_told : Trace
nothing_told = record { failed = None; copied = false; put = None }

-- the store of a folder failed once more
pub record HasFailed (old new : Member) : Type 0 where
  pub folder : Folder
  pub was : Held
  pub now : Held
  pub before : get old.folders folder ≡ Some was
  pub after : get new.folders folder ≡ Some now
  pub rose : was.faults < now.faults

-- What no action changes, and what it tells of the stores: a call is told to have failed exactly where a store's count of
-- faults rose.
pub record Remains (old new : Member) : Type 0 where
  pub number : new.number ≡ old.number
  pub linked : new.linked ≡ old.linked
  pub failed : IsSome new.trace.failed ↔ HasFailed old new

-- all is as before, and nothing is told
abbrev pub untold : Member → Member
untold member = record member { trace = nothing_told }

-- the device as it begins
abbrev pub new_member : Device → ByName Held → List Device → Member
new_member number folders linked = record { number = number; folders = folders; sessions = empty; linked = linked; trace = nothing_told }
