-- What a device was when its log began, as it is kept behind its lock (this project's profile).
use Rattle.std.specs.Prelude.{refl}
use Rattle.std.specs.Coded.{Coded, code_by, coded×, coded_ℕ, coded_list}
use Rattle.std.specs.FinMap.{code}
use Rattle.bep_map.specs.NameMap.{ByName}
use Rattle.bep_machine.specs.Peer.{Peer, Session}
use Rattle.bep_machine.specs.Replica.{ByDevice, Replica}
use Rattle.bep_peer.specs.Member.{tables_of}
use Rattle.bep_cut.specs.Cut.{Seen, seen}
use Rattle.bep_log.specs.LoggedPeer.{LoggedMember}

-- of a copy: the device as it was, by its number and tables
abbrev pub base_seen : LoggedMember → Seen
base_seen copy = seen copy.base

-- The same of a device behind its lock. Its base has the device's number, and no clause says so of a base whose stores were read.
-- So the number is the device's own.
abbrev pub began_as : LoggedMember → Seen
began_as logged = (logged.now.number, tables_of logged.base)

-- tables of a device are stored as its folders and sessions, by the codes of these
abbrev pub peer_code : Coded Replica → Coded Session → Coded Peer
peer_code tables session =
    code_by (ByName Replica × ByDevice Session) (coded× (code (coded_list coded_ℕ) tables) (code coded_ℕ session))
    (λ p. (p.replicas, p.sessions)) (λ q. record { replicas = q.0; sessions = q.1 }) (λ _. refl)

-- and with its number
abbrev pub seen_code : Coded Replica → Coded Session → Coded Seen
seen_code tables session = coded× coded_ℕ (peer_code tables session)
