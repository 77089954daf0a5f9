-- A device stays sound where its folders are kept, or one of its sessions becomes another sound one.
use Rattle.std.proofs.Common.{◌≡◌, ◌==◌, List, Some, IsSome, IsTrue, Contains, ◌↔◌, ◌≢◌, refl, sym, subst, ⊎_elim}
use Rattle.std.specs.List.{list_any}
use Rattle.std.specs.Cmp.{nat_cmp_total}
use Rattle.std.specs.FinMap.{nat_cmp-IsAntisymmetric, get, insert}
use Rattle.bep_facts.specs.Maps.{found_after_insert}
use Rattle.bep_map.specs.NameMap.{ByName}
use Rattle.bep_model.specs.Tables.{Device, Folder}
use Rattle.bep_machine.specs.Replica.{ByDevice, Replica}
use Rattle.bep_machine.specs.Peer.{Session, Peer, with_replica, with_session}
use Rattle.bep_machine.specs.Exchange.{SharesWith}
use Rattle.bep_machine.specs.Cluster.{Config}
use Rattle.bep_machine.specs.Steps.{SharesFolder}
use Rattle.bep_machine.specs.Sound.{FitsFolder, IsSoundSession, IsSoundPeer}
use Rattle.bep_machine.proofs.SoundParts.{SoundChange}
use Rattle.bep_machine.proofs.FoundAfter.{value_of}
use Rattle.bep_machine.proofs.FoldersKept.{KeepsFolders, KeepsFolders-insert}

-- ---- what of a device depends on its folders

pub shares_still : (device other : Device) (old new : Peer) (folder : Folder) → KeepsFolders device old.replicas new.replicas → SharesWith other old folder → SharesWith other new folder
shares_still device other old new folder keeps shares =
    let next = keeps.on folder shares.0 shares.1 in
    (next.0, next.1, subst (λ (others : List Device). IsTrue (list_any (λ one. one == other) others)) (sym next.2) shares.2)

pub session_still : (device other : Device) (old new : Peer) (session : Session) → KeepsFolders device old.replicas new.replicas → IsSoundSession other old session → IsSoundSession other new session
session_still device other old new session keeps sound = record {
  named = λ folder cursor is. shares_still device other old new folder keeps (sound.named folder cursor is);
  unnamed = sound.unnamed;
  few = sound.few;
}

fits_still : (config : Config) (device : Device) (folder : Folder) (before after : Replica) → SoundChange device before after → FitsFolder config device folder before → FitsFolder config device folder after
fits_still config device folder before after change fits = record {
  kind = subst (λ kind. Contains (config.sharing folder) (device, kind)) (sym change.kind) fits.kind;
  others = subst (λ (others : List Device). (other : Device) → Contains others other ↔ ((other ≢ device) × SharesFolder config other folder)) (sym change.others) fits.others;
}

-- ---- the device

-- with other sessions, where these are sound
pub sound_after : (config : Config) (device : Device) (old new : Peer) → IsSoundPeer config device old → KeepsFolders device old.replicas new.replicas
    → ((other : Device) (session : Session) → get new.sessions other ≡ Some session → IsSoundSession other new session) → IsSoundPeer config device new
sound_after config device old new sound keeps sessions = record {
  replicas = λ folder replica is. (keeps.back folder replica is).2.sound;
  fit = λ folder replica is.
      let before = keeps.back folder replica is in
      fits_still config device folder before.0 replica before.2 (sound.fit folder before.0 before.1);
  all = λ folder shares.
      let had = value_of (get old.replicas folder) (sound.all folder shares) in
      let next = keeps.on folder had.0 had.1 in
      subst (λ o. IsSome o) (sym next.1) refl;
  sessions = sessions;
}

-- with the same sessions
pub sound_with_folders : (config : Config) (device : Device) (old : Peer) (replicas : ByName Replica) → IsSoundPeer config device old → KeepsFolders device old.replicas replicas → IsSoundPeer config device (record old { replicas = replicas })
sound_with_folders config device old replicas sound keeps =
    sound_after config device old (record old { replicas = replicas }) sound keeps
    (λ other session is. session_still device other old (record old { replicas = replicas }) session keeps (sound.sessions other session is))

pub sound_with_replica : (config : Config) (device : Device) (old : Peer) (folder : Folder) (before after : Replica) → IsSoundPeer config device old → get old.replicas folder ≡ Some before → SoundChange device before after → IsSoundPeer config device (with_replica old folder after)
sound_with_replica config device old folder before after sound is change =
    sound_with_folders config device old (insert old.replicas folder after) sound (KeepsFolders-insert device old.replicas folder before after sound.replicas is change)

-- ---- its sessions

session_beside : (other : Device) (peer : Peer) (sessions : ByDevice Session) (session : Session) → IsSoundSession other peer session → IsSoundSession other (record peer { sessions = sessions }) session
session_beside other peer sessions session sound = record { named = sound.named; unnamed = sound.unnamed; few = sound.few }

pub sound_with_session : (config : Config) (device other : Device) (peer : Peer) (session : Session) → IsSoundPeer config device peer → IsSoundSession other peer session → IsSoundPeer config device (with_session peer other session)
sound_with_session config device other peer session sound one = record {
  replicas = sound.replicas;
  fit = sound.fit;
  all = sound.all;
  sessions = λ who met is.
      ⊎_elim
      (λ here. subst (λ (w : Device). IsSoundSession w (with_session peer other session) met) (sym here.0) (subst (λ (s : Session). IsSoundSession other (with_session peer other session) s) (sym here.1) (session_beside other peer (insert peer.sessions other session) session one)))
      (λ apart. session_beside who peer (insert peer.sessions other session) met (sound.sessions who met apart.1))
      (found_after_insert nat_cmp_total nat_cmp-IsAntisymmetric peer.sessions other session who met is);
}
