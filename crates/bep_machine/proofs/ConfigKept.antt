-- A ClusterConfig that is taken keeps a device sound.
use Rattle.std.proofs.Common.{◌≡◌, ◌==◌, ℕ, Bool, true, false, List, [], ◌∷◌, Option, Some, None, if◌then◌else◌, refl, true≢false}
use Rattle.std.specs.Ordering.{nat_cmp}
use Rattle.std.specs.Cmp.Lexicographic.{slice_cmp}
use Rattle.std.specs.FinMap.{empty, get}
use Rattle.bep_facts.specs.Maps.{nothing_in_empty}
use Rattle.bep_map.specs.NameMap.{ByName}
use Rattle.bep_index.specs.Listing.{Listing}
use Rattle.bep_index.specs.View.{IsView, cleared}
use Rattle.bep_index.specs.declared.send.Plan.{Plan}
use Rattle.bep_index.specs.Laws.{ClearedIsView}
use Rattle.bep_model.specs.Tables.{Device, Folder}
use Rattle.bep_machine.specs.declared.message.Announced.{Announced}
use Rattle.bep_machine.specs.Replica.{Replica, view_of, with_view}
use Rattle.bep_machine.specs.Peer.{Session, Peer}
use Rattle.bep_machine.specs.Exchange.{SharesWith, NamesShared, known_under, cursor_after, renewed, all_renewed, with_cursor, cursors_for, configured_by}
use Rattle.bep_machine.specs.Cluster.{Config}
use Rattle.bep_index.specs.Good.{AreGood}
use Rattle.bep_machine.specs.Sound.{IsSoundSession, IsSoundPeer}
use Rattle.bep_machine.proofs.SoundMaps.{each_after_insert}
use Rattle.bep_machine.proofs.FoldersKept.{AllSound, AllSound_after, KeepsFolders, KeepsFolders-refl, KeepsFolders-trans, KeepsFolders-insert}
use Rattle.bep_machine.proofs.PeerKept.{shares_still, sound_with_folders, sound_with_session}
use Rattle.bep_machine.proofs.ViewKept.{is_other_of, none_is_good, view_is_sound, with_view_changes}

-- ---- views under the announced ids

known_is_sound : ClearedIsView → (id : ℕ) (view : Listing) → IsView view × AreGood view.records → IsView (known_under id view) × AreGood (known_under id view).records
known_is_sound cleared_is_view id view sound = cases (view.id == id)
  where
    cases : (b : Bool) → IsView (if b then view else cleared id) × AreGood (if b then view else cleared id).records
    cases true = sound
    cases false = (cleared_is_view id, none_is_good id)

renewed_keeps : ClearedIsView → (device other : Device) (one : Announced) (peer : Peer) (o : Option Replica) → AllSound device peer.replicas → get peer.replicas one.folder ≡ o → SharesWith other peer one.folder
    → KeepsFolders device peer.replicas (renewed other one o peer.replicas)
renewed_keeps cleared_is_view device other one peer None all is shares = KeepsFolders-refl device peer.replicas all
renewed_keeps cleared_is_view device other one peer (Some replica) all is shares =
    let known = known_is_sound cleared_is_view one.index_id (view_of replica other) (view_is_sound cleared_is_view device other replica (all one.folder replica is)) in
    KeepsFolders-insert device peer.replicas one.folder replica (with_view replica other (known_under one.index_id (view_of replica other))) all is
    (with_view_changes device other replica (known_under one.index_id (view_of replica other)) (all one.folder replica is) (is_other_of other peer one.folder replica shares is) known.0 known.1)

names_still : (device other : Device) (named : List Announced) (old new : Peer) → KeepsFolders device old.replicas new.replicas → NamesShared other old named → NamesShared other new named
names_still device other [] old new keeps shared = tt
names_still device other (one ∷ more) old new keeps shared = (shares_still device other old new one.folder keeps shared.0, names_still device other more old new keeps shared.1)

all_renewed_keeps : ClearedIsView → (device other : Device) (named : List Announced) (peer : Peer) → AllSound device peer.replicas → NamesShared other peer named → KeepsFolders device peer.replicas (all_renewed other named peer.replicas)
all_renewed_keeps cleared_is_view device other [] peer all shared = KeepsFolders-refl device peer.replicas all
all_renewed_keeps cleared_is_view device other (one ∷ more) peer all shared =
    let next : Peer = record peer { replicas = renewed other one (get peer.replicas one.folder) peer.replicas } in
    let first : KeepsFolders device peer.replicas next.replicas = renewed_keeps cleared_is_view device other one peer (get peer.replicas one.folder) all refl shared.0 in
    let rest = all_renewed_keeps cleared_is_view device other more next (AllSound_after device peer.replicas next.replicas first) (names_still device other more peer next first shared.1) in
    KeepsFolders-trans device peer.replicas next.replicas (all_renewed other more next.replicas) first rest

-- ---- cursors of the named folders

with_cursor_within : (P : Folder → Type 0) (one : Announced) (o : Option Replica) (cursors : ByName Plan) → ((folder : Folder) (cursor : Plan) → get cursors folder ≡ Some cursor → P folder) → P one.folder
    → (folder : Folder) (cursor : Plan) → get (with_cursor one o cursors) folder ≡ Some cursor → P folder
with_cursor_within P one None cursors old here folder cursor is = old folder cursor is
with_cursor_within P one (Some replica) cursors old here folder cursor is =
    each_after_insert (λ name plan. P name) cursors one.folder old (cursor_after replica.index one.known_id one.known_sequence) here folder cursor is

cursors_within : (other : Device) (peer : Peer) (named : List Announced) (replicas : ByName Replica) (cursors : ByName Plan) → ((folder : Folder) (cursor : Plan) → get cursors folder ≡ Some cursor → SharesWith other peer folder) → NamesShared other peer named
    → (folder : Folder) (cursor : Plan) → get (cursors_for named replicas cursors) folder ≡ Some cursor → SharesWith other peer folder
cursors_within other peer [] replicas cursors old shared folder cursor is = old folder cursor is
cursors_within other peer (one ∷ more) replicas cursors old shared folder cursor is =
    cursors_within other peer more replicas (with_cursor one (get replicas one.folder) cursors)
    (with_cursor_within (λ f. SharesWith other peer f) one (get replicas one.folder) cursors old shared.0) shared.1 folder cursor is

-- ---- the whole

pub configured_is_sound : ClearedIsView → (config : Config) (device other : Device) (session : Session) (named : List Announced) (old : Peer) → IsSoundPeer config device old → IsSoundSession other old session → NamesShared other old named
    → IsSoundPeer config device (configured_by other session named old)
configured_is_sound cleared_is_view config device other session named old sound one shared =
    let keeps = all_renewed_keeps cleared_is_view device other named old sound.replicas shared in
    let new : Peer = record old { replicas = all_renewed other named old.replicas } in
    sound_with_session config device other new (record session { configured = true; cursors = cursors_for named old.replicas empty })
    (sound_with_folders config device old (all_renewed other named old.replicas) sound keeps)
    (record {
      named = λ folder cursor is.
          shares_still device other old new folder keeps
          (cursors_within other old named old.replicas empty (λ f c none. nothing_in_empty (slice_cmp nat_cmp) f c none) shared folder cursor is);
      unnamed = λ no. absurd (true≢false no);
      few = one.few;
    })
