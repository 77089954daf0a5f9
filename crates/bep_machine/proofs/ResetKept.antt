-- A device that is reset stays sound.
use Rattle.std.proofs.Common.{◌≡◌, ◌<◌, ℕ, Some, option_map, refl, sym, ap, subst, ◌∙◌, ⊎_elim, arith}
use Rattle.std.specs.Ordering.{nat_cmp}
use Rattle.std.specs.Cmp.Lexicographic.{slice_cmp, nat_list_cmp_total}
use Rattle.std.specs.FinMap.{get, len-empty}
use Rattle.bep_facts.specs.Maps.{nothing_in_empty}
use Rattle.bep_record.specs.declared.entry.Entry.{Entry}
use Rattle.bep_index.specs.Index.{IsIndex}
use Rattle.bep_index.specs.View.{cleared}
use Rattle.bep_model.specs.Tables.{Device, Folder}
use Rattle.bep_machine.specs.Replica.{Pull, Replica}
use Rattle.bep_machine.specs.Peer.{Peer}
use Rattle.bep_machine.specs.Cluster.{Config}
use Rattle.bep_machine.specs.Steps.{HasIdFrom, anew_under, reset_to}
use Rattle.bep_machine.specs.Sound.{IsSoundReplica, IsSoundPeer}
use Rattle.bep_machine.proofs.SoundParts.{SoundChange}
use Rattle.bep_machine.proofs.FoundAfter.{get-mapped, some_before}
use Rattle.bep_machine.proofs.GapFacts.{above_or_not}
use Rattle.bep_machine.proofs.PeerKept.{sound_after}

-- an id that isn't among or below the device's own is above each of them
pub id_is_above : (id : ℕ) (peer : Peer) → ¬ HasIdFrom id peer → (folder : Folder) (replica : Replica) → get peer.replicas folder ≡ Some replica → replica.index.id < id
id_is_above id peer above folder replica here =
    ⊎_elim (λ less. less) (λ old. absurd (above (folder, replica, here, old))) (above_or_not id replica.index.id)

cleared_is_index : (id : ℕ) → IsIndex (cleared id)
cleared_is_index id = record {
  sequence = omega arith;
  few = let none = len-empty (slice_cmp nat_cmp) Entry in omega arith;
  numbered = λ name entry is. nothing_in_empty (slice_cmp nat_cmp) name entry is;
  distinct = λ name other entry more is also same. absurd (nothing_in_empty (slice_cmp nat_cmp) name entry is);
}

anew_changes : (device : Device) (id : ℕ) (replica : Replica) → replica.index.id < id → IsSoundReplica device replica → SoundChange device replica (anew_under id replica)
anew_changes device id replica above sound = record {
  sound = record {
    index = cleared_is_index id;
    id = let first = sound.id in omega arith;
    own = λ name entry is. nothing_in_empty (slice_cmp nat_cmp) name entry is;
    views = λ other view is. nothing_in_empty nat_cmp other view is;
    pulls = λ name pull is. nothing_in_empty (slice_cmp nat_cmp) name pull is;
    few_pulls = let none = len-empty (slice_cmp nat_cmp) Pull in omega arith;
    store = sound.store;
  };
  kind = refl;
  others = refl;
}

pub sound_after_reset : (config : Config) (device : Device) (id : ℕ) (old : Peer) → ¬ HasIdFrom id old → IsSoundPeer config device old → IsSoundPeer config device (reset_to id old)
sound_after_reset config device id old above sound =
    sound_after config device old (reset_to id old) sound (record { back = back; on = on }) (λ other session is. nothing_in_empty nat_cmp other session is)
  where
    back : (folder : Folder) (after : Replica) → get (reset_to id old).replicas folder ≡ Some after → (before : Replica) × (get old.replicas folder ≡ Some before) × SoundChange device before after
    back folder after is =
        let had = some_before (anew_under id) (get old.replicas folder) after (sym (get-mapped nat_list_cmp_total (anew_under id) old.replicas folder) ∙ is) in
        (had.0, had.1, subst (λ r. SoundChange device had.0 r) had.2 (anew_changes device id had.0 (id_is_above id old above folder had.0 had.1) (sound.replicas folder had.0 had.1)))

    on : (folder : Folder) (before : Replica) → get old.replicas folder ≡ Some before → (after : Replica) × (get (reset_to id old).replicas folder ≡ Some after) × (after.others ≡ before.others)
    on folder before is = (anew_under id before, get-mapped nat_list_cmp_total (anew_under id) old.replicas folder ∙ ap (λ o. option_map (anew_under id) o) is, refl)
