-- A device that starts anew stays sound.
use Rattle.std.proofs.Common.{◌≡◌, Some, option_map, refl, sym, ap, subst, ◌∙◌, arith}
use Rattle.std.specs.Ordering.{nat_cmp}
use Rattle.std.specs.Cmp.Lexicographic.{slice_cmp, nat_list_cmp_total}
use Rattle.std.specs.FinMap.{empty, get, len-empty}
use Rattle.bep_facts.specs.Maps.{nothing_in_empty}
use Rattle.bep_model.specs.Tables.{Device, Folder}
use Rattle.bep_machine.specs.Replica.{Pull, Replica}
use Rattle.bep_machine.specs.Peer.{Peer}
use Rattle.bep_machine.specs.Cluster.{Config}
use Rattle.bep_machine.specs.Steps.{without_pulls, restarted}
use Rattle.bep_machine.specs.Sound.{IsSoundReplica, IsSoundPeer}
use Rattle.bep_machine.proofs.SoundParts.{SoundChange}
use Rattle.bep_machine.proofs.SoundChanges.{pulls_are_sound}
use Rattle.bep_machine.proofs.FoundAfter.{get-mapped, some_before}
use Rattle.bep_machine.proofs.PeerKept.{sound_after}

without_pulls_changes : (device : Device) (replica : Replica) → IsSoundReplica device replica → SoundChange device replica (without_pulls replica)
without_pulls_changes device replica sound =
    pulls_are_sound empty sound (λ name pull is. nothing_in_empty (slice_cmp nat_cmp) name pull is)
    (let none = len-empty (slice_cmp nat_cmp) Pull in omega arith)

pub sound_after_restart : (config : Config) (device : Device) (old : Peer) → IsSoundPeer config device old → IsSoundPeer config device (restarted old)
sound_after_restart config device old sound =
    sound_after config device old (restarted old) sound (record { back = back; on = on }) (λ other session is. nothing_in_empty nat_cmp other session is)
  where
    back : (folder : Folder) (after : Replica) → get (restarted old).replicas folder ≡ Some after → (before : Replica) × (get old.replicas folder ≡ Some before) × SoundChange device before after
    back folder after is =
        let had = some_before without_pulls (get old.replicas folder) after (sym (get-mapped nat_list_cmp_total without_pulls old.replicas folder) ∙ is) in
        (had.0, had.1, subst (λ r. SoundChange device had.0 r) had.2 (without_pulls_changes device had.0 (sound.replicas folder had.0 had.1)))

    on : (folder : Folder) (before : Replica) → get old.replicas folder ≡ Some before → (after : Replica) × (get (restarted old).replicas folder ≡ Some after) × (after.others ≡ before.others)
    on folder before is = (without_pulls before, get-mapped nat_list_cmp_total without_pulls old.replicas folder ∙ ap (λ o. option_map without_pulls o) is, refl)
