-- What a step keeps of a device's folders: the same ones are there, each of them sound and shared with the same devices.
use Rattle.std.proofs.Common.{◌≡◌, Some, refl, sym, ap, subst, ◌∙◌, ⊎_elim}
use Rattle.std.specs.Cmp.Lexicographic.{nat_list_cmp_total}
use Rattle.std.specs.FinMap.{get, insert}
use Rattle.std.proofs.lemmas.Map.Lookups.{exact_bytes}
use Rattle.std.proofs.lemmas.Option.{same_Some}
use Rattle.bep_facts.specs.Maps.{found_after_insert}
use Rattle.bep_map.specs.NameMap.{ByName}
use Rattle.bep_model.specs.Tables.{Device, Folder}
use Rattle.bep_machine.specs.Replica.{Replica}
use Rattle.bep_machine.specs.Sound.{IsSoundReplica}
use Rattle.bep_machine.proofs.SoundParts.{SoundChange, unchanged}
use Rattle.bep_machine.proofs.FoundAfter.{still_found}

abbrev pub AllSound : Device → ByName Replica → Type 0
AllSound device replicas = (folder : Folder) (replica : Replica) → get replicas folder ≡ Some replica → IsSoundReplica device replica

-- each replica afterwards comes of the one that was there before, and none is lost
pub record KeepsFolders (device : Device) (old new : ByName Replica) : Type 0 where
  pub back : (folder : Folder) (after : Replica) → get new folder ≡ Some after → (before : Replica) × (get old folder ≡ Some before) × SoundChange device before after
  pub on : (folder : Folder) (before : Replica) → get old folder ≡ Some before → (after : Replica) × (get new folder ≡ Some after) × (after.others ≡ before.others)

pub AllSound_after : (device : Device) (old new : ByName Replica) → KeepsFolders device old new → AllSound device new
AllSound_after device old new keeps folder after is = (keeps.back folder after is).2.sound

pub KeepsFolders-refl : (device : Device) (replicas : ByName Replica) → AllSound device replicas → KeepsFolders device replicas replicas
KeepsFolders-refl device replicas all = record {
  back = λ folder after is. (after, is, unchanged (all folder after is));
  on = λ folder before is. (before, is, refl);
}

pub KeepsFolders-trans : (device : Device) (old between new : ByName Replica) → KeepsFolders device old between → KeepsFolders device between new → KeepsFolders device old new
KeepsFolders-trans device old between new first second = record {
  back = λ folder after is.
      let last = second.back folder after is in
      let start = first.back folder last.0 last.1 in
      (start.0, start.1, record { sound = last.2.sound; kind = last.2.kind ∙ start.2.kind; others = last.2.others ∙ start.2.others });
  on = λ folder before is.
      let next = first.on folder before is in
      let last = second.on folder next.0 next.1 in
      (last.0, last.1, last.2 ∙ next.2);
}

-- one replica changes
pub KeepsFolders-insert : (device : Device) (old : ByName Replica) (folder : Folder) (before after : Replica) → AllSound device old → get old folder ≡ Some before → SoundChange device before after → KeepsFolders device old (insert old folder after)
KeepsFolders-insert device old folder before after all is change = record { back = back; on = on }
  where
    back : (name : Folder) (found : Replica) → get (insert old folder after) name ≡ Some found → (earlier : Replica) × (get old name ≡ Some earlier) × SoundChange device earlier found
    back name found e =
        ⊎_elim
        (λ here. (before, ap (get old) here.0 ∙ is, subst (λ r. SoundChange device before r) (sym here.1) change))
        (λ apart. (found, apart.1, unchanged (all name found apart.1)))
        (found_after_insert nat_list_cmp_total exact_bytes old folder after name found e)

    on : (name : Folder) (earlier : Replica) → get old name ≡ Some earlier → (found : Replica) × (get (insert old folder after) name ≡ Some found) × (found.others ≡ earlier.others)
    on name earlier e =
        ⊎_elim
        (λ here. (after, here.1, change.others ∙ ap (λ (r : Replica). r.others) (same_Some before earlier (sym is ∙ sym (ap (get old) here.0) ∙ e))))
        (λ there. (earlier, there, refl))
        (still_found nat_list_cmp_total exact_bytes old folder after name earlier e)
