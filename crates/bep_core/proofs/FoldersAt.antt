-- The folders of each device, as they are taken and given.
use Rattle.std.proofs.Common.{◌≡◌, ◌≢◌, ◌==◌, ℕ, Bool, true, false, if◌then◌else◌, List, [], ◌∷◌, ◌++◌, Some, unwrap_or, refl, sym, ap, subst, ◌∙◌, ⊎_elim}
use Rattle.std.specs.List.{flat_map}
use Rattle.std.specs.Ordering.{nat_cmp}
use Rattle.std.specs.Cmp.{nat_cmp_total}
use Rattle.std.specs.Cmp.Lexicographic.{slice_cmp, nat_list_cmp_total}
use Rattle.std.specs.FinMap.{empty, get, insert, remove, from_entries, nat_cmp-IsAntisymmetric, slice_cmp-IsAntisymmetric}
use Rattle.bep_map.specs.NameMap.{ByName}
use Rattle.bep_record.specs.declared.node.NodeParts.{NodeParts}
use Rattle.bep_config.specs.declared.sharing.Sharing.{Sharing}
use Rattle.bep_facts.specs.Maps.{nothing_in_empty, get-insert_here, get-insert_apart, get-remove_apart, found_after_insert}
use Rattle.bep_model.specs.Tables.{Device, Folder}
use Rattle.bep_machine.specs.Replica.{ByDevice}
use Rattle.bep_folder.specs.Held.{Held}
use Rattle.bep_peer.specs.Member.{AreOwn}
use Rattle.bep_core.specs.Begin.{folders_at, begun_share, own_share, begun_folders}
use Rattle.bep_peer.proofs.Numbers.{same_number, another_number}

pub at_removed : (folders : ByDevice (ByName Held)) (device other : Device) → other ≢ device → folders_at (remove folders device) other ≡ folders_at folders other
at_removed folders device other apart = ap (λ o. unwrap_or o empty) (get-remove_apart nat_cmp_total nat_cmp-IsAntisymmetric folders device other apart)

pub at_inserted : (folders : ByDevice (ByName Held)) (device : Device) (held : ByName Held) → folders_at (insert folders device held) device ≡ held
at_inserted folders device held = ap (λ o. unwrap_or o empty) (get-insert_here nat_cmp_total nat_cmp-IsAntisymmetric folders device held)

pub at_other : (folders : ByDevice (ByName Held)) (device : Device) (held : ByName Held) (other : Device) → other ≢ device → folders_at (insert folders device held) other ≡ folders_at folders other
at_other folders device held other apart = ap (λ o. unwrap_or o empty) (get-insert_apart nat_cmp_total nat_cmp-IsAntisymmetric folders device held other apart)

module _ {S : Type 0} (contents : S → ByName NodeParts) (faults : S → ℕ) (devices : List Device) (keys : List (Folder × Device)) where
  -- one more share: its device has the folder, and all others have what they had
  pub one_more : (passed : List ((Folder × Device) × Sharing S)) (share : (Folder × Device) × Sharing S) (old new : ByDevice (ByName Held)) →
      ((device : Device) → folders_at old device ≡ begun_folders contents faults devices keys passed device) →
      folders_at new share.0.1 ≡ insert (folders_at old share.0.1) share.0.0 (begun_share contents faults devices keys share.0 share.1) →
      ((other : Device) → other ≢ share.0.1 → folders_at new other ≡ folders_at old other) →
      (device : Device) → folders_at new device ≡ begun_folders contents faults devices keys (share ∷ passed) device
  one_more passed share old new before here others device = cases (share.0.1 == device) refl where
    cases : (b : Bool) → (share.0.1 == device) ≡ b → folders_at new device ≡ from_entries {R = slice_cmp nat_cmp} ((if b then (share.0.0, begun_share contents faults devices keys share.0 share.1) ∷ [] else []) ++ flat_map (own_share contents faults devices keys device) passed)
    cases true e =
        let same = same_number _ _ e in
        subst (λ d. folders_at new d ≡ insert (begun_folders contents faults devices keys passed d) share.0.0 (begun_share contents faults devices keys share.0 share.1)) same
        (here ∙ ap (λ m. insert m share.0.0 (begun_share contents faults devices keys share.0 share.1)) (before share.0.1))
    cases false e = others device (λ same. another_number _ _ e (sym same)) ∙ before device

  -- each folder is the device's, under its own name
  pub begun_own : (shares : List ((Folder × Device) × Sharing S)) (device : Device) → AreOwn device (begun_folders contents faults devices keys shares device)
  begun_own [] device folder held is = nothing_in_empty (slice_cmp nat_cmp) folder held is
  begun_own (share ∷ shares) device folder held is = cases (begun_own shares device folder held) (share.0.1 == device) refl is where
    cases : (get (begun_folders contents faults devices keys shares device) folder ≡ Some held → (held.device ≡ device) × (held.folder ≡ folder)) → (b : Bool) → (share.0.1 == device) ≡ b → get (from_entries {R = slice_cmp nat_cmp} ((if b then (share.0.0, begun_share contents faults devices keys share.0 share.1) ∷ [] else []) ++ flat_map (own_share contents faults devices keys device) shares)) folder ≡ Some held → (held.device ≡ device) × (held.folder ≡ folder)
    cases rest true e is =
        ⊎_elim
        (λ here. (ap (λ (h : Held). h.device) here.1 ∙ same_number _ _ e, ap (λ (h : Held). h.folder) here.1 ∙ sym here.0))
        (λ more. rest more.1)
        (found_after_insert nat_list_cmp_total (slice_cmp-IsAntisymmetric nat_cmp-IsAntisymmetric) (begun_folders contents faults devices keys shares device) share.0.0 (begun_share contents faults devices keys share.0 share.1) folder held is)
    cases rest false e is = rest is
