-- Where the record that a device chooses comes from.
use Rattle.std.proofs.Common.{◌≡◌, ◌⊎◌, Bool, true, false, List, [], ◌∷◌, Contains, Option, Some, None, ap, inl, inr, ⊎_elim, subst, arith}
use Rattle.std.proofs.lemmas.List.Elements.{Contains-append_cases}
use Rattle.bep_facts.specs.Members.{not_in_none, Contains-one}
use Rattle.bep_record.specs.declared.entry.Entry.{Entry}
use Rattle.bep_record.specs.declared.folder_kind.FolderKind.{FolderKind}
use Rattle.bep_record.specs.Vector.{IsAtMost}
use Rattle.bep_choice.specs.Choice.{Candidate}
use Rattle.bep_choice.specs.Need.{IsNeeded, NeedsBeside}
use Rattle.bep_model.specs.Tables.{Device, FileName}
use Rattle.bep_model.specs.Winner.{beside}
use Rattle.bep_machine.specs.Replica.{Replica, own_at, viewed_at, viewed_by, Chooses}

beside_says : (device : Device) (entry : Option Entry) (one : Candidate) → Contains (beside device entry) one → entry ≡ Some one.1
beside_says device None one member = absurd (not_in_none one member)
beside_says device (Some entry) one member = ap (λ (c : Candidate). Some c.1) (Contains-one (device, entry) one member)

viewed_by_says : (replica : Replica) (name : FileName) (others : List Device) (one : Candidate) → Contains (viewed_by replica name others) one → (other : Device) × (viewed_at replica other name ≡ Some one.1)
viewed_by_says replica name [] one member = absurd (not_in_none one member)
viewed_by_says replica name (other ∷ more) one member =
    ⊎_elim
    (λ here. (other, beside_says other (viewed_at replica other name) one here))
    (λ later. viewed_by_says replica name more one later)
    (Contains-append_cases (beside other (viewed_at replica other name)) (viewed_by replica name more) one member)

-- the chosen record is the own one, or stands in a view
pub chosen_is_known : (device : Device) (replica : Replica) (name : FileName) (chosen : Entry) → Chooses device replica name chosen → (own_at replica name ≡ Some chosen) ⊎ ((other : Device) × (viewed_at replica other name ≡ Some chosen))
chosen_is_known device replica name chosen choice =
    ⊎_elim
    (λ own. inl (beside_says device (own_at replica name) (choice.0, chosen) own))
    (λ viewed. inr (viewed_by_says replica name replica.others (choice.0, chosen) viewed))
    (Contains-append_cases (beside device (own_at replica name)) (viewed_by replica name replica.others) (choice.0, chosen) choice.1.left.valid.0)

pub chosen_is_valid : (device : Device) (replica : Replica) (name : FileName) (chosen : Entry) → Chooses device replica name chosen → chosen.invalid ≡ false
chosen_is_valid device replica name chosen choice = choice.1.left.valid.1

needs_newer : (invalid : Bool) (kind : FolderKind) (own chosen : Entry) → invalid ≡ false → NeedsBeside invalid kind own chosen → ¬ IsAtMost chosen.version own.version
needs_newer true kind own chosen valid needs = absurd (cc)
needs_newer false kind own chosen valid needs = needs.0

-- beside an own record that isn't local-only, the version of what is needed isn't at most the own one
pub needed_is_newer : (kind : FolderKind) (own chosen : Entry) → own.invalid ≡ false → IsNeeded kind (Some own) chosen → ¬ IsAtMost chosen.version own.version
needed_is_newer kind own chosen valid needed = needs_newer own.invalid kind own chosen valid needed

-- so the own record isn't needed beside itself
pub own_not_needed : (kind : FolderKind) (own : Option Entry) (chosen : Entry) → chosen.invalid ≡ false → own ≡ Some chosen → ¬ IsNeeded kind own chosen
own_not_needed kind own chosen valid same needed =
    needed_is_newer kind chosen chosen valid (subst (λ (o : Option Entry). IsNeeded kind o chosen) same needed) (λ id. omega arith)
