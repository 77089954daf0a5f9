-- What is picked of the entries of a name, as far as they are of a device, is what the device holds of it.
use Rattle.std.proofs.Common.{◌≡◌, ℕ, Bool, true, false, cond, List, [], ◌∷◌, Contains, Option, Some, None, refl, sym, ap, subst, ◌∙◌, ⊎_elim, eq-eqb}
use Rattle.std.specs.Prelude.{◌==◌}
use Rattle.std.proofs.lemmas.Bool.{eqb-true}
use Rattle.bep_facts.specs.Members.{Contains-cons_cases, Contains-first, Contains-more, not_in_none}
use Rattle.bep_model.specs.Tables.{Device, Folder, FileName}
use Rattle.bep_tables.specs.declared.cut.CutParts.{CutParts}
use Rattle.bep_tables.specs.Cut.{IsCut, tables_of}
use Rattle.bep_tables.specs.Listed.{Holding, Listed}
use Rattle.bep_tables.specs.Said.{Holds, EntriesAreHeld}
use Rattle.bep_audit.specs.Candidates.{first_of, picked_at, picked_among}
use Rattle.bep_audit.specs.Group.{IsGroupOf}
use Rattle.bep_audit.proofs.GroupFacts.{in_group, of_group}

same_device : (one device : ℕ) → (one == device) ≡ true → one ≡ device
same_device one device is = eqb-true one device is

-- what is picked, and the holding of which it is picked
module _ {X : Type 0} (pick : Holding → Option X) (holding_of : X → Holding) (picks : (x : X) → pick (holding_of x) ≡ Some x) (is_of : (holding : Holding) (x : X) → pick holding ≡ Some x → holding ≡ holding_of x) where
  -- one of the entries is the device's, and has it
  abbrev IsHeldIn : Device → List Listed → X → Type 0
  IsHeldIn device group x = (one : Listed) × Contains group one × (one.device ≡ device) × (one.holding ≡ holding_of x)

  is_at : (device : Device) (one : Listed) (x : X) → picked_at pick device one ≡ Some x → (one.device ≡ device) × (one.holding ≡ holding_of x)
  is_at device one x = cases (one.device == device) refl where
    cases : (b : Bool) → (one.device == device) ≡ b → cond b (pick one.holding) None ≡ Some x → (one.device ≡ device) × (one.holding ≡ holding_of x)
    cases true is e = (same_device one.device device is, is_of one.holding x e)
    cases false is e = absurd (cc)

  at_is : (device : Device) (one : Listed) (x : X) → one.device ≡ device → one.holding ≡ holding_of x → picked_at pick device one ≡ Some x
  at_is device one x here holds =
      (λ i. cond (here i == device) (pick (holds i)) None) ∙ ap (λ (o : Option X). cond (device == device) o None) (picks x) ∙ at_itself (device == device) (eq-eqb device device refl)
    where
      at_itself : (b : Bool) → b ≡ true → cond b (Some x) None ≡ Some x
      at_itself true is = refl
      at_itself false is = absurd (cc)

  is_among : (device : Device) (group : List Listed) (x : X) → picked_among pick device group ≡ Some x → IsHeldIn device group x
  is_among device [] x = λ e. let is : ◌≡◌ {A = Option X} None (Some x) = e in absurd (cc)
  is_among device (one ∷ more) x = cases (picked_at pick device one) refl (is_among device more x) where
    cases : (found : Option X) → picked_at pick device one ≡ found → (picked_among pick device more ≡ Some x → IsHeldIn device more x) → first_of found (picked_among pick device more) ≡ Some x → IsHeldIn device (one ∷ more) x
    cases None is later e = let found = later e in (found.0, Contains-more one more found.0 found.1, found.2, found.3)
    cases (Some found) is later e = let at = is_at device one x (is ∙ e) in (one, Contains-first one more, at.0, at.1)

  none_is : (device : Device) (group : List Listed) (x : X) → picked_among pick device group ≡ None → ¬ IsHeldIn device group x
  none_is device [] x = λ e is. not_in_none is.0 is.1
  none_is device (one ∷ more) x = cases (picked_at pick device one) refl (none_is device more x) where
    cases : (found : Option X) → picked_at pick device one ≡ found → (picked_among pick device more ≡ None → ¬ IsHeldIn device more x) → first_of found (picked_among pick device more) ≡ None → ¬ IsHeldIn device (one ∷ more) x
    cases None at rest e is =
        ⊎_elim
        (λ same.
        let here : picked_at pick device one ≡ Some x = at_is device one x (ap (λ (l : Listed). l.device) same ∙ is.2) (ap (λ (l : Listed). l.holding) same ∙ is.3) in
        absurd (cc))
        (λ later. rest e (is.0, later, is.2, is.3))
        (Contains-cons_cases one more is.0 is.1)
    cases (Some found) at rest e is = absurd (cc)

  -- where it is what the device has in a table of the cut
  module _ (held : EntriesAreHeld) (cut : CutParts) (is_cut : IsCut cut) (key : Folder × FileName) (group : List Listed) (is_group : IsGroupOf cut key group) (table : Device → Option X) (has : (device : Device) (x : X) → Holds (tables_of cut) device key.0 key.1 (holding_of x) → table device ≡ Some x) (holds : (device : Device) (x : X) → table device ≡ Some x → Holds (tables_of cut) device key.0 key.1 (holding_of x)) where
    pub picked_said : (device : Device) → picked_among pick device group ≡ table device
    picked_said device = cases (picked_among pick device group) refl (table device) refl where
      cases : (found : Option X) → picked_among pick device group ≡ found → (there : Option X) → table device ≡ there → found ≡ there
      cases None is None there = refl
      cases None is (Some x) there =
          absurd (none_is device group x is (record { folder = key.0; name = key.1; device = device; holding = holding_of x }, in_group held cut is_cut key group is_group device (holding_of x) (holds device x there), refl, refl))
      cases (Some x) is there in_table =
          let found = is_among device group x is in
          let one = of_group held cut is_cut key group is_group found.0 found.1 in
          let here : Holds (tables_of cut) device key.0 key.1 (holding_of x) =
          subst (λ (d : Device). Holds (tables_of cut) d key.0 key.1 (holding_of x)) found.2 (subst (λ (h : Holding). Holds (tables_of cut) found.0.device key.0 key.1 h) found.3 one) in
          sym (has device x here) ∙ in_table
