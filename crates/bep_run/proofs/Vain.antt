-- The names of the pulls that nobody wants any more.
use Rattle.std.proofs.Common.{◌≡◌, ◌⊎◌, ◌↔◌, ◌∙◌, ◌∷◌, [], List, Option, Some, None, Contains, IsSome, is_some, true, false, cond, fold, inl, inr, refl, sym, ap, subst, ⊎_elim}
use Rattle.std.specs.Ordering.{nat_cmp, eq_by_cmp}
use Rattle.std.specs.Cmp.Lexicographic.{slice_cmp, nat_list_cmp_total}
use Rattle.std.specs.FinMap.{empty, get, get-empty, insert, get-insert, keys, IsAntisymmetric, nat_cmp-IsAntisymmetric, slice_cmp-IsAntisymmetric}
use Rattle.bep_facts.specs.Maps.{found_after_insert, get-insert_here, key_has_value}
use Rattle.bep_facts.specs.Members.{not_in_none, Contains-cons_cases, Contains-first, Contains-more}
use Rattle.bep_map.specs.NameMap.{ByName}
use Rattle.bep_model.specs.Tables.{Device, FileName}
use Rattle.bep_machine.specs.Replica.{Replica}
use Rattle.bep_folder.specs.Wanted.{IsWantedName}
use Rattle.bep_run.specs.inner.Dropping.{IsPulledInVain, with_unwanted}

exact_names : IsAntisymmetric (slice_cmp nat_cmp)
exact_names = slice_cmp-IsAntisymmetric nat_cmp-IsAntisymmetric

abbrev Names : Type 0
Names = ByName (Unit {0})

-- a name that is there once one more pull was looked at was there before, or is that pull's and isn't wanted
found_with : (wanted names : Names) (key name : FileName) → IsSome (get (with_unwanted wanted names key) name) → IsSome (get names name) ⊎ ((key ≡ name) × (¬ IsSome (get wanted name)))
found_with wanted names key name has = cases (get wanted key) refl
  where
    after : get wanted key ≡ None → (found : Option (Unit {0})) → get (insert names key tt) name ≡ found → IsSome found → IsSome (get names name) ⊎ ((key ≡ name) × (¬ IsSome (get wanted name)))
    after none None is there = absurd (let e : false ≡ true = there in cc)
    after none (Some u) is there =
        ⊎_elim
        (λ same. inr (sym same.0, λ wants. absurd (let e : false ≡ true = subst (λ (o : Option (Unit {0})). IsSome o) none (subst (λ n. IsSome (get wanted n)) same.0 wants) in cc)))
        (λ before. inl (subst (λ (o : Option (Unit {0})). IsSome o) (sym before.1) refl))
        (found_after_insert nat_list_cmp_total exact_names names key tt name u is)

    cases : (o : Option (Unit {0})) → get wanted key ≡ o → IsSome (get names name) ⊎ ((key ≡ name) × (¬ IsSome (get wanted name)))
    cases (Some u) is = inl (subst (λ (o : Option (Unit {0})). IsSome (get (cond (is_some o) names (insert names key tt)) name)) is has)
    cases None is = after is (get (insert names key tt) name) refl (subst (λ (o : Option (Unit {0})). IsSome (get (cond (is_some o) names (insert names key tt)) name)) is has)

-- what was there stays
kept_with : (wanted names : Names) (key name : FileName) → IsSome (get names name) → IsSome (get (with_unwanted wanted names key) name)
kept_with wanted names key name has = cases (get wanted key) refl
  where
    there : IsSome (get (insert names key tt) name)
    there = both (eq_by_cmp (slice_cmp nat_cmp) name key) refl
      where
        both : (b : _) → eq_by_cmp (slice_cmp nat_cmp) name key ≡ b → IsSome (get (insert names key tt) name)
        both true tied = subst (λ (o : Option (Unit {0})). IsSome o) (sym (get-insert nat_list_cmp_total names key tt name ∙ ap (λ b. cond b (Some tt) (get names name)) tied)) refl
        both false apart = subst (λ (o : Option (Unit {0})). IsSome o) (sym (get-insert nat_list_cmp_total names key tt name ∙ ap (λ b. cond b (Some tt) (get names name)) apart)) has

    cases : (o : Option (Unit {0})) → get wanted key ≡ o → IsSome (get (with_unwanted wanted names key) name)
    cases (Some u) is = subst (λ (o : Option (Unit {0})). IsSome (get (cond (is_some o) names (insert names key tt)) name)) (sym is) has
    cases None is = subst (λ (o : Option (Unit {0})). IsSome (get (cond (is_some o) names (insert names key tt)) name)) (sym is) there

-- and one that isn't wanted is there then
added_with : (wanted names : Names) (key : FileName) → (¬ IsSome (get wanted key)) → IsSome (get (with_unwanted wanted names key) key)
added_with wanted names key not = cases (get wanted key) refl
  where
    cases : (o : Option (Unit {0})) → get wanted key ≡ o → IsSome (get (with_unwanted wanted names key) key)
    cases (Some u) is = absurd (not (subst (λ (o : Option (Unit {0})). IsSome o) (sym is) refl))
    cases None is = subst (λ (o : Option (Unit {0})). IsSome (get (cond (is_some o) names (insert names key tt)) key)) (sym is) (subst (λ (o : Option (Unit {0})). IsSome o) (sym (get-insert_here nat_list_cmp_total exact_names names key tt)) refl)

-- all names that were looked at
found_all : (wanted names : Names) (looked : List FileName) (name : FileName) → IsSome (get (fold (with_unwanted wanted) names looked) name) → IsSome (get names name) ⊎ (Contains looked name × (¬ IsSome (get wanted name)))
found_all wanted names [] name has = inl has
found_all wanted names (key ∷ looked) name has =
    ⊎_elim
    (λ before. ⊎_elim (λ there. inl there) (λ here. inr (subst (λ n. Contains (key ∷ looked) n) here.0 (Contains-first key looked), here.1)) (found_with wanted names key name before))
    (λ later. inr (Contains-more key looked name later.0, later.1))
    (found_all wanted (with_unwanted wanted names key) looked name has)

kept_all : (wanted names : Names) (looked : List FileName) (name : FileName) → IsSome (get names name) → IsSome (get (fold (with_unwanted wanted) names looked) name)
kept_all wanted names [] name has = has
kept_all wanted names (key ∷ looked) name has = kept_all wanted (with_unwanted wanted names key) looked name (kept_with wanted names key name has)

added_all : (wanted names : Names) (looked : List FileName) (name : FileName) → Contains looked name → (¬ IsSome (get wanted name)) → IsSome (get (fold (with_unwanted wanted) names looked) name)
added_all wanted names [] name member not = absurd (not_in_none name member)
added_all wanted names (key ∷ looked) name member not =
    ⊎_elim
    (λ same. kept_all wanted (with_unwanted wanted names key) looked name (subst (λ n. IsSome (get (with_unwanted wanted names key) n)) same (added_with wanted names key (subst (λ n. ¬ IsSome (get wanted n)) (sym same) not))))
    (λ later. added_all wanted (with_unwanted wanted names key) looked name later not)
    (Contains-cons_cases key looked name member)

-- they are those of the pulls that aren't wanted
pub pulled_in_vain : (device : Device) (replica : Replica) (wanted names : Names) → ((name : FileName) → IsSome (get wanted name) ↔ IsWantedName device replica name) → names ≡ fold (with_unwanted wanted) empty (keys replica.pulls) → (name : FileName) → IsSome (get names name) ↔ IsPulledInVain device replica name
pulled_in_vain device replica wanted names exactly is name = (
  λ has. ⊎_elim
      (λ before. absurd (let e : false ≡ true = subst (λ (o : Option (Unit {0})). IsSome o) (get-empty (slice_cmp nat_cmp) name) before in cc))
      (λ added. ((key_has_value nat_list_cmp_total exact_names replica.pulls name).0 added.0, λ wants. added.1 ((exactly name).1 wants)))
      (found_all wanted empty (keys replica.pulls) name (subst (λ (m : Names). IsSome (get m name)) is has)),
  λ vain. subst (λ (m : Names). IsSome (get m name)) (sym is) (added_all wanted empty (keys replica.pulls) name ((key_has_value nat_list_cmp_total exact_names replica.pulls name).1 vain.0) (λ has. vain.1 ((exactly name).0 has))),
)
