-- Versions that are raised or merged have at most 16 counters where the step isn't refused.
use Rattle.std.proofs.Common.{◌≡◌, ◌<◌, ◌≤◌, ◌+◌, ◌∙◌, ℕ, true, cond, ◌&&◌, eqb, max, List, [], ◌∷◌, length, refl, sym, ap, ⊎_elim, arith}
use Rattle.std.proofs.lemmas.Bool.{cases_eq, eq-eqb, ne_eqb, and_from, cond-true, cond-false}
use Rattle.bep_record.specs.Vector.{counter_of, most_counters, RisesAbove, IsVersion, IsMerge, IsBump, ids_in_either}
use Rattle.bep_model.specs.Tables.{Device}
use Rattle.bep_machine.specs.Local.{IsRaised, IsCrowded, IsMergedAndRaised, ids_with}
use Rattle.bep_machine.proofs.LowerLaws.{LowerLaws}

abbrev Version : Type 0
Version = List (ℕ × ℕ)

-- ids that aren't above the bound have no counter
no_counter : (low id : ℕ) (version : Version) → RisesAbove low version → id ≤ low → counter_of version id ≡ 0
no_counter low id [] rises below = refl
no_counter low id (counter ∷ more) rises below =
    let above = rises.0 in
    cond-false _ _ _ (ne_eqb _ _ (λ (same : counter.0 ≡ id). omega arith)) ∙ no_counter counter.0 id more rises.3 (omega arith)

-- what was raised has an id
raised_id : (device : Device) (old new : Version) → IsBump old device new → IsVersion new → 1 ≤ device
raised_id device old new bump is =
    ⊎_elim
    (λ nobody.
    let none : counter_of new device ≡ 0 = no_counter 0 device new is (omega arith) in
    let some = bump.0 in
    absurd (omega arith))
    (λ somebody. omega arith)
    (cases_eq device 0)

few_raised : (count len new : ℕ) → len ≤ most_counters → ¬ ((count ≡ 0) × (len ≡ most_counters)) → new ≡ len + cond (eqb count 0) 1 0 → new ≤ most_counters
few_raised count len new few roomy counted =
    ⊎_elim
    (λ none.
    let one : ◌≡◌ {A = ℕ} (cond (eqb count 0) 1 0) 1 = cond-true _ _ _ (eq-eqb _ _ none) in
    let room : ¬ (len ≡ most_counters) = λ full. roomy (none, full) in
    omega arith)
    (λ some. let no : ◌≡◌ {A = ℕ} (cond (eqb count 0) 1 0) 0 = cond-false _ _ _ (ne_eqb _ _ some) in omega arith)
    (cases_eq count 0)

pub raised_is_few : LowerLaws → (device : Device) (old new : Version) → IsVersion old → length old ≤ most_counters → ¬ IsCrowded device old →
    IsRaised device old new → length new ≤ most_counters
raised_is_few laws device old new is few roomy raised =
    few_raised (counter_of old device) (length old) (length new) few roomy
    (laws.bump_is_counted old device new is (raised_id device old new raised.bump raised.version) raised.version raised.bump)

pub merged_is_few : LowerLaws → (u v new : Version) → IsVersion u → IsVersion v → ¬ (most_counters < ids_in_either u v) →
    IsMerge u v new → IsVersion new → length new ≤ most_counters
merged_is_few laws u v new u_is v_is roomy merge is = let counted = laws.merge_is_counted u v new u_is v_is is merge in omega arith

-- a merge has no counter exactly where neither of the two has one
few_both : (one other merged ids len new : ℕ) → merged ≡ max one other → len ≡ ids → new ≡ len + cond (eqb merged 0) 1 0 →
    ¬ (most_counters < ids + cond (eqb one 0 && eqb other 0) 1 0) → new ≤ most_counters
few_both one other merged ids len new greater counted raised roomy =
    ⊎_elim
    (λ none.
    let first = eq-eqb one 0 (omega arith) in
    let second = eq-eqb other 0 (omega arith) in
    let both : (eqb one 0 && eqb other 0) ≡ true = and_from _ _ first second in
    let there : ◌≡◌ {A = ℕ} (cond (eqb one 0 && eqb other 0) 1 0) 1 = cond-true _ _ _ both in
    let here : ◌≡◌ {A = ℕ} (cond (eqb merged 0) 1 0) 1 = cond-true _ _ _ (eq-eqb _ _ none) in
    omega arith)
    (λ some. let no : ◌≡◌ {A = ℕ} (cond (eqb merged 0) 1 0) 0 = cond-false _ _ _ (ne_eqb _ _ some) in omega arith)
    (cases_eq merged 0)

pub overriding_is_few : LowerLaws → (device : Device) (u v new : Version) → IsVersion u → IsVersion v →
    ¬ (most_counters < ids_with device u v) → IsMergedAndRaised device u v new → length new ≤ most_counters
overriding_is_few laws device u v new u_is v_is roomy made =
    let formed = laws.merge_exists u v u_is v_is in
    let merged = formed.0 in
    let same : (id : ℕ) → counter_of made.merged id ≡ counter_of merged id = λ id. made.merge id ∙ sym (formed.1.merge id) in
    let bump : IsBump merged device new =
    (made.bump.0 ∙ ap (λ n. n + 1) (same device), λ other apart. made.bump.1 other apart ∙ same other) in
    few_both (counter_of u device) (counter_of v device) (counter_of merged device) (ids_in_either u v) (length merged) (length new)
    (formed.1.merge device) formed.1.count
    (laws.bump_is_counted merged device new formed.1.version (raised_id device merged new bump made.version) made.version bump)
    roomy
