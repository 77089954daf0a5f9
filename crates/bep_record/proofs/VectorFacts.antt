-- Facts on well-formed lists of counters.
use Rattle.std.proofs.Common.{◌≡◌, ◌≢◌, ℕ, suc, ◌+◌, ◌<◌, ◌≤◌, Bool, true, false, cond, eqb, ltb, leb, max, List, [], ◌∷◌, length, set, count_by, insert, sym, ◌∙◌, ap, refl, ⊎_elim, zero-add, arith}
use Rattle.std.specs.List.{list_all}
use Rattle.std.proofs.lemmas.Bool.{cases_eq, cases_lt, cases_order, eq-eqb, ne_eqb, lt-ltb, le-ltb, leb-true, le-leb, and_parts, and_from, cond-true, cond-false}
use Rattle.std.proofs.Math.Numerals.{one-add}
use Rattle.std.proofs.lemmas.List.Sums.{sum_by-cons}
use Rattle.bep_record.specs.Vector.{counter_of, greatest_counter, RisesAbove, IsVersion, IsAtMost, ChangesOnly, ids_in_either}

-- the counter at the head's id, and at any other
pub counter_of-here : (c : ℕ × ℕ) (more : List (ℕ × ℕ)) (id : ℕ) → c.0 ≡ id → counter_of (c ∷ more) id ≡ c.1
counter_of-here c more id e = cond-true _ _ _ (eq-eqb c.0 id e)

pub counter_of-there : (c : ℕ × ℕ) (more : List (ℕ × ℕ)) (id : ℕ) → (c.0 ≡ id → ⊥) → counter_of (c ∷ more) id ≡ counter_of more id
counter_of-there c more id ne = cond-false _ _ _ (ne_eqb c.0 id ne)

-- an id that isn't above `low` has no counter
pub counter_of-low : (v : List (ℕ × ℕ)) (low id : ℕ) → RisesAbove low v → id ≤ low → counter_of v id ≡ 0
counter_of-low [] low id rises le = refl
counter_of-low (c ∷ more) low id rises le =
    counter_of-there c more id (omega arith) ∙ counter_of-low more c.0 id rises.3 (omega arith)

pub RisesAbove-lower : (v : List (ℕ × ℕ)) (low high : ℕ) → low ≤ high → RisesAbove high v → RisesAbove low v
RisesAbove-lower [] low high le rises = tt
RisesAbove-lower (c ∷ more) low high le rises = (omega arith, rises.1, rises.2, rises.3)

-- a counter is at most the greatest
pub counter_of-le : (v : List (ℕ × ℕ)) (low id : ℕ) → RisesAbove low v → counter_of v id ≤ greatest_counter
counter_of-le [] low id rises = omega arith
counter_of-le (c ∷ more) low id rises =
    ⊎_elim
    (λ e. let same = counter_of-here c more id e in let h = rises.2 in omega (arith, same, h))
    (λ ne. let same = counter_of-there c more id ne in omega (arith, same, counter_of-le more c.0 id rises.3))
    (cases_eq c.0 id)

-- a list whose first id is larger lacks the smaller one
no_first : (c d : ℕ × ℕ) (cs ds : List (ℕ × ℕ)) (low : ℕ) → c.0 < d.0 → RisesAbove low (c ∷ cs) → RisesAbove low (d ∷ ds) → counter_of (c ∷ cs) c.0 ≡ counter_of (d ∷ ds) c.0 → ⊥
no_first c d cs ds low lt ru rv same =
    let here = counter_of-here c cs c.0 refl in
    let none = counter_of-there d ds c.0 (omega arith) ∙ counter_of-low ds d.0 c.0 rv.3 (omega arith) in
    let some = ru.1 in
    omega (arith, same, here, none, some)

-- two rising lists with the same counters begin with the same id
same_heads : (c d : ℕ × ℕ) (cs ds : List (ℕ × ℕ)) (low : ℕ) → RisesAbove low (c ∷ cs) → RisesAbove low (d ∷ ds) → ((id : ℕ) → counter_of (c ∷ cs) id ≡ counter_of (d ∷ ds) id) → c.0 ≡ d.0
same_heads c d cs ds low ru rv same =
    ⊎_elim (λ e. e)
    (⊎_elim
    (λ lt. absurd (no_first c d cs ds low lt ru rv (same c.0)))
    (λ lt. absurd (no_first d c ds cs low lt rv ru (sym (same d.0)))))
    (cases_order c.0 d.0)

-- after the first, their counters are the same
same_tails : (c d : ℕ × ℕ) (cs ds : List (ℕ × ℕ)) (low : ℕ) → c.0 ≡ d.0 → RisesAbove low (c ∷ cs) → RisesAbove low (d ∷ ds) → ((id : ℕ) → counter_of (c ∷ cs) id ≡ counter_of (d ∷ ds) id) → (id : ℕ) → counter_of cs id ≡ counter_of ds id
same_tails c d cs ds low e ru rv same id =
    ⊎_elim
    (λ here. counter_of-low cs c.0 id ru.3 (omega arith) ∙ sym (counter_of-low ds d.0 id rv.3 (omega arith)))
    (λ ne. sym (counter_of-there c cs id ne) ∙ same id ∙ counter_of-there d ds id (λ h. ne (e ∙ h)))
    (cases_eq c.0 id)

same_cons : (c d : ℕ × ℕ) (cs ds : List (ℕ × ℕ)) → c.0 ≡ d.0 → c.1 ≡ d.1 → cs ≡ ds → c ∷ cs ≡ d ∷ ds
same_cons c d cs ds e f rest =
    ap (λ (id : ℕ). (id, c.1) ∷ cs) e ∙ ap (λ (value : ℕ). (d.0, value) ∷ cs) f ∙ ap (λ (xs : List (ℕ × ℕ)). d ∷ xs) rest

-- two rising lists with the same counters are one
pub same_from_counters : (u v : List (ℕ × ℕ)) (low : ℕ) → RisesAbove low u → RisesAbove low v → ((id : ℕ) → counter_of u id ≡ counter_of v id) → u ≡ v
same_from_counters [] [] low ru rv same = refl
same_from_counters [] (d ∷ ds) low ru rv same =
    let e = same d.0 in
    let f = counter_of-here d ds d.0 refl in
    let g = rv.1 in
    absurd (omega (arith, e, f, g))
same_from_counters (c ∷ cs) [] low ru rv same =
    let e = same c.0 in
    let f = counter_of-here c cs c.0 refl in
    let g = ru.1 in
    absurd (omega (arith, e, f, g))
same_from_counters (c ∷ cs) (d ∷ ds) low ru rv same =
    let e : c.0 ≡ d.0 = same_heads c d cs ds low ru rv same in
    let f : c.1 ≡ d.1 = sym (counter_of-here c cs c.0 refl) ∙ same c.0 ∙ counter_of-here d ds c.0 (sym e) in
    let rest : cs ≡ ds = same_from_counters cs ds c.0 ru.3 (RisesAbove-lower ds c.0 d.0 (omega arith) rv.3) (same_tails c d cs ds low e ru rv same) in
    same_cons c d cs ds e f rest

-- u is at most v, counter by counter
abbrev pub is_each_at_most : List (ℕ × ℕ) → List (ℕ × ℕ) → Bool
is_each_at_most u v = list_all (λ c. leb c.1 (counter_of v c.0)) u

pub IsAtMost-from_each : (u v : List (ℕ × ℕ)) → is_each_at_most u v ≡ true → IsAtMost u v
IsAtMost-from_each [] v each id = omega arith
IsAtMost-from_each (c ∷ more) v each id =
    let parts : (leb c.1 (counter_of v c.0) ≡ true) × (is_each_at_most more v ≡ true) = and_parts _ _ each in
    ⊎_elim
    (λ e. let here = counter_of-here c more id e in let le = leb-true _ _ parts.0 in let there = ap (counter_of v) e in omega (arith, here, le, there))
    (λ ne. let there = counter_of-there c more id ne in omega (arith, there, IsAtMost-from_each more v parts.1 id))
    (cases_eq c.0 id)

-- a list without its first counter is at most what the list was
IsAtMost-tail : (c : ℕ × ℕ) (more v : List (ℕ × ℕ)) (low : ℕ) → RisesAbove low (c ∷ more) → IsAtMost (c ∷ more) v → IsAtMost more v
IsAtMost-tail c more v low rises le id =
    ⊎_elim
    (λ e. let none = counter_of-low more c.0 id rises.3 (omega arith) in omega (arith, none))
    (λ ne. let there = counter_of-there c more id ne in let h = le id in omega (arith, there, h))
    (cases_eq c.0 id)

pub each-from_IsAtMost : (u v : List (ℕ × ℕ)) (low : ℕ) → RisesAbove low u → IsAtMost u v → is_each_at_most u v ≡ true
each-from_IsAtMost [] v low rises le = refl
each-from_IsAtMost (c ∷ more) v low rises le =
    let here = counter_of-here c more c.0 refl in
    let at_head = le c.0 in
    and_from _ _ (le-leb _ _ (omega (arith, here, at_head))) (each-from_IsAtMost more v c.0 rises.3 (IsAtMost-tail c more v low rises le))

-- a count, at a head that passes and at one that doesn't
count_yes : (p : ℕ × ℕ → Bool) (c : ℕ × ℕ) (more : List (ℕ × ℕ)) → p c ≡ true → count_by p (c ∷ more) ≡ suc (count_by p more)
count_yes p c more e =
    sum_by-cons (λ x. cond (p x) 1 0) c more ∙ ap (λ b. cond b 1 0 + count_by p more) e ∙ one-add _

count_no : (p : ℕ × ℕ → Bool) (c : ℕ × ℕ) (more : List (ℕ × ℕ)) → p c ≡ false → count_by p (c ∷ more) ≡ count_by p more
count_no p c more e =
    sum_by-cons (λ x. cond (p x) 1 0) c more ∙ ap (λ b. cond b 1 0 + count_by p more) e ∙ zero-add _

-- the place of an id: how many ids are below it
abbrev pub place_in : List (ℕ × ℕ) → ℕ → ℕ
place_in v id = count_by (λ c. ltb c.0 id) v

place_in-low : (v : List (ℕ × ℕ)) (low id : ℕ) → RisesAbove low v → id ≤ low → place_in v id ≡ 0
place_in-low [] low id rises le = refl
place_in-low (c ∷ more) low id rises le =
    count_no (λ c. ltb c.0 id) c more (le-ltb _ _ (omega arith)) ∙ place_in-low more c.0 id rises.3 (omega arith)

-- at a head that isn't below the id, the place is the front
place_in-front : (c : ℕ × ℕ) (more : List (ℕ × ℕ)) (low id : ℕ) → RisesAbove low (c ∷ more) → id ≤ c.0 → place_in (c ∷ more) id ≡ 0
place_in-front c more low id rises le =
    count_no (λ c. ltb c.0 id) c more (le-ltb _ _ le) ∙ place_in-low more c.0 id rises.3 le

place_in-next : (c : ℕ × ℕ) (more : List (ℕ × ℕ)) (id : ℕ) → c.0 < id → place_in (c ∷ more) id ≡ suc (place_in more id)
place_in-next c more id lt = count_yes (λ c. ltb c.0 id) c more (lt-ltb _ _ lt)

-- where the id has a counter, that is at its place
pub place_in-lt : (v : List (ℕ × ℕ)) (low id : ℕ) → RisesAbove low v → 1 ≤ counter_of v id → place_in v id < length v
place_in-lt [] low id rises some = omega arith
place_in-lt (c ∷ more) low id rises some =
    ⊎_elim
    (λ lt. let next = place_in-next c more id lt in let there = counter_of-there c more id (omega arith) in omega (arith, next, place_in-lt more c.0 id rises.3 (omega (arith, there))))
    (λ le. let front = place_in-front c more low id rises le in omega (arith, front))
    (cases_lt c.0 id)

-- the new list rises, with this value at this id and all others as they were
pub record IsPut (low : ℕ) (old new : List (ℕ × ℕ)) (id value : ℕ) : Type 0 where
  pub rises : RisesAbove low new
  pub changed : ChangesOnly old new id value

put_front : (v : List (ℕ × ℕ)) (low id value : ℕ) → low < id → 1 ≤ value → value ≤ greatest_counter → RisesAbove id v → IsPut low v ((id, value) ∷ v) id value
put_front v low id value above some fits rises = record {
  rises = (above, some, fits, rises);
  changed = (counter_of-here (id, value) v id refl, λ other ne. counter_of-there (id, value) v other (λ e. ne (sym e)));
}

put_here : (c : ℕ × ℕ) (more : List (ℕ × ℕ)) (low id value : ℕ) → c.0 ≡ id → 1 ≤ value → value ≤ greatest_counter → RisesAbove low (c ∷ more) → IsPut low (c ∷ more) ((id, value) ∷ more) id value
put_here c more low id value e some fits rises = record {
  rises = (omega arith, some, fits, RisesAbove-lower more id c.0 (omega arith) rises.3);
  changed = (
    counter_of-here (id, value) more id refl,
    λ other ne. counter_of-there (id, value) more other (λ h. ne (sym h)) ∙ sym (counter_of-there c more other (λ h. ne (sym h ∙ e))),
  );
}

put_next_other : (c : ℕ × ℕ) (more new : List (ℕ × ℕ)) (id value : ℕ) {low : ℕ} → IsPut low more new id value → (other : ℕ) → other ≢ id → counter_of (c ∷ new) other ≡ counter_of (c ∷ more) other
put_next_other c more new id value put other ne =
    ⊎_elim
    (λ e. counter_of-here c new other e ∙ sym (counter_of-here c more other e))
    (λ h. counter_of-there c new other h ∙ put.changed.1 other ne ∙ sym (counter_of-there c more other h))
    (cases_eq c.0 other)

put_next : (c : ℕ × ℕ) (more new : List (ℕ × ℕ)) (low id value : ℕ) → c.0 < id → RisesAbove low (c ∷ more) → IsPut c.0 more new id value → IsPut low (c ∷ more) (c ∷ new) id value
put_next c more new low id value lt rises put = record {
  rises = (rises.0, rises.1, rises.2, put.rises);
  changed = (counter_of-there c new id (omega arith) ∙ put.changed.0, λ other ne. put_next_other c more new id value put other ne);
}

-- a new counter, inserted at its place
pub insert_is_put : (v : List (ℕ × ℕ)) (low id value : ℕ) → low < id → 1 ≤ value → value ≤ greatest_counter → RisesAbove low v → counter_of v id ≡ 0 → IsPut low v (insert v (place_in v id) (id, value)) id value
insert_is_put [] low id value above some fits rises none = put_front [] low id value above some fits tt
insert_is_put (c ∷ more) low id value above some fits rises none =
    ⊎_elim
    (λ e. let here = counter_of-here c more id e in let h = rises.1 in absurd (omega (arith, here, none, h)))
    (⊎_elim
    (λ lt. let there = counter_of-there c more id (omega arith) in
    rw (place_in-next c more id lt) (put_next c more _ low id value lt rises (insert_is_put more c.0 id value lt some fits rises.3 (sym there ∙ none))))
    (λ lt. rw (place_in-front c more low id rises (omega arith)) (put_front (c ∷ more) low id value above some fits (lt, rises.1, rises.2, rises.3))))
    (cases_order c.0 id)

-- a counter that is there, set at its place
pub set_is_put : (v : List (ℕ × ℕ)) (low id value : ℕ) → 1 ≤ value → value ≤ greatest_counter → RisesAbove low v → 1 ≤ counter_of v id → IsPut low v (set v (place_in v id) (id, value)) id value
set_is_put [] low id value some fits rises there = absurd (omega arith)
set_is_put (c ∷ more) low id value some fits rises there =
    ⊎_elim
    (λ e. rw (place_in-front c more low id rises (omega arith)) (put_here c more low id value e some fits rises))
    (⊎_elim
    (λ lt. let e = counter_of-there c more id (omega arith) in
    let there_still : 1 ≤ counter_of more id = omega (arith, e) in
    rw (place_in-next c more id lt) (put_next c more _ low id value lt rises (set_is_put more c.0 id value some fits rises.3 there_still)))
    (λ lt. let e = counter_of-there c more id (omega arith) in let none = counter_of-low more c.0 id rises.3 (omega arith) in absurd (omega (arith, e, none))))
    (cases_order c.0 id)

-- how many ids of a list a vector lacks, where another has the same counters there
count_same : (u new more : List (ℕ × ℕ)) (low : ℕ) → RisesAbove low more → ((id : ℕ) → low < id → counter_of new id ≡ counter_of u id) → count_by (λ c. eqb (counter_of new c.0) 0) more ≡ count_by (λ c. eqb (counter_of u c.0) 0) more
count_same u new [] low rises same = refl
count_same u new (c ∷ more) low rises same =
    sum_by-cons _ c more
    ∙ ap (λ n. cond (eqb n 0) 1 0 + count_by (λ c. eqb (counter_of new c.0) 0) more) (same c.0 rises.0)
    ∙ ap (λ n. cond (eqb (counter_of u c.0) 0) 1 0 + n) (count_same u new more c.0 rises.3 (λ id lt. same id (omega arith)))
    ∙ sym (sum_by-cons _ c more)

-- one counter taken over: as many ids in either as before
pub ids_in_either-more : (u new more : List (ℕ × ℕ)) (c : ℕ × ℕ) (low value : ℕ) → RisesAbove low (c ∷ more) → ChangesOnly u new c.0 value → length new ≡ length u + cond (eqb (counter_of u c.0) 0) 1 0 → ids_in_either new more ≡ ids_in_either u (c ∷ more)
ids_in_either-more u new more c low value rises changed len =
    let same = count_same u new more c.0 rises.3 (λ id lt. changed.1 id (omega arith)) in
    let head = sum_by-cons (λ x. cond (eqb (counter_of u x.0) 0) 1 0) c more in
    omega (arith, same, head, len)

-- one counter taken over: the greater of the two at each id is as before
pub greater-more : (u new more : List (ℕ × ℕ)) (c : ℕ × ℕ) (low : ℕ) → RisesAbove low (c ∷ more) → ChangesOnly u new c.0 (max (counter_of u c.0) c.1) → (id : ℕ) → max (counter_of new id) (counter_of more id) ≡ max (counter_of u id) (counter_of (c ∷ more) id)
greater-more u new more c low rises changed id =
    ⊎_elim
    (λ e. let here = counter_of-here c more id e in
    let none = counter_of-low more c.0 id rises.3 (omega arith) in
    let own = ap (counter_of u) e in
    let made = sym (ap (counter_of new) e) ∙ changed.0 in
    omega (arith, here, none, own, made))
    (λ ne. let there = counter_of-there c more id ne in
    let kept = changed.1 id (λ h. ne (sym h)) in
    omega (arith, there, kept))
    (cases_eq c.0 id)

-- two well-formed lists that are at most each other are one
pub same_from_IsAtMost : (u v : List (ℕ × ℕ)) → IsVersion u → IsVersion v → IsAtMost u v → IsAtMost v u → u ≡ v
same_from_IsAtMost u v ru rv below above =
    same_from_counters u v 0 ru rv (λ id. let le = below id in let ge = above id in omega arith)
