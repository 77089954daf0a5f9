-- Of two versions in line the one above is heavier, unless they are equal.
use Rattle.std.proofs.Common.{◌≡◌, ◌≤◌, ◌<◌, ◌+◌, ℕ, List, [], ◌∷◌, refl, sym, ⊎_elim, arith}
use Rattle.std.proofs.lemmas.Bool.{cases_order, cases_eq}
use Rattle.std.proofs.lemmas.List.Sums.{sum_by-cons}
use Rattle.bep_record.specs.Vector.{RisesAbove, IsVersion, IsAtMost}
use Rattle.bep_record.proofs.VectorFacts.{counter_of-here, counter_of-there, counter_of-low, RisesAbove-lower}
use Rattle.bep_converge_check.specs.inner.Weight.{weight}

weight-cons : (c : ℕ × ℕ) (more : List (ℕ × ℕ)) → weight (c ∷ more) ≡ c.1 + weight more
weight-cons c more = sum_by-cons (λ (counter : ℕ × ℕ). counter.1) c more

-- what is at most a version has no id before its first one
pub not_before : (c d : ℕ × ℕ) (u v : List (ℕ × ℕ)) (low : ℕ) → RisesAbove low (c ∷ u) → RisesAbove low (d ∷ v) → IsAtMost (c ∷ u) (d ∷ v) → c.0 < d.0 → ⊥
not_before c d u v low ru rv within less =
    let here = counter_of-here c u c.0 refl in
    let none = counter_of-there d v c.0 (λ e. omega (arith, e, less)) in
    let low_there = counter_of-low v d.0 c.0 rv.3 (omega (arith, less)) in
    let le = within c.0 in
    let some = ru.1 in
    omega (arith, here, none, low_there, le, some)

-- the first counters of two that begin with one id
pub heads_within : (c d : ℕ × ℕ) (u v : List (ℕ × ℕ)) → c.0 ≡ d.0 → IsAtMost (c ∷ u) (d ∷ v) → c.1 ≤ d.1
heads_within c d u v same within =
    let here = counter_of-here c u c.0 refl in
    let there = counter_of-here d v c.0 (sym same) in
    let le = within c.0 in
    omega (arith, here, there, le)

-- what is behind them
pub tails_within : (c d : ℕ × ℕ) (u v : List (ℕ × ℕ)) (low : ℕ) → RisesAbove low (c ∷ u) → c.0 ≡ d.0 → IsAtMost (c ∷ u) (d ∷ v) → IsAtMost u v
tails_within c d u v low ru same within id =
    ⊎_elim
    (λ e. let none = counter_of-low u c.0 id ru.3 (omega (arith, e)) in omega (arith, none))
    (λ ne.
    let here = counter_of-there c u id ne in
    let there = counter_of-there d v id (λ e. ne (omega (arith, e, same))) in
    let le = within id in
    omega (arith, here, there, le))
    (cases_eq c.0 id)

-- what has no counter of the first id is at most what is behind it
rest_within : (d : ℕ × ℕ) (u v : List (ℕ × ℕ)) → RisesAbove d.0 u → IsAtMost u (d ∷ v) → IsAtMost u v
rest_within d u v ru within id =
    ⊎_elim
    (λ e. let none = counter_of-low u d.0 id ru (omega (arith, e)) in omega (arith, none))
    (λ ne. let there = counter_of-there d v id ne in let le = within id in omega (arith, there, le))
    (cases_eq d.0 id)

with_heads : (c d : ℕ × ℕ) (u v : List (ℕ × ℕ)) → c.0 ≡ d.0 → d.1 ≤ c.1 → IsAtMost v u → IsAtMost (d ∷ v) (c ∷ u)
with_heads c d u v same head tail id =
    ⊎_elim
    (λ e.
    let here = counter_of-here c u id e in
    let there = counter_of-here d v id (omega (arith, e, same)) in
    omega (arith, here, there, head))
    (λ ne.
    let here = counter_of-there c u id ne in
    let there = counter_of-there d v id (λ e. ne (omega (arith, e, same))) in
    let le = tail id in
    omega (arith, here, there, le))
    (cases_eq c.0 id)

-- no heavier than what it is at most, and as heavy only where they are equal
abbrev IsHeavier : List (ℕ × ℕ) → List (ℕ × ℕ) → Type 0
IsHeavier v u = (weight u ≤ weight v) × (weight v ≤ weight u → IsAtMost v u)

one_id : (c d : ℕ × ℕ) (u v : List (ℕ × ℕ)) → c.0 ≡ d.0 → c.1 ≤ d.1 → IsHeavier v u → IsHeavier (d ∷ v) (c ∷ u)
one_id c d u v same head rest =
    let one = weight-cons c u in
    let other = weight-cons d v in
    let less = rest.0 in (
      omega (arith, one, other, less, head),
      λ as_heavy. with_heads c d u v same (omega (arith, one, other, less, head, as_heavy)) (rest.1 (omega (arith, one, other, less, head, as_heavy))),
    )

one_more_id : (d : ℕ × ℕ) (u v : List (ℕ × ℕ)) → 1 ≤ d.1 → IsHeavier v u → IsHeavier (d ∷ v) u
one_more_id d u v some rest =
    let other = weight-cons d v in
    let less = rest.0 in (
      omega (arith, other, less),
      λ as_heavy. absurd (omega (arith, other, less, as_heavy, some)),
    )

heavier : (u v : List (ℕ × ℕ)) (low : ℕ) → RisesAbove low u → RisesAbove low v → IsAtMost u v → IsHeavier v u
heavier [] [] low ru rv within = (omega arith, λ _. within)
heavier [] (d ∷ v) low ru rv within = one_more_id d [] v rv.1 (heavier [] v d.0 tt rv.3 (λ id. omega arith))
heavier (c ∷ u) [] low ru rv within =
    let here = counter_of-here c u c.0 refl in
    let le = within c.0 in
    let some = ru.1 in
    absurd (omega (arith, here, le, some))
heavier (c ∷ u) (d ∷ v) low ru rv within =
    ⊎_elim
    (λ same. one_id c d u v same (heads_within c d u v same within)
    (heavier u v c.0 ru.3 (RisesAbove-lower v c.0 d.0 (omega (arith, same)) rv.3) (tails_within c d u v low ru same within)))
    (⊎_elim
    (λ less. absurd (not_before c d u v low ru rv within less))
    (λ less.
    let above : RisesAbove d.0 (c ∷ u) = (less, ru.1, ru.2, ru.3) in
    one_more_id d (c ∷ u) v rv.1 (heavier (c ∷ u) v d.0 above rv.3 (rest_within d (c ∷ u) v above within))))
    (cases_order c.0 d.0)

pub heavier_above : (u v : List (ℕ × ℕ)) → IsVersion u → IsVersion v → IsAtMost u v → weight u ≤ weight v
heavier_above u v is_u is_v within = (heavier u v 0 is_u is_v within).0

pub equal_where_as_heavy : (u v : List (ℕ × ℕ)) → IsVersion u → IsVersion v → IsAtMost u v → weight v ≤ weight u → IsAtMost v u
equal_where_as_heavy u v is_u is_v within = (heavier u v 0 is_u is_v within).1
