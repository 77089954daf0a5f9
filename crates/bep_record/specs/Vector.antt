-- Version vectors (BEP v1, 'Vector'): the counters (short id, value) of the devices that changed an item.
use Rattle.std.specs.Prelude.{◌≡◌, ◌≢◌, ℕ, ◌+◌, ◌<◌, ◌≤◌, ◌==◌, max, if◌then◌else◌, List, [], ◌∷◌, length, count_by}
use Rattle.bep_record.specs.declared.vector.Order.{Order}
use Rattle.bep_record.specs.declared.vector.Order.TheVariants.{Equal, Below, Above, Concurrent}

-- the counter of a device; one that is missing counts as 0 (BEP v1, 'Vector')
abbrev pub counter_of : List (ℕ × ℕ) → ℕ → ℕ
counter_of [] id = 0
counter_of (counter ∷ more) id = if counter.0 == id then counter.1 else counter_of more id

-- the greatest value of a counter, 2^63 - 1 (this project's profile)
abbrev pub greatest_counter : ℕ
greatest_counter = 9223372036854775807

-- how many counters a vector may have (this project's profile)
abbrev pub most_counters : ℕ
most_counters = 16

-- the ids rise from above `low`, and each value is from 1 to the greatest (this project's profile)
abbrev pub RisesAbove : ℕ → List (ℕ × ℕ) → Type 0
RisesAbove low [] = Unit {0}
RisesAbove low (counter ∷ more) =
    (low < counter.0) × (1 ≤ counter.1) × (counter.1 ≤ greatest_counter) × RisesAbove counter.0 more

-- a well-formed list of counters: the ids rise and aren't 0 (this project's profile)
abbrev pub IsVersion : List (ℕ × ℕ) → Type 0
IsVersion v = RisesAbove 0 v

-- each counter of u is at most that of v (BEP v1, 'Vector')
abbrev pub IsAtMost : List (ℕ × ℕ) → List (ℕ × ℕ) → Type 0
IsAtMost u v = (id : ℕ) → counter_of u id ≤ counter_of v id

-- u is strictly below v: at most v, and v isn't at most u
abbrev pub IsBelow : List (ℕ × ℕ) → List (ℕ × ℕ) → Type 0
IsBelow u v = IsAtMost u v × ¬ IsAtMost v u

-- neither is at most the other
abbrev pub AreConcurrent : List (ℕ × ℕ) → List (ℕ × ℕ) → Type 0
AreConcurrent u v = (¬ IsAtMost u v) × (¬ IsAtMost v u)

-- how u stands to v (BEP v1, 'Vector')
abbrev pub IsOrder : List (ℕ × ℕ) → List (ℕ × ℕ) → Order → Type 0
IsOrder u v Equal = IsAtMost u v × IsAtMost v u
IsOrder u v Below = IsBelow u v
IsOrder u v Above = IsBelow v u
IsOrder u v Concurrent = AreConcurrent u v

-- w has the greater counter of u and v at each id (BEP v1, 'Vector')
abbrev pub IsMerge : List (ℕ × ℕ) → List (ℕ × ℕ) → List (ℕ × ℕ) → Type 0
IsMerge u v w = (id : ℕ) → counter_of w id ≡ max (counter_of u id) (counter_of v id)

-- how many ids have a counter in u or in v: those of u, and those of v that u hasn't
abbrev pub ids_in_either : List (ℕ × ℕ) → List (ℕ × ℕ) → ℕ
ids_in_either u v = length u + count_by (λ counter. counter_of u counter.0 == 0) v

-- the new vector has this value at this id, and every other counter as it was
abbrev pub ChangesOnly : List (ℕ × ℕ) → List (ℕ × ℕ) → ℕ → ℕ → Type 0
ChangesOnly old new id value =
    (counter_of new id ≡ value) × ((other : ℕ) → other ≢ id → counter_of new other ≡ counter_of old other)

-- a change made at this id: its counter goes up by exactly 1 (BEP v1, 'Vector'; by 1, this project's profile)
abbrev pub IsBump : List (ℕ × ℕ) → ℕ → List (ℕ × ℕ) → Type 0
IsBump old id new = ChangesOnly old new id (counter_of old id + 1)
