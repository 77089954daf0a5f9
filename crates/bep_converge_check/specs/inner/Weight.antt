-- The weight of a version, and the order of records by it and then by their counters (this project's profile).
use Rattle.std.specs.Prelude.{ℕ, List}
use Rattle.std.specs.List.{sum_by}
use Rattle.std.specs.Ordering.{nat_cmp, ordering_then}
use Rattle.std.specs.declared.cmp.Ordering.{Ordering}
use Rattle.std.specs.Cmp.{IsTotalOrder, nat_cmp_total, on_total, then_total}
use Rattle.std.specs.Cmp.Lexicographic.{slice_cmp, lists_total}
use Rattle.bep_record.specs.declared.entry.Entry.{Entry}
use Rattle.bep_converge_check.specs.declared.weight.Weighed.{Weighed}

-- the sum of the counters
abbrev pub weight : List (ℕ × ℕ) → ℕ
weight version = sum_by (λ (counter : ℕ × ℕ). counter.1) version

-- the record
abbrev pub record_of : Weighed → Entry
record_of one = one.found.now

-- the order of counters: by id, then by value
abbrev pub counter_cmp : ℕ × ℕ → ℕ × ℕ → Ordering
counter_cmp one other = ordering_then (nat_cmp one.0 other.0) (nat_cmp one.1 other.1)

-- the order of versions: by weight, then counter by counter
abbrev pub version_cmp : List (ℕ × ℕ) → List (ℕ × ℕ) → Ordering
version_cmp one other = ordering_then (nat_cmp (weight one) (weight other)) (slice_cmp counter_cmp one other)

abbrev pub version_in : Weighed → List (ℕ × ℕ)
version_in one = one.found.now.version

abbrev pub weighed_cmp : Weighed → Weighed → Ordering
weighed_cmp one other = version_cmp (version_in one) (version_in other)

counter_total : IsTotalOrder counter_cmp
counter_total = then_total (on_total (λ (one : ℕ × ℕ). one.0) nat_cmp_total) (on_total (λ (one : ℕ × ℕ). one.1) nat_cmp_total)

pub version_total : IsTotalOrder version_cmp
version_total = then_total (on_total weight nat_cmp_total) (lists_total counter_total)

pub weighed_total : IsTotalOrder weighed_cmp
weighed_total = on_total version_in version_total
