-- The sequence of a batch's last record.
use Rattle.std.proofs.Common.{◌≡◌, ℕ, suc, ◌-◌, ◌∙◌, arith, List, [], ◌∷◌, length, Option, Some, None, slice_get, ap}
use Rattle.bep_record.specs.declared.entry.Entry.{Entry}
use Rattle.bep_index.specs.Batch.{last_sequence}

abbrev sequence_of : Option Entry → ℕ
sequence_of None = 0
sequence_of (Some entry) = entry.sequence

one_less : (n : ℕ) → suc (suc n - 1) ≡ suc (suc n) - 1
one_less n = omega arith

pub last_is : (low : ℕ) (batch : List Entry) (last : Entry) → slice_get batch (length batch - 1) ≡ Some last → last_sequence low batch ≡ last.sequence
last_is low [] last is = absurd (cc)
last_is low (one ∷ []) last is = ap sequence_of is
last_is low (one ∷ next ∷ more) last is = last_is one.sequence (next ∷ more) last (ap (slice_get (one ∷ next ∷ more)) (one_less (length more)) ∙ is)
