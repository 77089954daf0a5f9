-- The last record of a list is the one at its end.
use Rattle.std.proofs.Common.{◌≡◌, ℕ, suc, ◌-◌, List, [], ◌∷◌, length, Some, None, slice_get, ap, ◌∙◌, arith}
use Rattle.bep_record.specs.declared.entry.Entry.{Entry}
use Rattle.bep_index.specs.Batch.{last_sequence}

pub last_at_end : (low : ℕ) (entries : List Entry) (entry : Entry) → Some entry ≡ slice_get entries (length entries - 1) → last_sequence low entries ≡ entry.sequence
last_at_end low [] entry e = absurd (different e) where
  different : Some entry ≡ None → ⊥
  different d = cc
last_at_end low (x ∷ []) entry e = same e where
  same : Some entry ≡ Some x → x.sequence ≡ entry.sequence
  same d = cc
last_at_end low (x ∷ (y ∷ more)) entry e =
    let n = length more in
    let here : suc (suc n) - 1 ≡ suc n = omega arith in
    let next : n ≡ suc n - 1 = omega arith in
    last_at_end x.sequence (y ∷ more) entry (e ∙ ap (slice_get (x ∷ (y ∷ more))) here ∙ ap (slice_get (y ∷ more)) next)
