-- Of an index there is one batch of what comes first after a sequence.
use Rattle.std.proofs.Common.{◌≡◌, ◌<◌, ◌≤◌, ℕ, List, [], ◌∷◌, length, refl, sym, ap, subst, ⊎_elim, arith, le_refl}
use Rattle.bep_map.specs.NameMap.{ByName}
use Rattle.bep_record.specs.declared.entry.Entry.{Entry}
use Rattle.bep_index.specs.Listing.{IsRecord}
use Rattle.bep_index.specs.Batch.{Rises, last_sequence}
use Rattle.bep_index.specs.After.{IsStretch, IsAfter}
use Rattle.bep_machine.proofs.GapFacts.{above_low, above_or_not}

-- what rises ends no lower than it begins
last_above : (low : ℕ) (batch : List Entry) → Rises low batch → low ≤ last_sequence low batch
last_above low [] rises = le_refl low
last_above low (first ∷ more) rises =
    let above = rises.0 in
    let rest = last_above first.sequence more rises.2 in
    omega (arith, above, rest)

module _ (records : ByName Entry) where
  -- where the one is shorter than the other, no record is above its last
  abbrev EndsBefore : ℕ → List Entry → List Entry → Type 0
  EndsBefore low one other = length one < length other → (entry : Entry) → IsRecord records entry → entry.sequence ≤ last_sequence low one

  rest_of_run : (low : ℕ) (first : Entry) (more : List Entry) → IsStretch records low (first ∷ more) → IsStretch records first.sequence more
  rest_of_run low first more run = record {
    rises = run.rises.2;
    recorded = run.recorded.1;
    whole = λ entry is above below.
        let start = run.rises.0 in
        ⊎_elim
        (λ same. let equal = ap (λ (e : Entry). e.sequence) same in absurd (omega (arith, equal, above)))
        (λ later. later)
        (run.whole entry is (omega (arith, start, above)) below);
  }

  -- the first of two runs isn't left out of the other
  first_is : (low : ℕ) (first next : Entry) (more rest : List Entry) → IsStretch records low (first ∷ more) → IsStretch records low (next ∷ rest) → first.sequence ≤ next.sequence → first ≡ next
  first_is low first next more rest run other below =
      let last = last_above next.sequence rest other.rises.2 in
      ⊎_elim
      (λ same. same)
      (λ later. let above = above_low next.sequence rest other.rises.2 first later in absurd (omega (arith, above, below)))
      (other.whole first run.recorded.0 run.rises.0 (omega (arith, last, below)))

  same_first : (low : ℕ) (first next : Entry) (more rest : List Entry) → IsStretch records low (first ∷ more) → IsStretch records low (next ∷ rest) → first ≡ next
  same_first low first next more rest run again =
      ⊎_elim
      (λ above. sym (first_is low next first rest more again run (omega (arith, above))))
      (λ below. first_is low first next more rest run again below)
      (above_or_not first.sequence next.sequence)

  one_run : (low : ℕ) (one other : List Entry) → IsStretch records low one → IsStretch records low other → EndsBefore low one other → EndsBefore low other one → one ≡ other
  one_run low [] [] run again short short_too = refl
  one_run low [] (next ∷ rest) run again short short_too =
      let below = short (omega arith) next again.recorded.0 in
      let above = again.rises.0 in
      absurd (omega (arith, above, below))
  one_run low (first ∷ more) [] run again short short_too =
      let below = short_too (omega arith) first run.recorded.0 in
      let above = run.rises.0 in
      absurd (omega (arith, above, below))
  one_run low (first ∷ more) (next ∷ rest) run again short short_too =
      let same = same_first low first next more rest run again in
      let tails =
      one_run first.sequence more rest (rest_of_run low first more run)
      (subst (λ (e : Entry). IsStretch records e.sequence rest) (sym same) (rest_of_run low next rest again))
      (λ less. short (omega (arith, less)))
      (λ less. subst (λ (e : Entry). (entry : Entry) → IsRecord records entry → entry.sequence ≤ last_sequence e.sequence rest) (sym same) (short_too (omega (arith, less)))) in
      λ i. same i ∷ tails i

  pub one_batch : (low limit : ℕ) (one other : List Entry) → IsAfter records low limit one → IsAfter records low limit other → one ≡ other
  one_batch low limit one other is too =
      one_run low one other is.run too.run
      (λ less. let most = too.at_most in is.ended (omega (arith, less, most)))
      (λ less. let most = is.at_most in too.ended (omega (arith, less, most)))
