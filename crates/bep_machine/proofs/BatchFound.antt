-- Of every index there is a batch of what comes first after a sequence.
use Rattle.std.proofs.Common.{◌≡◌, ◌⊎◌, ◌<◌, ◌≤◌, ◌+◌, ℕ, zero, suc, List, [], ◌∷◌, Option, Some, None, Contains, IsSome, refl, sym, ap, subst, ◌∙◌, inl, inr, ⊎_elim, arith}
use Rattle.std.proofs.lemmas.Option.{same_Some}
use Rattle.std.specs.Cmp.Lexicographic.{nat_list_cmp_total}
use Rattle.std.proofs.lemmas.Map.Lookups.{exact_bytes}
use Rattle.std.specs.FinMap.{get, keys}
use Rattle.bep_facts.specs.Maps.{key_has_value}
use Rattle.bep_facts.specs.Members.{not_in_none, Contains-cons_cases}
use Rattle.bep_record.specs.declared.entry.Entry.{Entry}
use Rattle.bep_index.specs.Listing.{Listing, IsRecord}
use Rattle.bep_index.specs.Index.{IsIndex}
use Rattle.bep_index.specs.After.{IsAfter}
use Rattle.bep_model.specs.Tables.{FileName}
use Rattle.bep_machine.proofs.GapFacts.{above_or_not}

module _ (index : Listing) (is_index : IsIndex index) where
  -- the least record above a sequence, among those of these names
  record IsNext (low : ℕ) (names : List FileName) (entry : Entry) : Type 0 where
    recorded : IsRecord index.records entry
    above : low < entry.sequence
    least : (other : Entry) → Contains names other.name → IsRecord index.records other → low < other.sequence → entry.sequence ≤ other.sequence

  abbrev NoneAbove : ℕ → List FileName → Type 0
  NoneAbove low names = (other : Entry) → Contains names other.name → IsRecord index.records other → other.sequence ≤ low

  abbrev NextOrNone : ℕ → List FileName → Type 0
  NextOrNone low names = ((entry : Entry) × IsNext low names entry) ⊎ NoneAbove low names

  -- a name more, whose record isn't before the least of the others
  still_next : (low : ℕ) (name : FileName) (names : List FileName) (entry : Entry) → ((other : Entry) → get index.records name ≡ Some other → low < other.sequence → entry.sequence ≤ other.sequence) → IsNext low names entry → IsNext low (name ∷ names) entry
  still_next low name names entry here next = record {
    recorded = next.recorded;
    above = next.above;
    least = λ other stands is above.
        ⊎_elim
        (λ same. here other (ap (get index.records) same ∙ is) above)
        (λ later. next.least other later is above)
        (Contains-cons_cases name names other.name stands);
  }

  without_record : (low : ℕ) (name : FileName) (names : List FileName) → ((entry : Entry) → get index.records name ≡ Some entry → entry.sequence ≤ low) → NextOrNone low names → NextOrNone low (name ∷ names)
  without_record low name names none (inl (entry, next)) =
      inl (entry, still_next low name names entry (λ other is above. let small = none other is in absurd (omega (arith, small, above))) next)
  without_record low name names none (inr nothing) = inr (λ other stands is.
      ⊎_elim
      (λ same. none other (ap (get index.records) same ∙ is))
      (λ later. nothing other later is)
      (Contains-cons_cases name names other.name stands))

  same_entry : (name : FileName) (entry other : Entry) → get index.records name ≡ Some entry → IsRecord index.records other → name ≡ other.name → entry ≡ other
  same_entry name entry other is found same = same_Some entry other (sym is ∙ ap (get index.records) same ∙ found)

  with_record : (low : ℕ) (name : FileName) (names : List FileName) (entry : Entry) → get index.records name ≡ Some entry → low < entry.sequence → NextOrNone low names → NextOrNone low (name ∷ names)
  with_record low name names entry is above rest = by_rest rest
    where
      recorded : IsRecord index.records entry
      recorded = ap (get index.records) (is_index.numbered name entry is).0 ∙ is

      first : ((other : Entry) → Contains names other.name → IsRecord index.records other → low < other.sequence → entry.sequence ≤ other.sequence) → IsNext low (name ∷ names) entry
      first least = record {
        recorded = recorded;
        above = above;
        least = λ other stands found higher.
            ⊎_elim
            (λ same. let equal = ap (λ (e : Entry). e.sequence) (same_entry name entry other is found same) in omega (arith, equal))
            (λ later. least other later found higher)
            (Contains-cons_cases name names other.name stands);
      }

      by_rest : NextOrNone low names → NextOrNone low (name ∷ names)
      by_rest (inr nothing) = inl (entry, first (λ other stands found higher. let small = nothing other stands found in absurd (omega (arith, small, higher))))
      by_rest (inl (next, is_next)) =
          ⊎_elim
          (λ smaller. inl (entry, first (λ other stands found higher. let bound = is_next.least other stands found higher in omega (arith, bound, smaller))))
          (λ not_smaller.
          let same = λ (other : Entry) (found : get index.records name ≡ Some other). ap (λ (e : Entry). e.sequence) (same_Some entry other (sym is ∙ found)) in
          inl (next, still_next low name names next (λ other found higher. let equal = same other found in omega (arith, equal, not_smaller)) is_next))
          (above_or_not next.sequence entry.sequence)

  next_or_none : (low : ℕ) (names : List FileName) → NextOrNone low names
  next_or_none low [] = inr (λ other stands is. absurd (not_in_none other.name stands))
  next_or_none low (name ∷ names) = by_record (get index.records name) refl (next_or_none low names)
    where
      by_record : (found : Option Entry) → get index.records name ≡ found → NextOrNone low names → NextOrNone low (name ∷ names)
      by_record None is rest = without_record low name names (λ entry there. let none = sym is ∙ there in absurd (cc)) rest
      by_record (Some entry) is rest =
          ⊎_elim
          (λ above. with_record low name names entry is above rest)
          (λ below. without_record low name names (λ other there. let equal = ap (λ (e : Entry). e.sequence) (same_Some entry other (sym is ∙ there)) in omega (arith, equal, below)) rest)
          (above_or_not entry.sequence low)

  listed : (entry : Entry) → IsRecord index.records entry → Contains (keys index.records) entry.name
  listed entry is = (key_has_value nat_list_cmp_total exact_bytes index.records entry.name).1 (subst (λ (o : Option Entry). IsSome o) (sym is) refl)

  -- nothing is sent
  nothing_after : (low limit : ℕ) → (0 < limit → NoneAbove low (keys index.records)) → IsAfter index.records low limit []
  nothing_after low limit none = record {
    run = record { rises = tt; recorded = tt; whole = λ entry is above small. absurd (omega (arith, above, small)) };
    at_most = omega arith;
    ended = λ short entry is. none short entry (listed entry is) is;
  }

  one_more : (low limit : ℕ) (first : Entry) (more : List Entry) → IsNext low (keys index.records) first → IsAfter index.records first.sequence limit more → IsAfter index.records low (limit + 1) (first ∷ more)
  one_more low limit first more next after = record {
    run = record {
      rises = (next.above, let numbers = is_index.numbered first.name first next.recorded in let bound = is_index.sequence in omega (arith, numbers.2, bound), after.run.rises);
      recorded = (next.recorded, after.run.recorded);
      whole = λ entry is above small.
          ⊎_elim
          (λ later. inr (after.run.whole entry is later small))
          (λ not_later. inl (same entry is above not_later))
          (above_or_not entry.sequence first.sequence);
    };
    at_most = let bound = after.at_most in omega (arith, bound);
    ended = λ short. after.ended (omega (arith, short));
  }
    where
      same : (entry : Entry) → IsRecord index.records entry → low < entry.sequence → entry.sequence ≤ first.sequence → entry ≡ first
      same entry is above small =
          let least = next.least entry (listed entry is) is above in
          let name = is_index.distinct entry.name first.name entry first is next.recorded (omega (arith, least, small)) in
          same_entry entry.name entry first is next.recorded name

  pub batch_exists : (low limit : ℕ) → (batch : List Entry) × IsAfter index.records low limit batch
  batch_exists low zero = ([], nothing_after low 0 (λ never. absurd (omega (arith, never))))
  batch_exists low (suc limit) = by_next (next_or_none low (keys index.records)) (λ start. batch_exists start limit)
    where
      by_next : NextOrNone low (keys index.records) → ((start : ℕ) → (batch : List Entry) × IsAfter index.records start limit batch) → (batch : List Entry) × IsAfter index.records low (suc limit) batch
      by_next (inr none) later = ([], nothing_after low (suc limit) (λ _. none))
      by_next (inl (first, next)) later =
          let rest = later first.sequence in
          (first ∷ rest.0, subst (λ n. IsAfter index.records low n (first ∷ rest.0)) (omega arith) (one_more low limit first rest.0 next rest.1))
