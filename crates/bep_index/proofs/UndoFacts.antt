-- The last change of an index is of its last record.
use Rattle.std.proofs.Common.{◌≡◌, ◌≢◌, ◌∙◌, ℕ, ◌+◌, ◌-◌, ◌≤◌, ◌++◌, Bool, true, false, List, [], ◌∷◌, Option, Some, None, inl, inr, refl, sym, ap, subst, arith}
use Rattle.std.specs.Cmp.Lexicographic.{nat_list_cmp_total}
use Rattle.std.specs.FinMap.{insert, empty}
use Rattle.std.proofs.lemmas.Map.Lookups.{exact_bytes}
use Rattle.bep_facts.specs.Maps.{get-insert_here, get-insert_apart}
use Rattle.bep_record.specs.declared.entry.Entry.{Entry}
use Rattle.bep_index.specs.Index.{AreNumbered, IsIndex}
use Rattle.bep_index.specs.Batch.{Rises, last_sequence, with_all}
use Rattle.bep_index.specs.Change.{Change, IsLastChange, given_back}
use Rattle.bep_index.specs.After.{IsAmong}
use Rattle.bep_index.specs.Order.{AreInOrder, IsBefore, IsLater, IsGivenBack}
use Rattle.bep_index.specs.declared.limits.TheConstants.{MAX_SEQUENCE}
use Rattle.bep_index.proofs.MadeFacts.{is_in_all, records_are_found}
use Rattle.bep_index.proofs.RecordsFacts.{same_name, equal_from_same_name, clash}
use Rattle.bep_index.proofs.OrderFacts.{one_by_name}
use Rattle.bep_index.proofs.MoveFacts.{last_sequence-push}
use Rattle.bep_index.proofs.PutFacts.{last_within}

-- the next number is above all
pub next_is_later_than_all : (sequence : ℕ) (es : List Entry) (e : Entry) → AreInOrder es → AreNumbered sequence (with_all empty es) → sequence ≤ MAX_SEQUENCE → sequence ≢ MAX_SEQUENCE → e.sequence ≡ sequence + 1 → IsLater es e
next_is_later_than_all sequence es e order numbered within not_full next =
    let last = last_within sequence es order.names numbered in
    record { above = omega arith; within = omega arith }

-- of records that rise, the one of the greatest number is the last
greatest_is_last : (low : ℕ) (es : List Entry) (x : Entry) → Rises low es → IsAmong x es → ((y : Entry) → IsAmong y es → y.sequence ≤ x.sequence) → (rest : List Entry) × (e : Entry) × (es ≡ rest ++ e ∷ []) × (e ≡ x)
greatest_is_last low [] x rises none most = absurd none
greatest_is_last low (e ∷ []) x rises (inl q) most = ([], e, refl, sym q)
greatest_is_last low (e ∷ []) x rises (inr none) most = absurd none
greatest_is_last low (e ∷ f ∷ es) x rises (inl q) most =
    let above = rises.2.0 in
    let below = most f (inr (inl refl)) in
    let same = ap (λ (z : Entry). z.sequence) q in
    absurd (omega arith)
greatest_is_last low (e ∷ f ∷ es) x rises (inr h) most =
    let more = greatest_is_last e.sequence (f ∷ es) x rises.2 h (λ y k. most y (inr k)) in
    (e ∷ more.0, more.1, ap (λ xs. e ∷ xs) more.2, more.3)

module _ (change : Change) (id sequence : ℕ) (es : List Entry) (order : AreInOrder es) (is : IsIndex (record { id = id; sequence = sequence; records = with_all empty es }))
    (last : IsLastChange change (record { id = id; sequence = sequence; records = with_all empty es })) where
  abbrev given : Entry
  given = last.given.0

  among : IsAmong given es × (given.name ≡ change.name)
  among = (records_are_found es change.name given order.names).0 last.given.1.0

  number : given.sequence ≡ sequence
  number = last.given.1.1 ∙ last.last

  at_most : (x : Entry) → IsAmong x es → x.sequence ≤ given.sequence
  at_most x h = let n = (is.numbered x.name x (is_in_all empty es x order.names h)).2 in let same = number in omega arith

  at_end : (rest : List Entry) × (e : Entry) × (es ≡ rest ++ e ∷ []) × (e ≡ given)
  at_end = greatest_is_last 0 es given order.rises among.0 at_most

  last_number : last_sequence 0 es ≡ sequence
  last_number = ap (last_sequence 0) at_end.2 ∙ last_sequence-push 0 at_end.0 at_end.1 ∙ ap (λ (e : Entry). e.sequence) at_end.3 ∙ number

  module _ (old : Entry) (before : IsIndex (record { id = id; sequence = sequence - 1; records = insert (with_all empty es) change.name old })) where
    old_is : (old.name ≡ change.name) × (1 ≤ old.sequence) × (old.sequence ≤ sequence - 1)
    old_is = before.numbered change.name old (get-insert_here nat_list_cmp_total exact_bytes (with_all empty es) change.name old)

    own : (other : Entry) → IsAmong other es → other.sequence ≢ old.sequence
    own other h same = cases (same_name other.name change.name) refl
      where
        cases : (b : Bool) → same_name other.name change.name ≡ b → ⊥
        cases true tied =
            let one = one_by_name es order.names other given h among.0 (equal_from_same_name other.name change.name tied ∙ sym among.1) in
            let n = ap (λ (e : Entry). e.sequence) one ∙ number in
            let below = old_is.2 in
            let positive = old_is.1 in
            omega arith
        cases false apart =
            let there = get-insert_apart nat_list_cmp_total exact_bytes (with_all empty es) change.name old other.name (λ q. clash other.name change.name q apart) ∙ is_in_all empty es other order.names h in
            clash other.name change.name (before.distinct other.name change.name other old there (get-insert_here nat_list_cmp_total exact_bytes (with_all empty es) change.name old) same) apart

    IsBefore-old : IsBefore es change.name (Some old)
    IsBefore-old = (old_is.0, old_is.1, (let below = old_is.2 in let positive = old_is.1 in let n = last_number in omega arith), own)

  was : (o : Option Entry) → change.before ≡ o → IsBefore es change.name o
  was None same = tt
  was (Some old) same = IsBefore-old old (subst (λ o. IsIndex (record { id = id; sequence = sequence - 1; records = given_back (with_all empty es) change.name o })) same last.before)

  pub is_given_back : IsGivenBack es change.name change.before
  is_given_back = record { last = (at_end.0, at_end.1, at_end.2, ap (λ (e : Entry). e.name) at_end.3 ∙ among.1); before = was change.before refl }
