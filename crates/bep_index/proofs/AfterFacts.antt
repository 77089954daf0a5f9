-- What is after a sequence: the beginning of all records above it.
use Rattle.std.proofs.Common.{◌≡◌, ◌⊎◌, ◌∙◌, inl, inr, ℕ, suc, zero, ◌<◌, ◌≤◌, Bool, true, false, cond, nat_le, List, [], ◌∷◌, length, take, drop, refl, sym, ap, subst, ⊎_elim, arith}
use Rattle.std.specs.FinMap.{get, empty}
use Rattle.std.proofs.lemmas.Option.{same_Some}
use Rattle.bep_map.specs.NameMap.{ByName}
use Rattle.bep_record.specs.declared.entry.Entry.{Entry}
use Rattle.bep_index.specs.Listing.{IsRecord}
use Rattle.bep_index.specs.Batch.{Rises, HasNo, NamesDiffer, IsBatch, last_sequence, with_all}
use Rattle.bep_index.specs.Order.{AreInOrder, count_up_to}
use Rattle.bep_index.specs.After.{IsAmong, AreRecords, IsStretch, IsAfter}
use Rattle.bep_index.specs.declared.limits.TheConstants.{MAX_RECORDS}
use Rattle.bep_index.proofs.LawFacts.{among_above, last_from, from_leb_true, from_leb_false}
use Rattle.bep_index.proofs.MadeFacts.{is_in_all, records_are_found}

-- ---- how many there are up to a sequence

pub count_none : (sequence low : ℕ) (es : List Entry) → Rises low es → sequence ≤ low → count_up_to sequence es ≡ 0
count_none sequence low [] rises below = refl
count_none sequence low (e ∷ es) rises below =
    let above = rises.0 in
    cases (nat_le e.sequence sequence) refl (count_none sequence e.sequence es rises.2 (omega arith))
  where
    cases : (b : Bool) → nat_le e.sequence sequence ≡ b → count_up_to sequence es ≡ 0 → cond b (suc (count_up_to sequence es)) (count_up_to sequence es) ≡ 0
    cases true t none = let within = from_leb_true _ _ t in let above = rises.0 in absurd (omega arith)
    cases false t none = none

pub count_le : (sequence : ℕ) (es : List Entry) → count_up_to sequence es ≤ length es
count_le sequence [] = omega arith
count_le sequence (e ∷ es) = cases (nat_le e.sequence sequence) (count_le sequence es)
  where
    cases : (b : Bool) → count_up_to sequence es ≤ length es → cond b (suc (count_up_to sequence es)) (count_up_to sequence es) ≤ suc (length es)
    cases true most = omega arith
    cases false most = omega arith

-- ---- what is behind that place

abbrev rest : ℕ → List Entry → List Entry
rest sequence es = drop (count_up_to sequence es) es

-- the first is above the sequence, and so are all
none_yet : (sequence low : ℕ) (e : Entry) (es : List Entry) → Rises low (e ∷ es) → nat_le e.sequence sequence ≡ false → rest sequence (e ∷ es) ≡ e ∷ es
none_yet sequence low e es rises t =
    let above = from_leb_false _ _ t in
    ap (λ b. drop (cond b (suc (count_up_to sequence es)) (count_up_to sequence es)) (e ∷ es)) t ∙ ap (λ n. drop n (e ∷ es)) (count_none sequence e.sequence es rises.2 (omega arith))

passed : (sequence : ℕ) (e : Entry) (es : List Entry) → nat_le e.sequence sequence ≡ true → rest sequence (e ∷ es) ≡ rest sequence es
passed sequence e es t = ap (λ b. drop (cond b (suc (count_up_to sequence es)) (count_up_to sequence es)) (e ∷ es)) t

rest_rises : (sequence low : ℕ) (es : List Entry) → Rises low es → low ≤ sequence → Rises sequence (rest sequence es)
rest_rises sequence low [] rises below = tt
rest_rises sequence low (e ∷ es) rises below = cases (nat_le e.sequence sequence) refl (rest_rises sequence e.sequence es rises.2)
  where
    cases : (b : Bool) → nat_le e.sequence sequence ≡ b → (e.sequence ≤ sequence → Rises sequence (rest sequence es)) → Rises sequence (rest sequence (e ∷ es))
    cases true t later = subst (Rises sequence) (sym (passed sequence e es t)) (later (from_leb_true _ _ t))
    cases false t later = subst (Rises sequence) (sym (none_yet sequence low e es rises t)) (from_leb_false _ _ t, rises.1, rises.2)

among_rest : (sequence low : ℕ) (es : List Entry) (x : Entry) → Rises low es → IsAmong x es → sequence < x.sequence → IsAmong x (rest sequence es)
among_rest sequence low [] x rises none above = absurd none
among_rest sequence low (e ∷ es) x rises there above = cases (nat_le e.sequence sequence) refl (λ more. among_rest sequence e.sequence es x rises.2 more above) there
  where
    cases : (b : Bool) → nat_le e.sequence sequence ≡ b → (IsAmong x es → IsAmong x (rest sequence es)) → IsAmong x (e ∷ es) → IsAmong x (rest sequence (e ∷ es))
    cases true t later (inl q) = let within = from_leb_true _ _ t in let s = ap (λ (y : Entry). y.sequence) q in absurd (omega arith)
    cases true t later (inr more) = subst (IsAmong x) (sym (passed sequence e es t)) (later more)
    cases false t later among = subst (IsAmong x) (sym (none_yet sequence low e es rises t)) among

among_drop : (n : ℕ) (es : List Entry) (x : Entry) → IsAmong x (drop n es) → IsAmong x es
among_drop zero es x h = h
among_drop (suc n) [] x h = h
among_drop (suc n) (e ∷ es) x h = inr (among_drop n es x h)

-- ---- the beginning of what is behind it

among_take : (n : ℕ) (es : List Entry) (x : Entry) → IsAmong x (take n es) → IsAmong x es
among_take zero es x h = absurd h
among_take (suc n) [] x h = h
among_take (suc n) (e ∷ es) x (inl q) = inl q
among_take (suc n) (e ∷ es) x (inr h) = inr (among_take n es x h)

take_rises : (n low : ℕ) (es : List Entry) → Rises low es → Rises low (take n es)
take_rises zero low es h = tt
take_rises (suc n) low [] h = tt
take_rises (suc n) low (e ∷ es) h = (h.0, h.1, take_rises n e.sequence es h.2)

-- each is among the first ones, or above the last of these
among_first : (n low : ℕ) (es : List Entry) (x : Entry) → Rises low es → IsAmong x es → IsAmong x (take n es) ⊎ (last_sequence low (take n es) < x.sequence)
among_first zero low es x rises h = inr (among_above low es x rises h)
among_first (suc n) low [] x rises h = absurd h
among_first (suc n) low (e ∷ es) x rises (inl q) = inl (inl q)
among_first (suc n) low (e ∷ es) x rises (inr h) = ⊎_elim (λ first. inl (inr first)) (λ above. inr above) (among_first n e.sequence es x rises.2 h)

take_all_of_few : (n : ℕ) (es : List Entry) → length (take n es) < n → take n es ≡ es
take_all_of_few zero es few = absurd (omega arith)
take_all_of_few (suc n) [] few = refl
take_all_of_few (suc n) (e ∷ es) few = ap (λ more. e ∷ more) (take_all_of_few n es (omega arith))

take_le : (n : ℕ) (es : List Entry) → length (take n es) ≤ n
take_le zero es = omega arith
take_le (suc n) [] = omega arith
take_le (suc n) (e ∷ es) = let le = take_le n es in omega arith

last_most : (low : ℕ) (es : List Entry) (x : Entry) → Rises low es → IsAmong x es → x.sequence ≤ last_sequence low es
last_most low [] x rises h = absurd h
last_most low (e ∷ es) x rises (inl q) = let s = ap (λ (y : Entry). y.sequence) q in let l = last_from e.sequence es rises.2 in omega arith
last_most low (e ∷ es) x rises (inr h) = last_most e.sequence es x rises.2 h

AreRecords-each : (m : ByName Entry) (es : List Entry) → ((x : Entry) → IsAmong x es → IsRecord m x) → AreRecords m es
AreRecords-each m [] each = tt
AreRecords-each m (e ∷ es) each = (each e (inl refl), AreRecords-each m es (λ x h. each x (inr h)))

-- from the place on, as many as are asked
module _ (sequence limit : ℕ) (es : List Entry) (order : AreInOrder es) where
  abbrev found : List Entry
  found = take limit (rest sequence es)

  rises : Rises sequence (rest sequence es)
  rises = rest_rises sequence 0 es order.rises (omega arith)

  recorded : (x : Entry) → IsAmong x found → IsRecord (with_all empty es) x
  recorded x h = is_in_all empty es x order.names (among_drop (count_up_to sequence es) es x (among_take limit (rest sequence es) x h))

  there : (x : Entry) → IsRecord (with_all empty es) x → sequence < x.sequence → IsAmong x (rest sequence es)
  there x is above = among_rest sequence 0 es x order.rises ((records_are_found es x.name x order.names).0 is).0 above

  up_to_last : (x : Entry) → length found < limit → IsRecord (with_all empty es) x → (x.sequence ≤ sequence) ⊎ (sequence < x.sequence) → x.sequence ≤ last_sequence sequence found
  up_to_last x few is (inl below) = let l = last_from sequence found (take_rises limit sequence (rest sequence es) rises) in omega arith
  up_to_last x few is (inr above) =
      subst (λ all. x.sequence ≤ last_sequence sequence all) (sym (take_all_of_few limit (rest sequence es) few))
      (last_most sequence (rest sequence es) x rises (there x is above))

  below_or_above : (a b : ℕ) (t : Bool) → nat_le a b ≡ t → (a ≤ b) ⊎ (b < a)
  below_or_above a b true t = inl (from_leb_true a b t)
  below_or_above a b false t = inr (from_leb_false a b t)

  pub IsAfter-place : IsAfter (with_all empty es) sequence limit found
  IsAfter-place = record {
    run = record {
      rises = take_rises limit sequence (rest sequence es) rises;
      recorded = AreRecords-each (with_all empty es) found recorded;
      whole = λ x is above below.
          ⊎_elim
          (λ first. first)
          (λ later. absurd (omega arith))
          (among_first limit sequence (rest sequence es) x rises (there x is above));
    };
    at_most = take_le limit (rest sequence es);
    ended = λ few x is. up_to_last x few is (below_or_above x.sequence sequence (nat_le x.sequence sequence) refl);
  }

-- ---- a run is a batch

HasNo-above : (m : ByName Entry) (e : Entry) (low : ℕ) (es : List Entry) → IsRecord m e → e.sequence ≤ low → Rises low es → AreRecords m es → HasNo e.name es
HasNo-above m e low [] is below rises recorded = tt
HasNo-above m e low (f ∷ es) is below rises recorded = (
  λ q. let n = ap (λ (x : Entry). x.sequence) (same_Some f e (sym recorded.0 ∙ ap (get m) q ∙ is)) in let above = rises.0 in absurd (omega arith),
  HasNo-above m e f.sequence es is (let above = rises.0 in omega arith) rises.2 recorded.1,
)

NamesDiffer-run : (m : ByName Entry) (low : ℕ) (es : List Entry) → Rises low es → AreRecords m es → NamesDiffer es
NamesDiffer-run m low [] rises recorded = tt
NamesDiffer-run m low (e ∷ es) rises recorded =
    (HasNo-above m e e.sequence es recorded.0 (omega arith) rises.2 recorded.1, NamesDiffer-run m e.sequence es rises.2 recorded.1)

Rises-zero : (low : ℕ) (es : List Entry) → Rises low es → Rises 0 es
Rises-zero low [] h = tt
Rises-zero low (e ∷ es) h = (let above = h.0 in omega arith, h.1, h.2)

pub IsBatch-stretch : (m : ByName Entry) (low : ℕ) (es : List Entry) → IsStretch m low es → length es ≤ MAX_RECORDS → IsBatch es
IsBatch-stretch m low es run few = record {
  few = few;
  rises = Rises-zero low es run.rises;
  names = NamesDiffer-run m low es run.rises run.recorded;
}
