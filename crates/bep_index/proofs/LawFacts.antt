-- A receiver that takes batches in order has the sender's records up to the last sequence.
use Rattle.std.proofs.Common.{◌≡◌, inl, inr, ℕ, ◌<◌, ◌≤◌, Bool, true, false, cond, nat_le, List, [], ◌∷◌, Option, Some, None, refl, sym, ap, ◌∙◌, arith}
use Rattle.std.proofs.lemmas.Bool.Decides.{nat_tests}
use Rattle.std.specs.Ordering.{nat_cmp}
use Rattle.std.specs.Cmp.Lexicographic.{slice_cmp, nat_list_cmp_total}
use Rattle.std.specs.FinMap.{get, insert, empty, get-empty, get-insert, same_map}
use Rattle.std.proofs.lemmas.Map.Lookups.{exact_bytes}
use Rattle.bep_map.specs.NameMap.{ByName}
use Rattle.bep_record.specs.declared.entry.Entry.{Entry}
use Rattle.bep_index.specs.Listing.{Listing, IsRecord}
use Rattle.bep_index.specs.Index.{AreNumbered, IsIndex}
use Rattle.bep_index.specs.Batch.{Rises, last_sequence, with_all}
use Rattle.bep_index.specs.View.{replaced, amended}
use Rattle.bep_index.specs.After.{IsAmong, IsStretch}
use Rattle.bep_index.specs.Laws.{FollowInOrder, after_each, up_to, HoldsUpTo, BatchesBringTheIndex, SamePointSameIndex}
use Rattle.bep_index.proofs.RecordsFacts.{same_name, equal_from_same_name, clash}

-- the map has exactly the records up to the sequence
abbrev Holds : ByName Entry → ℕ → ByName Entry → Type 0
Holds records low m = (name : List ℕ) → get m name ≡ up_to low (get records name)

pub among_above : (low : ℕ) (es : List Entry) (x : Entry) → Rises low es → IsAmong x es → low < x.sequence
among_above low [] x h none = absurd none
among_above low (e ∷ es) x h (inl q) = let s = ap (λ (y : Entry). y.sequence) q in let above = h.0 in omega arith
among_above low (e ∷ es) x h (inr there) = let above = h.0 in let later = among_above e.sequence es x h.2 there in omega arith

pub last_from : (low : ℕ) (es : List Entry) → Rises low es → low ≤ last_sequence low es
last_from low [] h = omega arith
last_from low (e ∷ es) h = let above = h.0 in let later = last_from e.sequence es h.2 in omega arith

IsStretch-tail : (records : ByName Entry) (low : ℕ) (e : Entry) (es : List Entry) → IsStretch records low (e ∷ es) → IsStretch records e.sequence es
IsStretch-tail records low e es run = record {
  rises = run.rises.2;
  recorded = run.recorded.1;
  whole = λ x is above below. later x above (run.whole x is (let first = run.rises.0 in omega arith) below);
} where
  later : (x : Entry) → e.sequence < x.sequence → IsAmong x (e ∷ es) → IsAmong x es
  later x above (inl q) = let s = ap (λ (y : Entry). y.sequence) q in absurd (omega arith)
  later x above (inr there) = there

-- the first of a run is the only record up to its sequence
only_first : (records : ByName Entry) (low : ℕ) (e : Entry) (es : List Entry) → IsStretch records low (e ∷ es) → (x : Entry) → IsRecord records x → low < x.sequence → x.sequence ≤ e.sequence → x ≡ e
only_first records low e es run x is above below = first (run.whole x is above (let l = last_from e.sequence es run.rises.2 in omega arith)) where
  first : IsAmong x (e ∷ es) → x ≡ e
  first (inl q) = q
  first (inr there) = let later = among_above e.sequence es x run.rises.2 there in absurd (omega arith)

pub leb_true : (a b : ℕ) → a ≤ b → nat_le a b ≡ true
leb_true a b h = grind (arith, nat_tests)

pub leb_false : (a b : ℕ) → b < a → nat_le a b ≡ false
leb_false a b h = grind (arith, nat_tests)

pub from_leb_true : (a b : ℕ) → nat_le a b ≡ true → a ≤ b
from_leb_true a b h = grind (arith, nat_tests)

pub from_leb_false : (a b : ℕ) → nat_le a b ≡ false → b < a
from_leb_false a b h = grind (arith, nat_tests)

up_to_within : (low : ℕ) (e : Entry) → e.sequence ≤ low → up_to low (Some e) ≡ Some e
up_to_within low e h = ap (λ b. cond b (Some e) None) (leb_true e.sequence low h)

up_to_above : (low : ℕ) (e : Entry) → low < e.sequence → up_to low (Some e) ≡ None
up_to_above low e h = ap (λ b. cond b (Some e) None) (leb_false e.sequence low h)

holds_one : (records : ByName Entry) (top low : ℕ) (m : ByName Entry) (e : Entry) (es : List Entry) → AreNumbered top records → IsStretch records low (e ∷ es) → Holds records low m → Holds records e.sequence (insert m e.name e)
holds_one records top low m e es numbered run holds name = get-insert nat_list_cmp_total m e.name e name ∙ cases (same_name name e.name) refl where
  other : (o : Option Entry) → get records name ≡ o → same_name name e.name ≡ false → up_to low o ≡ up_to e.sequence o
  other None is apart = refl
  other (Some f) is apart = sides (nat_le f.sequence low) refl (nat_le f.sequence e.sequence) refl where
    sides : (b : Bool) → nat_le f.sequence low ≡ b → (d : Bool) → nat_le f.sequence e.sequence ≡ d → up_to low (Some f) ≡ up_to e.sequence (Some f)
    sides true t d u = let first = run.rises.0 in let l = from_leb_true _ _ t in up_to_within low f l ∙ sym (up_to_within e.sequence f (omega arith))
    sides false t false u = up_to_above low f (from_leb_false _ _ t) ∙ sym (up_to_above e.sequence f (from_leb_false _ _ u))
    sides false t true u =
        let named = (numbered name f is).0 in
        let there : IsRecord records f = ap (get records) named ∙ is in
        let same = only_first records low e es run f there (from_leb_false _ _ t) (from_leb_true _ _ u) in
        absurd (clash name e.name (sym named ∙ ap (λ (x : Entry). x.name) same) apart)

  cases : (b : Bool) → same_name name e.name ≡ b → cond b (Some e) (get m name) ≡ up_to e.sequence (get records name)
  cases true t = sym (ap (λ n. up_to e.sequence (get records n)) (equal_from_same_name name e.name t) ∙ ap (up_to e.sequence) run.recorded.0 ∙ up_to_within e.sequence e (omega arith))
  cases false t = holds name ∙ other (get records name) refl t

holds_all : (records : ByName Entry) (top low : ℕ) (m : ByName Entry) (es : List Entry) → AreNumbered top records → IsStretch records low es → Holds records low m → Holds records (last_sequence low es) (with_all m es)
holds_all records top low m [] numbered run holds = holds
holds_all records top low m (e ∷ es) numbered run holds =
    holds_all records top e.sequence (insert m e.name e) es numbered (IsStretch-tail records low e es run) (holds_one records top low m e es numbered run holds)

holds_nothing : (records : ByName Entry) (top : ℕ) → AreNumbered top records → Holds records 0 empty
holds_nothing records top numbered name = get-empty (slice_cmp nat_cmp) name ∙ none (get records name) refl where
  none : (o : Option Entry) → get records name ≡ o → None ≡ up_to 0 o
  none None is = refl
  none (Some e) is = sym (up_to_above 0 e (let n = (numbered name e is).1 in omega arith))

holds_each : (index view : Listing) (more : List (List Entry)) → IsIndex index → HoldsUpTo index view → FollowInOrder index view.sequence more → HoldsUpTo index (after_each view more)
holds_each index view [] is holds order = holds
holds_each index view (batch ∷ more) is holds order =
    holds_each index (amended view batch) more is (holds_all index.records index.sequence view.sequence view.records batch is.numbered order.0 holds) order.1

pub batches_bring_the_index : BatchesBringTheIndex
batches_bring_the_index index view first more is order =
    holds_each index (replaced view first) more is
    (holds_all index.records index.sequence 0 empty first is.numbered order.0 (holds_nothing index.records index.sequence is.numbered)) order.1

all_up_to : (records : ByName Entry) (top : ℕ) (name : List ℕ) → AreNumbered top records → up_to top (get records name) ≡ get records name
all_up_to records top name numbered = cases (get records name) refl where
  cases : (o : Option Entry) → get records name ≡ o → up_to top o ≡ o
  cases None is = refl
  cases (Some e) is = up_to_within top e (numbered name e is).2

pub same_point_same_index : SamePointSameIndex
same_point_same_index index view is holds same_id same_sequence =
    let records : view.records ≡ index.records = same_map nat_list_cmp_total exact_bytes _ _ (λ name.
    holds name ∙ ap (λ n. up_to n (get index.records name)) same_sequence ∙ all_up_to index.records index.sequence name is.numbered) in
    λ i. record { id = same_id i; sequence = same_sequence i; records = records i }
