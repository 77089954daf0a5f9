-- A list of records by rising sequence is the records of its map in order.
use Rattle.std.proofs.Common.{◌≡◌, ◌∙◌, inl, inr, ℕ, ◌≤◌, ◌&&◌, Bool, true, false, cond, List, [], ◌∷◌, map, Option, Some, None, true≢false, refl, sym, ap, subst, arith}
use Rattle.std.proofs.Math.Dec.{T}
use Rattle.std.specs.declared.cmp.Ordering.{Ordering}
use Rattle.std.specs.declared.cmp.Ordering.TheVariants.{Less}
use Rattle.std.specs.Ordering.{nat_cmp, eq_by_cmp, is_eq, is_lt}
use Rattle.std.specs.Cmp.{IsTotalOrder, nat_cmp_total, nat_cmp_is}
use Rattle.std.specs.Cmp.Lexicographic.{nat_list_cmp_total}
use Rattle.std.specs.FinMap.{IsAntisymmetric, nat_cmp-IsAntisymmetric, find, is_sorted, empty, values, from_sorted, get-from_entries, get-from_sorted, entries-from_sorted, same_map}
use Rattle.std.specs.FinMap.Entries.{below_all}
use Rattle.std.proofs.lemmas.Cmp.{tied_itself}
use Rattle.std.proofs.lemmas.Map.Lookups.{exact_bytes}
use Rattle.std.proofs.lemmas.Option.{same_Some, none-some}
use Rattle.bep_facts.specs.Maps.{same_key}
use Rattle.bep_facts.specs.Options.{none_from_no_value}
use Rattle.bep_facts.specs.Values.{value_at_key, key_of_value}
use Rattle.bep_record.specs.declared.entry.Entry.{Entry}
use Rattle.bep_index.specs.Batch.{Rises, HasNo, NamesDiffer, with_all}
use Rattle.bep_index.specs.After.{IsAmong}
use Rattle.bep_index.specs.Order.{with_sequences, by_sequence, in_order, AreInOrder}
use Rattle.bep_index.proofs.LawFacts.{among_above}
use Rattle.bep_index.proofs.MadeFacts.{is_in_all, records_are_found}
use Rattle.bep_index.proofs.RecordsFacts.{among_is_contained}

-- records that rise have their own sequences
pub one_by_sequence : (low : ℕ) (es : List Entry) (x y : Entry) → Rises low es → IsAmong x es → IsAmong y es → x.sequence ≡ y.sequence → x ≡ y
one_by_sequence low [] x y rises none other same = absurd none
one_by_sequence low (e ∷ es) x y rises (inl p) (inl q) same = p ∙ sym q
one_by_sequence low (e ∷ es) x y rises (inl p) (inr q) same =
    let above = among_above e.sequence es y rises.2 q in let s = ap (λ (z : Entry). z.sequence) p in absurd (omega arith)
one_by_sequence low (e ∷ es) x y rises (inr p) (inl q) same =
    let above = among_above e.sequence es x rises.2 p in let s = ap (λ (z : Entry). z.sequence) q in absurd (omega arith)
one_by_sequence low (e ∷ es) x y rises (inr p) (inr q) same = one_by_sequence e.sequence es x y rises.2 p q same

-- ---- what is found among records under a key

module _ {K : Type 0} {R : K → K → Ordering} (total : IsTotalOrder R) (exact : IsAntisymmetric R) (key : Entry → K) where
  abbrev pub keyed : List Entry → List (K × Entry)
  keyed es = map (λ e. (key e, e)) es

  pub found_by_key : (es : List Entry) (q : K) (x : Entry) → find R q (keyed es) ≡ Some x → IsAmong x es × (key x ≡ q)
  found_by_key [] q x found = absurd (none-some x found)
  found_by_key (e ∷ es) q x found = cases (eq_by_cmp R q (key e)) refl (found_by_key es q x) found
    where
      cases : (b : Bool) → eq_by_cmp R q (key e) ≡ b → (find R q (keyed es) ≡ Some x → IsAmong x es × (key x ≡ q)) → cond b (Some e) (find R q (keyed es)) ≡ Some x → IsAmong x (e ∷ es) × (key x ≡ q)
      cases true tied later is = let same = same_Some e x is in (inl (sym same), ap key (sym same) ∙ sym (same_key exact q (key e) tied))
      cases false apart later is = let more = later is in (inr more.0, more.1)

  pub is_found_by_key : (es : List Entry) (x : Entry) → ((y z : Entry) → IsAmong y es → IsAmong z es → key y ≡ key z → y ≡ z) → IsAmong x es → find R (key x) (keyed es) ≡ Some x
  is_found_by_key [] x own none = absurd none
  is_found_by_key (e ∷ es) x own there = cases (eq_by_cmp R (key x) (key e)) refl (is_found_by_key es x (λ y z h k. own y z (inr h) (inr k))) there
    where
      cases : (b : Bool) → eq_by_cmp R (key x) (key e) ≡ b → (IsAmong x es → find R (key x) (keyed es) ≡ Some x) → IsAmong x (e ∷ es) → cond b (Some e) (find R (key x) (keyed es)) ≡ Some x
      cases true tied later h = ap Some (own e x (inl refl) h (sym (same_key exact (key x) (key e) tied)))
      cases false apart later (inl q) = absurd (true≢false (sym (ap (λ k. is_eq (R k (key e))) (ap key q) ∙ ap is_eq (tied_itself total (key e))) ∙ apart))
      cases false apart later (inr more) = later more

-- two answers that tell the same are equal
pub same_answer : {X : Type 0} (one other : Option X) → ((x : X) → one ≡ Some x → other ≡ Some x) → ((x : X) → other ≡ Some x → one ≡ Some x) → one ≡ other
same_answer None other there back = sym (none_from_no_value other (λ x is. none-some x (back x is)))
same_answer (Some x) other there back = sym (there x refl)

-- ---- the records of a map, in order

both : (a b : Bool) → T a → T b → T (a && b)
both true b p q = q
both false b p q = p

below : (n low : ℕ) (es : List Entry) → n ≤ low → Rises low es → T (below_all nat_cmp n (with_sequences es))
below n low [] le rises = tt
below n low (e ∷ es) le rises =
    let above = rises.0 in
    both _ _ (subst (λ r. T (is_lt r)) (nat_cmp_is n e.sequence Less (omega arith)) tt) (below n e.sequence es (omega arith) rises.2)

rising : (low : ℕ) (es : List Entry) → Rises low es → T (is_sorted nat_cmp (with_sequences es))
rising low [] rises = tt
rising low (e ∷ es) rises = both _ _ (below e.sequence e.sequence es (omega arith) rises.2) (rising e.sequence es rises.2)

values-with_sequences : (es : List Entry) → map (λ e. e.1) (with_sequences es) ≡ es
values-with_sequences [] = refl
values-with_sequences (e ∷ es) = ap (λ more. e ∷ more) (values-with_sequences es)

module _ (es : List Entry) (order : AreInOrder es) where
  abbrev all : List Entry
  all = values (with_all empty es)

  among_all : (x : Entry) → IsAmong x all → IsAmong x es
  among_all x h =
      let found = key_of_value nat_list_cmp_total exact_bytes (with_all empty es) x ((among_is_contained x all).0 h) in
      ((records_are_found es found.0 x order.names).0 found.1).0

  all_among : (x : Entry) → IsAmong x es → IsAmong x all
  all_among x h = (among_is_contained x all).1 (value_at_key (with_all empty es) x.name x (is_in_all empty es x order.names h))

  abbrev sequence_of : Entry → ℕ
  sequence_of e = e.sequence

  own : (x y : Entry) → IsAmong x es → IsAmong y es → x.sequence ≡ y.sequence → x ≡ y
  own x y p q same = one_by_sequence 0 es x y order.rises p q same

  same_found : (q : ℕ) → find nat_cmp q (with_sequences all) ≡ find nat_cmp q (with_sequences es)
  same_found q = same_answer _ _
      (λ x is.
      let found = found_by_key nat_cmp_total nat_cmp-IsAntisymmetric sequence_of all q x is in
      subst (λ n. find nat_cmp n (with_sequences es) ≡ Some x) found.1 (is_found_by_key nat_cmp_total nat_cmp-IsAntisymmetric sequence_of es x own (among_all x found.0)))
      (λ x is.
      let found = found_by_key nat_cmp_total nat_cmp-IsAntisymmetric sequence_of es q x is in
      subst (λ n. find nat_cmp n (with_sequences all) ≡ Some x) found.1
      (is_found_by_key nat_cmp_total nat_cmp-IsAntisymmetric sequence_of all x (λ y z h k same. own y z (among_all y h) (among_all z k) same) (all_among x found.0)))

  pub in_order-with_all : in_order (with_all empty es) ≡ es
  in_order-with_all =
      let sorted = rising 0 es order.rises in
      let same : by_sequence (with_all empty es) ≡ from_sorted {R = nat_cmp} (with_sequences es) = same_map nat_cmp_total nat_cmp-IsAntisymmetric _ _ (λ q.
      get-from_entries nat_cmp_total (with_sequences all) q ∙ same_found q ∙ sym (get-from_sorted nat_cmp (with_sequences es) q sorted)) in
      ap values same ∙ ap (map (λ e. e.1)) (entries-from_sorted nat_cmp (with_sequences es) sorted) ∙ values-with_sequences es

-- ---- names

pub none_of_name : (es : List Entry) (x : Entry) (name : List ℕ) → HasNo name es → IsAmong x es → x.name ≡ name → ⊥
none_of_name [] x name none there same = there
none_of_name (e ∷ es) x name none (inl q) same = none.0 (ap (λ (z : Entry). z.name) (sym q) ∙ same)
none_of_name (e ∷ es) x name none (inr more) same = none_of_name es x name none.1 more same

-- records of different names have their own names
pub one_by_name : (es : List Entry) → NamesDiffer es → (x y : Entry) → IsAmong x es → IsAmong y es → x.name ≡ y.name → x ≡ y
one_by_name [] names x y none other same = absurd none
one_by_name (e ∷ es) names x y (inl p) (inl q) same = p ∙ sym q
one_by_name (e ∷ es) names x y (inl p) (inr q) same = absurd (none_of_name es y e.name names.0 q (sym same ∙ ap (λ (z : Entry). z.name) p))
one_by_name (e ∷ es) names x y (inr p) (inl q) same = absurd (none_of_name es x e.name names.0 p (same ∙ ap (λ (z : Entry). z.name) q))
one_by_name (e ∷ es) names x y (inr p) (inr q) same = one_by_name es names.1 x y p q same
