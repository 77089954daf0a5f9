-- Keys of a set or map in order, and what is among them after one more was put in.
use Rattle.std.proofs.Common.{◌≡◌, ◌≢◌, ◌∙◌, ℕ, suc, ◌<◌, ◌≤◌, ◌||◌, ◌++◌, Bool, true, false, List, [], ◌∷◌, length, Contains, is_some, refl, sym, ap, subst, arith}
use Rattle.std.specs.declared.cmp.Ordering.{Ordering}
use Rattle.std.specs.declared.cmp.Ordering.TheVariants.{Less, Equal, Greater}
use Rattle.std.specs.List.{list_any, AllByRecursion}
use Rattle.std.specs.List.Sorted.{IsStrictlySortedBy}
use Rattle.std.specs.Ordering.{match_ordering, nat_cmp, is_eq, ordering_reverse}
use Rattle.std.specs.Cmp.{IsTotalOrder, nat_cmp_total}
use Rattle.std.specs.Map.{keys_of, lookup}
use Rattle.std.specs.BTreeMap.{is_at, insert_entry}
use Rattle.std.specs.BTreeSet.{insert_key}
use Rattle.std.proofs.lemmas.Cmp.{tied_itself, eq_by_cmp_equiv}
use Rattle.std.proofs.lemmas.List.{length_push}
use Rattle.std.proofs.lemmas.List.Folds.{list_any-append}
use Rattle.std.proofs.lemmas.Map.Keys.{IsDistinct-push, IsDistinct-from_sorted}
use Rattle.std.proofs.lemmas.Map.Lookups.{CmpEqualImpliesEq, exact_unsigned}
use Rattle.std.proofs.lemmas.Map.Made.{length-le_from_is_member, is_some-lookup}
use Rattle.std.proofs.lemmas.Map.Views.{tells_apart, list_any-from_Contains}
use Rattle.bep_facts.specs.Rising.{below_all}

-- ---- tests

swapped : (a b c : Bool) → (a || (b || c)) ≡ (b || (a || c))
swapped true true c = refl
swapped true false c = refl
swapped false b c = refl

again : (b c : Bool) → (b || c) ≡ (b || (b || c))
again true c = refl
again false c = refl

pub neither : (a b : Bool) → a ≡ false → b ≡ false → (a || b) ≡ false
neither a b left right = ap (λ x. x || b) left ∙ right

pub or_second : (a b : Bool) → b ≡ true → (a || b) ≡ true
or_second true b is = refl
or_second false b is = is

pub or_first : (a b : Bool) → a ≡ true → (a || b) ≡ true
or_first a b is = ap (λ x. x || b) is

-- ---- what is there

pub length_insert : {K : Type 0} (R : K → K → Ordering) (ks : List K) (k : K) → length (insert_key R ks k) ≤ suc (length ks)
length_insert R [] k = omega arith
length_insert R (x ∷ ks) k = cases (R k x) (length_insert R ks k)
  where
    cases : (r : Ordering) → length (insert_key R ks k) ≤ suc (length ks) → length (match_ordering r (k ∷ x ∷ ks) (x ∷ ks) (x ∷ insert_key R ks k)) ≤ suc (suc (length ks))
    cases Less rest = omega arith
    cases Equal rest = omega arith
    cases Greater rest = omega arith

all_insert : {K : Type 0} (R : K → K → Ordering) (P : K → Type 0) (ks : List K) (k : K) → AllByRecursion P ks → P k → AllByRecursion P (insert_key R ks k)
all_insert R P [] k all here = (here, tt)
all_insert R P (x ∷ ks) k all here = cases (R k x) (all_insert R P ks k all.1 here)
  where
    cases : (r : Ordering) → AllByRecursion P (insert_key R ks k) → AllByRecursion P (match_ordering r (k ∷ x ∷ ks) (x ∷ ks) (x ∷ insert_key R ks k))
    cases Less rest = (here, all)
    cases Equal rest = all
    cases Greater rest = (all.0, rest)

keys_insert : {K X : Type 0} (R : K → K → Ordering) (es : List (K × X)) (k : K) (v : X) → keys_of (insert_entry R es k v) ≡ insert_key R (keys_of es) k
keys_insert R [] k v = refl
keys_insert R (e ∷ es) k v = cases (R k e.0) (keys_insert R es k v)
  where
    cases : (r : Ordering) → keys_of (insert_entry R es k v) ≡ insert_key R (keys_of es) k → keys_of (match_ordering r ((k, v) ∷ e ∷ es) ((e.0, v) ∷ es) (e ∷ insert_entry R es k v)) ≡ match_ordering r (k ∷ e.0 ∷ keys_of es) (e.0 ∷ keys_of es) (e.0 ∷ insert_key R (keys_of es) k)
    cases Less rest = refl
    cases Equal rest = refl
    cases Greater rest = ap (λ ks. e.0 ∷ ks) rest

module _ {K : Type 0} {R : K → K → Ordering} where
  -- a key that is another isn't at this one
  pub not_at : CmpEqualImpliesEq R → (q k : K) → q ≢ k → is_at (R q) k ≡ false
  not_at exact q k apart = cases (is_at (R q) k) refl
    where
      cases : (b : Bool) → is_at (R q) k ≡ b → is_at (R q) k ≡ false
      cases true is = absurd (apart (tells_apart exact q k is))
      cases false is = is

  pub at_itself : IsTotalOrder R → (k : K) → is_at (R k) k ≡ true
  at_itself total k = ap is_eq (tied_itself total k)

  pub any_insert : CmpEqualImpliesEq R → (ks : List K) (k q : K) → list_any (is_at (R q)) (insert_key R ks k) ≡ (is_at (R q) k || list_any (is_at (R q)) ks)
  any_insert exact [] k q = refl
  any_insert exact (x ∷ ks) k q = cases (R k x) refl (any_insert exact ks k q)
    where
      cases : (r : Ordering) → R k x ≡ r → list_any (is_at (R q)) (insert_key R ks k) ≡ (is_at (R q) k || list_any (is_at (R q)) ks) → list_any (is_at (R q)) (match_ordering r (k ∷ x ∷ ks) (x ∷ ks) (x ∷ insert_key R ks k)) ≡ (is_at (R q) k || (is_at (R q) x || list_any (is_at (R q)) ks))
      cases Less e rest = refl
      cases Equal e rest =
          again (is_at (R q) x) (list_any (is_at (R q)) ks)
          ∙ ap (λ y. is_at (R q) y || (is_at (R q) x || list_any (is_at (R q)) ks)) (sym (exact k x e))
      cases Greater e rest =
          ap (λ b. is_at (R q) x || b) rest ∙ swapped (is_at (R q) x) (is_at (R q) k) (list_any (is_at (R q)) ks)

  sorted_step : IsTotalOrder R → (x : K) (ks : List K) (k : K) → IsStrictlySortedBy R (x ∷ ks) → IsStrictlySortedBy R (insert_key R ks k) → (r : Ordering) → R k x ≡ r → IsStrictlySortedBy R (match_ordering r (k ∷ x ∷ ks) (x ∷ ks) (x ∷ insert_key R ks k))
  unfolding IsStrictlySortedBy
  sorted_step total x ks k sorted rest Less e = ((e, below_all total k x ks e sorted.0), sorted)
  sorted_step total x ks k sorted rest Equal e = sorted
  sorted_step total x ks k sorted rest Greater e =
      (all_insert R (λ y. R x y ≡ Less) ks k sorted.0 (total.antisymm x k ∙ ap ordering_reverse e), rest)

  pub sorted_insert : IsTotalOrder R → (ks : List K) (k : K) → IsStrictlySortedBy R ks → IsStrictlySortedBy R (insert_key R ks k)
  unfolding IsStrictlySortedBy
  sorted_insert total [] k sorted = (tt, tt)
  sorted_insert total (x ∷ ks) k sorted = sorted_step total x ks k sorted (sorted_insert total ks k sorted.1) (R k x) refl

  pub found_insert : {X : Type 0} → CmpEqualImpliesEq R → (es : List (K × X)) (k q : K) (v : X) → is_some (lookup (is_at (R q)) (insert_entry R es k v)) ≡ (is_at (R q) k || is_some (lookup (is_at (R q)) es))
  found_insert exact es k q v =
      is_some-lookup (is_at (R q)) (insert_entry R es k v)
      ∙ ap (list_any (is_at (R q))) (keys_insert R es k v)
      ∙ any_insert exact (keys_of es) k q
      ∙ ap (λ b. is_at (R q) k || b) (sym (is_some-lookup (is_at (R q)) es))

-- ---- numbers among others

-- each of the keys is one of these
abbrev pub AreAmong : List ℕ → List ℕ → Type 0
AreAmong numbers keys =
    (q : ℕ) → list_any (is_at (nat_cmp q)) keys ≡ true → list_any (is_at (nat_cmp q)) numbers ≡ true

one_among : (numbers : List ℕ) (n : ℕ) → Contains numbers n → list_any (is_at (nat_cmp n)) numbers ≡ true
one_among numbers n there = list_any-from_Contains (eq_by_cmp_equiv nat_cmp_total) n numbers there

-- with one more of these
pub among_insert : (numbers keys : List ℕ) (n : ℕ) → AreAmong numbers keys → Contains numbers n → AreAmong numbers (insert_key nat_cmp keys n)
among_insert numbers keys n among there q has = cases (is_at (nat_cmp q) n) refl (sym (any_insert exact_unsigned keys n q) ∙ has)
  where
    cases : (b : Bool) → is_at (nat_cmp q) n ≡ b → (b || list_any (is_at (nat_cmp q)) keys) ≡ true → list_any (is_at (nat_cmp q)) numbers ≡ true
    cases true is some = subst (λ m. list_any (is_at (nat_cmp m)) numbers ≡ true) (sym (tells_apart exact_unsigned q n is)) (one_among numbers n there)
    cases false is some = among q some

-- where one of them isn't among the keys, these are fewer
pub fewer : (numbers keys : List ℕ) (n : ℕ) → IsStrictlySortedBy nat_cmp keys → AreAmong numbers keys → Contains numbers n → list_any (is_at (nat_cmp n)) keys ≡ false → length keys < length numbers
fewer numbers keys n sorted among there new =
    let laws = eq_by_cmp_equiv nat_cmp_total in
    let distinct = IsDistinct-push laws keys n (IsDistinct-from_sorted nat_cmp keys sorted) new in
    let le = length-le_from_is_member laws (keys ++ n ∷ []) numbers distinct more in
    let many = length_push keys n in
    omega arith
  where
    cases : (q : ℕ) (b : Bool) → is_at (nat_cmp q) n ≡ b → (list_any (is_at (nat_cmp q)) keys || (b || false)) ≡ true → list_any (is_at (nat_cmp q)) numbers ≡ true
    cases q true is some = subst (λ m. list_any (is_at (nat_cmp m)) numbers ≡ true) (sym (tells_apart exact_unsigned q n is)) (one_among numbers n there)
    cases q false is some = among q (first (list_any (is_at (nat_cmp q)) keys) some)
      where
        first : (b : Bool) → (b || false) ≡ true → b ≡ true
        first true is = refl
        first false is = is

    more : (q : ℕ) → list_any (is_at (nat_cmp q)) (keys ++ n ∷ []) ≡ true → list_any (is_at (nat_cmp q)) numbers ≡ true
    more q has = cases q (is_at (nat_cmp q) n) refl (sym (list_any-append (is_at (nat_cmp q)) keys (n ∷ [])) ∙ has)
