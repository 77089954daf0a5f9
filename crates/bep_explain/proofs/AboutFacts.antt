-- What is about one name in a list that is sorted by folders and names.
use Rattle.std.proofs.Common.{◌≡◌, ◌↔◌, ◌≤◌, ◌<◌, ◌+◌, ◌-◌, ℕ, Bool, true, false, true≢false, List, Contains, length, get_or, take, drop, refl, sym, ap, subst, ◌∙◌, ⊎_elim, arith}
use Rattle.std.specs.List.Sorted.{IsSortedByKey, IsPartitionedBy, IsPartitionPoint}
use Rattle.std.specs.declared.cmp.Ordering.{Ordering}
use Rattle.std.specs.declared.cmp.Ordering.TheVariants.{Less, Equal, Greater}
use Rattle.std.specs.Ordering.{is_lt, is_le, ordering_reverse}
use Rattle.std.specs.Cmp.{IsStrictWeakOrder}
use Rattle.std.proofs.lemmas.Bool.{cases_lt}
use Rattle.std.proofs.lemmas.Cmp.{tied_itself}
use Rattle.std.proofs.lemmas.List.{length-take, length-drop, get_or-take, get_or-drop}
use Rattle.std.proofs.lemmas.List.Sorted.{ranks_by, sorted_far}
use Rattle.bep_facts.specs.Orders.{texts_total, texts_exact}
use Rattle.bep_model.specs.Tables.{Folder, FileName}
use Rattle.bep_model.specs.Settled.{key_cmp}

abbrev pub Key : Type 0
Key = Folder × FileName

-- ---- the order of names
-- the one isn't below the other
abbrev IsNotUnder : Key → Key → Type 0
IsNotUnder one other = is_lt (key_cmp one other) ≡ false

order : IsStrictWeakOrder (λ (one other : Key). is_lt (key_cmp one other))
order = ranks_by texts_total (λ (k : Key). k)

up_to_turned : (o p : Ordering) → o ≡ ordering_reverse p → is_le o ≡ true → is_lt p ≡ false
up_to_turned o Less e le = let turned : is_le o ≡ false = ap is_le e in absurd (true≢false (sym le ∙ turned))
up_to_turned o Equal e le = refl
up_to_turned o Greater e le = refl

turned_up_to : (o p : Ordering) → o ≡ ordering_reverse p → is_lt p ≡ false → is_le o ≡ true
turned_up_to o Less e not = absurd (true≢false not)
turned_up_to o Equal e not = ap is_le e
turned_up_to o Greater e not = ap is_le e

neither : (o : Ordering) → is_lt o ≡ false → is_le o ≡ true → o ≡ Equal
neither Less not le = absurd (true≢false not)
neither Equal not le = refl
neither Greater not le = absurd (true≢false (sym le))

not_true : (b : Bool) → ¬ (b ≡ false) → b ≡ true
not_true true apart = refl
not_true false apart = absurd (apart refl)

module _ {X : Type 0} (key : X → Key) (at : Key) where
  -- whether it is below the name, and whether it isn't above
  abbrev pub below : X → Bool
  below x = is_lt (key_cmp (key x) at)

  abbrev pub up_to : X → Bool
  up_to x = is_le (key_cmp (key x) at)

  module _ (xs : List X) (sorted : IsSortedByKey key key_cmp xs) where
    far : (i j : ℕ) (d : X) → i ≤ j → j < length xs → IsNotUnder (key (get_or xs j d)) (key (get_or xs i d))
    far = sorted_far (λ one other. is_lt (key_cmp (key one) (key other))) (ranks_by texts_total key) xs sorted

    pub below_parts : IsPartitionedBy below xs
    below_parts = λ i j d before within less.
        not_true (below (get_or xs i d))
        (λ apart. true≢false (sym less ∙ order.chain (key (get_or xs j d)) (key (get_or xs i d)) at (far i j d before within) apart))

    pub up_to_parts : IsPartitionedBy up_to xs
    up_to_parts = λ i j d before within le.
        let last : IsNotUnder at (key (get_or xs j d)) = up_to_turned (key_cmp (key (get_or xs j d)) at) (key_cmp at (key (get_or xs j d))) (texts_total.antisymm (key (get_or xs j d)) at) le in
        turned_up_to (key_cmp (key (get_or xs i d)) at) (key_cmp at (key (get_or xs i d))) (texts_total.antisymm (key (get_or xs i d)) at)
        (order.chain at (key (get_or xs j d)) (key (get_or xs i d)) last (far i j d before within))

  -- what is left of a sorted list is sorted
  pub rest_is_sorted : (xs : List X) (from : ℕ) → IsSortedByKey key key_cmp xs → IsSortedByKey key key_cmp (drop from xs)
  rest_is_sorted xs from sorted = λ k d low within.
      let inside : from + k + 1 < length xs = omega (arith, within, length-drop from xs) in
      let one = get_or-drop from xs k d in
      let next = get_or-drop from xs (k + 1) d in
      let at_next : from + (k + 1) ≡ from + k + 1 = omega arith in
      subst (λ x. is_lt (key_cmp (key (get_or (drop from xs) (k + 1) d)) (key x)) ≡ false) (sym one)
      (subst (λ x. is_lt (key_cmp (key x) (key (get_or xs (from + k) d))) ≡ false) (sym next)
      (subst (λ n. is_lt (key_cmp (key (get_or xs n d)) (key (get_or xs (from + k) d))) ≡ false) (sym at_next)
      (sorted (from + k) d (omega arith) inside)))

  -- what stands between the two places is about the name, and nothing else is
  module _ (xs : List X) (from count : ℕ) (first : IsPartitionPoint (λ x. below x ≡ true) (λ x. below x ≡ false) xs from) (last : IsPartitionPoint (λ x. up_to x ≡ true) (λ x. up_to x ≡ false) (drop from xs) count) where
    abbrev Found : List X
    Found = take count (drop from xs)

    at_place : (k : ℕ) (d : X) → k < count → get_or Found k d ≡ get_or xs (from + k) d
    at_place k d within = get_or-take count (drop from xs) k d within ∙ get_or-drop from xs k d

    is_about : (x : X) → Contains Found x → Contains xs x × (key x ≡ at)
    is_about x member =
        let k = member.0 in
        let within = member.1 in
        let is = member.2 in
        let few = length-take count (drop from xs) in
        let rest = length-drop from xs in
        let inside : k < count = omega (arith, within) in
        let here : from + k < length xs = omega arith in
        let same : get_or xs (from + k) x ≡ x = sym (at_place k x inside) ∙ is in
        let not_below : below x ≡ false = subst (λ y. below y ≡ false) same (first.1 (from + k) x (omega arith) here) in
        let not_above : up_to x ≡ true = subst (λ y. up_to y ≡ true) (get_or-drop from xs k x ∙ same) (last.0 k x (omega arith) inside) in
        ((from + k, here, same), texts_exact (key x) at (neither (key_cmp (key x) at) not_below not_above))

    stands_there : (x : X) (k : ℕ) → k < length xs → get_or xs k x ≡ x → key x ≡ at → Contains Found x
    stands_there x k within is same =
        ⊎_elim
        (λ early. absurd (true≢false (sym (subst (λ y. below y ≡ true) is (first.0 k x (omega arith) early)) ∙ ap is_lt tied)))
        (λ late.
        let at_m : from + (k - from) ≡ k = omega arith in
        let there : get_or (drop from xs) (k - from) x ≡ x = get_or-drop from xs (k - from) x ∙ ap (λ n. get_or xs n x) at_m ∙ is in
        let rest = length-drop from xs in
        let few = length-take count (drop from xs) in
        ⊎_elim
        (λ inside. (k - from, omega arith, get_or-take count (drop from xs) (k - from) x inside ∙ there))
        (λ outside. absurd (true≢false (sym (ap is_le tied) ∙ subst (λ y. up_to y ≡ false) there (last.1 (k - from) x outside (omega arith)))))
        (cases_lt (k - from) count))
        (cases_lt k from)
      where
        tied : key_cmp (key x) at ≡ Equal
        tied = subst (λ (k : Key). key_cmp (key x) k ≡ Equal) same (tied_itself texts_total (key x))

    pub found_about : (x : X) → Contains Found x ↔ (Contains xs x × (key x ≡ at))
    found_about x = (is_about x, λ both. stands_there x both.0.0 both.0.1 both.0.2 both.1)
