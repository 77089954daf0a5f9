-- A set of the keys that were seen, as it grows along a list.
use Rattle.std.proofs.Common.{◌≡◌, ℕ, ◌+◌, ◌<◌, ◌||◌, Bool, true, false, not, cond, List, length, take, get_or, refl, sym, ap, ◌∙◌}
use Rattle.std.specs.List.{list_any}
use Rattle.std.proofs.lemmas.List.Folds.{list_any_more}

or_here : (here before : Bool) → cond here true before ≡ (before || here)
or_here true true = refl
or_here true false = refl
or_here false true = refl
or_here false false = refl

-- the set has the key of one more item
pub seen_next : {A K : Type 0} (same : K → K → Bool) (key : A → K) (xs : List A) (i : ℕ) (x : A) (has has' : K → Bool) → i < length xs → x ≡ get_or xs i x → ((q : K) → has q ≡ list_any (λ known. same (key known) q) (take i xs)) → ((q : K) → has' q ≡ cond (same (key x) q) true (has q)) → (q : K) → has' q ≡ list_any (λ known. same (key known) q) (take (i + 1) xs)
seen_next same key xs i x has has' here is before after q =
    after q
    ∙ or_here (same (key x) q) (has q)
    ∙ ap (λ b. b || same (key x) q) (before q)
    ∙ ap (λ y. list_any (λ known. same (key known) q) (take i xs) || same (key y) q) is
    ∙ sym (list_any_more (λ known. same (key known) q) xs i x here)

-- an insertion adds no key that was there
not_added : (added has : Bool) → added ≡ not has → not added ≡ has
not_added added true e = ap not e
not_added added false e = ap not e

-- whether the key of an item was seen, by what its insertion tells
pub was_seen : {K : Type 0} (has seen : K → Bool) (k key : K) (added : Bool) → added ≡ not (has k) → k ≡ key → ((q : K) → has q ≡ seen q) → not added ≡ seen key
was_seen has seen k key added e same before = not_added added (has k) e ∙ ap has same ∙ before key

-- what is found by one test is found by an equal one
pub found_by : {O : Type 0} (fault_of : Bool → O) (told known : Bool) (found fault : O) → found ≡ fault_of told → told ≡ known → found ≡ fault → fault_of known ≡ fault
found_by fault_of told known found fault e same is = ap fault_of (sym same) ∙ sym e ∙ is

-- an insertion's key ties with what the item's key does
pub ties_with : {K : Type 0} (ties same : K → K → Bool) (k key : K) → k ≡ key → ((x q : K) → same x q ≡ ties x q) → (q : K) → ties k q ≡ same key q
ties_with ties same k key e matches q = ap (λ x. ties x q) e ∙ sym (matches key q)
