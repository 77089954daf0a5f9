-- What a `BTreeMap` says of the finite map that its entries make, whatever its keys are.
use Rattle.std.proofs.Common.{◌≡◌, Bool, true, false, cond, ◌&&◌, List, [], ◌∷◌, Option, Some, None, refl, sym, ap, subst, ◌∙◌}
use Rattle.std.proofs.Common.{Ordering}
use Rattle.std.specs.declared.cmp.Ordering.TheVariants.{Less}
use Rattle.std.proofs.Math.Dec.{T}
use Rattle.std.specs.Ordering.{eq_by_cmp, is_lt}
use Rattle.std.specs.Cmp.{IsTotalOrder, eq_by_cmp_equiv}
use Rattle.std.specs.List.{AllByRecursion}
use Rattle.std.specs.List.Sorted.{IsStrictlySortedBy}
use Rattle.std.specs.Map.{lookup, keys_of}
use Rattle.std.specs.BTreeMap.{is_at}
use Rattle.std.specs.FinMap.Entries.{below_all}
use Rattle.std.specs.FinMap.{FinMap, find, is_sorted, get, insert, remove, entries, from_entries, from_sorted, get-from_entries, get-insert, get-remove, get-from_sorted, entries-from_sorted, same_map}
use Rattle.std.proofs.lemmas.Map.Lookups.{CmpEqualImpliesEq}
use Rattle.std.proofs.lemmas.Map.Keys.{sorted_head, sorted_tail}

both : (a b : Bool) → T a → T b → T (a && b)
both true b p q = q
both false b p q = p

flipped : {K : Type 0} {cmp : K → K → Ordering} → IsTotalOrder cmp → (k q : K) → is_at (cmp k) q ≡ eq_by_cmp cmp q k
flipped total k q = (eq_by_cmp_equiv total).symm k q

module _ {K V : Type 0} {cmp : K → K → Ordering} (total : IsTotalOrder cmp) where
  find_key : (es : List (K × V)) (q : K) → find cmp q es ≡ lookup (is_at (cmp q)) es
  find_key [] q = refl
  find_key (e ∷ es) q = ap (cond (is_at (cmp q) e.0) (Some e.1)) (find_key es q)

  get_key : (es : List (K × V)) (q : K) → get (from_entries {R = cmp} es) q ≡ lookup (is_at (cmp q)) es
  get_key es q = get-from_entries total es q ∙ find_key es q

  -- what is found at a key is what the map has there
  pub found : (es : List (K × V)) (m : FinMap cmp V) (q : K) → from_entries es ≡ m → lookup (is_at (cmp q)) es ≡ get m q
  found es m q is = sym (get_key es q) ∙ ap (λ n. get n q) is

  -- the keys rise, as `FinMap` tests it
  below : (k : K) (es : List (K × V)) → AllByRecursion (λ m. cmp k m ≡ Less) (keys_of es) → T (below_all cmp k es)
  below k [] h = tt
  below k (e ∷ es) h = both _ _ (subst (λ r. T (is_lt r)) (sym h.0) tt) (below k es h.1)

  rising : (es : List (K × V)) → IsStrictlySortedBy cmp (keys_of es) → T (is_sorted cmp es)
  rising [] h = tt
  rising (e ∷ es) h = both _ _ (below e.0 es (sorted_head cmp e.0 (keys_of es) h)) (rising es (sorted_tail cmp e.0 (keys_of es) h))

  module _ (exact : CmpEqualImpliesEq cmp) where
    -- entries that differ from others at one key alone make a map that does
    changed : (es fs : List (K × V)) (m : FinMap cmp V) (k : K) (now : Option V) → ((q : K) → lookup (is_at (cmp q)) fs ≡ cond (is_at (cmp k) q) now (lookup (is_at (cmp q)) es)) → ((q : K) → get m q ≡ cond (eq_by_cmp cmp q k) now (get (from_entries {R = cmp} es) q)) → from_entries fs ≡ m
    changed es fs m k now h is = same_map total exact _ _ (λ q.
        get_key fs q ∙ h q ∙ ap (λ b. cond b now (lookup (is_at (cmp q)) es)) (flipped total k q)
        ∙ sym (is q ∙ ap (cond (eq_by_cmp cmp q k) now) (get_key es q)))

    -- the key has a value now
    pub given : (es fs : List (K × V)) (m : FinMap cmp V) (k : K) (v : V) → ((q : K) → lookup (is_at (cmp q)) fs ≡ cond (is_at (cmp k) q) (Some v) (lookup (is_at (cmp q)) es)) → from_entries es ≡ m → from_entries fs ≡ insert m k v
    given es fs m k v h is =
        changed es fs (insert (from_entries es) k v) k (Some v) h (get-insert total (from_entries es) k v) ∙ ap (λ n. insert n k v) is

    -- the key has none
    pub taken : (es fs : List (K × V)) (m : FinMap cmp V) (k : K) → ((q : K) → lookup (is_at (cmp q)) fs ≡ cond (is_at (cmp k) q) None (lookup (is_at (cmp q)) es)) → from_entries es ≡ m → from_entries fs ≡ remove m k
    taken es fs m k h is =
        changed es fs (remove (from_entries es) k) k None h (get-remove total (from_entries es) k) ∙ ap (λ n. remove n k) is

    -- entries in order are those of the map that they make
    pub in_order : (es : List (K × V)) → IsStrictlySortedBy cmp (keys_of es) → entries (from_entries {R = cmp} es) ≡ es
    in_order es h =
        ap entries (same_map total exact (from_entries es) (from_sorted {R = cmp} es) (λ q. get-from_entries total es q ∙ sym (get-from_sorted cmp es q (rising es h))))
        ∙ entries-from_sorted cmp es (rising es h)
