-- What a finite map holds, where its order ties only equal keys.
use Rattle.std.proofs.Common.{◌≡◌, ◌≢◌, ◌⊎◌, ◌↔◌, ℕ, ◌+◌, ◌≤◌, Bool, true, false, cond, Option, Some, None, Contains, IsSome, is_some, inl, inr, refl, sym, ap, ◌∙◌, arith}
use Rattle.std.specs.declared.cmp.Ordering.{Ordering}
use Rattle.std.specs.Ordering.{is_eq, eq_by_cmp}
use Rattle.std.specs.Cmp.{IsTotalOrder, Equal-is, eq_by_cmp_equiv}
use Rattle.std.specs.FinMap.{FinMap, IsAntisymmetric, empty, get, insert, remove, keys, len, contains_key-keys, get-empty, get-insert, get-remove, len-insert, same_map}
use Rattle.std.proofs.lemmas.Cmp.{tied_itself}
use Rattle.std.proofs.lemmas.Map.Views.{list_any-from_Contains, Contains-from_any}
use Rattle.std.proofs.lemmas.Option.{none-some}

pub nothing_in_empty : {K V A : Type 0} (R : K → K → Ordering) (key : K) (found : V) → get (empty {X = V} {R = R}) key ≡ Some found → A
nothing_in_empty R key found is = absurd (none-some found (sym (get-empty R key) ∙ is))

-- keys that tie are the same
pub same_key : {K : Type 0} {R : K → K → Ordering} → IsAntisymmetric R → (one other : K) → eq_by_cmp R one other ≡ true → one ≡ other
same_key exact one other tied = exact one other ((Equal-is _).0 tied)

-- how many keys there are at most once a key was given a value
pub len-insert_le : {K V : Type 0} {R : K → K → Ordering} → IsTotalOrder R → (m : FinMap R V) (key : K) (value : V) (most : ℕ) → len m ≤ most → (get m key ≡ None → len m + 1 ≤ most) → len (insert m key value) ≤ most
len-insert_le total m key value most few room = cases (get m key) refl (len-insert total m key value)
  where
    cases : (o : Option _) → get m key ≡ o → len (insert m key value) ≡ cond (is_some o) (len m) (len m + 1) → len (insert m key value) ≤ most
    cases None none e = let r = room none in omega arith
    cases (Some v) has e = omega arith

module _ {K V : Type 0} {R : K → K → Ordering} (total : IsTotalOrder R) (exact : IsAntisymmetric R) where
  -- a key stands among the keys exactly where it has a value
  pub key_has_value : (m : FinMap R V) (key : K) → Contains (keys m) key ↔ IsSome (get m key)
  key_has_value m key = (
    λ stands. contains_key-keys m key ∙ list_any-from_Contains (eq_by_cmp_equiv total) key (keys m) stands,
    λ has. Contains-from_any (same_key exact) key (keys m) (sym (contains_key-keys m key) ∙ has),
  )

  -- ---- after a key was given a value

  pub get-insert_here : (m : FinMap R V) (key : K) (value : V) → get (insert m key value) key ≡ Some value
  get-insert_here m key value = get-insert total m key value key ∙ ap (λ b. cond b (Some value) (get m key)) (ap is_eq (tied_itself total key))

  pub get-insert_apart : (m : FinMap R V) (key : K) (value : V) (other : K) → other ≢ key → get (insert m key value) other ≡ get m other
  get-insert_apart m key value other apart = get-insert total m key value other ∙ there (eq_by_cmp R other key) refl
    where
      there : (b : Bool) → eq_by_cmp R other key ≡ b → cond b (Some value) (get m other) ≡ get m other
      there true tied = absurd (apart (same_key exact other key tied))
      there false tied = refl

  -- what is found is that value, or what was there before under another key
  pub found_after_insert : (m : FinMap R V) (key : K) (value : V) (other : K) (found : V) → get (insert m key value) other ≡ Some found → ((other ≡ key) × (found ≡ value)) ⊎ ((eq_by_cmp R other key ≡ false) × (get m other ≡ Some found))
  found_after_insert m key value other found is = cases (eq_by_cmp R other key) refl (sym (get-insert total m key value other) ∙ is)
    where
      cases : (b : Bool) → eq_by_cmp R other key ≡ b → cond b (Some value) (get m other) ≡ Some found → ((other ≡ key) × (found ≡ value)) ⊎ ((eq_by_cmp R other key ≡ false) × (get m other ≡ Some found))
      cases true tied e = inl (same_key exact other key tied, cc)
      cases false apart e = inr (apart, e)

  -- ---- after a key lost its value

  pub get-remove_here : (m : FinMap R V) (key : K) → get (remove m key) key ≡ None
  get-remove_here m key = get-remove total m key key ∙ ap (λ b. cond b None (get m key)) (ap is_eq (tied_itself total key))

  pub get-remove_apart : (m : FinMap R V) (key other : K) → other ≢ key → get (remove m key) other ≡ get m other
  get-remove_apart m key other apart = get-remove total m key other ∙ there (eq_by_cmp R other key) refl
    where
      there : (b : Bool) → eq_by_cmp R other key ≡ b → cond b None (get m other) ≡ get m other
      there true tied = absurd (apart (same_key exact other key tied))
      there false tied = refl

  -- ---- after more than one change of a key

  -- what is there, given again
  pub insert-what_is_there : (m : FinMap R V) (key : K) (value : V) → get m key ≡ Some value → insert m key value ≡ m
  insert-what_is_there m key value has = same_map total exact _ _ (λ other. get-insert total m key value other ∙ there other (eq_by_cmp R other key) refl)
    where
      there : (other : K) (b : Bool) → eq_by_cmp R other key ≡ b → cond b (Some value) (get m other) ≡ get m other
      there other true tied = sym has ∙ ap (get m) (sym (same_key exact other key tied))
      there other false tied = refl

  -- of two values in a row the later one counts
  pub insert-twice : (m : FinMap R V) (key : K) (value later : V) → insert (insert m key value) key later ≡ insert m key later
  insert-twice m key value later = same_map total exact _ _ (λ other.
      get-insert total (insert m key value) key later other
      ∙ ap (cond (eq_by_cmp R other key) (Some later)) (get-insert total m key value other)
      ∙ last (eq_by_cmp R other key) (get m other)
      ∙ sym (get-insert total m key later other))
    where
      last : (b : Bool) (old : Option V) → cond b (Some later) (cond b (Some value) old) ≡ cond b (Some later) old
      last true old = refl
      last false old = refl

  -- a key that had no value, and loses its new one
  pub remove-insert : (m : FinMap R V) (key : K) (value : V) → get m key ≡ None → remove (insert m key value) key ≡ m
  remove-insert m key value none = same_map total exact _ _ (λ other.
      get-remove total (insert m key value) key other
      ∙ ap (cond (eq_by_cmp R other key) None) (get-insert total m key value other)
      ∙ there other (eq_by_cmp R other key) refl)
    where
      there : (other : K) (b : Bool) → eq_by_cmp R other key ≡ b → cond b None (cond b (Some value) (get m other)) ≡ get m other
      there other true tied = sym none ∙ ap (get m) (sym (same_key exact other key tied))
      there other false tied = refl

  -- a key that lost its value, and is given another
  pub insert-removed : (m : FinMap R V) (key : K) (value : V) → insert (remove m key) key value ≡ insert m key value
  insert-removed m key value = same_map total exact _ _ (λ other.
      get-insert total (remove m key) key value other
      ∙ ap (cond (eq_by_cmp R other key) (Some value)) (get-remove total m key other)
      ∙ last (eq_by_cmp R other key) (get m other)
      ∙ sym (get-insert total m key value other))
    where
      last : (b : Bool) (old : Option V) → cond b (Some value) (cond b None old) ≡ cond b (Some value) old
      last true old = refl
      last false old = refl

  -- values of two keys, given in either order
  pub insert-swapped : (m : FinMap R V) (key other : K) (value more : V) → key ≢ other → insert (insert m key value) other more ≡ insert (insert m other more) key value
  insert-swapped m key other value more apart = same_map total exact _ _ (λ q.
      get-insert total (insert m key value) other more q
      ∙ ap (cond (eq_by_cmp R q other) (Some more)) (get-insert total m key value q)
      ∙ cases q (eq_by_cmp R q other) refl (eq_by_cmp R q key) refl
      ∙ sym (get-insert total (insert m other more) key value q ∙ ap (cond (eq_by_cmp R q key) (Some value)) (get-insert total m other more q)))
    where
      cases : (q : K) (b : Bool) → eq_by_cmp R q other ≡ b → (d : Bool) → eq_by_cmp R q key ≡ d → cond b (Some more) (cond d (Some value) (get m q)) ≡ cond d (Some value) (cond b (Some more) (get m q))
      cases q true tied true also = absurd (apart (sym (same_key exact q key also) ∙ same_key exact q other tied))
      cases q true tied false also = refl
      cases q false tied d also = refl
