-- What stays in sets and maps that grow, and sets whose growth is taken back.
use Rattle.std.proofs.Common.{◌≡◌, ◌<◌, ◌≤◌, ◌+◌, if◌then◌else◌, subst, arith, ℕ, Bool, true, false, not, cond, ◌||◌, List, [], ◌∷◌, Some, is_some, refl, ap, ◌∙◌}
use Rattle.std.specs.declared.cmp.Ordering.{Ordering}
use Rattle.std.specs.declared.cmp.Ordering.TheVariants.{Less, Equal, Greater}
use Rattle.std.specs.List.{list_any}
use Rattle.std.specs.Ordering.{match_ordering, is_eq}
use Rattle.std.specs.Cmp.{IsTotalOrder}
use Rattle.std.specs.Map.{keys_of, lookup}
use Rattle.std.specs.Set.{remove_key}
use Rattle.std.specs.BTreeMap.{is_at, insert_entry}
use Rattle.std.specs.BTreeSet.{BTreeSet, contains, insert_key, Updates}
use Rattle.std.proofs.lemmas.Cmp.{tied_itself}

or_true : (b : Bool) → (b || true) ≡ true
or_true true = refl
or_true false = refl

-- what was in a set is in it after one more was added
pub kept_in : {K : Type 0} (R : K → K → Ordering) (old new : BTreeSet K) (key : K) → Updates R old new key true → (q : K) → contains R old q ≡ true → contains R new q ≡ true
kept_in R old new key updates q had = updates.0 q ∙ either (is_at (R key) q) (contains R old q) had where
  either : (b was : Bool) → was ≡ true → cond b true was ≡ true
  either true was e = refl
  either false was e = e

-- a key that was among the keys of a map is among them after one more was added
pub key_kept : {K X : Type 0} (R : K → K → Ordering) (test : K → Bool) (es : List (K × X)) (key : K) (x : X) → list_any test (keys_of es) ≡ true → list_any test (keys_of (insert_entry R es key x)) ≡ true
key_kept R test [] key x had = absurd (cc)
key_kept R test (e ∷ es) key x had = cases (key_kept R test es key x) (R key e.0) where
  behind : (b : Bool) → (list_any test (keys_of es) ≡ true → list_any test (keys_of (insert_entry R es key x)) ≡ true) → (b || list_any test (keys_of es)) ≡ true → (b || list_any test (keys_of (insert_entry R es key x))) ≡ true
  behind true rest h = refl
  behind false rest h = rest h

  cases : (list_any test (keys_of es) ≡ true → list_any test (keys_of (insert_entry R es key x)) ≡ true) → (r : Ordering) → list_any test (keys_of (match_ordering r ((key, x) ∷ e ∷ es) ((e.0, x) ∷ es) (e ∷ insert_entry R es key x))) ≡ true
  cases rest Less = ap (λ b. test key || b) had ∙ or_true (test key)
  cases rest Equal = had
  cases rest Greater = behind (test e.0) rest had

-- a new key is among the keys of the map
pub key_there : {K X : Type 0} (R : K → K → Ordering) (test : K → Bool) (es : List (K × X)) (key : K) (x : X) → test key ≡ true → is_some (lookup (is_at (R key)) es) ≡ false → list_any test (keys_of (insert_entry R es key x)) ≡ true
key_there R test [] key x passes new = ap (λ b. b || false) passes
key_there R test (e ∷ es) key x passes new = cases (key_there R test es key x passes) (R key e.0) new where
  cases : (is_some (lookup (is_at (R key)) es) ≡ false → list_any test (keys_of (insert_entry R es key x)) ≡ true) → (r : Ordering) → is_some (cond (is_eq r) (Some e.1) (lookup (is_at (R key)) es)) ≡ false → list_any test (keys_of (match_ordering r ((key, x) ∷ e ∷ es) ((e.0, x) ∷ es) (e ∷ insert_entry R es key x))) ≡ true
  cases rest Less h = ap (λ b. b || list_any test (keys_of (e ∷ es))) passes
  cases rest Equal h = absurd (cc)
  cases rest Greater h = ap (λ b. test e.0 || b) (rest h) ∙ or_true (test e.0)

-- a new key that is taken away again
pub taken_back : {K : Type 0} {R : K → K → Ordering} → IsTotalOrder R → (ks : List K) (key : K) → list_any (is_at (R key)) ks ≡ false → remove_key (is_at (R key)) (insert_key R ks key) ≡ ks
taken_back {R = R} total [] key new = ap (λ r. cond (is_eq r) [] (key ∷ [])) (tied_itself total key)
taken_back {R = R} total (k ∷ ks) key new = cases (taken_back total ks key) (R key k) refl new where
  cases : (list_any (is_at (R key)) ks ≡ false → remove_key (is_at (R key)) (insert_key R ks key) ≡ ks) → (r : Ordering) → R key k ≡ r → (is_eq r || list_any (is_at (R key)) ks) ≡ false → remove_key (is_at (R key)) (match_ordering r (key ∷ k ∷ ks) (k ∷ ks) (k ∷ insert_key R ks key)) ≡ k ∷ ks
  cases rest Less e h = ap (λ r. cond (is_eq r) (k ∷ ks) (key ∷ remove_key (is_at (R key)) (k ∷ ks))) (tied_itself total key)
  cases rest Equal e h = absurd (cc)
  cases rest Greater e h = ap (λ r. cond (is_eq r) (insert_key R ks key) (k ∷ remove_key (is_at (R key)) (insert_key R ks key))) e ∙ ap (λ more. k ∷ more) (rest h)

-- one more was added, so there was none
pub not_there : (is_new there : Bool) → is_new ≡ not there → is_new ≡ true → there ≡ false
not_there is_new true added e = absurd (cc)
not_there is_new false added e = refl

-- how many there are then, by whether it was there
pub grown : (less more : ℕ) (is_new there : Bool) → is_new ≡ not there → more ≡ less + (if is_new then 1 else 0) → more ≡ less + (if there then 0 else 1)
grown less more is_new true added e = subst (λ b. more ≡ less + (if b then 1 else 0)) added e
grown less more is_new false added e = subst (λ b. more ≡ less + (if b then 1 else 0)) added e

-- they are few then, if there was room
pub few_then : (less more most : ℕ) (there : Bool) → less ≤ most → (there ≡ false → less < most) → more ≡ less + (if there then 0 else 1) → more ≤ most
few_then less more most true few room e = omega arith
few_then less more most false few room e = omega (arith, room refl)
