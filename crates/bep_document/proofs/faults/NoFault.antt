-- What follows for a list in which there is no first fault.
use Rattle.std.proofs.Common.{◌≡◌, ◌≢◌, Bool, true, false, if◌then◌else◌, List, [], ◌∷◌, ◌++◌, Decides, Option, Some, None, refl, sym, ◌∙◌}
use Rattle.std.specs.List.{list_any, AllByRecursion}
use Rattle.std.proofs.lemmas.List.Folds.{list_any-append}
use Rattle.bep_document.specs.declared.fault.DocFault.{DocFault}
use Rattle.bep_document.specs.faults.Judge.{◌else_at◌, first_in}
use Rattle.bep_document.specs.Faultless.{HasNoKey, KeysDiffer}
use Rattle.bep_document.proofs.BoolFacts.{both_false}

pub neither : (a b : Option DocFault) → (a else_at b) ≡ None → (a ≡ None) × (b ≡ None)
neither None b e = (refl, e)
neither (Some fault) b e = absurd (different e) where
  different : Some fault ≡ None → ⊥
  different d = cc

-- a fault that isn't told where a test passes, or where it fails
pub fails_where_none : (b : Bool) (fault : DocFault) → (if b then Some fault else None) ≡ None → b ≡ false
fails_where_none true fault e = cc
fails_where_none false fault e = refl

pub passes_where_none : (b : Bool) (fault : DocFault) → (if b then None else Some fault) ≡ None → b ≡ true
passes_where_none true fault e = refl
passes_where_none false fault e = cc

pub all_map : {A : Type 0} {P Q : A → Type 0} → ((x : A) → P x → Q x) → (xs : List A) → AllByRecursion P xs → AllByRecursion Q xs
all_map each [] all = tt
all_map each (x ∷ more) all = (each x all.0, all_map each more all.1)

-- what each item is by two facts about it, and by four
pub all_both : {A : Type 0} {P Q R : A → Type 0} → ((x : A) → P x → Q x → R x) → (xs : List A) → AllByRecursion P xs → AllByRecursion Q xs → AllByRecursion R xs
all_both each [] p q = tt
all_both each (x ∷ more) p q = (each x p.0 q.0, all_both each more p.1 q.1)

pub all_four : {A : Type 0} {P Q R S T : A → Type 0} → ((x : A) → P x → Q x → R x → S x → T x) → (xs : List A) → AllByRecursion P xs → AllByRecursion Q xs → AllByRecursion R xs → AllByRecursion S xs → AllByRecursion T xs
all_four each [] p q r s = tt
all_four each (x ∷ more) p q r s = (each x p.0 q.0 r.0 s.0, all_four each more p.1 q.1 r.1 s.1)

-- what each item without fault is
pub all_where_none : {A : Type 0} (f : List A → A → Option DocFault) (P : A → Type 0) → ((earlier : List A) (x : A) → f earlier x ≡ None → P x) → (earlier xs : List A) → first_in f earlier xs ≡ None → AllByRecursion P xs
all_where_none f P each earlier [] none = tt
all_where_none f P each earlier (x ∷ more) none =
    let both = neither (f earlier x) (first_in f (earlier ++ x ∷ []) more) none in
    (each earlier x both.0, all_where_none f P each (earlier ++ x ∷ []) more both.1)

-- the key of an item isn't that of an earlier one
abbrev IsNew : {A K : Type 0} → (K → K → Bool) → (A → K) → List A → A → Type 0
IsNew same key earlier x = list_any (λ known. same (key known) (key x)) earlier ≡ false

apart : {A K : Type 0} (same : K → K → Bool) (key : A → K) (earlier : List A) (x y : A) → IsNew same key (earlier ++ x ∷ []) y → IsNew same key earlier y × (same (key x) (key y) ≡ false)
apart same key earlier x y new =
    let split = both_false _ _ (sym (list_any-append (λ known. same (key known) (key y)) earlier (x ∷ [])) ∙ new) in
    (split.0, (both_false (same (key x) (key y)) false split.1).0)

new_where_none : {A K : Type 0} (same : K → K → Bool) (key : A → K) (f : List A → A → Option DocFault) → ((earlier : List A) (x : A) → f earlier x ≡ None → IsNew same key earlier x) → (earlier xs : List A) → first_in f earlier xs ≡ None → AllByRecursion (IsNew same key earlier) xs
new_where_none same key f each earlier [] none = tt
new_where_none same key f each earlier (x ∷ more) none =
    let both = neither (f earlier x) (first_in f (earlier ++ x ∷ []) more) none in
    (each earlier x both.0, all_map (λ y new. (apart same key earlier x y new).0) more (new_where_none same key f each (earlier ++ x ∷ []) more both.1))

no_key : {A K : Type 0} (key : A → K) (k : K) (xs : List A) → AllByRecursion (λ y. key y ≢ k) xs → HasNoKey key k xs
no_key key k [] all = tt
no_key key k (x ∷ more) all = (all.0, no_key key k more all.1)

other_key : {K : Type 0} (same : K → K → Bool) → ((a b : K) → Decides (same a b) (a ≡ b)) → (a b : K) → same a b ≡ false → b ≢ a
other_key same decides a b differ equal = different (sym ((decides a b).1 (sym equal)) ∙ differ) where
  different : true ≡ false → ⊥
  different d = cc

-- the keys differ where each is new
pub keys_differ : {A K : Type 0} (same : K → K → Bool) → ((a b : K) → Decides (same a b) (a ≡ b)) → (key : A → K) (f : List A → A → Option DocFault) → ((earlier : List A) (x : A) → f earlier x ≡ None → list_any (λ known. same (key known) (key x)) earlier ≡ false) → (earlier xs : List A) → first_in f earlier xs ≡ None → KeysDiffer key xs
keys_differ same decides key f each earlier [] none = tt
keys_differ same decides key f each earlier (x ∷ more) none =
    let both = neither (f earlier x) (first_in f (earlier ++ x ∷ []) more) none in
    let new = new_where_none same key f each (earlier ++ x ∷ []) more both.1 in
    (no_key key (key x) more (all_map (λ y n. other_key same decides (key x) (key y) (apart same key earlier x y n).1) more new), keys_differ same decides key f each (earlier ++ x ∷ []) more both.1)
