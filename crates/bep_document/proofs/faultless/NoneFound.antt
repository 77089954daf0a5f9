-- No fault is found in a list where each item has none.
use Rattle.std.proofs.Common.{◌≡◌, ◌≢◌, ◌||◌, Bool, true, false, if◌then◌else◌, List, [], ◌∷◌, ◌++◌, Any, Decides, Option, Some, None, refl, sym, ap, ◌∙◌}
use Rattle.std.specs.List.{list_any, AllByRecursion}
use Rattle.std.proofs.lemmas.List.Folds.{list_any-append, list_any-from_Any}
use Rattle.bep_document.specs.declared.fault.DocFault.{DocFault}
use Rattle.bep_document.specs.faults.Judge.{◌else_at◌, first_in}
use Rattle.bep_document.specs.Faultless.{HasNoKey, KeysDiffer}

pub none_of_both : (a b : Option DocFault) → a ≡ None → b ≡ None → (a else_at b) ≡ None
none_of_both a b first second = ap (λ o. o else_at b) first ∙ second

-- where a test fails, or passes, by which a fault is told
pub none_where_fails : (b : Bool) (fault : DocFault) → b ≡ false → (if b then Some fault else None) ≡ None
none_where_fails b fault fails = ap (λ c. if c then Some fault else None) fails

pub none_where_passes : (b : Bool) (fault : DocFault) → b ≡ true → (if b then None else Some fault) ≡ None
none_where_passes b fault passes = ap (λ c. if c then None else Some fault) passes

-- some element passes the test
pub passes_some : {A : Type 0} {P : A → Type 0} (test : A → Bool) → ((x : A) → P x → test x ≡ true) → (xs : List A) → Any P xs → list_any test xs ≡ true
passes_some test tells xs any = list_any-from_Any test xs (any.0, any.1, any.2, any.3, tells any.1 any.4)

-- where each item is such that no fault is found at it
pub none_in_all : {A : Type 0} (f : List A → A → Option DocFault) (P : A → Type 0) → ((earlier : List A) (x : A) → P x → f earlier x ≡ None) → (earlier xs : List A) → AllByRecursion P xs → first_in f earlier xs ≡ None
none_in_all f P each earlier [] all = refl
none_in_all f P each earlier (x ∷ more) all =
    none_of_both (f earlier x) (first_in f (earlier ++ x ∷ []) more) (each earlier x all.0) (none_in_all f P each (earlier ++ x ∷ []) more all.1)

neither_is : (a b : Bool) → a ≡ false → b ≡ false → (a || b) ≡ false
neither_is a b first second = ap (λ c. c || b) first ∙ second

module _ {A K : Type 0} (same : K → K → Bool) (decides : (a b : K) → Decides (same a b) (a ≡ b)) (key : A → K) where
  -- the key of an item isn't that of an earlier one
  abbrev IsNew : List A → A → Type 0
  IsNew earlier x = list_any (λ known. same (key known) (key x)) earlier ≡ false

  not_same : (a b : K) → b ≢ a → same a b ≡ false
  not_same a b differ = cases (same a b) refl where
    cases : (c : Bool) → same a b ≡ c → c ≡ false
    cases true is = absurd (differ (sym ((decides a b).0 is)))
    cases false is = refl

  new_behind : (earlier : List A) (x : A) (more : List A) → AllByRecursion (IsNew earlier) more → HasNoKey key (key x) more → AllByRecursion (IsNew (earlier ++ x ∷ [])) more
  new_behind earlier x [] new none = tt
  new_behind earlier x (y ∷ more) new none = (
    list_any-append (λ known. same (key known) (key y)) earlier (x ∷ []) ∙ neither_is _ _ new.0 (neither_is (same (key x) (key y)) false (not_same (key x) (key y) none.0) refl),
    new_behind earlier x more new.1 none.1,
  )

  all_new : (xs : List A) → AllByRecursion (IsNew []) xs
  all_new [] = tt
  all_new (x ∷ more) = (refl, all_new more)

  none_in_new : (f : List A → A → Option DocFault) (P : A → Type 0) → ((earlier : List A) (x : A) → IsNew earlier x → P x → f earlier x ≡ None) → (earlier xs : List A) → AllByRecursion (IsNew earlier) xs → KeysDiffer key xs → AllByRecursion P xs → first_in f earlier xs ≡ None
  none_in_new f P each earlier [] new differ all = refl
  none_in_new f P each earlier (x ∷ more) new differ all =
      none_of_both (f earlier x) (first_in f (earlier ++ x ∷ []) more) (each earlier x new.0 all.0)
      (none_in_new f P each (earlier ++ x ∷ []) more (new_behind earlier x more new.1 differ.0) differ.1 all.1)

  -- where also each two items have different keys
  pub none_in_different : (f : List A → A → Option DocFault) (P : A → Type 0) → ((earlier : List A) (x : A) → IsNew earlier x → P x → f earlier x ≡ None) → (xs : List A) → KeysDiffer key xs → AllByRecursion P xs → first_in f [] xs ≡ None
  none_in_different f P each xs differ all = none_in_new f P each [] xs (all_new xs) differ all
