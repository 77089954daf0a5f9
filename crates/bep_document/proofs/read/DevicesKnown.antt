-- The known devices have each device of each folder, so a folder has no more devices than are known.
use Rattle.std.proofs.Common.{◌≡◌, ◌≢◌, ◌≤◌, ℕ, suc, ◌++◌, ◌==◌, ◌||◌, Bool, true, false, if◌then◌else◌, List, [], ◌∷◌, length, map, slice_index_or, Contains, refl, ap, sym, subst, ◌∙◌, arith}
use Rattle.std.specs.List.{AllByRecursion}
use Rattle.std.proofs.lemmas.Bool.{eqb-true}
use Rattle.std.proofs.lemmas.Bool.Decides.{Decides-eqb}
use Rattle.std.proofs.lemmas.List.Folds.{list_any-append}
use Rattle.bep_document.specs.read.Devices.{is_one_of, with_others, with_devices}
use Rattle.bep_document.specs.Faultless.{HasNoKey, KeysDiffer, AreOf}
use Rattle.bep_document.specs.declared.parts.ShareParts.{ShareParts}
use Rattle.bep_document.specs.declared.parts.FolderParts.{FolderParts}
use Rattle.bep_document.proofs.BoolFacts.{some_passes}
use Rattle.bep_document.proofs.faults.NoFault.{all_map}

or_left : (a b : Bool) → a ≡ true → (a || b) ≡ true
or_left true b e = refl
or_left false b e = cc

or_right : (a b : Bool) → b ≡ true → (a || b) ≡ true
or_right true b e = refl
or_right false b e = e

one_of_more : (known : List ℕ) (n q : ℕ) → is_one_of known q ≡ true → is_one_of (known ++ n ∷ []) q ≡ true
one_of_more known n q e = list_any-append (λ m. m == q) known (n ∷ []) ∙ or_left _ _ e

one_of_last : (known : List ℕ) (n : ℕ) → is_one_of (known ++ n ∷ []) n ≡ true
one_of_last known n = list_any-append (λ m. m == n) known (n ∷ []) ∙ or_right _ _ (or_left (n == n) false ((Decides-eqb n n).1 refl))

-- a known number stays known
others_kept : (known numbers : List ℕ) (q : ℕ) → is_one_of known q ≡ true → is_one_of (with_others known numbers) q ≡ true
others_kept known [] q e = e
others_kept known (n ∷ more) q e = step (is_one_of known n) (others_kept known more q e) (others_kept (known ++ n ∷ []) more q (one_of_more known n q e)) where
  step : (b : Bool) → is_one_of (with_others known more) q ≡ true → is_one_of (with_others (known ++ n ∷ []) more) q ≡ true → is_one_of (if b then with_others known more else with_others (known ++ n ∷ []) more) q ≡ true
  step true stays grows = stays
  step false stays grows = grows

-- each of the numbers is known then
others_known : (known : List ℕ) (shares : List ShareParts) → AllByRecursion (λ share. is_one_of (with_others known (map (λ s. s.device) shares)) share.device ≡ true) shares
others_known known [] = tt
others_known known (share ∷ more) = step (is_one_of known share.device) refl (others_known known more) (others_known (known ++ share.device ∷ []) more) where
  rest : List ℕ
  rest = map (λ s. s.device) more

  step : (b : Bool) → is_one_of known share.device ≡ b → AllByRecursion (λ s. is_one_of (with_others known rest) s.device ≡ true) more → AllByRecursion (λ s. is_one_of (with_others (known ++ share.device ∷ []) rest) s.device ≡ true) more → AllByRecursion (λ s. is_one_of (if b then with_others known rest else with_others (known ++ share.device ∷ []) rest) s.device ≡ true) (share ∷ more)
  step true e stays grows = (others_kept known rest share.device e, stays)
  step false e stays grows = (others_kept (known ++ share.device ∷ []) rest share.device (one_of_last known share.device), grows)

devices_kept : (known : List ℕ) (folders : List FolderParts) (q : ℕ) → is_one_of known q ≡ true → is_one_of (with_devices known folders) q ≡ true
devices_kept known [] q e = e
devices_kept known (folder ∷ more) q e =
    let numbers = map (λ (s : ShareParts). s.device) folder.devices in
    devices_kept (with_others known numbers) more q (others_kept known numbers q e)

-- each device that shares a folder is one of these, as a test
abbrev pub AreKnown : List ℕ → List FolderParts → Type 0
AreKnown known folders =
    AllByRecursion (λ folder. AllByRecursion (λ share. is_one_of known share.device ≡ true) folder.devices) folders

pub devices_known : (known : List ℕ) (folders : List FolderParts) → AreKnown (with_devices known folders) folders
devices_known known [] = tt
devices_known known (folder ∷ more) =
    let next = with_others known (map (λ (s : ShareParts). s.device) folder.devices) in
    (all_map (λ share e. devices_kept next more share.device e) folder.devices (others_known known folder.devices), devices_known next more)

one_of : (numbers : List ℕ) (n : ℕ) → is_one_of numbers n ≡ true → Contains numbers n
one_of numbers n e =
    let found = some_passes (λ m. m == n) (λ m is. eqb-true m n is) numbers e in
    (found.0, found.2, subst (λ m. slice_index_or numbers found.0 m ≡ m) found.4 found.3)

pub known_are_of : (known : List ℕ) (folders : List FolderParts) → AreKnown known folders → AreOf known folders
known_are_of known folders all =
    all_map (λ folder each. all_map (λ share told. one_of known share.device told) folder.devices each) folders all

-- the list without the first such number
without : ℕ → List ℕ → List ℕ
without n [] = []
without n (m ∷ more) = if m == n then more else m ∷ without n more

without_len : (n : ℕ) (known : List ℕ) → is_one_of known n ≡ true → length known ≡ suc (length (without n known))
unfolding without
without_len n [] e = cc
without_len n (m ∷ more) e = step (m == n) (without_len n more) e where
  step : (b : Bool) → (is_one_of more n ≡ true → length more ≡ suc (length (without n more))) → (b || is_one_of more n) ≡ true → suc (length more) ≡ suc (length (if b then more else m ∷ without n more))
  step true rest f = refl
  step false rest f = ap suc (rest f)

without_has : (n q : ℕ) (known : List ℕ) → q ≢ n → is_one_of known q ≡ true → is_one_of (without n known) q ≡ true
unfolding without
without_has n q [] other e = e
without_has n q (m ∷ more) other e = step (m == n) refl (without_has n q more other) where
  same : m == n ≡ true → m == q ≡ true → ⊥
  same a b = other (sym ((Decides-eqb m q).0 b) ∙ (Decides-eqb m n).0 a)

  here : (c : Bool) → m == q ≡ c → m == n ≡ true → (c || is_one_of more q) ≡ true → is_one_of more q ≡ true
  here true too is f = absurd (same is too)
  here false too is f = f

  there : (c : Bool) → (is_one_of more q ≡ true → is_one_of (without n more) q ≡ true) → (c || is_one_of more q) ≡ true → (c || is_one_of (without n more) q) ≡ true
  there true rest f = refl
  there false rest f = rest f

  step : (b : Bool) → m == n ≡ b → (is_one_of more q ≡ true → is_one_of (without n more) q ≡ true) → is_one_of (if b then more else m ∷ without n more) q ≡ true
  step true is rest = here (m == q) refl is e
  step false is rest = there (m == q) rest e

others_there : {A : Type 0} (key : A → ℕ) (n : ℕ) (known : List ℕ) (xs : List A) → HasNoKey key n xs → AllByRecursion (λ x. is_one_of known (key x) ≡ true) xs → AllByRecursion (λ x. is_one_of (without n known) (key x) ≡ true) xs
others_there key n known [] others all = tt
others_there key n known (x ∷ more) others all = (without_has n (key x) known others.0 all.0, others_there key n known more others.1 all.1)

-- things with different keys that are all known are no more than the known ones
pub no_more : {A : Type 0} (key : A → ℕ) (known : List ℕ) (xs : List A) → KeysDiffer key xs → AllByRecursion (λ x. is_one_of known (key x) ≡ true) xs → length xs ≤ length known
no_more key known [] differ all = omega arith
no_more key known (x ∷ more) differ all =
    let n = key x in
    omega (arith, without_len n known all.0, no_more key (without n known) more differ.1 (others_there key n known more differ.0 all.1))
