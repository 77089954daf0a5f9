-- Lists of which it is known what stands at each place.
use Rattle.std.proofs.Common.{◌≡◌, ◌++◌, ◌+◌, ℕ, List, [], ◌∷◌, length, Option, Some, None, refl, sym, ap, ◌∙◌, arith}
use Rattle.std.specs.Prelude.{⊤}
use Rattle.std.specs.List.{slice_get}
use Rattle.std.proofs.Math.Seq.{append_snoc}
use Rattle.std.proofs.lemmas.List.{append-nil, length-append, length_push}
use Rattle.std.proofs.lemmas.Option.{slice_get_past}
use Rattle.bep_run.specs.Origin.{AreFirst, IsAll, at_place, count_of}

-- the list without its first elements, so many as this
abbrev pub AreLeft : {A : Type 0} → Option (List A) → ℕ → List A → Type 0
AreLeft None place rest = ⊤
AreLeft {A} (Some all) place rest = (before : List A) × (all ≡ before ++ rest) × (length before ≡ place)

-- what stands behind the first elements
at_seam : {A : Type 0} (before : List A) (x : A) (more : List A) → slice_get (before ++ x ∷ more) (length before) ≡ Some x
at_seam [] x more = refl
at_seam (b ∷ before) x more = at_seam before x more

-- all are left at the beginning
pub all_left : {A : Type 0} (known : Option (List A)) (these : List A) → IsAll known these → AreLeft known 0 these
all_left None these is = tt
all_left (Some all) these is = ([], sym is, refl)

-- the next one stands at its place
pub next_stands : {A : Type 0} (known : Option (List A)) (place : ℕ) (one : A) (rest : List A) → AreLeft known place (one ∷ rest) → at_place known place one ≡ Some one
next_stands None place one rest left = refl
next_stands (Some all) place one rest left = ap (λ p. slice_get all p) (sym left.2) ∙ ap (λ xs. slice_get xs (length left.0)) left.1 ∙ at_seam left.0 one rest

pub fewer_left : {A : Type 0} (known : Option (List A)) (place : ℕ) (one : A) (rest : List A) → AreLeft known place (one ∷ rest) → AreLeft known (place + 1) rest
fewer_left None place one rest left = tt
fewer_left (Some all) place one rest left = (left.0 ++ one ∷ [], left.1 ∙ sym (append_snoc left.0 one rest), length_push left.0 one ∙ ap (λ n. n + 1) left.2)

-- as many were there as there are places
pub none_left : {A : Type 0} (known : Option (List A)) (place : ℕ) → AreLeft known place [] → count_of known place ≡ place
none_left None place left = refl
none_left (Some all) place left = ap length (left.1 ∙ append-nil left.0) ∙ left.2

-- the first of them, with the one that stands behind these
pub first_with : {A : Type 0} (known : Option (List A)) (these : List A) (one : A) → AreFirst known these → at_place known (length these) one ≡ Some one → AreFirst known (these ++ one ∷ [])
first_with None these one first stands = tt
first_with {A} (Some all) these one first stands = cases first.0 first.1
  where
    cases : (rest : List A) → all ≡ these ++ rest → (more : List A) × (all ≡ (these ++ one ∷ []) ++ more)
    cases [] is = let n = slice_get_past (these ++ []) (length these) (omega (arith, length-append these [])) in let e = ap (λ xs. slice_get xs (length these)) is in absurd (cc)
    cases (x ∷ more) is =
        let e = sym (at_seam these x more) ∙ sym (ap (λ xs. slice_get xs (length these)) is) ∙ stands in
        (more, is ∙ sym (append_snoc these x more) ∙ ap (λ y. (these ++ y ∷ []) ++ more) (cc))

-- the first ones are all of them, if they are as many
pub first_are_all : {A : Type 0} (known : Option (List A)) (these : List A) (count : ℕ) → AreFirst known these → count_of known count ≡ count → length these ≡ count → IsAll known these
first_are_all None these count first counted same = tt
first_are_all {A} (Some all) these count first counted same = cases first.0 first.1
  where
    cases : (rest : List A) → all ≡ these ++ rest → these ≡ all
    cases [] is = sym (is ∙ append-nil these)
    cases (x ∷ more) is = let e = ap length is in absurd (omega (arith, length-append these (x ∷ more)))

pub none_first : {A : Type 0} (known : Option (List A)) (these : List A) → these ≡ [] → AreFirst known these
none_first None these none = tt
none_first (Some all) these none = (all, ap (λ xs. xs ++ all) (sym none))
