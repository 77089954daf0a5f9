-- The choice among candidates that are lent, found by its place.
use Rattle.std.proofs.Common.{◌≡◌, ◌<◌, ◌∙◌, ◌↔◌, ℕ, true, false, Option, Some, None, IsSome, List, IsSomeAnd, Contains, length, get_or, sym, ap, subst, ⊎_elim, arith}
use Rattle.std.specs.Borrow.{Bor}
use Rattle.std.specs.List.{slice_get}
use Rattle.std.proofs.lemmas.List.{length-map, get_or-map}
use Rattle.std.proofs.lemmas.Option.{slice_get-get_or, slice_get_cases}
use Rattle.bep_record.specs.declared.entry.Entry.{Entry}
use Rattle.bep_choice.specs.Choice.{Candidate, candidate_of, candidates_of, IsValidAmong, IsChoice, IsChoiceAt}

-- a candidate as it is lent
abbrev pub Lent : Type 0
Lent = ℕ × Bor Entry

-- the place of a choice is one of the list's
pub within : (chooser : ℕ) (lent : List Lent) (place : ℕ) → IsChoiceAt chooser (candidates_of lent) place → place < length lent
within chooser lent place h =
    ⊎_elim
    (λ there. omega (arith, length-map lent candidate_of, there.1))
    (λ past. absurd (subst (λ (o : Option Candidate). IsSomeAnd o (IsChoice chooser (candidates_of lent))) past.1 h))
    (slice_get_cases (candidates_of lent) place).1

-- what stands at a place
at_place : (lent : List Lent) (place : ℕ) (one : Lent) → place < length lent → one ≡ get_or lent place one → slice_get (candidates_of lent) place ≡ Some (candidate_of one)
at_place lent place one below is =
    slice_get-get_or (candidates_of lent) place (candidate_of one) (omega (arith, length-map lent candidate_of))
    ∙ ap Some (get_or-map candidate_of lent place one (candidate_of one) below ∙ ap candidate_of (sym is))

-- the candidate at the place of a choice is chosen
pub chosen_at : (chooser : ℕ) (lent : List Lent) (place : ℕ) (one : Lent) → IsChoiceAt chooser (candidates_of lent) place → one ≡ get_or lent place one → IsChoice chooser (candidates_of lent) (candidate_of one)
chosen_at chooser lent place one at is =
    subst (λ (o : Option Candidate). IsSomeAnd o (IsChoice chooser (candidates_of lent))) (at_place lent place one (within chooser lent place at) is) at

-- where no candidate is valid, none is chosen
pub none_chosen : (chooser : ℕ) (candidates : List Candidate) → (IsSome {T = ℕ} None ↔ ((one : Candidate) × IsValidAmong candidates one)) → (one : Candidate) → ¬ IsChoice chooser candidates one
none_chosen chooser candidates found one choice = let some : false ≡ true = found.1 (one, choice.left.valid) in cc

-- where a choice has one place only, it is what stands at that place
pub only_at : (chooser : ℕ) (lent : List Lent) (place : ℕ) (one : Lent) → IsChoiceAt chooser (candidates_of lent) place → one ≡ get_or lent place one → ((other : ℕ) → IsChoiceAt chooser (candidates_of lent) other → Some place ≡ Some other) → (choice : Candidate) → IsChoice chooser (candidates_of lent) choice → Some one.1.now ≡ Some choice.1
only_at chooser lent place one at is only choice chosen =
    let member : Contains (candidates_of lent) choice = chosen.left.valid.0 in
    let there : slice_get (candidates_of lent) member.0 ≡ Some choice = slice_get-get_or (candidates_of lent) member.0 choice member.1 ∙ ap Some member.2 in
    let same : Some place ≡ Some member.0 = only member.0 (subst (λ (o : Option Candidate). IsSomeAnd o (IsChoice chooser (candidates_of lent))) (sym there) chosen) in
    let place_same : place ≡ member.0 = cc in
    let here = at_place lent place one (within chooser lent place at) is in
    let candidate : candidate_of one ≡ choice = let e : Some (candidate_of one) ≡ Some choice = sym here ∙ ap (slice_get (candidates_of lent)) place_same ∙ there in cc in
    ap (λ (c : Candidate). Some c.1) candidate
