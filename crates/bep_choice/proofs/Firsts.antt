-- A walk over the candidates that are lent, and the first of what is left among those that it has passed.
use Rattle.std.proofs.Common.{◌≡◌, ◌≢◌, ◌<◌, ◌≤◌, ◌+◌, ◌∙◌, ◌↔◌, ℕ, Option, Some, None, List, All, Contains, IsSomeAnd, IsSome, IfSome, map, take, length, get_or, refl, sym, ap, subst, ⊎_elim, arith}
use Rattle.std.specs.Borrow.{Bor}
use Rattle.std.specs.List.{slice_get}
use Rattle.std.specs.Option.{option_map}
use Rattle.std.proofs.lemmas.Bool.{false≢true, cases_order}
use Rattle.std.specs.List.Sorted.{IsStrictlyIncreasing}
use Rattle.std.proofs.lemmas.List.Kept.{AllPairs-from_increasing}
use Rattle.std.specs.declared.cmp.Ordering.TheVariants.{Less}
use Rattle.std.proofs.lemmas.List.{length-map, get_or-map, take_all}
use Rattle.std.proofs.lemmas.List.Elements.{All-more, All-map, All-same, All-contains, All-weaker}
use Rattle.std.proofs.lemmas.Option.{slice_get_cases, slice_get-get_or, slice_get-map}
use Rattle.bep_record.specs.declared.entry.Entry.{Entry}
use Rattle.bep_choice.specs.Choice.{Candidate, candidate_of, candidates_of, choice_cmp, IsValidAmong, IsLeft, IsNotBehind, IsChoice, IsChoiceAt}
use Rattle.bep_choice.proofs.Existence.{left_exists}
use Rattle.bep_choice.proofs.ChoiceOrder.{same_device, not_behind_itself, not_behind_back, not_behind_then}

-- a candidate as it is lent
abbrev pub Lent : Type 0
Lent = ℕ × Bor Entry

pub Contains-lent : (lent : List Lent) (i : ℕ) (one : Lent) → i < length lent → one ≡ get_or lent i one → Contains (candidates_of lent) (candidate_of one)
Contains-lent lent i one below is = (
  i,
  omega (arith, length-map lent candidate_of),
  get_or-map candidate_of lent i one (candidate_of one) below ∙ ap candidate_of (sym is),
)

-- one more
pub each_more : (P : Lent → Type 0) (lent : List Lent) (i : ℕ) (one : Lent) → i < length lent → one ≡ get_or lent i one → All P (take i lent) → P one → All P (take (i + 1) lent)
each_more P lent i one below is so_far here = All-more P lent i one below so_far (subst P is here)

-- all
pub each_candidate : (P : Candidate → Type 0) (lent : List Lent) (i : ℕ) → length lent ≤ i → All (λ one. P (candidate_of one)) (take i lent) → (other : Candidate) → Contains (candidates_of lent) other → P other
each_candidate P lent i all so_far other in' =
    All-contains P (candidates_of lent) other
    (All-map P candidate_of lent
    (All-same (λ one. P (candidate_of one)) lent (take i lent) (sym (take_all i lent all)) so_far))
    in'

IsSomeAnd-at : {X : Type 0} (P : X → Type 0) (o : Option X) (x : X) → o ≡ Some x → P x → IsSomeAnd o P
IsSomeAnd-at P o x e p = subst (λ w. IsSomeAnd w P) (sym e) p

at-IsSomeAnd : {X : Type 0} (P : X → Type 0) (o : Option X) (x : X) → o ≡ Some x → IsSomeAnd o P → P x
at-IsSomeAnd P o x e h = subst (λ w. IsSomeAnd w P) e h

IsSomeAnd-weaker : {X : Type 0} (P Q : X → Type 0) → ((x : X) → P x → Q x) → (o : Option X) → IsSomeAnd o P → IsSomeAnd o Q
IsSomeAnd-weaker P Q f None h = h
IsSomeAnd-weaker P Q f (Some x) h = f x h

-- where something stands, it is what indexing reads
slice_get-some : {X : Type 0} (P : X → Type 0) (xs : List X) (i : ℕ) (x : X) → x ≡ get_or xs i x → IsSomeAnd (slice_get xs i) P → slice_get xs i ≡ Some x
slice_get-some P xs i x is h =
    ⊎_elim
    (λ there. slice_get-get_or xs i x there.1 ∙ ap Some (sym is))
    (λ past. absurd (subst (λ o. IsSomeAnd o P) past.1 h))
    (slice_get_cases xs i).1

-- left among all, and none of the first few that is left comes before
pub record IsFirstOf (chooser : ℕ) (lent : List Lent) (few : ℕ) (one : Lent) : Type 0 where
  pub left : IsLeft (candidates_of lent) (candidate_of one)
  pub first : All (λ other. IsLeft (candidates_of lent) (candidate_of other) → IsNotBehind chooser (candidate_of one) (candidate_of other)) (take few lent)

-- nothing of the first few is left, or the place is that of the first of what is
abbrev pub IsBestSoFar : ℕ → List Lent → ℕ → Option ℕ → Type 0
IsBestSoFar chooser lent few None = All (λ one. ¬ IsLeft (candidates_of lent) (candidate_of one)) (take few lent)
IsBestSoFar chooser lent few (Some held) = IsSomeAnd (slice_get lent held) (IsFirstOf chooser lent few)

IsFirstOf-more : (chooser : ℕ) (lent : List Lent) (few : ℕ) (one held : Lent) → few < length lent → one ≡ get_or lent few one → (IsLeft (candidates_of lent) (candidate_of one) → IsNotBehind chooser (candidate_of held) (candidate_of one)) → IsFirstOf chooser lent few held → IsFirstOf chooser lent (few + 1) held
IsFirstOf-more chooser lent few one held below is behind first = record {
  left = first.left;
  first = each_more (λ (other : Lent). IsLeft (candidates_of lent) (candidate_of other) → IsNotBehind chooser (candidate_of held) (candidate_of other)) lent few one below is first.first behind;
}

-- the next isn't left
pub passes : (chooser : ℕ) (lent : List Lent) (few : ℕ) (one : Lent) → few < length lent → one ≡ get_or lent few one → ¬ IsLeft (candidates_of lent) (candidate_of one) → (best : Option ℕ) → IsBestSoFar chooser lent few best → IsBestSoFar chooser lent (few + 1) best
passes chooser lent few one below is not_left None none =
    each_more (λ (other : Lent). ¬ IsLeft (candidates_of lent) (candidate_of other)) lent few one below is none not_left
passes chooser lent few one below is not_left (Some held) best =
    IsSomeAnd-weaker (IsFirstOf chooser lent few) (IsFirstOf chooser lent (few + 1))
    (λ x first. IsFirstOf-more chooser lent few one x below is (λ left. absurd (not_left left)) first)
    (slice_get lent held) best

-- the next is the first that is left
pub starts : (chooser : ℕ) (lent : List Lent) (few : ℕ) (one : Lent) → few < length lent → one ≡ get_or lent few one → IsLeft (candidates_of lent) (candidate_of one) → IsBestSoFar chooser lent few None → IsBestSoFar chooser lent (few + 1) (Some few)
starts chooser lent few one below is left none =
    IsSomeAnd-at (IsFirstOf chooser lent (few + 1)) (slice_get lent few) one (slice_get-get_or lent few one below ∙ ap Some (sym is))
    (IsFirstOf-more chooser lent few one one below is (λ _. not_behind_itself chooser (candidate_of one))
    (record {
      left = left;
      first = All-weaker (λ (other : Lent). ¬ IsLeft (candidates_of lent) (candidate_of other)) (λ (other : Lent). IsLeft (candidates_of lent) (candidate_of other) → IsNotBehind chooser (candidate_of one) (candidate_of other)) (λ other not_left l. absurd (not_left l)) (take few lent) none;
    }))

-- the next doesn't come before the one that is held
pub keeps : (chooser : ℕ) (lent : List Lent) (few held : ℕ) (one other : Lent) → few < length lent → one ≡ get_or lent few one → other ≡ get_or lent held other → choice_cmp chooser (candidate_of one) (candidate_of other) ≢ Less → IsBestSoFar chooser lent few (Some held) → IsBestSoFar chooser lent (few + 1) (Some held)
keeps chooser lent few held one other below is is_held not_less best =
    let e = slice_get-some (IsFirstOf chooser lent few) lent held other is_held best in
    IsSomeAnd-at (IsFirstOf chooser lent (few + 1)) (slice_get lent held) other e
    (IsFirstOf-more chooser lent few one other below is
    (λ _. not_behind_back chooser (candidate_of one) (candidate_of other) not_less)
    (at-IsSomeAnd (IsFirstOf chooser lent few) (slice_get lent held) other e best))

-- the next comes before it
pub takes : (chooser : ℕ) (lent : List Lent) (few held : ℕ) (one other : Lent) → few < length lent → one ≡ get_or lent few one → other ≡ get_or lent held other → IsLeft (candidates_of lent) (candidate_of one) → choice_cmp chooser (candidate_of one) (candidate_of other) ≡ Less → IsBestSoFar chooser lent few (Some held) → IsBestSoFar chooser lent (few + 1) (Some few)
takes chooser lent few held one other below is is_held left less best =
    let e = slice_get-some (IsFirstOf chooser lent few) lent held other is_held best in
    let first = at-IsSomeAnd (IsFirstOf chooser lent few) (slice_get lent held) other e best in
    IsSomeAnd-at (IsFirstOf chooser lent (few + 1)) (slice_get lent few) one (slice_get-get_or lent few one below ∙ ap Some (sym is))
    (IsFirstOf-more chooser lent few one one below is (λ _. not_behind_itself chooser (candidate_of one))
    (record {
      left = left;
      first = All-weaker (λ (z : Lent). IsLeft (candidates_of lent) (candidate_of z) → IsNotBehind chooser (candidate_of other) (candidate_of z)) (λ (z : Lent). IsLeft (candidates_of lent) (candidate_of z) → IsNotBehind chooser (candidate_of one) (candidate_of z))
          (λ z behind l. not_behind_then chooser (candidate_of one) (candidate_of other) (candidate_of z) (λ greater. let w = sym less ∙ greater in cc) (behind l)) (take few lent) first.first;
    }))

-- the walk is over: the place is that of the choice
pub IsChoiceAt-best : (chooser : ℕ) (lent : List Lent) (few held : ℕ) → length lent ≤ few → IsBestSoFar chooser lent few (Some held) → IsChoiceAt chooser (candidates_of lent) held
IsChoiceAt-best chooser lent few held all best =
    subst (λ o. IsSomeAnd o (IsChoice chooser (candidates_of lent))) (sym (slice_get-map candidate_of lent held))
    (of_best (slice_get lent held) best)
  where
    of_best : (o : Option Lent) → IsSomeAnd o (IsFirstOf chooser lent few) → IsSomeAnd (option_map candidate_of o) (IsChoice chooser (candidates_of lent))
    of_best None h = h
    of_best (Some x) first = record {
      left = first.left;
      first = λ other left. each_candidate (λ (z : Candidate). IsLeft (candidates_of lent) z → IsNotBehind chooser (candidate_of x) z) lent few all first.first other left.valid.0 left;
    }

-- what is chosen is valid
pub IsValidAmong-chosen : (chooser : ℕ) (candidates : List Candidate) (place : ℕ) → IsChoiceAt chooser candidates place → (one : Candidate) × IsValidAmong candidates one
IsValidAmong-chosen chooser candidates place h = of_chosen (slice_get candidates place) h
  where
    of_chosen : (o : Option Candidate) → IsSomeAnd o (IsChoice chooser candidates) → (one : Candidate) × IsValidAmong candidates one
    of_chosen None h = absurd h
    of_chosen (Some one) choice = (one, choice.left.valid)

-- nothing was held, so nothing is valid
pub none_valid : (chooser : ℕ) (lent : List Lent) (few : ℕ) → length lent ≤ few → IsBestSoFar chooser lent few None → (one : Candidate) → ¬ IsValidAmong (candidates_of lent) one
none_valid chooser lent few all none one valid =
    let left = left_exists (candidates_of lent) one valid in
    each_candidate (λ (z : Candidate). ¬ IsLeft (candidates_of lent) z) lent few all none left.0 left.1.valid.0 left.1

pub found_exactly : (chooser : ℕ) (lent : List Lent) (few : ℕ) → length lent ≤ few → (best : Option ℕ) → IsBestSoFar chooser lent few best → IsSome best ↔ ((one : Candidate) × IsValidAmong (candidates_of lent) one)
found_exactly chooser lent few all None none =
    (λ some. absurd (false≢true some), λ valid. absurd (none_valid chooser lent few all none valid.0 valid.1))
found_exactly chooser lent few all (Some held) best =
    (λ _. IsValidAmong-chosen chooser (candidates_of lent) held (IsChoiceAt-best chooser lent few held all best), λ _. refl)

pub choice_held : (chooser : ℕ) (lent : List Lent) (few : ℕ) → length lent ≤ few → (best : Option ℕ) → IsBestSoFar chooser lent few best → IfSome best (IsChoiceAt chooser (candidates_of lent))
choice_held chooser lent few all None none = tt
choice_held chooser lent few all (Some held) best = IsChoiceAt-best chooser lent few held all best

-- who stands at the place of a choice
chosen_at : (chooser : ℕ) (lent : List Lent) (place : ℕ) → IsChoiceAt chooser (candidates_of lent) place → (one : Lent) × (place < length lent) × (one ≡ get_or lent place one) × IsChoice chooser (candidates_of lent) (candidate_of one)
chosen_at chooser lent place h =
    let P : Candidate → Type 0 = IsChoice chooser (candidates_of lent) in
    ⊎_elim
    (λ there. (
      there.0,
      there.1,
      sym there.3,
      at-IsSomeAnd P (slice_get (candidates_of lent) place) (candidate_of there.0) (slice_get-map candidate_of lent place ∙ ap (λ o. option_map candidate_of o) there.2) h,
    ))
    (λ past. absurd (subst (λ o. IsSomeAnd o P) (slice_get-map candidate_of lent place ∙ ap (λ o. option_map candidate_of o) past.1) h))
    (slice_get_cases lent place).1

-- devices rise
devices_rise : (lent : List Lent) → IsStrictlyIncreasing (map (λ (one : Lent). one.0) lent) → (i j : ℕ) (one other : Lent) → i < j → j < length lent → one ≡ get_or lent i one → other ≡ get_or lent j other → one.0 < other.0
devices_rise lent rises i j one other before below is is_other =
    let device : Lent → ℕ = λ one. one.0 in
    let pairs = AllPairs-from_increasing (map device lent) rises i j 0 before (omega (arith, length-map lent device)) in
    let first = get_or-map device lent i one 0 (omega arith) ∙ ap device (sym is) in
    let second = get_or-map device lent j other 0 below ∙ ap device (sym is_other) in
    omega (arith, pairs, first, second)

only_place : (chooser : ℕ) (lent : List Lent) → IsStrictlyIncreasing (map (λ (one : Lent). one.0) lent) → (held place : ℕ) → IsChoiceAt chooser (candidates_of lent) held → IsChoiceAt chooser (candidates_of lent) place → held ≡ place
only_place chooser lent rises held place h k =
    let one = chosen_at chooser lent held h in
    let other = chosen_at chooser lent place k in
    let same = same_device chooser (candidate_of one.0) (candidate_of other.0) (one.3.first (candidate_of other.0) other.3.left) (other.3.first (candidate_of one.0) one.3.left) in
    ⊎_elim
    (λ e. e)
    (⊎_elim
    (λ lt. let rise = devices_rise lent rises held place one.0 other.0 lt other.1 one.2 other.2 in absurd (omega (arith, rise, same)))
    (λ lt. let rise = devices_rise lent rises place held other.0 one.0 lt one.1 other.2 one.2 in absurd (omega (arith, rise, same))))
    (cases_order held place)

pub choice_only : (chooser : ℕ) (lent : List Lent) (few : ℕ) → IsStrictlyIncreasing (map (λ (one : Lent). one.0) lent) → length lent ≤ few → (best : Option ℕ) → IsBestSoFar chooser lent few best → (place : ℕ) → IsChoiceAt chooser (candidates_of lent) place → best ≡ Some place
choice_only chooser lent few rises all None none place h =
    let valid = IsValidAmong-chosen chooser (candidates_of lent) place h in
    absurd (none_valid chooser lent few all none valid.0 valid.1)
choice_only chooser lent few rises all (Some held) best place h =
    ap Some (only_place chooser lent rises held place (IsChoiceAt-best chooser lent few held all best) h)
