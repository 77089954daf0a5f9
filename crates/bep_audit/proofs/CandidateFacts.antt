-- The own records of a name in shares whose devices rise.
use Rattle.std.proofs.Common.{◌≡◌, ◌<◌, ◌≤◌, ℕ, List, [], ◌∷◌, ◌++◌, Option, Some, None, Contains, length, get_or, refl, sym, ap, subst, ◌∙◌, ⊎_elim, arith}
use Rattle.std.specs.Prelude.{map}
use Rattle.std.specs.Ordering.{nat_cmp}
use Rattle.std.specs.declared.cmp.Ordering.TheVariants.{Less}
use Rattle.std.specs.Borrow.{Bor}
use Rattle.std.specs.List.{AllByRecursion}
use Rattle.std.specs.List.Sorted.{IsStrictlyIncreasing, IsStrictlySortedBy}
use Rattle.std.proofs.lemmas.Map.Keys.{sorted_tail, sorted_from_strictly_increasing, IsStrictlyIncreasing-from_sorted}
use Rattle.std.proofs.lemmas.List.Elements.{Contains-append_right, Contains-append_cases}
use Rattle.bep_facts.specs.Members.{Contains-cons_cases, Contains-first, Contains-more, Contains-one, not_in_none}
use Rattle.bep_record.specs.declared.entry.Entry.{Entry}
use Rattle.bep_choice.specs.Choice.{Candidate, candidates_of}
use Rattle.bep_tables.specs.Cut.{devices_of}
use Rattle.bep_tables.specs.declared.share.Share.{Share}
use Rattle.bep_model.specs.Winner.{beside}
use Rattle.bep_audit.specs.Candidates.{owned_by, chooser_of}

-- the candidates' devices
abbrev devices : List Candidate → List ℕ
devices = map (λ (one : Candidate). one.0)

all_owned : (P : ℕ → Type 0) (own : Share → Option Entry) (shares : List Share) → AllByRecursion P (devices_of shares) → AllByRecursion P (devices (owned_by own shares))
all_owned P own [] all = tt
all_owned P own (share ∷ more) all = cases (own share) (all_owned P own more all.1)
  where
    cases : (it : Option Entry) → AllByRecursion P (devices (owned_by own more)) → AllByRecursion P (devices (beside share.device it ++ owned_by own more))
    cases None rest = rest
    cases (Some entry) rest = (all.0, rest)

owned_rise : (own : Share → Option Entry) (shares : List Share) → IsStrictlySortedBy nat_cmp (devices_of shares) → IsStrictlySortedBy nat_cmp (devices (owned_by own shares))
unfolding IsStrictlySortedBy
owned_rise own [] rise = tt
owned_rise own (share ∷ more) rise = cases (own share) (owned_rise own more rise.1)
  where
    cases : (it : Option Entry) → IsStrictlySortedBy nat_cmp (devices (owned_by own more)) → IsStrictlySortedBy nat_cmp (devices (beside share.device it ++ owned_by own more))
    cases None rest = rest
    cases (Some entry) rest = (all_owned (λ device. nat_cmp share.device device ≡ Less) own more rise.0, rest)

devices_lent : (lent : List (ℕ × Bor Entry)) → devices (candidates_of lent) ≡ map (λ (one : ℕ × Bor Entry). one.0) lent
devices_lent [] = refl
devices_lent (one ∷ lent) = ap (λ more. one.0 ∷ more) (devices_lent lent)

-- so their devices rise where they are lent
pub lent_rise : (own : Share → Option Entry) (shares : List Share) (lent : List (ℕ × Bor Entry)) → candidates_of lent ≡ owned_by own shares → IsStrictlyIncreasing (devices_of shares) → IsStrictlyIncreasing (map (λ (one : ℕ × Bor Entry). one.0) lent)
lent_rise own shares lent same rise =
    subst IsStrictlyIncreasing
    (ap devices (sym same) ∙ devices_lent lent)
    (IsStrictlyIncreasing-from_sorted _ (owned_rise own shares (sorted_from_strictly_increasing (devices_of shares) rise)))

-- a share's record of the name is among them
pub owned_has : (own : Share → Option Entry) (shares : List Share) (share : Share) (entry : Entry) → Contains shares share → own share ≡ Some entry → Contains (owned_by own shares) (share.device, entry)
owned_has own [] share entry member has = absurd (not_in_none share member)
owned_has own (first ∷ more) share entry member has =
    ⊎_elim
    (λ same. here (ap (λ (s : Share). own s) same ∙ has) (ap (λ (s : Share). s.device) same))
    (λ later. Contains-append_right (beside first.device (own first)) (owned_by own more) (share.device, entry) (owned_has own more share entry later has))
    (Contains-cons_cases first more share member)
  where
    here : own first ≡ Some entry → first.device ≡ share.device → Contains (beside first.device (own first) ++ owned_by own more) (share.device, entry)
    here has same =
        subst (λ (it : Option Entry). Contains (beside first.device it ++ owned_by own more) (share.device, entry)) (sym has)
        (subst (λ (device : ℕ). Contains ((first.device, entry) ∷ owned_by own more) (device, entry)) same (Contains-first (first.device, entry) (owned_by own more)))

tail_increases : (x : ℕ) (xs : List ℕ) → IsStrictlyIncreasing (x ∷ xs) → IsStrictlyIncreasing xs
tail_increases x xs rise = IsStrictlyIncreasing-from_sorted xs (sorted_tail nat_cmp x xs (sorted_from_strictly_increasing (x ∷ xs) rise))

-- the first device is the smallest
chooser_is_head : (share : Share) (more : List Share) → IsStrictlyIncreasing (devices_of (share ∷ more)) → chooser_of (share ∷ more) ≡ share.device
chooser_is_head share [] rise = refl
chooser_is_head share (next ∷ more) rise =
    let below : share.device < next.device = rise 0 (omega arith) in
    let rest : chooser_of (next ∷ more) ≡ next.device = chooser_is_head next more (tail_increases share.device (devices_of (next ∷ more)) rise) in
    omega (arith, below, rest)

pub chooser_is_first : (shares : List Share) (first : Share) → 1 ≤ length shares → first ≡ get_or shares 0 first → IsStrictlyIncreasing (devices_of shares) → first.device ≡ chooser_of shares
chooser_is_first [] first some is rise = absurd (omega arith)
chooser_is_first (share ∷ more) first some is rise = ap (λ (s : Share). s.device) is ∙ sym (chooser_is_head share more rise)

-- a candidate is some share's record of the name
pub owned_from : (own : Share → Option Entry) (shares : List Share) (one : Candidate) → Contains (owned_by own shares) one → (share : Share) × Contains shares share × (own share ≡ Some one.1)
owned_from own [] one member = absurd (not_in_none one member)
owned_from own (first ∷ more) one member =
    ⊎_elim
    (λ here. (first, Contains-first first more, is_it (own first) here))
    (λ later. let found = owned_from own more one later in (found.0, Contains-more first more found.0 found.1, found.2))
    (Contains-append_cases (beside first.device (own first)) (owned_by own more) one member)
  where
    is_it : (it : Option Entry) → Contains (beside first.device it) one → it ≡ Some one.1
    is_it None here = absurd (not_in_none one here)
    is_it (Some entry) here = ap (λ (c : Candidate). Some c.1) (Contains-one (first.device, entry) one here)

-- the same own records give the same candidates
pub owned_alike : (own other : Share → Option Entry) (shares : List Share) → ((share : Share) → Contains shares share → own share ≡ other share) → owned_by own shares ≡ owned_by other shares
owned_alike own other [] same = refl
owned_alike own other (share ∷ more) same =
    let rest = owned_alike own other more (λ one member. same one (Contains-more share more one member)) in
    λ i. beside share.device (same share (Contains-first share more) i) ++ rest i
