-- Which records a device chooses among: its own one and those of its views.
use Rattle.std.proofs.Common.{◌≡◌, ◌⊎◌, ◌∙◌, ℕ, List, [], ◌∷◌, Contains, Option, Some, None, refl, sym, ap, subst, inl, inr, ⊎_elim, unwrap_or}
use Rattle.std.proofs.lemmas.List.Elements.{Contains-append_cases, Contains-append_left, Contains-append_right}
use Rattle.std.proofs.lemmas.Option.{same_Some}
use Rattle.std.specs.Ordering.{nat_cmp}
use Rattle.std.specs.Cmp.Lexicographic.{slice_cmp}
use Rattle.std.specs.FinMap.{get}
use Rattle.bep_facts.specs.Maps.{nothing_in_empty}
use Rattle.bep_facts.specs.Members.{not_in_none, Contains-first, Contains-more, Contains-one, Contains-cons_cases}
use Rattle.bep_record.specs.declared.entry.Entry.{Entry}
use Rattle.bep_choice.specs.Choice.{Candidate, IsChoice, HasOneEach}
use Rattle.bep_index.specs.Listing.{Listing}
use Rattle.bep_index.specs.View.{cleared}
use Rattle.bep_model.specs.Tables.{Device, FileName}
use Rattle.bep_model.specs.Winner.{beside}
use Rattle.bep_machine.specs.Replica.{Replica, own_at, viewed_at, viewed_by, candidates, Chooses}
use Rattle.bep_machine.specs.Sound.{IsSoundReplica}

-- ---- a record that stands in a view is a candidate

viewed_among : (replica : Replica) (name : FileName) (others : List Device) (other : Device) (entry : Entry) → Contains others other → viewed_at replica other name ≡ Some entry → Contains (viewed_by replica name others) (other, entry)
viewed_among replica name [] other entry member is = absurd (not_in_none other member)
viewed_among replica name (first ∷ more) other entry member is =
    ⊎_elim
    (λ same.
    Contains-append_left (beside first (viewed_at replica first name)) (viewed_by replica name more) (other, entry)
    (subst (λ (d : Device). Contains (beside d (viewed_at replica d name)) (other, entry)) (sym same)
    (subst (λ (o : Option Entry). Contains (beside other o) (other, entry)) (sym is) (Contains-first (other, entry) []))))
    (λ later. Contains-append_right (beside first (viewed_at replica first name)) (viewed_by replica name more) (other, entry) (viewed_among replica name more other entry later is))
    (Contains-cons_cases first more other member)

-- only devices that share the folder are viewed
views_are_shared : (device : Device) (replica : Replica) (other : Device) (name : FileName) (entry : Entry) → IsSoundReplica device replica → viewed_at replica other name ≡ Some entry → Contains replica.others other
views_are_shared device replica other name entry sound is = there (get replica.views other) refl
  where
    there : (view : Option Listing) → get replica.views other ≡ view → Contains replica.others other
    there (Some view) has = (sound.views other view has).shares
    there None none =
        let empty : get (cleared 0).records name ≡ Some entry = sym (ap (λ (v : Option Listing). get (unwrap_or v (cleared 0)).records name) none) ∙ is in
        nothing_in_empty (slice_cmp nat_cmp) name entry empty

pub viewed_is_candidate : (device : Device) (replica : Replica) (other : Device) (name : FileName) (entry : Entry) → IsSoundReplica device replica → viewed_at replica other name ≡ Some entry → Contains (candidates device replica name) (other, entry)
viewed_is_candidate device replica other name entry sound is =
    Contains-append_right (beside device (own_at replica name)) (viewed_by replica name replica.others) (other, entry)
    (viewed_among replica name replica.others other entry (views_are_shared device replica other name entry sound is) is)

-- ---- a candidate is the own record, or stands in a view

beside_is : (device : Device) (entry : Option Entry) (one : Candidate) → Contains (beside device entry) one → (device ≡ one.0) × (entry ≡ Some one.1)
beside_is device None one member = absurd (not_in_none one member)
beside_is device (Some entry) one member =
    let same = Contains-one (device, entry) one member in
    (ap (λ (c : Candidate). c.0) same, ap (λ (c : Candidate). Some c.1) same)

-- the record of one of these devices' views
abbrev IsViewedBy : Replica → FileName → List Device → Candidate → Type 0
IsViewedBy replica name others one = Contains others one.0 × (viewed_at replica one.0 name ≡ Some one.1)

viewed_is : (replica : Replica) (name : FileName) (others : List Device) (one : Candidate) → Contains (viewed_by replica name others) one → IsViewedBy replica name others one
viewed_is replica name [] one member = absurd (not_in_none one member)
viewed_is replica name (other ∷ more) one member =
    ⊎_elim
    (λ here.
    let is = beside_is other (viewed_at replica other name) one here in
    (subst (λ d. Contains (other ∷ more) d) is.0 (Contains-first other more), subst (λ d. viewed_at replica d name ≡ Some one.1) is.0 is.1))
    (λ later. let is = viewed_is replica name more one later in (Contains-more other more one.0 is.0, is.1))
    (Contains-append_cases (beside other (viewed_at replica other name)) (viewed_by replica name more) one member)

pub candidate_is : (device : Device) (replica : Replica) (name : FileName) (one : Candidate) → Contains (candidates device replica name) one → ((device ≡ one.0) × (own_at replica name ≡ Some one.1)) ⊎ IsViewedBy replica name replica.others one
candidate_is device replica name one member =
    ⊎_elim
    (λ own. inl (beside_is device (own_at replica name) one own))
    (λ viewed. inr (viewed_is replica name replica.others one viewed))
    (Contains-append_cases (beside device (own_at replica name)) (viewed_by replica name replica.others) one member)

-- ---- one choice

-- the law of a crate below: where each device has one record at most, there is one choice at most
abbrev pub ChoiceIsUnique : Type 0
ChoiceIsUnique = (chooser : ℕ) (candidates : List Candidate) (one other : Candidate) → HasOneEach candidates → IsChoice chooser candidates one → IsChoice chooser candidates other → one ≡ other

module _ (device : Device) (replica : Replica) (apart : ¬ Contains replica.others device) where
  one_each : (name : FileName) → HasOneEach (candidates device replica name)
  one_each name one other member member_too same =
      ⊎_elim
      (λ own. ⊎_elim
      (λ too. equal (sym own.1 ∙ too.1))
      (λ viewed. absurd (apart (subst (λ d. Contains replica.others d) (sym (own.0 ∙ same)) viewed.0)))
      (candidate_is device replica name other member_too))
      (λ viewed. ⊎_elim
      (λ own. absurd (apart (subst (λ d. Contains replica.others d) (same ∙ sym own.0) viewed.0)))
      (λ too. equal (sym viewed.1 ∙ ap (λ d. viewed_at replica d name) same ∙ too.1))
      (candidate_is device replica name other member_too))
      (candidate_is device replica name one member)
    where
      equal : Some one.1 ≡ Some other.1 → one ≡ other
      equal entries = λ i. (same i, same_Some one.1 other.1 entries i)

  pub one_choice : ChoiceIsUnique → (name : FileName) (one other : Entry) → Chooses device replica name one → Chooses device replica name other → one ≡ other
  one_choice law name one other is too =
      ap (λ (c : Candidate). c.1) (law device (candidates device replica name) (is.0, one) (too.0, other) (one_each name) is.1 too.1)
