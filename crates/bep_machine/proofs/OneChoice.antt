-- A sound device chooses one record of a name.
use Rattle.std.proofs.Common.{◌≡◌, ◌⊎◌, ◌∙◌, ℕ, List, [], ◌∷◌, Contains, Option, Some, None, sym, ap, subst, inl, inr, ⊎_elim}
use Rattle.std.proofs.lemmas.List.Elements.{Contains-append_cases}
use Rattle.std.proofs.lemmas.Option.{same_Some}
use Rattle.bep_facts.specs.Members.{not_in_none, Contains-first, Contains-more, Contains-one}
use Rattle.bep_record.specs.declared.entry.Entry.{Entry}
use Rattle.bep_choice.specs.Choice.{Candidate, IsChoice, HasOneEach}
use Rattle.bep_model.specs.Tables.{Device, FileName}
use Rattle.bep_model.specs.Winner.{beside}
use Rattle.bep_machine.specs.Replica.{Replica, own_at, viewed_at, viewed_by, candidates, Chooses}

-- the law of the crate below: where each device has one record at most, there is one choice at most
abbrev pub ChoiceIsUnique : Type 0
ChoiceIsUnique = (chooser : ℕ) (candidates : List Candidate) (one other : Candidate) → HasOneEach candidates → IsChoice chooser candidates one → IsChoice chooser candidates other → one ≡ other

-- no two records are chosen of a name
abbrev pub HasOneChoice : Device → Replica → Type 0
HasOneChoice device replica = (name : FileName) (one other : Entry) → Chooses device replica name one → Chooses device replica name other → one ≡ other

beside_is : (device : Device) (entry : Option Entry) (one : Candidate) → Contains (beside device entry) one → (device ≡ one.0) × (entry ≡ Some one.1)
beside_is device None one member = absurd (not_in_none one member)
beside_is device (Some entry) one member =
    let same = Contains-one (device, entry) one member in
    (ap (λ (c : Candidate). c.0) same, ap (λ (c : Candidate). Some c.1) same)

-- the record of one of these devices' views
abbrev IsViewed : Replica → FileName → List Device → Candidate → Type 0
IsViewed replica name others one = Contains others one.0 × (viewed_at replica one.0 name ≡ Some one.1)

viewed_is : (replica : Replica) (name : FileName) (others : List Device) (one : Candidate) → Contains (viewed_by replica name others) one → IsViewed replica name others one
viewed_is replica name [] one member = absurd (not_in_none one member)
viewed_is replica name (other ∷ more) one member =
    ⊎_elim
    (λ here.
    let is = beside_is other (viewed_at replica other name) one here in
    (subst (λ d. Contains (other ∷ more) d) is.0 (Contains-first other more), subst (λ d. viewed_at replica d name ≡ Some one.1) is.0 is.1))
    (λ later.
    let is = viewed_is replica name more one later in
    (Contains-more other more one.0 is.0, is.1))
    (Contains-append_cases (beside other (viewed_at replica other name)) (viewed_by replica name more) one member)

module _ (device : Device) (replica : Replica) (apart : ¬ Contains replica.others device) where
  candidate_is : (name : FileName) (one : Candidate) → Contains (candidates device replica name) one → ((device ≡ one.0) × (own_at replica name ≡ Some one.1)) ⊎ IsViewed replica name replica.others one
  candidate_is name one member =
      ⊎_elim
      (λ own. inl (beside_is device (own_at replica name) one own))
      (λ viewed. inr (viewed_is replica name replica.others one viewed))
      (Contains-append_cases (beside device (own_at replica name)) (viewed_by replica name replica.others) one member)

  one_each : (name : FileName) → HasOneEach (candidates device replica name)
  one_each name one other member member_too same =
      ⊎_elim
      (λ own. ⊎_elim
      (λ too. equal (sym own.1 ∙ too.1))
      (λ viewed. absurd (apart (subst (λ d. Contains replica.others d) (sym (own.0 ∙ same)) viewed.0)))
      (candidate_is name other member_too))
      (λ viewed. ⊎_elim
      (λ own. absurd (apart (subst (λ d. Contains replica.others d) (same ∙ sym own.0) viewed.0)))
      (λ too. equal (sym viewed.1 ∙ ap (λ d. viewed_at replica d name) same ∙ too.1))
      (candidate_is name other member_too))
      (candidate_is name one member)
    where
      equal : Some one.1 ≡ Some other.1 → one ≡ other
      equal entries = λ i. (same i, same_Some one.1 other.1 entries i)

  pub one_choice : ChoiceIsUnique → HasOneChoice device replica
  one_choice law name one other (from, is) (from_too, is_too) =
      ap (λ (c : Candidate). c.1) (law device (candidates device replica name) (from, one) (from_too, other) (one_each name) is is_too)
