-- Where a candidate is valid, one is left; and where one is left, there is a choice.
use Rattle.std.proofs.Common.{◌≡◌, ◌⊎◌, ℕ, Bool, true, false, List, Contains, refl, sym, subst, inl, inr, ⊎_elim}
use Rattle.std.specs.declared.cmp.Ordering.TheVariants.{Greater}
use Rattle.std.proofs.lemmas.Bool.{true≢false}
use Rattle.bep_record.specs.declared.entry.Entry.{Entry}
use Rattle.bep_record.specs.Vector.{IsBelow}
use Rattle.bep_choice.specs.Choice.{Candidate, IsDominated, IsValidAmong, IsLeft, IsChoice, choice_cmp}
use Rattle.bep_choice.proofs.Tops.{top_from, each_or_not}
use Rattle.bep_choice.proofs.VersionOrder.{below_or_not, not_below_itself, below_then}
use Rattle.bep_choice.proofs.ChoiceOrder.{behind_or_not, not_behind_itself, behind_then}

false_or_not : (b : Bool) → (b ≡ false) ⊎ (¬ (b ≡ false))
false_or_not true = inr true≢false
false_or_not false = inl refl

pub left_exists : (candidates : List Candidate) (one : Candidate) → IsValidAmong candidates one → (left : Candidate) × IsLeft candidates left
left_exists candidates one valid =
    let top = top_from
    (λ (c : Candidate). c.1.invalid ≡ false)
    (λ (a b : Candidate). IsBelow a.1.version b.1.version)
    (λ c. false_or_not c.1.invalid)
    (λ a b. below_or_not a.1.version b.1.version)
    (λ c. not_below_itself c.1.version)
    (λ a b c. below_then a.1.version b.1.version c.1.version)
    candidates one valid.1 in (
      top.0,
      record {
        valid =
            (⊎_elim (λ same. subst (λ c. Contains candidates c) (sym same) valid.0) (λ member. member) top.1.member, top.1.valid);
        undominated = λ other in' dominated. top.1.highest other in' dominated.0 dominated.1;
      },
    )

-- valid, and with none above
IsHigh : List Candidate → Candidate → Type 0
IsHigh candidates one = (one.1.invalid ≡ false) × ((other : Candidate) → Contains candidates other → ¬ IsDominated one.1 other.1)

undominated_or_not : (one other : Entry) → (¬ IsDominated one other) ⊎ (¬ (¬ IsDominated one other))
undominated_or_not one other =
    ⊎_elim
    (λ valid.
    ⊎_elim
    (λ below. inr (λ none. none (valid, below)))
    (λ not_below. inl (λ dominated. not_below dominated.1))
    (below_or_not one.version other.version))
    (λ not_valid. inl (λ dominated. not_valid dominated.0))
    (false_or_not other.invalid)

high_or_not : (candidates : List Candidate) (one : Candidate) → IsHigh candidates one ⊎ (¬ IsHigh candidates one)
unfolding IsHigh
high_or_not candidates one =
    ⊎_elim
    (λ valid.
    ⊎_elim
    (λ each. inl (valid, each))
    (λ fails. inr (λ high. fails high.1))
    (each_or_not (λ (other : Candidate). ¬ IsDominated one.1 other.1) (λ other. undominated_or_not one.1 other.1) candidates))
    (λ not_valid. inr (λ high. not_valid high.0))
    (false_or_not one.1.invalid)

pub choice_exists_lem : (chooser : ℕ) (candidates : List Candidate) (one : Candidate) → IsValidAmong candidates one → (choice : Candidate) × IsChoice chooser candidates choice
unfolding IsHigh
choice_exists_lem chooser candidates one valid =
    let left = left_exists candidates one valid in
    let top = top_from
    (IsHigh candidates)
    (λ (a b : Candidate). choice_cmp chooser a b ≡ Greater)
    (high_or_not candidates)
    (behind_or_not chooser)
    (not_behind_itself chooser)
    (behind_then chooser)
    candidates left.0 (left.1.valid.1, left.1.undominated) in (
      top.0,
      record {
        left = record {
          valid =
              (⊎_elim (λ same. subst (λ c. Contains candidates c) (sym same) left.1.valid.0) (λ member. member) top.1.member, top.1.valid.0);
          undominated = top.1.valid.1;
        };
        first = λ other is_left. top.1.highest other is_left.valid.0 (is_left.valid.1, is_left.undominated);
      },
    )
