use Rattle.std.proofs.Common.{List, [], ◌∷◌, refl, sym, subst, ⊎_elim, arith}
use Rattle.bep_facts.specs.Members.{Contains-first, Contains-more, Contains-one, Contains-pair_cases}
use Rattle.bep_choice.specs.Choice.{Candidate, IsLeft, IsDominated, IsNotBehind}
use Rattle.bep_model.specs.declared.row.Row.{Row}
use Rattle.bep_model.specs.Winner.{IsWinner}
use Rattle.bep_model.specs.Examples.{folder_f, name_a, link, by_one, by_two, crossed_links, row_of}
use Rattle.bep_model.proofs.examples.tie_goes_to_the_smaller_author.Goals as goal

abbrev one : Candidate
one = (1, link 2 99 by_two)

abbrev two : Candidate
two = (2, link 1 98 by_one)

abbrev both : List Candidate
both = one ∷ two ∷ []

one_is_left : IsLeft both one
one_is_left = record {
  valid = (Contains-first one (two ∷ []), refl);
  undominated = λ other member dominated.
      ⊎_elim
      (λ same. let below : IsDominated one.1 one.1 = subst (λ (c : Candidate). IsDominated one.1 c.1) (sym same) dominated in below.1.1 below.1.0)
      (λ same. let below : IsDominated one.1 two.1 = subst (λ (c : Candidate). IsDominated one.1 c.1) (sym same) dominated in let here = below.1.0 2 in omega (arith, here))
      (Contains-pair_cases one two other member);
}

two_is_left : IsLeft both two
two_is_left = record {
  valid = (Contains-more one (two ∷ []) two (Contains-first two []), refl);
  undominated = λ other member dominated.
      ⊎_elim
      (λ same. let below : IsDominated two.1 one.1 = subst (λ (c : Candidate). IsDominated two.1 c.1) (sym same) dominated in let here = below.1.0 1 in omega (arith, here))
      (λ same. let below : IsDominated two.1 two.1 = subst (λ (c : Candidate). IsDominated two.1 c.1) (sym same) dominated in below.1.1 below.1.0)
      (Contains-pair_cases one two other member);
}

smaller_wins : IsWinner crossed_links folder_f name_a two
smaller_wins = record {
  left = two_is_left;
  first = λ other left.
      ⊎_elim
      (λ same. subst (λ (c : Candidate). IsNotBehind 1 two c) same (λ e. cc))
      (λ same. subst (λ (c : Candidate). IsNotBehind 1 two c) same (λ e. cc))
      (Contains-pair_cases one two other left.valid.0);
}

larger_loses : ¬ IsWinner crossed_links folder_f name_a one
larger_loses choice = choice.first two two_is_left refl

pub returns-clause-smaller : goal.returns-clause-smaller
returns-clause-smaller c = smaller_wins

pub returns-clause-larger : goal.returns-clause-larger
returns-clause-larger c = larger_loses

pub returns-clause-row_of_the_smaller : goal.returns-clause-row_of_the_smaller
returns-clause-row_of_the_smaller c = λ other member key.
    subst (λ (row : Row). IsWinner crossed_links folder_f name_a (row.device, row.entry)) (Contains-one (row_of 2 two.1) other member) smaller_wins

pub returns-clause-row_of_the_larger : goal.returns-clause-row_of_the_larger
returns-clause-row_of_the_larger c = λ asks. larger_loses (asks (row_of 1 one.1) (Contains-first _ []) refl)
