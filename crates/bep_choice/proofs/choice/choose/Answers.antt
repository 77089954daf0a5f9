use Rattle.std.proofs.Common.{◌+◌, ◌∙◌, Option, ℕ, subst, sym}
use Rattle.std.proofs.lemmas.Bool.{iff_false}
use Rattle.bep_choice.proofs.Firsts.{IsBestSoFar, passes, starts, keeps, takes, found_exactly, choice_held, choice_only}
use Rattle.bep_choice.proofs.choice.choose.Goals as goal
use Rattle.bep_choice.proofs.choice.choose.Goals.{then-is_left+in-None, then-is_left+in-Some, then-is_left+in-Some-2, else-is_left}

pub loop-place-preserved : goal.loop-place-preserved
loop-place-preserved c =
    let lent = c.args.candidates.now in
    let few = c.loop-place.place in
    let one = c.index-candidates-place.result in
    let So_far : Option ℕ → Type 0 = IsBestSoFar c.args.me lent few in
    let Then : Option ℕ → Type 0 = IsBestSoFar c.args.me lent (few + 1) in
    elim c.if-is_left.branch [
      | then-is_left+in-None w ↦
          subst Then (sym w.best-is)
          (starts c.args.me lent few one c.loop-place-test.true c.index-candidates-place.is (c.is_left.ensures.0 w.if-is_left.true) (subst So_far w.in-None.is c.loop-place.invariant))
      | then-is_left+in-Some w ↦
          subst Then (sym w.best-is)
          (takes c.args.me lent few w.in-Some.held one w.index-candidates-held.result c.loop-place-test.true c.index-candidates-place.is w.index-candidates-held.is (c.is_left.ensures.0 w.if-is_left.true) (w.is_before.ensures.0 w.if-is_before.true) (subst So_far w.in-Some.is c.loop-place.invariant))
      | then-is_left+in-Some-2 w ↦
          subst Then (sym (w.best-is ∙ sym w.in-Some-2.is ∙ w.in-Some.is))
          (keeps c.args.me lent few w.in-Some.held one w.index-candidates-held.result c.loop-place-test.true c.index-candidates-place.is w.index-candidates-held.is (iff_false w.is_before.ensures w.if-is_before.false) (subst So_far w.in-Some.is c.loop-place.invariant))
      | else-is_left w ↦
          subst Then (sym w.best-is)
          (passes c.args.me lent few one c.loop-place-test.true c.index-candidates-place.is (iff_false c.is_left.ensures w.if-is_left.false) c.loop-place.best c.loop-place.invariant)
    ]

pub returns-clause-found : goal.returns-clause-found
returns-clause-found c =
    found_exactly c.args.me c.args.candidates.now c.loop-place.place c.loop-place-test.false c.loop-place.best c.loop-place.invariant

pub returns-clause-choice : goal.returns-clause-choice
returns-clause-choice c =
    choice_held c.args.me c.args.candidates.now c.loop-place.place c.loop-place-test.false c.loop-place.best c.loop-place.invariant

pub returns-clause-only : goal.returns-clause-only
returns-clause-only c =
    choice_only c.args.me c.args.candidates.now c.loop-place.place c.requires c.loop-place-test.false c.loop-place.best c.loop-place.invariant
