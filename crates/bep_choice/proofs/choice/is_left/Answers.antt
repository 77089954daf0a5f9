use Rattle.std.proofs.Common.{refl, sym, ap, ◌∙◌}
use Rattle.std.proofs.lemmas.Bool.{false≢true, iff_false}
use Rattle.bep_record.specs.declared.entry.Entry.{Entry}
use Rattle.bep_choice.specs.Choice.{Candidate, candidate_of, IsDominated}
use Rattle.bep_choice.proofs.Firsts.{Lent, Contains-lent, each_more, each_candidate}
use Rattle.bep_choice.proofs.choice.is_left.Goals as goal

pub returns-then-is_dominated : goal.returns-then-is_dominated
returns-then-is_dominated c = (
  λ e. absurd (false≢true e),
  λ left. absurd
      (left.undominated (candidate_of c.other-item.result)
      (Contains-lent c.args.candidates.now c.loop-other.other-index c.other-item.result c.loop-other-test.true c.other-item.is)
      (c.is_dominated.ensures.0 c.if-is_dominated.true)),
)

pub loop-other-preserved : goal.loop-other-preserved
loop-other-preserved c =
    each_more (λ (other : Lent). ¬ IsDominated c.args.one.now.1.now other.1.now) c.args.candidates.now c.loop-other.other-index c.other-item.result c.loop-other-test.true c.other-item.is c.loop-other.invariant
    (iff_false c.is_dominated.ensures c.if-is_dominated.false)

pub returns : goal.returns
returns c = (
  λ _. record {
    valid = (c.requires, ap (λ (e : Entry). e.invalid) (sym c.entry.ensures.value) ∙ c.if-entry.false);
    undominated = each_candidate (λ (other : Candidate). ¬ IsDominated c.args.one.now.1.now other.1) c.args.candidates.now c.loop-other.other-index c.loop-other-test.false c.loop-other.invariant;
  },
  λ _. refl,
)
