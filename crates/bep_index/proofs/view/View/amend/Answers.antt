use Rattle.std.proofs.Common.{ap, sym, subst, ◌∙◌, ◌≤◌, ◌<◌, arith}
use Rattle.std.specs.FinMap.{len}
use Rattle.bep_index.specs.Listing.{Listing}
use Rattle.bep_index.specs.Batch.{last_sequence, with_all}
use Rattle.bep_index.specs.Good.{AreGood}
use Rattle.bep_index.specs.View.{IsOld, IsView}
use Rattle.bep_index.specs.declared.limits.TheConstants.{MAX_NAMES}
use Rattle.bep_index.proofs.BatchFacts.{IsView-amended, IsView-equal}
use Rattle.bep_index.proofs.GoodFacts.{good_with_all}
use Rattle.bep_index.proofs.ResultFacts.{not_refused}
use Rattle.bep_index.proofs.view.View.amend.Goals as goal

abbrev before : goal.After-self-1 → Listing
before c = record { id = c.self.inside.id; sequence = c.self.inside.sequence; records = c.self.inside.records }

new : (c : goal.After-self-1) → IsOld (before c).sequence c.args.batch → ⊥
new c = subst (λ (view : Listing). IsOld view.sequence c.args.batch → ⊥) (sym c.self.view_is) (not_refused c.in_ok-sequence.ensures.old)

room : (c : goal.After-self-1) → len (with_all (before c).records c.args.batch) ≤ MAX_NAMES
room c =
    let few = subst (λ (view : Listing). (¬ IsOld view.sequence c.args.batch) × (MAX_NAMES < len (with_all view.records c.args.batch)) → ⊥) (sym c.self.view_is) (not_refused c.in_ok-sequence.ensures.full) in
    let not_more : ¬ (MAX_NAMES < len (with_all (before c).records c.args.batch)) = λ more. few (new c, more) in
    omega arith

-- without memory the records are as before
pub invariant_of-self : goal.invariant_of-self
invariant_of-self c =
    subst (λ records. IsView (record { id = c.self.inside.id; sequence = c.self.inside.sequence; records = records }) × AreGood records)
    (sym c.in_err-put_batch.ensures.err) c.self.invariant

pub invariant_of-self-2 : goal.invariant_of-self-2
invariant_of-self-2 c = (
  IsView-equal c.self.inside.id _ _ _ _
      (c.in_ok-sequence.ensures.value ∙ ap (λ (view : Listing). last_sequence view.sequence c.args.batch) (sym c.self.view_is)) c.in_ok-put_batch.ensures.ok
      (IsView-amended (before c) c.args.batch c.self.invariant.0 c.put_batch.ensures.a_batch (new c) (room c)),
  subst AreGood (sym c.in_ok-put_batch.ensures.ok) (good_with_all c.self.inside.records c.args.batch c.put_batch.ensures.good c.self.invariant.1),
)
