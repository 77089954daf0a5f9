use Rattle.std.proofs.Common.{ap, sym, subst, ◌∙◌}
use Rattle.std.specs.FinMap.{empty}
use Rattle.bep_index.specs.Batch.{last_sequence, with_all}
use Rattle.bep_index.specs.Good.{AreGood}
use Rattle.bep_index.proofs.BatchFacts.{IsView-replaced, IsView-equal}
use Rattle.bep_index.proofs.GoodFacts.{good_with_all, nothing_is_good}
use Rattle.bep_index.proofs.view.View.replace.Goals as goal

pub invariant_of-self : goal.invariant_of-self
invariant_of-self c =
    let records = c.in_ok-put_batch.ensures.ok ∙ ap (λ m. with_all m c.args.batch) c.new-records.ensures in (
      IsView-equal c.self.inside.id _ _ _ _
          (c.last_sequence_of-sequence.ensures ∙ ap (last_sequence 0) c.as_slice.ensures.value)
          records
          (IsView-replaced (record { id = c.self.inside.id; sequence = 0; records = empty }) c.args.batch c.as_slice.ensures.a_batch),
      subst AreGood (sym records) (good_with_all empty c.args.batch c.put_batch.ensures.good nothing_is_good),
    )
