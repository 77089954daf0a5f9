use Rattle.std.proofs.Common.{◌≡◌, List, IfOk, sym, subst, take, drop, arith}
use Rattle.std.specs.FinMap.{empty}
use Rattle.std.proofs.lemmas.Result.{IfOk-weaker}
use Rattle.bep_record.specs.declared.entry.Entry.{Entry}
use Rattle.bep_index.specs.Listing.{Listing}
use Rattle.bep_index.specs.Batch.{with_all}
use Rattle.bep_index.specs.Order.{count_up_to}
use Rattle.bep_index.specs.After.{IsAfter}
use Rattle.bep_index.proofs.AfterFacts.{IsAfter-place, IsBatch-stretch}
use Rattle.bep_index.proofs.index.Index.after.Goals as goal

-- what is found is what is after the sequence
is_after : (c : goal.After-after) (found : List Entry) → found ≡ take c.args.limit (drop (count_up_to c.args.sequence c.self.inside.records) c.self.inside.records) → IsAfter (with_all empty c.self.inside.records) c.args.sequence c.args.limit found
is_after c found same =
    subst (IsAfter (with_all empty c.self.inside.records) c.args.sequence c.args.limit) (sym same) (IsAfter-place c.args.sequence c.args.limit c.self.inside.records c.self.invariant.1)

pub returns-clause-found : goal.returns-clause-found
returns-clause-found c =
    subst (λ (index : Listing). IfOk c.after.result (λ found. IsAfter index.records c.args.sequence c.args.limit found.items)) c.self.view_is
    (IfOk-weaker c.after.result _ _ (λ found same. is_after c found.items same) c.after.ensures)

pub returns-clause-batch : goal.returns-clause-batch
returns-clause-batch c =
    IfOk-weaker c.after.result _ _
    (λ found same few. let after = is_after c found.items same in let most = after.at_most in IsBatch-stretch _ c.args.sequence found.items after.run (omega arith))
    c.after.ensures
