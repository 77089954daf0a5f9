use Rattle.std.proofs.Common.{◌≡◌, ◌∙◌, ℕ, List, sym, ap, subst, take, drop, arith}
use Rattle.std.specs.FinMap.{empty}
use Rattle.bep_record.specs.declared.entry.Entry.{Entry}
use Rattle.bep_index.specs.Listing.{Listing}
use Rattle.bep_index.specs.Batch.{IsBatch, with_all}
use Rattle.bep_index.specs.Order.{in_order, count_up_to}
use Rattle.bep_index.specs.After.{IsAfter}
use Rattle.bep_index.proofs.AfterFacts.{IsAfter-place, IsBatch-stretch}
use Rattle.bep_index.proofs.OrderFacts.{in_order-with_all}
use Rattle.bep_index.proofs.PlaceFacts.{len-records}
use Rattle.bep_index.proofs.index.Index.place_above.Goals as goal

pub returns-clause-value : goal.returns-clause-value
returns-clause-value c =
    subst (λ (index : Listing). c.place_above.result ≡ count_up_to c.args.sequence (in_order index.records)) c.self.view_is
    (c.place_above.ensures.value ∙ ap (count_up_to c.args.sequence) (sym (in_order-with_all c.self.inside.records c.self.invariant.1)))

-- what stands from the place on
abbrev from_place : goal.After-place_above → List Entry → ℕ → List Entry
from_place c entries limit = take limit (drop c.place_above.result entries)

is_after : (c : goal.After-place_above) (limit : ℕ) → IsAfter (with_all empty c.self.inside.records) c.args.sequence limit (from_place c (in_order (with_all empty c.self.inside.records)) limit)
is_after c limit =
    subst (λ (entries : List Entry). IsAfter (with_all empty c.self.inside.records) c.args.sequence limit (from_place c entries limit)) (sym (in_order-with_all c.self.inside.records c.self.invariant.1))
    (subst (λ (place : ℕ). IsAfter (with_all empty c.self.inside.records) c.args.sequence limit (take limit (drop place c.self.inside.records))) (sym c.place_above.ensures.value)
    (IsAfter-place c.args.sequence limit c.self.inside.records c.self.invariant.1))

pub returns-clause-after : goal.returns-clause-after
returns-clause-after c =
    subst (λ (index : Listing). (limit : ℕ) → IsAfter index.records c.args.sequence limit (from_place c (in_order index.records) limit)) c.self.view_is (is_after c)

pub returns-clause-batch : goal.returns-clause-batch
returns-clause-batch c limit few =
    subst (λ (index : Listing). IsBatch (from_place c (in_order index.records) limit)) c.self.view_is
    (let after = is_after c limit in let most = after.at_most in IsBatch-stretch _ c.args.sequence _ after.run (omega arith))

pub returns-clause-small : goal.returns-clause-small
returns-clause-small c =
    let within = c.place_above.ensures.within in
    let few = c.self.invariant.0.few in
    let many = len-records c.self.inside.records c.self.invariant.1.names in
    omega arith
