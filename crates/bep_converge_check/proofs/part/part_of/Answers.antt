use Rattle.std.proofs.Common.{rules, of_calls, ◌≡◌, ◌↔◌, ◌-◌, true, false, Contains, length, take, drop, map, sym, subst, arith}
use Rattle.std.specs.List.Sorted.{IsPartitionedBy, IsPartitionPoint}
use Rattle.std.proofs.lemmas.Fn.{always_returns_same}
use Rattle.std.proofs.lemmas.List.{length-drop, take_all}
use Rattle.bep_tables.specs.Listed.{listed, AreInOrder}
use Rattle.bep_audit.proofs.NameWalk.{order_rest}
use Rattle.bep_converge_check.proofs.PartFacts.{is_below, is_up_to, below_parts, up_to_parts, order_front, found_in}
use Rattle.bep_converge_check.proofs.part.part_of.Goals as goal

pub returns-clause-in_order : goal.returns-clause-in_order
returns-clause-in_order c =
    let xs = c.args.entries.now in
    let from = c.partition_point-from.result in
    let count = c.partition_point-count.result in
    let rest = drop from xs in
    let whole : take (length xs - from) rest ≡ rest = take_all (length xs - from) rest (omega (arith, length-drop from xs)) in
    subst (λ l. AreInOrder (map listed (take count l))) (sym whole) (order_front count rest (order_rest from xs c.requires))

pub returns-clause-all : goal.returns-clause-all
returns-clause-all c =
    let folder = c.args.folder.now in
    let xs = c.args.entries.now in
    let from = c.partition_point-from.result in
    let count = c.partition_point-count.result in
    let rest = drop from xs in
    let whole : take (length xs - from) rest ≡ rest = take_all (length xs - from) rest (omega (arith, length-drop from xs)) in
    let first = c.partition_point-from.ensures.partitioned (is_below folder) (always_returns_same _ _ _ (λ a r f k. search (rules, of_calls))) (below_parts folder xs c.requires) in
    let parts = subst (IsPartitionedBy (is_up_to folder)) (sym whole) (up_to_parts folder rest (order_rest from xs c.requires)) in
    let last = c.partition_point-count.ensures.partitioned (is_up_to folder) (always_returns_same _ _ _ (λ a r f k. search (rules, of_calls))) parts in
    let there = subst (λ l. IsPartitionPoint (λ x. is_up_to folder x ≡ true) (λ x. is_up_to folder x ≡ false) l count) whole last in
    λ one. subst (λ l. Contains (take count l) one ↔ (Contains xs one × (one.folder.now ≡ folder))) (sym whole) (found_in folder xs from count first there one)
