use Rattle.std.proofs.Common.{rules, of_calls, ◌≡◌, ◌↔◌, ◌-◌, true, false, Contains, length, take, drop, sym, subst, arith}
use Rattle.std.specs.List.Sorted.{IsPartitionedBy, IsPartitionPoint}
use Rattle.std.proofs.lemmas.Fn.{always_returns_same}
use Rattle.std.proofs.lemmas.List.{length-drop, take_all}
use Rattle.bep_explain.proofs.AboutFacts.{Key, below, up_to, below_parts, up_to_parts, rest_is_sorted, found_about}
use Rattle.bep_explain.proofs.by_name.about.Goals as goal

pub returns : goal.returns
returns g c = λ sorted.
    let key = g.T.OfName.key in
    let at : Key = (c.args.folder.now, c.args.name.now) in
    let xs = c.args.items.now in
    let from = c.partition_point-from.result in
    let count = c.partition_point-count.result in
    let rest = drop from xs in
    let whole : take (length xs - from) rest ≡ rest = take_all (length xs - from) rest (omega (arith, length-drop from xs)) in
    let first = c.partition_point-from.ensures.partitioned (below key at) (always_returns_same _ _ _ (λ a r f k. search (rules, of_calls))) (below_parts key at xs sorted) in
    let parts = subst (IsPartitionedBy (up_to key at)) (sym whole) (up_to_parts key at rest (rest_is_sorted key at xs from sorted)) in
    let last = c.partition_point-count.ensures.partitioned (up_to key at) (always_returns_same _ _ _ (λ a r f k. search (rules, of_calls))) parts in
    let there = subst (λ l. IsPartitionPoint (λ x. up_to key at x ≡ true) (λ x. up_to key at x ≡ false) l count) whole last in
    λ one. subst (λ l. Contains (take count l) one ↔ (Contains xs one × (key one ≡ at))) (sym whole) (found_about key at xs from count first there one)
