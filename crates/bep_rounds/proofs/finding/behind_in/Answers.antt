use Rattle.std.proofs.Common.{◌≡◌, ◌∙◌, ◌<◌, ◌≤◌, [], ◌∷◌, Some, None, false, rules, sym, ap, subst, arith}
use Rattle.std.specs.FinMap.{get}
use Rattle.bep_record.specs.declared.entry.Entry.{Entry}
use Rattle.bep_index.specs.After.{IsAfter}
use Rattle.bep_index.specs.Listing.{Listing}
use Rattle.bep_model.specs.Tables.{FileName}
use Rattle.bep_peer.specs.network.Network.{cluster_of}
use Rattle.bep_rounds.specs.Finding.{NoneIsBehind}
use Rattle.bep_rounds.proofs.Owned.{own_told}
use Rattle.bep_rounds.proofs.Searched.{found_here, none_here}
use Rattle.bep_rounds.proofs.Walks.{SoUpTo, after_at, so_up_to_last, so_up_to_next, so_up_to_none}
use Rattle.bep_rounds.proofs.finding.behind_in.Goals as goal

pub loop-top-init : goal.loop-top-init
loop-top-init g c =
    so_up_to_none (λ (name : FileName). NoneIsBehind (cluster_of c.args.cluster.now) c.args.replica.now.device c.args.replica.now.folder name) c.index-index.result.now c.records_are_good.ensures.an_index

pub wanted_at-requires-clause-own : goal.wanted_at-requires-clause-own
wanted_at-requires-clause-own g c =
    let after : IsAfter c.index-index.result.now.records c.loop-top.sequence 1 (c.in-Some.top.now ∷ []) = after_at c.index-index.result.now.records c.loop-top.sequence c.place_above.result (Some c.in-Some.top.now) c.in-Some.ensures.value (c.place_above.ensures.after 1) in
    subst (λ (index : Listing). get index.records c.in-Some.top.now.name ≡ Some c.in-Some.top.now) c.index-index.ensures after.run.recorded.0

pub loop-top-preserved : goal.loop-top-preserved
loop-top-preserved g c =
    let index = c.index-index.result.now in
    let next = c.in-Some.top.now in
    let after : IsAfter index.records c.loop-top.sequence 1 (next ∷ []) = after_at index.records c.loop-top.sequence c.place_above.result (Some next) c.in-Some.ensures.value (c.place_above.ensures.after 1) in
    let P = λ (name : FileName). NoneIsBehind (cluster_of c.args.cluster.now) c.args.replica.now.device c.args.replica.now.folder name in
    let told : c.is_some.result ≡ false = search rules in
    subst (λ (e : Entry). SoUpTo P index e.sequence) (sym c.entry.ensures.value)
    (so_up_to_next P index c.records_are_good.ensures.an_index c.loop-top.sequence next after
    (none_here (cluster_of c.args.cluster.now) (P next.name) c.in_ok-found.found c.is_some.result c.is_some.ensures told c.in_ok-found.ensures)
    c.loop-top.invariant)

pub loop-top-smaller : goal.loop-top-smaller
loop-top-smaller g c =
    let index = c.index-index.result.now in
    let next = c.in-Some.top.now in
    let after : IsAfter index.records c.loop-top.sequence 1 (next ∷ []) = after_at index.records c.loop-top.sequence c.place_above.result (Some next) c.in-Some.ensures.value (c.place_above.ensures.after 1) in
    let same : c.entry.result.now.sequence ≡ next.sequence = ap (λ (e : Entry). e.sequence) c.entry.ensures.value in
    let above : c.loop-top.sequence < next.sequence = after.run.rises.0 in
    let least : next.sequence ≤ 9223372036854775807 = after.run.rises.1 in
    omega (arith, same, above, least)

pub returns-then-is_some : goal.returns-then-is_some
returns-then-is_some g c =
    found_here (cluster_of c.args.cluster.now) (NoneIsBehind (cluster_of c.args.cluster.now) c.args.replica.now.device c.args.replica.now.folder c.in-Some.top.now.name)
    ((name : FileName) → NoneIsBehind (cluster_of c.args.cluster.now) c.args.replica.now.device c.args.replica.now.folder name) c.in_ok-found.found c.is_some.result c.is_some.ensures c.if-is_some.true c.in_ok-found.ensures

pub returns : goal.returns
returns g c = λ name top prevails owned.
    let index = c.index-index.result.now in
    let network = c.args.cluster.now in
    let P = λ (one : FileName). NoneIsBehind (cluster_of network) c.args.replica.now.device c.args.replica.now.folder one in
    let after : IsAfter index.records c.loop-top.sequence 1 [] = after_at index.records c.loop-top.sequence c.place_above.result None c.in_default.ensures.value (c.place_above.ensures.after 1) in
    let had : get c.args.replica.now.tables.index.records name ≡ Some top = sym (own_told network c.cluster_is_sound.ensures c.args.replica.now.device c.args.replica.now.folder name (Some c.args.replica.now.tables) (sym c.requires)) ∙ owned in
    so_up_to_last P index c.records_are_good.ensures.an_index c.loop-top.sequence after c.loop-top.invariant name top
    (subst (λ (listing : Listing). get listing.records name ≡ Some top) (sym c.index-index.ensures) had) top prevails owned
