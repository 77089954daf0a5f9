use Rattle.std.proofs.Common.{◌≡◌, true, false, rules, sym, subst, arith, Option}
use Rattle.std.specs.Option.{option_copied}
use Rattle.bep_record.specs.declared.entry.Entry.{Entry}
use Rattle.bep_model.specs.Tables.{Device}
use Rattle.bep_machine.specs.Said.{tables_of_cluster}
use Rattle.bep_peer.specs.network.Network.{cluster_of}
use Rattle.bep_rounds.specs.Finding.{IsUpTo}
use Rattle.bep_rounds.proofs.Rounds.{is_not_so, is_so}
use Rattle.bep_rounds.proofs.Tops.{own_of_top}
use Rattle.bep_rounds.proofs.Walks.{all_are, member_at_place, not_all_are, so_of_each, so_of_next, so_of_none}
use Rattle.bep_rounds.proofs.behind.are_up_to.Goals as goal

pub loop-other-init : goal.loop-other-init
loop-other-init g c = so_of_none (λ (device : Device). IsUpTo ((tables_of_cluster (cluster_of c.args.cluster.now)).own device c.args.folder.now c.args.top.now.name) c.args.top.now) c.args.others.now

pub loop-other-preserved : goal.loop-other-preserved
loop-other-preserved g c =
    let t = tables_of_cluster (cluster_of c.args.cluster.now) in
    let top = c.args.top.now in
    let told : c.is_up_to.result ≡ true = search rules in
    so_of_next (λ (device : Device). IsUpTo (t.own device c.args.folder.now top.name) top) c.args.others.now c.loop-other.other-index c.other-item.result c.loop-other-test.true c.other-item.is
    (subst (λ (own : Option Entry). IsUpTo own top) (own_of_top t c.other-item.result c.args.folder.now top c.entry.result.now _ c.own_record-own.ensures c.entry.ensures.value)
    (is_so (IsUpTo (option_copied c.own_record-own.result) top) c.is_up_to.result c.is_up_to.ensures told))
    c.loop-other.invariant

pub returns-then-not-is_up_to : goal.returns-then-not-is_up_to
returns-then-not-is_up_to g c =
    let t = tables_of_cluster (cluster_of c.args.cluster.now) in
    let top = c.args.top.now in
    let told : c.is_up_to.result ≡ false = search rules in
    not_all_are (λ (device : Device). IsUpTo (t.own device c.args.folder.now top.name) top) c.args.others.now c.other-item.result
    (member_at_place c.args.others.now c.loop-other.other-index c.other-item.result c.loop-other-test.true c.other-item.is)
    (λ up_to.
    is_not_so (IsUpTo (option_copied c.own_record-own.result) top) c.is_up_to.result c.is_up_to.ensures told
    (subst (λ (own : Option Entry). IsUpTo own top) (sym (own_of_top t c.other-item.result c.args.folder.now top c.entry.result.now _ c.own_record-own.ensures c.entry.ensures.value)) up_to))

pub returns : goal.returns
returns g c =
    let P = λ (device : Device). IsUpTo ((tables_of_cluster (cluster_of c.args.cluster.now)).own device c.args.folder.now c.args.top.now.name) c.args.top.now in
    all_are P c.args.others.now (so_of_each P c.args.others.now c.loop-other.other-index (omega arith) c.loop-other.invariant)
