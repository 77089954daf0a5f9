use Rattle.std.proofs.Common.{◌≡◌, true, false, rules, sym, subst, arith, Option}
use Rattle.std.specs.Option.{option_copied}
use Rattle.bep_record.specs.declared.entry.Entry.{Entry}
use Rattle.bep_model.specs.Tables.{Device}
use Rattle.bep_machine.specs.Said.{tables_of_cluster}
use Rattle.bep_peer.specs.network.Network.{cluster_of}
use Rattle.bep_converge.specs.Prevails.{IsAtTop}
use Rattle.bep_rounds.proofs.Rounds.{is_not_so, is_so}
use Rattle.bep_rounds.proofs.Tops.{own_of_top}
use Rattle.bep_rounds.proofs.Walks.{member_at_place, so_of_each, so_of_next, so_of_none}
use Rattle.bep_rounds.proofs.behind.one_below.Goals as goal

pub loop-other-init : goal.loop-other-init
loop-other-init g c = so_of_none (λ (device : Device). IsAtTop ((tables_of_cluster (cluster_of c.args.cluster.now)).own device c.args.folder.now c.args.top.now.name) c.args.top.now) c.args.others.now

pub loop-other-preserved : goal.loop-other-preserved
loop-other-preserved g c =
    let t = tables_of_cluster (cluster_of c.args.cluster.now) in
    let top = c.args.top.now in
    let told : c.is_at_top.result ≡ true = search rules in
    so_of_next (λ (device : Device). IsAtTop (t.own device c.args.folder.now top.name) top) c.args.others.now c.loop-other.other-index c.other-item.result c.loop-other-test.true c.other-item.is
    (subst (λ (own : Option Entry). IsAtTop own top) (own_of_top t c.other-item.result c.args.folder.now top c.entry.result.now _ c.own_record-own.ensures c.entry.ensures.value)
    (is_so (IsAtTop (option_copied c.own_record-own.result) top) c.is_at_top.result c.is_at_top.ensures told))
    c.loop-other.invariant

pub returns-then-not-is_at_top-clause-listed : goal.returns-then-not-is_at_top-clause-listed
returns-then-not-is_at_top-clause-listed g c = member_at_place c.args.others.now c.loop-other.other-index c.other-item.result c.loop-other-test.true c.other-item.is

pub returns-then-not-is_at_top-clause-below : goal.returns-then-not-is_at_top-clause-below
returns-then-not-is_at_top-clause-below g c = λ at.
    let t = tables_of_cluster (cluster_of c.args.cluster.now) in
    let top = c.args.top.now in
    let told : c.is_at_top.result ≡ false = search rules in
    is_not_so (IsAtTop (option_copied c.own_record-own.result) top) c.is_at_top.result c.is_at_top.ensures told
    (subst (λ (own : Option Entry). IsAtTop own top) (sym (own_of_top t c.other-item.result c.args.folder.now top c.entry.result.now _ c.own_record-own.ensures c.entry.ensures.value)) at)

pub returns-clause-none : goal.returns-clause-none
returns-clause-none g c =
    so_of_each (λ (device : Device). IsAtTop ((tables_of_cluster (cluster_of c.args.cluster.now)).own device c.args.folder.now c.args.top.now.name) c.args.top.now) c.args.others.now c.loop-other.other-index (omega arith) c.loop-other.invariant
