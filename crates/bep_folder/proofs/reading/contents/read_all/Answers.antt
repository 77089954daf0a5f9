use Rattle.std.proofs.Common.{◌≡◌, ◌∙◌, ◌+◌, [], List, ap, arith, refl, subst, sym, take}
use Rattle.std.proofs.lemmas.List.{take_all}
use Rattle.std.specs.Cmp.Lexicographic.{nat_list_cmp_total}
use Rattle.std.proofs.lemmas.Map.Lookups.{exact_bytes}
use Rattle.bep_facts.specs.Filled.{IsFilled, all_filled, filled_next, none_filled, with_value}
use Rattle.bep_facts.specs.Places.{done_with}
use Rattle.bep_map.specs.NameMap.{ByName}
use Rattle.bep_model.specs.Tables.{FileName}
use Rattle.bep_record.specs.declared.node.NodeParts.{NodeParts}
use Rattle.std.specs.FinMap.{get}
use Rattle.bep_folder.proofs.reading.contents.read_all.Goals as goal

pub loop-name-init : goal.loop-name-init
loop-name-init g c =
    (subst (IsFilled c.args.store.now.contents []) (sym c.new-nodes.ensures) (none_filled nat_list_cmp_total exact_bytes c.args.store.now.contents), refl, refl, refl)

pub loop-name-preserved : goal.loop-name-preserved
loop-name-preserved g c =
    let contents = c.args.store.now.contents in
    let names = c.args.names.now in
    let index = c.loop-name.name-index in
    let before = c.loop-name.invariant in
    let reads = c.in_ok-read_one.ensures.reads in
    let next : c.read_one.new.nodes ≡ with_value c.loop-name.nodes c.name-item.result (get contents c.name-item.result) =
    c.in_ok-read_one.ensures.ok ∙ ap (λ (m : ByName NodeParts). with_value c.loop-name.nodes c.name-item.result (get m c.name-item.result)) before.1 in (
      subst (λ (nodes : ByName NodeParts). IsFilled contents (take (index + 1) names) nodes) (sym next)
          (subst (λ (done : List FileName). IsFilled contents done (with_value c.loop-name.nodes c.name-item.result (get contents c.name-item.result)))
          (sym (done_with names index c.name-item.result c.loop-name-test.true c.name-item.is))
          (filled_next nat_list_cmp_total exact_bytes contents (take index names) c.name-item.result c.loop-name.nodes before.0)),
      reads.0 ∙ before.1,
      reads.1 ∙ before.2,
      reads.2 ∙ before.3,
    )

pub returns-clause-nodes : goal.returns-clause-nodes
returns-clause-nodes g c =
    let names = c.args.names.now in
    let index = c.loop-name.name-index in
    let all = take_all index names (omega arith) ∙ c.requires in
    all_filled nat_list_cmp_total exact_bytes c.args.store.now.contents (take index names) c.loop-name.nodes all c.loop-name.invariant.0
