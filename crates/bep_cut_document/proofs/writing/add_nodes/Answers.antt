use Rattle.std.proofs.Common.{◌≡◌, ◌∷◌, [], ℕ, List, sym, subst}
use Rattle.std.specs.List.{AllByRecursion}
use Rattle.bep_record.specs.Node.{IsNode}
use Rattle.bep_record.specs.declared.node.NodeParts.{NodeParts}
use Rattle.bep_json.specs.Written.{node_written}
use Rattle.bep_json.proofs.AddedFacts.{keyed, last_item, list_added, next_item}
use Rattle.bep_cut_document.specs.inner.Told.{IsNodeTold}
use Rattle.bep_cut_document.proofs.writing.add_nodes.Goals as goal

pub loop-held-preserved : goal.loop-held-preserved
loop-held-preserved c =
    let l = c.loop-held in
    let here : l.held-iterator ≡ (c.in-Some.held.now, c.in-Some.node.now) ∷ c.next.new.self = c.in-Some.ensures.steps in
    let one = c.in_ok-write_node.ensures in
    record {
      value = λ end rest. l.invariant.value end (next_item (λ (held : List ℕ × NodeParts). node_written held.0 held.1) here one.value rest);
      told = λ later. l.invariant.told (subst (AllByRecursion IsNodeTold) (sym here) (one.back, later));
      sound = λ later. l.invariant.sound (subst (AllByRecursion (λ (held : List ℕ × NodeParts). IsNode held.1)) (sym here) (c.parts.ensures.is_node, later));
    }

pub returns-clause-value : goal.returns-clause-value
returns-clause-value c =
    let none : c.loop-held.held-iterator ≡ [] = c.in-None.ensures.steps.0 in
    keyed c.in_ok-key.ensures
    (list_added c.in_ok-begin_array.ensures (c.loop-held.invariant.value _ (last_item (λ (held : List ℕ × NodeParts). node_written held.0 held.1) none c.in_ok-end_array.ensures)))
