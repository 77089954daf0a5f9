use Rattle.std.proofs.Common.{◌≡◌, ◌∷◌, ◌+◌, drop, sym, subst, arith}
use Rattle.std.specs.List.{AllByRecursion}
use Rattle.std.proofs.lemmas.List.{drop_all}
use Rattle.bep_facts.specs.Places.{rest_at}
use Rattle.bep_json.proofs.AddedFacts.{keyed, last_item, list_added, next_item}
use Rattle.bep_cut_document.proofs.writing.add_list.Goals as goal

pub loop-item-preserved : goal.loop-item-preserved
loop-item-preserved g c =
    let items = c.args.items.now in
    let i = c.loop-item.item-index in
    let item = c.item-item.result in
    let here : drop i items ≡ item ∷ drop (i + 1) items = rest_at items i item c.loop-item-test.true c.item-item.is in
    let one = c.in_ok-write.ensures in
    record {
      value = λ end rest. c.loop-item.invariant.value end (next_item g.T.Written.tree_of here one.value rest);
      told = λ later. c.loop-item.invariant.told (subst (AllByRecursion g.T.Written.is_told) (sym here) (one.told, later));
      sound = λ later. c.loop-item.invariant.sound (subst (AllByRecursion g.T.Written.is_sound) (sym here) (one.sound, later));
    }

pub returns-clause-value : goal.returns-clause-value
returns-clause-value g c =
    let none = drop_all c.loop-item.item-index c.args.items.now (omega arith) in
    keyed c.in_ok-key.ensures (list_added c.in_ok-begin_array.ensures (c.loop-item.invariant.value _ (last_item g.T.Written.tree_of none c.in_ok-end_array.ensures)))
