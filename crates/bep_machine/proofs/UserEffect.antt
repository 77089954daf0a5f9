-- An edit and a removal change the name's node, and nothing else.
use Rattle.std.proofs.Common.{◌≡◌, Option, Some, None, refl, inl, inr}
use Rattle.bep_record.specs.declared.node.NodeParts.{NodeParts}
use Rattle.bep_model.specs.Tables.{FileName}
use Rattle.bep_machine.specs.Answer.{Answer, Done}
use Rattle.bep_machine.specs.declared.moved.Moved.TheVariants.{Changed}
use Rattle.bep_machine.specs.Local.{EditRow, RemoveRow}
use Rattle.bep_machine.specs.Replica.{Replica, with_node}
use Rattle.bep_machine.specs.Effects.{HasPut, EditPuts, RemoveTakes}
use Rattle.bep_machine.proofs.EffectFacts.{none_fails}
use Rattle.bep_machine.proofs.ReplicaFacts.{with_node_here, with_node_apart}

rest_stays : (name : FileName) (node : Option NodeParts) (old : Replica) → with_node old name node ≡ record old { store = (with_node old name node).store }
rest_stays name None old = refl
rest_stays name (Some node) old = refl

has_put : (name : FileName) (node : Option NodeParts) (old : Replica) → HasPut name node old (with_node old name node)
has_put name held old = record {
  here = with_node_here old name held;
  others = λ other apart. with_node_apart old name held other apart;
  rest = rest_stays name held old;
}

pub edit_puts : EditPuts
edit_puts name node old = record {
  made = with_node old name (Some node);
  comes = inr (none_fails 1, (refl, refl));
  fits = has_put name (Some node) old;
  only = only;
}
  where
    only : (new : Replica) (answer : Answer) → EditRow name node None old new answer → (new ≡ with_node old name (Some node)) × (answer ≡ Done Changed)
    only new answer (inl fails) = absurd (none_fails 1 fails.0)
    only new answer (inr put) = put.1

pub remove_takes : RemoveTakes
remove_takes name old there = record {
  made = with_node old name None;
  comes = inr (none_fails 1, inr (there, inr (none_fails 2, (refl, refl))));
  fits = has_put name None old;
  only = only;
}
  where
    only : (new : Replica) (answer : Answer) → RemoveRow name None old new answer → (new ≡ with_node old name None) × (answer ≡ Done Changed)
    only new answer (inl fails) = absurd (none_fails 1 fails.0)
    only new answer (inr (_, inl missing)) = absurd (there missing.0)
    only new answer (inr (_, inr (_, inl fails))) = absurd (none_fails 2 fails.0)
    only new answer (inr (_, inr (_, inr taken))) = taken.1
