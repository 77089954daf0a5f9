use Rattle.std.proofs.Common.{rules, sym, subst}
use Rattle.bep_folder.specs.Held.{AreOthers}
use Rattle.bep_peer.proofs.SessionFacts.{none_named}
use Rattle.bep_peer.proofs.peer.Peer.new.Goals as goal

pub invariant_of-result : goal.invariant_of-result
invariant_of-result g c = record {
  own = c.are_own.ensures.0 (search rules);
  named = none_named c.args.folders c.new.result c.new.ensures;
  linked_to = subst (AreOthers c.args.number) (sym c.new-2.ensures) (search rules);
}
