use Rattle.std.proofs.Common.{rules, subst}
use Rattle.std.specs.Option.{option_copied}
use Rattle.bep_folder.specs.Held.{Held}
use Rattle.bep_folder.specs.inner.Reverting.{GivesUp}
use Rattle.bep_folder.proofs.HeldFacts.{held_of}
use Rattle.bep_folder.proofs.RevertFacts.{IsLeft, IsReverted, Reverting, given_up}
use Rattle.bep_folder.proofs.replica.Replica.revert_one.Given.{Over}
use Rattle.bep_folder.proofs.replica.Replica.revert_one.Goals as goal

abbrev now : (g : Over) → goal.Joined-node g → Held
now g c = held_of c.self.inside.device c.self.inside.folder c.self.inside.kind c.self.inside.others c.give_up.new.index c.self.inside.views c.self.inside.pulls c.give_up.new.store

done : (g : Over) (c : goal.Joined-node g) → IsReverted c.args.self.now.device c.args.name.now c.args.self.now (now g c) c.give_up.result
done g c =
    let there = option_copied c.as_ref.result in
    let known : Reverting c.args.name.now there c.args.self.now c.read.new.self = record {
      only = search rules;
      marked = search rules;
      found = search rules;
      contents = search rules;
      faults = search rules;
      made = search rules;
      trace = search rules;
    } in
    let left : IsLeft c.args.self.now (now g c) c.give_up.new.index c.give_up.new.store = record { tables = search rules; faults = search rules; made = search rules; trace = search rules } in
    given_up c.args.self.now.device c.args.name.now there c.args.self.now (now g c) c.read.new.self known c.give_up.new.index c.give_up.new.store left c.give_up.result
    (subst (λ (h : Held). GivesUp h.device c.args.name.now there h.tables.index c.give_up.new.index c.read.new.self c.give_up.new.store c.give_up.result) c.self.view_is c.give_up.ensures)

pub returns-clause-reverted : goal.returns-clause-reverted
returns-clause-reverted g c = (done g c).reverted

pub returns-clause-counted : goal.returns-clause-counted
returns-clause-counted g c = (done g c).counted

pub returns-clause-called : goal.returns-clause-called
returns-clause-called g c = (done g c).called
