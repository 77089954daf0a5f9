use Rattle.std.proofs.Common.{sym, subst}
use Rattle.bep_machine.specs.Pull.{ArePullsFull}
use Rattle.bep_folder.specs.Held.{Held}
use Rattle.bep_folder.proofs.HeldFacts.{IsHeld-put}
use Rattle.bep_folder.proofs.replica.Replica.put_pull.Goals as goal

pub invariant_of-self : goal.invariant_of-self
invariant_of-self g c =
    IsHeld-put c.put_in.result c.self.inside.device c.self.inside.others c.self.inside.views c.self.inside.pulls c.put_in.new.pulls c.args.name.now c.args.pull
    c.put_in.ensures.ok c.put_in.ensures.err c.requires.named (subst (λ (h : Held). ¬ ArePullsFull h.tables c.args.name.now) (sym c.self.view_is) c.requires.room) c.self.invariant
