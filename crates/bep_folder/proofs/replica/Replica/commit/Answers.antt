use Rattle.std.proofs.Common.{rules, subst}
use Rattle.bep_folder.specs.inner.Found.{Records}
use Rattle.bep_folder.specs.Held.{Held}
use Rattle.bep_folder.proofs.CommitFacts.{IsReadAgain, IsRecorded, recorded}
use Rattle.bep_folder.proofs.HeldFacts.{held_of}
use Rattle.bep_folder.proofs.replica.Replica.commit.Given.{Over}
use Rattle.bep_folder.proofs.replica.Replica.commit.Goals as goal

abbrev now : (g : Over) → goal.After-record_found g → Held
now g c = held_of c.self.inside.device c.self.inside.folder c.self.inside.kind c.self.inside.others c.record_found.new.index c.self.inside.views c.self.inside.pulls c.must_be_fresh.new.store

done : (g : Over) (c : goal.After-record_found g) → IsRecorded c.args.scan c.args.self.now (now g c) c.record_found.result
done g c =
    let read : IsReadAgain c.args.scan c.args.self.now (now g c) = record { fresh = search rules; steady = search rules; faults = search rules } in
    recorded c.args.scan c.args.self.now (now g c) read c.record_found.new.index c.record_found.result
    (subst (λ (h : Held). Records h.tables.kind h.device c.args.scan h.tables.index c.record_found.new.index c.record_found.result) c.self.view_is c.record_found.ensures)
    (search rules)

pub returns-clause-commits : goal.returns-clause-commits
returns-clause-commits g c = (done g c).commits

pub returns-clause-first : goal.returns-clause-first
returns-clause-first g c = (done g c).first

pub returns-clause-counted : goal.returns-clause-counted
returns-clause-counted g c = (done g c).counted
