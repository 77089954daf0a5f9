use Rattle.std.proofs.Common.{◌≡◌, ◌↔◌, true, Option, Ok, subst}
use Rattle.std.specs.FinMap as map
use Rattle.std.specs.Option.{option_copied}
use Rattle.bep_record.specs.declared.entry.Entry.{Entry}
use Rattle.bep_machine.specs.Replica.{HasContentOf}
use Rattle.bep_folder.proofs.CallFacts.{since_written}
use Rattle.bep_folder.proofs.pull.adopt.put_and_write.Goals as goal

pub returns-in-Ok-write_all-clause-called : goal.returns-in-Ok-write_all-clause-called
returns-in-Ok-write_all-clause-called g c =
    let own = map.get c.args.index.now.records c.args.name.now in
    let same = c.has_content_of-same.result in
    let has : (same ≡ true) ↔ HasContentOf own c.args.pull.now.target =
    subst (λ (found : Option Entry). (same ≡ true) ↔ HasContentOf found c.args.pull.now.target) c.get.ensures.value
    (subst (λ (target : Entry). (same ≡ true) ↔ HasContentOf (option_copied c.get.result) target) c.target.ensures.value c.has_content_of-same.ensures) in
    since_written same own (option_copied c.args.node) c.args.pull.now (option_copied c.args.copy) c.args.store.now c.write_all.new.store (Ok tt) has c.in-Ok-write_all.ensures.called
