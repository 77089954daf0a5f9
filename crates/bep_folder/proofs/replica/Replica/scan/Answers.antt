use Rattle.std.proofs.Common.{Some, rules, subst}
use Rattle.bep_folder.specs.inner.Found.{Records}
use Rattle.bep_folder.specs.Held.{Held}
use Rattle.bep_folder.proofs.HeldFacts.{held_of}
use Rattle.bep_folder.proofs.ScanFacts.{scanned_at_hand}
use Rattle.bep_folder.proofs.replica.Replica.scan.Goals as goal

pub returns-in-Some-clause-scanned : goal.returns-in-Some-clause-scanned
returns-in-Some-clause-scanned g c =
    let new : Held = held_of c.self.inside.device c.self.inside.folder c.self.inside.kind c.self.inside.others c.record_seen.new.index c.self.inside.views c.self.inside.pulls c.begin.new.self in
    (scanned_at_hand c.args.name.now c.in-Some.node.now c.args.self.now new c.record_seen.new.index c.record_seen.result (search rules) (search rules) (search rules)
    (subst (λ (h : Held). Records h.tables.kind h.device (record { name = c.args.name.now; node = Some c.in-Some.node.now }) h.tables.index c.record_seen.new.index c.record_seen.result) c.self.view_is c.record_seen.ensures)
    (search rules)).made

pub returns-in-Some-clause-first : goal.returns-in-Some-clause-first
returns-in-Some-clause-first g c =
    let new : Held = held_of c.self.inside.device c.self.inside.folder c.self.inside.kind c.self.inside.others c.record_seen.new.index c.self.inside.views c.self.inside.pulls c.begin.new.self in
    (scanned_at_hand c.args.name.now c.in-Some.node.now c.args.self.now new c.record_seen.new.index c.record_seen.result (search rules) (search rules) (search rules)
    (subst (λ (h : Held). Records h.tables.kind h.device (record { name = c.args.name.now; node = Some c.in-Some.node.now }) h.tables.index c.record_seen.new.index c.record_seen.result) c.self.view_is c.record_seen.ensures)
    (search rules)).first

pub returns-in-Some-clause-counted : goal.returns-in-Some-clause-counted
returns-in-Some-clause-counted g c =
    let new : Held = held_of c.self.inside.device c.self.inside.folder c.self.inside.kind c.self.inside.others c.record_seen.new.index c.self.inside.views c.self.inside.pulls c.begin.new.self in
    (scanned_at_hand c.args.name.now c.in-Some.node.now c.args.self.now new c.record_seen.new.index c.record_seen.result (search rules) (search rules) (search rules)
    (subst (λ (h : Held). Records h.tables.kind h.device (record { name = c.args.name.now; node = Some c.in-Some.node.now }) h.tables.index c.record_seen.new.index c.record_seen.result) c.self.view_is c.record_seen.ensures)
    (search rules)).counted
