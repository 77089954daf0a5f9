use Rattle.std.proofs.Common.{sym, ap, ◌∙◌}
use Rattle.bep_converge_check.proofs.KnownFacts.{none_valid, valid_as_before, valid_more, all_valid}
use Rattle.bep_converge_check.proofs.known.gathered.Goals as goal
use Rattle.bep_converge_check.proofs.known.gathered.Goals.{in-Some+in_ok-push, in_default}

pub loop-entry-init : goal.loop-entry-init
loop-entry-init c = none_valid c.args.group.now c.new-records.result.items c.new-records.ensures.items

pub loop-entry-preserved : goal.loop-entry-preserved
loop-entry-preserved c =
    let group = c.args.group.now in
    let place = c.loop-entry.entry-index in
    let entry = c.entry-item.result in
    let was = c.loop-entry.records.items in
    elim c.match-valid_record.branch [
      | in-Some+in_ok-push w ↦ valid_more group place entry c.loop-entry-test.true c.entry-item.is was c.loop-entry.invariant (record { found = w.in-Some.found }) c.match-valid_record.records.items (sym w.in-Some.ensures) (ap (λ v. v.items) w.records-is ∙ w.in_ok-push.ensures.items)
      | in_default w ↦ rw (ap (λ v. v.items) w.records-is) (valid_as_before group place entry c.loop-entry-test.true c.entry-item.is was c.loop-entry.invariant (sym w.in_default.ensures))
    ]

pub returns : goal.returns
returns c = all_valid c.args.group.now c.loop-entry.entry-index c.loop-entry-test.false c.loop-entry.records.items c.loop-entry.invariant
