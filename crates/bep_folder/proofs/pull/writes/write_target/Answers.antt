use Rattle.std.proofs.Common.{◌≡◌, Some, None, inl, inr, sym, ap, subst, ◌∙◌}
use Rattle.std.specs.Prelude.{⊤, ◌≢◌}
use Rattle.std.specs.Option.{option_copied}
use Rattle.bep_record.specs.Entry.{IsWellFormed}
use Rattle.bep_record.specs.declared.entry.Entry.{Entry}
use Rattle.bep_machine.specs.Pull.{IsMissingBlocks, timed, written}
use Rattle.bep_folder.specs.inner.Ending.{CallsIn, EndsIn}
use Rattle.bep_folder.specs.Calls.{CallsIf}
use Rattle.bep_folder.proofs.CallFacts.{removing, timing, writing}
use Rattle.bep_folder.proofs.EndingFacts.{misses_nothing, written_stays}
use Rattle.bep_folder.proofs.StoredFacts.{Stores-for}
use Rattle.bep_folder.proofs.pull.writes.write_target.Goals as goal

pub returns-then-same-clause-writes : goal.returns-then-same-clause-writes
returns-then-same-clause-writes g c =
    let target : c.entry-entry.result.now ≡ c.args.pull.now.target = c.entry-entry.ensures.value ∙ c.target-target.ensures.value in
    let after = timed (option_copied c.args.node) c.entry-entry.result.now in
    (after, subst (λ s. EndsIn s (option_copied c.args.node) c.args.pull.now after) (sym c.if-same.true) (ap (timed (option_copied c.args.node)) target), Stores-for {called = after ≢ option_copied c.args.node} {other = CallsIn c.args.same (option_copied c.args.node) c.args.pull.now.target after} c.args.name.now after c.args.store.now c.take_time.new.store c.take_time.result (λ apart. inl apart) c.take_time.ensures.stores)

pub returns-in-Some-clause-writes : goal.returns-in-Some-clause-writes
returns-in-Some-clause-writes g c =
    let target : c.target-target.result.now ≡ c.args.pull.now.target = c.target-target.ensures.value in
    let whole : ¬ IsMissingBlocks c.args.pull.now = misses_nothing c.args.pull.now (subst (λ e. IsWellFormed e) target c.entry-entry.ensures.well_formed) c.target-target.ensures.a_pull (λ file. c.requires.complete file c.if-same.false) in
    let is : Some c.in-Some.written.now ≡ written c.args.pull.now = ap option_copied (sym c.in-Some.is) ∙ c.node.ensures whole in
    (Some c.in-Some.written.now, subst (λ s. EndsIn s (option_copied c.args.node) c.args.pull.now (Some c.in-Some.written.now)) (sym c.if-same.false) is, Stores-for {called = ⊤} {other = CallsIn c.args.same (option_copied c.args.node) c.args.pull.now.target (Some c.in-Some.written.now)} c.args.name.now (Some c.in-Some.written.now) c.args.store.now c.write_node.new.store c.write_node.result (λ _. inr (c.if-same.false, written_stays c.args.pull.now _ is)) c.write_node.ensures.stores)

pub returns-in-None-clause-writes : goal.returns-in-None-clause-writes
returns-in-None-clause-writes g c =
    let target : c.target-target.result.now ≡ c.args.pull.now.target = c.target-target.ensures.value in
    let whole : ¬ IsMissingBlocks c.args.pull.now = misses_nothing c.args.pull.now (subst (λ e. IsWellFormed e) target c.entry-entry.ensures.well_formed) c.target-target.ensures.a_pull (λ file. c.requires.complete file c.if-same.false) in
    let is : None ≡ written c.args.pull.now = ap option_copied (sym c.in-None.is) ∙ c.node.ensures whole in
    (None, subst (λ s. EndsIn s (option_copied c.args.node) c.args.pull.now None) (sym c.if-same.false) is, Stores-for {called = None ≢ option_copied c.args.node} {other = CallsIn c.args.same (option_copied c.args.node) c.args.pull.now.target None} c.args.name.now None c.args.store.now c.remove_node.new.store c.remove_node.result (λ apart. inl apart) c.remove_node.ensures.removed)

pub returns-then-same-clause-called : goal.returns-then-same-clause-called
returns-then-same-clause-called g c =
    let target : c.entry-entry.result.now ≡ c.args.pull.now.target = c.entry-entry.ensures.value ∙ c.target-target.ensures.value in
    let node = option_copied c.args.node in
    timing c.args.pull.now node c.args.store.now.made c.take_time.new.store.made c.args.same c.if-same.true
    (subst (λ (e : Entry). CallsIf (timed node e ≢ node) c.args.store.now.made c.take_time.new.store.made) target c.take_time.ensures.called)

pub returns-in-Some-clause-called : goal.returns-in-Some-clause-called
returns-in-Some-clause-called g c =
    let target : c.target-target.result.now ≡ c.args.pull.now.target = c.target-target.ensures.value in
    let whole : ¬ IsMissingBlocks c.args.pull.now = misses_nothing c.args.pull.now (subst (λ e. IsWellFormed e) target c.entry-entry.ensures.well_formed) c.target-target.ensures.a_pull (λ file. c.requires.complete file c.if-same.false) in
    let is : Some c.in-Some.written.now ≡ written c.args.pull.now = ap option_copied (sym c.in-Some.is) ∙ c.node.ensures whole in
    writing c.args.pull.now (option_copied c.args.node) c.args.store.now.made c.write_node.new.store.made c.args.same c.if-same.false (written_stays c.args.pull.now _ is) c.write_node.ensures.made

pub returns-in-None-clause-called : goal.returns-in-None-clause-called
returns-in-None-clause-called g c =
    let target : c.target-target.result.now ≡ c.args.pull.now.target = c.target-target.ensures.value in
    let whole : ¬ IsMissingBlocks c.args.pull.now = misses_nothing c.args.pull.now (subst (λ e. IsWellFormed e) target c.entry-entry.ensures.well_formed) c.target-target.ensures.a_pull (λ file. c.requires.complete file c.if-same.false) in
    let is : None ≡ written c.args.pull.now = ap option_copied (sym c.in-None.is) ∙ c.node.ensures whole in
    removing c.args.pull.now (option_copied c.args.node) c.args.store.now.made c.remove_node.new.store.made c.args.same c.if-same.false is c.remove_node.ensures.made
