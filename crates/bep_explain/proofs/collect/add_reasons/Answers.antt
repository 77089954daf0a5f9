use Rattle.std.proofs.Common.{◌↔◌, IsTrue, Some, map, get_or}
use Rattle.std.specs.Option.{option_copied}
use Rattle.bep_model.specs.declared.reason.Reason.TheVariants.{CertificateOrder}
use Rattle.bep_model.specs.Settled.{key_of}
use Rattle.bep_tables.specs.Cut.{tables_of}
use Rattle.bep_tables.specs.Listed.{listed}
use Rattle.bep_audit.specs.declared.checkers.TheConstants.{REASONS}
use Rattle.bep_audit.specs.Walk.{failure_shown}
use Rattle.bep_explain.specs.inner.Says.{failure_at, AsksBoth, SaysReasonBoth}
use Rattle.bep_gather.specs.AddFacts.{each_goes_on, each_ends, same_item}
use Rattle.bep_explain.proofs.NameSays.{both_asked}
use Rattle.bep_explain.proofs.OneFact.{adds_at}
use Rattle.bep_explain.proofs.collect.add_reasons.Goals as goal

pub loop-reason-preserved : goal.loop-reason-preserved
loop-reason-preserved c =
    let cut = c.args.cut.now in
    let t = tables_of cut in
    let row = c.args.row.now in
    let other = option_copied c.args.other in
    let share = c.args.share.now in
    let place = c.loop-reason.reason-index in
    let reason = get_or REASONS place CertificateOrder in
    let middle = map failure_shown c.loop-reason.found.items in
    let new = map failure_shown c.add_unless.new.found.items in
    let both = both_asked c.group_says.ensures.asked cut c.is_a_cut.ensures row (map listed c.args.group.now) c.requires.group share c.requires.share reason
    (option_copied c.args.own) c.requires.own (option_copied c.args.node) c.requires.node c.args.other c.requires.other in
    let asked : IsTrue c.meets_both-met.result ↔ AsksBoth t reason row other share.device = (λ is. both.0 (c.meets_both-met.ensures.0 is), λ asks. c.meets_both-met.ensures.1 (both.1 asks)) in
    each_goes_on (SaysReasonBoth t row other share) REASONS place reason (map failure_shown c.args.found.now.items) middle new
    c.loop-reason-test.true (same_item REASONS place CertificateOrder reason c.loop-reason-test.true) c.loop-reason.invariant
    (adds_at c.reasons_are_numbered.ensures.different (failure_shown c.on_device.result) (failure_at reason (key_of row) (Some share.device)) c.on_device.ensures
    (AsksBoth t reason row other share.device) c.meets_both-met.result middle new asked c.in_ok-add_unless.ensures)

pub returns : goal.returns
returns c =
    each_ends (SaysReasonBoth (tables_of c.args.cut.now) c.args.row.now (option_copied c.args.other) c.args.share.now) REASONS c.loop-reason.reason-index
    (map failure_shown c.args.found.now.items) (map failure_shown c.loop-reason.found.items) c.loop-reason-test.false c.loop-reason.invariant
