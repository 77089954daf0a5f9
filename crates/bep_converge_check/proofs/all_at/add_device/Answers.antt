use Rattle.std.proofs.Common.{◌↔◌, IsTrue, Some, map, get_or}
use Rattle.bep_model.specs.Tables.{Folder, FileName}
use Rattle.bep_tables.specs.Cut.{tables_of}
use Rattle.bep_tables.specs.Listed.{listed}
use Rattle.bep_converge.specs.declared.converge_reason.ConvergeReason.TheVariants.{NothingPrevails}
use Rattle.bep_converge.specs.ConvergeReasons.{AsksThere}
use Rattle.bep_gather.specs.AddFacts.{each_starts, each_goes_on, each_ends, same_item}
use Rattle.bep_converge_check.specs.declared.unmet.TheConstants.{OF_DEVICES}
use Rattle.bep_converge_check.specs.Hindrance.{hinder_shown}
use Rattle.bep_converge_check.specs.inner.Says.{hinder_at, SaysReason}
use Rattle.bep_converge_check.proofs.AmongSays.{among_asked}
use Rattle.bep_converge_check.proofs.HinderFacts.{adds_at}
use Rattle.bep_converge_check.proofs.all_at.add_device.Goals as goal

pub loop-reason-init : goal.loop-reason-init
loop-reason-init c = each_starts (SaysReason (tables_of c.args.cut.now) (c.args.folder.now, c.args.name.now) c.args.share.now) OF_DEVICES (map hinder_shown c.args.found.now.items)

pub loop-reason-preserved : goal.loop-reason-preserved
loop-reason-preserved c =
    let t = tables_of c.args.cut.now in
    let key : Folder × FileName = (c.args.folder.now, c.args.name.now) in
    let share = c.args.share.now in
    let place = c.loop-reason.reason-index in
    let reason = get_or OF_DEVICES place NothingPrevails in
    let middle = map hinder_shown c.loop-reason.found.items in
    let new = map hinder_shown c.add_unless.new.found.items in
    let among = among_asked c.entries_are_held.ensures.held c.entries_are_held.ensures.shares c.cut_says.ensures c.args.cut.now c.is_a_cut.ensures key (map listed c.args.group.now) c.requires.group share c.requires.share reason in
    let asked : IsTrue c.meets_among-met.result ↔ AsksThere t reason key.0 key.1 share.device = (λ is. among.0 (c.meets_among-met.ensures.0 is), λ asks. c.meets_among-met.ensures.1 (among.1 asks)) in
    each_goes_on (SaysReason t key share) OF_DEVICES place reason (map hinder_shown c.args.found.now.items) middle new
    c.loop-reason-test.true (same_item OF_DEVICES place NothingPrevails reason c.loop-reason-test.true) c.loop-reason.invariant
    (adds_at (hinder_shown c.at_device.result) (hinder_at reason key (Some share.device)) c.at_device.ensures (AsksThere t reason key.0 key.1 share.device) c.meets_among-met.result middle new asked c.in_ok-add_unless.ensures)

pub returns : goal.returns
returns c =
    each_ends (SaysReason (tables_of c.args.cut.now) (c.args.folder.now, c.args.name.now) c.args.share.now) OF_DEVICES c.loop-reason.reason-index
    (map hinder_shown c.args.found.now.items) (map hinder_shown c.loop-reason.found.items) c.loop-reason-test.false c.loop-reason.invariant
