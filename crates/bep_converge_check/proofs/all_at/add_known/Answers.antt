use Rattle.std.proofs.Common.{◌↔◌, None, map}
use Rattle.bep_record.specs.declared.entry.Entry.{Entry}
use Rattle.bep_model.specs.Tables.{Folder, FileName}
use Rattle.bep_tables.specs.Cut.{shares_of, tables_of}
use Rattle.bep_tables.specs.Listed.{listed}
use Rattle.bep_converge.specs.declared.converge_reason.ConvergeReason.TheVariants.{NothingPrevails, Concurrent, ContentDiffers}
use Rattle.bep_converge.specs.Prevails.{IsAnywhere, IsTop}
use Rattle.bep_converge.specs.ConvergeReasons.{AsksWhole}
use Rattle.bep_gather.specs.Adding.{Each}
use Rattle.bep_gather.specs.AddFacts.{adds_both, adds_as}
use Rattle.bep_converge_check.specs.Hindrance.{Hinder, hinder_shown}
use Rattle.bep_converge_check.specs.inner.Records.{IsIn, IsTopIn}
use Rattle.bep_converge_check.specs.inner.Says.{hinder_at, SaysName, SaysShare, SaysWhole}
use Rattle.bep_converge_check.proofs.AllAtSays.{SaysAll, all_says, top_or_none}
use Rattle.bep_converge_check.proofs.HinderFacts.{adds_at}
use Rattle.bep_converge_check.proofs.NameSays.{anywhere, from_anywhere, top_is, top_among, in_line_as, agree_as}
use Rattle.bep_converge_check.proofs.all_at.add_known.Goals as goal

pub returns : goal.returns
returns c =
    let cut = c.args.cut.now in
    let t = tables_of cut in
    let key : Folder × FileName = (c.args.folder.now, c.args.name.now) in
    let group = map listed c.args.group.now in
    let held = c.entries_are_held.ensures.held in
    let shared = c.entries_are_held.ensures.shares in
    let is_cut = c.is_a_cut.ensures in
    let old = map hinder_shown c.args.found.now.items in
    let first = map hinder_shown c.add_unless.new.found.items in
    let second = map hinder_shown c.add_unless-2.new.found.items in
    let third = map hinder_shown c.add_unless-3.new.found.items in
    let new = map hinder_shown c.add_devices.new.found.items in
    let tops : (entry : Entry) → IsTopIn group entry ↔ IsTop t key.0 key.1 entry = λ entry. (top_is held shared cut is_cut key group c.requires.group entry, top_among held shared cut is_cut key group c.requires.group entry) in
    let all : (entry : Entry) → IsIn group entry ↔ IsAnywhere t key.0 key.1 entry = λ entry. (anywhere held shared cut is_cut key group c.requires.group entry, from_anywhere held shared cut is_cut key group c.requires.group entry) in
    let line = in_line_as (IsIn group) (IsAnywhere t key.0 key.1) all in
    let same = agree_as (IsIn group) (IsAnywhere t key.0 key.1) all in
    let by_top = adds_at (hinder_shown c.at_whole.result) (hinder_at NothingPrevails key None) c.at_whole.ensures (AsksWhole t NothingPrevails key.0 key.1) c.is_some.result old first
    (top_or_none (λ top. top.now) (IsTop t key.0 key.1) (IsTopIn group) tops c.top_of-top.result c.top_of-top.ensures.top c.top_of-top.ensures.none c.is_some.result c.is_some.ensures) c.in_ok-add_unless.ensures in
    let by_line = adds_at (hinder_shown c.at_whole-2.result) (hinder_at Concurrent key None) c.at_whole-2.ensures (AsksWhole t Concurrent key.0 key.1) c.in_ok-whole.whole.in_line first second
    (λ is. line.0 (c.in_ok-whole.ensures.in_line.0 is), λ all. c.in_ok-whole.ensures.in_line.1 (line.1 all)) c.in_ok-add_unless-2.ensures in
    let by_content = adds_at (hinder_shown c.at_whole-3.result) (hinder_at ContentDiffers key None) c.at_whole-3.ensures (AsksWhole t ContentDiffers key.0 key.1) c.in_ok-whole.whole.agree second third
    (λ is. same.0 (c.in_ok-whole.ensures.agree.0 is), λ all. c.in_ok-whole.ensures.agree.1 (same.1 all)) c.in_ok-add_unless-3.ensures in
    let Two = λ (one : Hinder). SaysWhole t key NothingPrevails one × SaysWhole t key Concurrent one in
    let Three = λ (one : Hinder). Two one × SaysWhole t key ContentDiffers one in
    let Devices = Each (SaysShare t key) (shares_of key.0 cut.folders) in
    adds_as (SaysAll t key (shares_of key.0 cut.folders)) (SaysName t key) old new (all_says c.cut_says.ensures cut is_cut key c.requires.known)
    (adds_both Three Devices old third new
    (adds_both Two (SaysWhole t key ContentDiffers) old second third
    (adds_both (SaysWhole t key NothingPrevails) (SaysWhole t key Concurrent) old first second by_top by_line) by_content)
    c.in_ok-add_devices.ensures)
