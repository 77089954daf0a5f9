use Rattle.std.proofs.Common.{List, Contains, map, sym, subst, ◌↔◌}
use Rattle.std.specs.List.Sorted.{IsSorted}
use Rattle.bep_record.specs.declared.entry.Entry.{Entry}
use Rattle.bep_model.specs.Tables.{Folder, FileName}
use Rattle.bep_tables.specs.Cut.{tables_of}
use Rattle.bep_tables.specs.Listed.{listed}
use Rattle.bep_converge_check.specs.declared.weight.Weighed.{Weighed}
use Rattle.bep_converge_check.specs.inner.Records.{IsIn}
use Rattle.bep_converge_check.specs.inner.Weight.{weighed_cmp, record_of}
use Rattle.bep_converge.specs.Prevails.{IsAnywhere}
use Rattle.bep_converge_check.proofs.AlikeFacts.{alike_in_line, alike_agree}
use Rattle.bep_converge_check.proofs.NameSays.{top_is, all_as, in_line_as, agree_as}
use Rattle.bep_converge_check.proofs.at_name.below_top.Goals as goal

pub beside_devices-requires : goal.beside_devices-requires
beside_devices-requires c =
    let cut = c.args.cut.now in
    let key : Folder × FileName = (c.args.folder.now, c.args.name.now) in
    let group = map listed c.args.group.now in
    let top = c.args.top.now in
    let alike = c.are_alike.ensures.0 c.if-are_alike.true in
    let exactly = all_as c.entries_are_held.ensures.held c.entries_are_held.ensures.shares cut c.is_a_cut.ensures key group c.requires.group (IsIn group) (λ entry. (λ is. is, λ is. is)) in
    record {
      known = c.requires.known;
      top = top_is c.entries_are_held.ensures.held c.entries_are_held.ensures.shares cut c.is_a_cut.ensures key group c.requires.group top c.requires.top;
      in_line = (in_line_as (IsIn group) (IsAnywhere (tables_of cut) key.0 key.1) exactly).0 (alike_in_line group top c.requires.top alike);
      agree = (agree_as (IsIn group) (IsAnywhere (tables_of cut) key.0 key.1) exactly).0 (alike_agree group top c.requires.top alike);
    }

pub beside_records-requires : goal.beside_records-requires
beside_records-requires c =
    let cut = c.args.cut.now in
    let key : Folder × FileName = (c.args.folder.now, c.args.name.now) in
    let group = map listed c.args.group.now in
    record {
      known = c.requires.known;
      top = top_is c.entries_are_held.ensures.held c.entries_are_held.ensures.shares cut c.is_a_cut.ensures key group c.requires.group c.args.top.now c.requires.top;
      sorted = subst (IsSorted weighed_cmp) (sym c.as_slice.ensures.value) c.in_ok-records.ensures.sorted;
      all = all_as c.entries_are_held.ensures.held c.entries_are_held.ensures.shares cut c.is_a_cut.ensures key group c.requires.group (Contains (map record_of c.as_slice.result.now))
          (subst (λ (all : List Weighed). (entry : Entry) → Contains (map record_of all) entry ↔ IsIn group entry) (sym c.as_slice.ensures.value) c.in_ok-records.ensures.same);
    }
