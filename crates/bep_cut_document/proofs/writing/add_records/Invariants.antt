use Rattle.std.proofs.Common.{map}
use Rattle.std.specs.FinMap.{values}
use Rattle.std.specs.List.{AllByRecursion}
use Rattle.json.specs.Written.{Written}
use Rattle.serde_json.specs.View.{items_of}
use Rattle.bep_json.specs.Added.{AddsItems}
use Rattle.bep_json.specs.Written.{record_written}
use Rattle.bep_record.specs.Entry.{IsWellFormed}
use Rattle.bep_cut_document.specs.inner.Told.{IsRecordTold}
use Rattle.bep_cut_document.proofs.writing.add_records.Given as goal

-- once the records that are left are written too, all are; where those are told and sound, all are
abbrev pub invariant-loop-entry : goal.invariant-loop-entry
invariant-loop-entry l = record {
  value : (end : Written) → AddsItems (items_of (map record_written l.entry-iterator)) l.out end → AddsItems (items_of (map record_written (values l.records))) l.initial.out end;
  told : AllByRecursion IsRecordTold l.entry-iterator → AllByRecursion IsRecordTold (values l.records);
  sound : AllByRecursion IsWellFormed l.entry-iterator → AllByRecursion IsWellFormed (values l.records);
}
