use Rattle.std.proofs.Common.{◌∙◌, sym, ap, subst}
use Rattle.std.specs.List.{AllByRecursion}
use Rattle.bep_map.specs.NameMap.{ByName}
use Rattle.bep_record.specs.declared.entry.Entry.{Entry}
use Rattle.bep_record.specs.Entry.{IsWellFormed}
use Rattle.bep_index.specs.Batch.{NamesDiffer, with_all}
use Rattle.bep_cut_document.proofs.LastFirst.{all_before, names_before, record_first}
use Rattle.bep_cut_document.proofs.records.records_by_name.Goals as goal

pub put_record-requires : goal.put_record-requires
put_record-requires c =
    (all_before IsWellFormed c.pop.new.self.items c.in-Some.entry (subst (AllByRecursion IsWellFormed) c.in-Some.ensures.items c.loop-entry.invariant.1)).1

pub loop-entry-preserved : goal.loop-entry-preserved
loop-entry-preserved c =
    let left = c.pop.new.self.items in
    let last = c.in-Some.entry in
    let differ = subst NamesDiffer c.in-Some.ensures.items c.loop-entry.invariant.2 in (
      ap (λ (made : ByName Entry). with_all made left) c.in_ok-put_record.ensures
          ∙ record_first c.loop-entry.records left last differ
          ∙ ap (with_all c.loop-entry.records) (sym c.in-Some.ensures.items)
          ∙ c.loop-entry.invariant.0,
      (all_before IsWellFormed left last (subst (AllByRecursion IsWellFormed) c.in-Some.ensures.items c.loop-entry.invariant.1)).0,
      names_before left last differ,
    )
