use Rattle.std.proofs.Common.{◌≡◌, ◌∷◌, [], sym, subst}
use Rattle.std.specs.List.{AllByRecursion}
use Rattle.bep_record.specs.Entry.{IsWellFormed}
use Rattle.bep_json.specs.Written.{record_written}
use Rattle.bep_json.proofs.AddedFacts.{keyed, last_item, list_added, next_item}
use Rattle.bep_cut_document.specs.inner.Told.{IsRecordTold}
use Rattle.bep_cut_document.proofs.writing.add_records.Goals as goal

pub loop-entry-preserved : goal.loop-entry-preserved
loop-entry-preserved c =
    let l = c.loop-entry in
    let here : l.entry-iterator ≡ c.in-Some.entry.now ∷ c.next.new.self = c.in-Some.ensures.steps in
    let one = c.in_ok-write.ensures in
    record {
      value = λ end rest. l.invariant.value end (next_item record_written here one.value rest);
      told = λ later. l.invariant.told (subst (AllByRecursion IsRecordTold) (sym here) (one.told, later));
      sound = λ later. l.invariant.sound (subst (AllByRecursion IsWellFormed) (sym here) (one.sound, later));
    }

pub returns-clause-value : goal.returns-clause-value
returns-clause-value c =
    let none : c.loop-entry.entry-iterator ≡ [] = c.in-None.ensures.steps.0 in
    keyed c.in_ok-key.ensures (list_added c.in_ok-begin_array.ensures (c.loop-entry.invariant.value _ (last_item record_written none c.in_ok-end_array.ensures)))
