use Rattle.std.proofs.Common.{List, ◌∙◌, ap, subst, sym}
use Rattle.bep_record.specs.declared.entry.Entry.{Entry}
use Rattle.bep_index.specs.After.{IsAfter}
use Rattle.bep_index.specs.Order.{in_order}
use Rattle.bep_folder.specs.Names.{one_of}
use Rattle.bep_folder.proofs.NamesFacts.{first_of}
use Rattle.bep_folder.proofs.reading.names.next_after.Goals as goal

pub returns-clause-next : goal.returns-clause-next
returns-clause-next c =
    let records = c.args.index.now.records in
    subst (λ (found : List Entry). IsAfter records c.args.sequence 1 found) (first_of (in_order records) c.place_above.result ∙ ap one_of (sym c.at.ensures.value)) (c.place_above.ensures.after 1)
