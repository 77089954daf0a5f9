use Rattle.bep_json.proofs.AddedFacts.{item_more, list_added, no_more_items}
use Rattle.bep_json.proofs.writing.write_counter.Goals as goal

pub returns : goal.returns
returns c = list_added c.in_ok-begin_array.ensures
    (item_more c.in_ok-write_number.ensures (item_more c.in_ok-write_number-2.ensures (no_more_items c.in_ok-end_array.ensures)))
