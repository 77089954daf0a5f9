use Rattle.serde_json.specs.Data.{array, item, no_items}
use Rattle.bep_json.proofs.AddedFacts.{item_more, list_added, no_more_items}
use Rattle.bep_explain.proofs.details_json.write_details.Goals as goal

pub loop-detail-preserved : goal.loop-detail-preserved
loop-detail-preserved c = λ end next rest.
    let one = c.in_ok-write_detail.ensures in
    c.loop-detail.invariant end (item one.0 next) (item_more one.1 rest)

pub returns : goal.returns
returns c =
    let all = c.loop-detail.invariant _ no_items (no_more_items c.in_ok-end_array.ensures) in
    (array all.0, list_added c.in_ok-begin_array.ensures all.1)
