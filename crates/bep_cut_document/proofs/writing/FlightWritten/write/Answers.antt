use Rattle.std.proofs.Common.{refl, ap}
use Rattle.serde_json.specs.Data.{string}
use Rattle.bep_json.proofs.AddedFacts.{member_as, member_more, no_more_members, object_added}
use Rattle.bep_cut_document.specs.Trees.{flight_tree}
use Rattle.bep_cut_document.proofs.ToldFacts.{flight_says}
use Rattle.bep_cut_document.proofs.writing.FlightWritten.write.Goals as goal

pub returns-clause-value : goal.returns-clause-value
unfolding flight_tree
returns-clause-value c =
    object_added refl c.in_ok-begin_object.ensures
    (member_as (ap string c.as_str.ensures.value) c.in_ok-add_text.ensures
    (member_more c.in_ok-add_flag.ensures
    (member_more c.in_ok-add_items.ensures.value
    (no_more_members c.in_ok-end_object.ensures))))

pub returns-clause-told : goal.returns-clause-told
returns-clause-told c = flight_says c.args.self.now c.folder_is_told.ensures c.in_ok-add_items.ensures.told
