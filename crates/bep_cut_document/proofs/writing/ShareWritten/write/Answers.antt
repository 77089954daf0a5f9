use Rattle.std.proofs.Common.{refl, ap}
use Rattle.serde_json.specs.Data.{string}
use Rattle.bep_json.specs.Written.{whole}
use Rattle.bep_json.proofs.AddedFacts.{member_as, member_more, no_more_members, object_added}
use Rattle.bep_cut_document.specs.Trees.{share_tree}
use Rattle.bep_cut_document.proofs.ToldFacts.{share_says}
use Rattle.bep_cut_document.proofs.writing.ShareWritten.write.Goals as goal

pub returns-clause-value : goal.returns-clause-value
unfolding share_tree
returns-clause-value c =
    object_added refl c.in_ok-begin_object.ensures
    (member_as (ap whole c.number.ensures.value) c.in_ok-add_number.ensures
    (member_as (ap whole c.number-2.ensures.value) c.in_ok-add_number-2.ensures
    (member_as (ap string c.name_of_kind.ensures) c.in_ok-add_text.ensures
    (member_more c.in_ok-add_number-3.ensures
    (member_more c.in_ok-add_records.ensures.value
    (member_more c.in_ok-add_records-2.ensures.value
    (member_more c.in_ok-add_nodes.ensures.value
    (member_more c.in_ok-add_items.ensures.value
    (no_more_members c.in_ok-end_object.ensures)))))))))

pub returns-clause-told : goal.returns-clause-told
returns-clause-told c =
    share_says c.args.self.now c.device_is_told.ensures c.index_is_told.ensures c.in_ok-add_records.ensures.told c.in_ok-add_nodes.ensures.told c.in_ok-add_items.ensures.told c.in_ok-add_records-2.ensures.told

pub returns-clause-sound : goal.returns-clause-sound
returns-clause-sound c = record {
  own = c.in_ok-add_records.ensures.sound;
  store = c.in_ok-add_nodes.ensures.sound;
  views = c.in_ok-add_items.ensures.sound;
  pulls = c.in_ok-add_records-2.ensures.sound;
}
