use Rattle.std.proofs.Common.{refl, ap}
use Rattle.bep_json.specs.Written.{whole}
use Rattle.bep_json.proofs.AddedFacts.{member_as, member_more, no_more_members, object_added}
use Rattle.bep_cut_document.specs.Trees.{link_tree}
use Rattle.bep_cut_document.proofs.ToldFacts.{link_says}
use Rattle.bep_cut_document.proofs.writing.LinkStateWritten.write.Goals as goal

pub returns-clause-value : goal.returns-clause-value
unfolding link_tree
returns-clause-value c =
    object_added refl c.in_ok-begin_object.ensures
    (member_as (ap whole c.number.ensures.value) c.in_ok-add_number.ensures
    (member_as (ap whole c.number-2.ensures.value) c.in_ok-add_number-2.ensures
    (member_more c.in_ok-add_number-3.ensures
    (member_more c.in_ok-add_items.ensures.value
    (member_more c.in_ok-add_items-2.ensures.value
    (member_more c.in_ok-add_flag.ensures
    (no_more_members c.in_ok-end_object.ensures)))))))

pub returns-clause-told : goal.returns-clause-told
returns-clause-told c =
    link_says c.args.self.now c.device_is_told.ensures c.device_is_told-2.ensures c.in_ok-add_items.ensures.told c.in_ok-add_items-2.ensures.told

pub returns-clause-sound : goal.returns-clause-sound
returns-clause-sound c = record { to_a = c.in_ok-add_items.ensures.sound; to_b = c.in_ok-add_items-2.ensures.sound }
