use Rattle.std.proofs.Common.{refl, ap}
use Rattle.bep_json.specs.Written.{whole}
use Rattle.bep_json.proofs.AddedFacts.{member_as, member_more, no_more_members, object_added}
use Rattle.bep_cut_document.specs.Trees.{view_tree}
use Rattle.bep_cut_document.proofs.ToldFacts.{view_says}
use Rattle.bep_cut_document.proofs.writing.PeerViewWritten.write.Goals as goal

pub returns-clause-value : goal.returns-clause-value
unfolding view_tree
returns-clause-value c =
    object_added refl c.in_ok-begin_object.ensures
    (member_more c.in_ok-add_number.ensures
    (member_more c.in_ok-add_number-2.ensures
    (member_as (ap whole c.number.ensures.value) c.in_ok-add_number-3.ensures
    (member_more c.in_ok-add_records.ensures.value
    (no_more_members c.in_ok-end_object.ensures)))))

pub returns-clause-told : goal.returns-clause-told
returns-clause-told c =
    view_says c.args.self.now c.device_is_told.ensures c.number_is_told.ensures c.in_ok-add_records.ensures.told
