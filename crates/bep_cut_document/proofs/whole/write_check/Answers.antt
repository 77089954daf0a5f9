use Rattle.std.proofs.Common.{refl, ap}
use Rattle.bep_json.specs.Written.{whole}
use Rattle.bep_json.proofs.AddedFacts.{keyed, member_as, member_more, no_more_members, object_added}
use Rattle.bep_cut_document.specs.Trees.{check_tree}
use Rattle.bep_cut_document.proofs.ShortFacts.{rows_short_where_room, short_where_room}
use Rattle.bep_cut_document.proofs.back.ReadBack.{check_read}
use Rattle.bep_cut_document.proofs.whole.write_check.Goals as goal

pub returns-clause-value : goal.returns-clause-value
unfolding check_tree
returns-clause-value c =
    object_added refl c.in_ok-begin_object.ensures
    (member_more c.in_ok-add_list.ensures.value
    (member_more (keyed c.in_ok-key.ensures c.in_ok-write_cut.ensures.value)
    (member_as (ap whole c.number.ensures) c.in_ok-add_number.ensures
    (no_more_members c.in_ok-end_object.ensures))))

pub returns-clause-read_back : goal.returns-clause-read_back
returns-clause-read_back c = λ room rows_room in_range.
    let told = c.in_ok-write_cut.ensures.told in
    let rows = c.in_ok-add_list.ensures in
    check_read c.faultless_parts_are_read.ensures.no_fault c.args.version c.args.cut.now c.args.rows.now told
    (short_where_room c.args.version c.args.cut.now told room)
    rows.told rows.sound
    (rows_short_where_room c.args.version c.args.rows.now rows.sound rows_room)
    in_range
