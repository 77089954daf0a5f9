use Rattle.std.proofs.Common.{refl}
use Rattle.bep_json.proofs.AddedFacts.{keyed, member_more, no_more_members, object_added}
use Rattle.bep_explain.proofs.details_json.write_stored.Goals as goal

pub returns : goal.returns
returns c = (
  _,
  object_added refl c.in_ok-begin_object.ensures
      (member_more (keyed c.in_ok-key.ensures c.in_ok-write_device.ensures)
      (member_more (keyed c.in_ok-key-2.ensures c.in_ok-write_node_or_null.ensures.1)
      (member_more c.in_ok-add_text.ensures
      (no_more_members c.in_ok-end_object.ensures)))),
)
