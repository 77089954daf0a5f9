use Rattle.std.proofs.Common.{refl, ap}
use Rattle.serde_json.specs.Data.{string}
use Rattle.bep_json.proofs.AddedFacts.{keyed, member_as, member_more, no_more_members, object_added}
use Rattle.bep_explain.specs.Annotated.{reason_tree}
use Rattle.bep_explain.proofs.as_json.write_reason.Goals as goal

pub returns : goal.returns
unfolding reason_tree
returns c = (
  c.in_ok-write_details.ensures.0,
  object_added refl c.in_ok-begin_object.ensures
      (member_more (keyed c.in_ok-key.ensures c.in_ok-write_details.ensures.1)
      (member_more (keyed c.in_ok-key-2.ensures c.in_ok-write_device.ensures)
      (member_as (ap string c.as_str.ensures.value) c.in_ok-add_text.ensures
      (member_as (ap string c.as_str-2.ensures.value) c.in_ok-add_text-2.ensures
      (member_more c.in_ok-add_text-3.ensures
      (no_more_members c.in_ok-end_object.ensures)))))),
)
