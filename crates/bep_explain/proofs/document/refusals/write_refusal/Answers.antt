use Rattle.std.proofs.Common.{refl, ap, ◌∙◌, arith, rules}
use Rattle.std.proofs.lemmas.Grind.{common_steps}
use Rattle.serde_json.specs.Data.{string}
use Rattle.bep_json.specs.Written.{whole}
use Rattle.bep_json.proofs.AddedFacts.{keyed, member_as, member_more, no_more_members, object_added}
use Rattle.bep_explain.specs.document.Explained.{refusal_tree, text_tree}
use Rattle.bep_explain.proofs.document.refusals.write_refusal.Goals as goal

pub returns : goal.returns
unfolding refusal_tree
returns c =
    object_added refl c.in_ok-begin_object.ensures
    (member_more (keyed c.in_ok-key.ensures
    (object_added refl c.in_ok-begin_object-2.ensures
    (member_more (keyed c.in_ok-key-2.ensures c.in_ok-write_device.ensures)
    (member_as (ap string c.name.ensures) c.in_ok-add_text.ensures
    (member_as (ap text_tree (search rules)) (keyed c.in_ok-key-3.ensures c.in_ok-write_text_or_null.ensures)
    (member_as (ap text_tree (grind (arith, common_steps))) (keyed c.in_ok-key-4.ensures c.in_ok-write_text_or_null-2.ensures)
    (member_as (ap whole (c.from.ensures ∙ c.number.ensures)) c.in_ok-add_number.ensures
    (no_more_members c.in_ok-end_object.ensures))))))))
    (no_more_members c.in_ok-end_object-2.ensures))
