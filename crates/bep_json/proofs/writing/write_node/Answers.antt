use Rattle.std.proofs.Common.{refl, sym, ap, subst, ◌∙◌, rules}
use mir.Syntax.{w64}
use mir.Val.{SFits}
use Rattle.std.proofs.lemmas.Int.{to_z-of_z}
use Rattle.serde_json.specs.Data.{string}
use Rattle.hex.specs.Hex.{IsBytes}
use Rattle.bep_record.specs.Node.{IsNode}
use Rattle.bep_record.specs.declared.node.NodeParts.{NodeParts}
use Rattle.bep_json.specs.Added.{Adds}
use Rattle.bep_json.specs.Back.{IsNodeBack}
use Rattle.bep_json.specs.Written.{whole, signed, hex_written, node_written}
use Rattle.bep_json.proofs.AddedFacts.{keyed, member_as, no_more_members, object_added}
use Rattle.bep_json.proofs.RecordSays.{node_says}
use Rattle.bep_json.proofs.writing.write_node.Goals as goal

pub returns-clause-value : goal.returns-clause-value
unfolding node_written
returns-clause-value c =
    let node = c.parts-parts.result.now in
    let fits : SFits w64 node.modified_s = search rules in
    subst (λ (n : NodeParts). Adds (node_written c.args.name.now n) c.args.out.now c.end_object.new.self) c.parts-parts.ensures.value
    (object_added refl c.in_ok-begin_object.ensures
    (member_as (ap hex_written c.as_slice.ensures) (keyed c.in_ok-key.ensures c.in_ok-write_hex.ensures.value)
    (member_as (ap whole c.from.ensures) c.in_ok-add_number.ensures
    (member_as (ap signed (to_z-of_z w64 node.modified_s fits)) c.in_ok-add_signed.ensures
    (member_as (ap string c.as_str.ensures.value) c.in_ok-add_text.ensures
    (member_as (ap string c.as_str-2.ensures.value) c.in_ok-add_text-2.ensures
    (member_as (ap whole (c.from-2.ensures ∙ c.number_of.ensures)) c.in_ok-add_number-2.ensures
    (no_more_members c.in_ok-end_object.ensures))))))))

pub returns-clause-back : goal.returns-clause-back
returns-clause-back c =
    let node = c.parts-parts.result.now in
    let same = c.parts-parts.ensures.value in
    let bytes = subst IsBytes c.as_slice.ensures c.write_hex.ensures.bytes in
    subst (λ (n : NodeParts). IsNodeBack (record { name = c.args.name.now; parts = n }) (node_written c.args.name.now n)) same
    (node_says c.args.name.now node c.name_is_kept.ensures (subst IsNode (sym same) c.parts-parts.ensures.is_node) c.target_is_kept.ensures bytes c.time_is_told.ensures)
