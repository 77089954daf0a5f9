use Rattle.std.proofs.Common.{◌≡◌, ◌∙◌, map, subst, sym, ap, false}
use Rattle.std.specs.List.{AllByRecursion, list_any}
use Rattle.bep_record.specs.Entry.{IsWellFormed}
use Rattle.bep_record.specs.Node.{IsNode}
use Rattle.bep_json.specs.declared.nodes.NamedParts.{NamedParts}
use Rattle.bep_row_document.specs.Faults.{is_bad_node, is_bad_record}
use Rattle.bep_row_document.specs.Reading.{device_with, row_of}
use Rattle.bep_row_document.specs.Text.{RowText}
use Rattle.bep_row_document.proofs.MadeFacts.{all_nodes, all_records, first_false, second_false}
use Rattle.bep_row_document.proofs.making.row_of.Goals as goal

pub records_made-requires : goal.records_made-requires
records_made-requires c =
    let text = c.args.text in
    subst (λ (t : RowText). AllByRecursion IsWellFormed t.1.1.0) (sym c.into_things-folder.ensures)
    (all_records c.records_are_told.ensures.records text.1.0 text.1.1.0 (first_false (list_any (is_bad_record text.1.0) text.1.1.0) (list_any (is_bad_node text.1.0) text.1.1.1.0) c.requires))

pub nodes_made-requires : goal.nodes_made-requires
nodes_made-requires c =
    let text = c.args.text in
    subst (λ (t : RowText). AllByRecursion {X = NamedParts} (λ node. IsNode node.parts) t.1.1.1.0) (sym c.into_things-folder.ensures)
    (all_nodes c.records_are_told.ensures.nodes text.1.0 text.1.1.1.0 (second_false (list_any (is_bad_record text.1.0) text.1.1.0) (list_any (is_bad_node text.1.0) text.1.1.1.0) c.requires))

pub returns : goal.returns
unfolding row_of
returns c =
    let parts = c.into_things-folder.result in
    let nodes = c.as_slice.ensures ∙ c.in_ok-held.ensures in
    let cells = c.as_slice-2.ensures in
    let devices = c.in_ok-devices.ensures ∙ (λ i. map (device_with (nodes i)) (cells i)) in
    (λ i. record { folder = parts.0; name = parts.1.0; records = c.in_ok-records.ensures i; devices = devices i }) ∙ ap row_of c.into_things-folder.ensures
