use Rattle.std.proofs.Common.{◌&&◌, [], map, refl, sym, ap, ap₂, ◌∙◌}
use Rattle.serde_json.specs.Data.{boolean}
use Rattle.bep_json.proofs.AddedFacts.{keyed, list_added, member_as, member_more, no_more_items, no_more_members, object_added}
use Rattle.bep_explain.specs.FirmTold.{firm_explanation_tree, loose_tree}
use Rattle.bep_explain.specs.inner.Added.{no_failure, no_loose}
use Rattle.bep_explain.proofs.JsonFacts.{none_loose, none_told, nothing_next}
use Rattle.bep_explain.proofs.firm_json.write_firm_explanation.Goals as goal

pub returns : goal.returns
unfolding firm_explanation_tree
returns c =
    let loose = c.in_ok-write_loose.ensures _ [] (no_more_items c.in_ok-end_array.ensures) in
    let more = loose.0 in
    let all = c.in_ok-write_failures.ensures _ (map loose_tree more) (nothing_next (map loose_tree more) loose.2) in
    let told = all.0 in
    let nothing = ap no_failure (sym all.1) ∙ none_told told in
    let no_more = ap no_loose (sym loose.1) ∙ none_loose more in
    let settled = c.is_none.ensures ∙ nothing in
    let firm = c.is_firm.ensures ∙ ap₂ (λ x y. x && y) nothing no_more in (
      told,
      more,
      all.1,
      loose.1,
      object_added refl c.in_ok-begin_object.ensures
          (member_more (keyed c.in_ok-key.ensures (list_added c.in_ok-begin_array.ensures all.2))
          (member_as (ap boolean firm) c.in_ok-add_flag.ensures
          (member_as (ap boolean settled) c.in_ok-add_flag-2.ensures
          (no_more_members c.in_ok-end_object.ensures)))),
    )
