use Rattle.std.proofs.Common.{[], map, refl, sym, ap, ◌∙◌}
use Rattle.serde_json.specs.Data.{boolean}
use Rattle.bep_json.proofs.AddedFacts.{keyed, list_added, member_as, member_more, no_more_items, no_more_members, object_added}
use Rattle.bep_explain.proofs.JsonFacts.{nothing_next}
use Rattle.bep_converge_explain.specs.Told.{converge_explanation_tree, hinder_tree}
use Rattle.bep_converge_explain.specs.inner.Added.{no_hinder}
use Rattle.bep_converge_explain.proofs.WrittenFacts.{clear_told}
use Rattle.bep_converge_explain.proofs.as_json.write_explanation.Goals as goal

pub returns : goal.returns
unfolding converge_explanation_tree
returns c =
    let all = c.in_ok-write_all.ensures _ [] (no_more_items c.in_ok-end_array.ensures) in
    let told = all.0 in
    let flag = c.is_clear.ensures ∙ ap no_hinder (sym all.1) ∙ clear_told told in (
      told,
      all.1,
      object_added refl c.in_ok-begin_object.ensures
          (member_as (ap boolean flag) c.in_ok-add_flag.ensures
          (member_more (keyed c.in_ok-key.ensures (list_added c.in_ok-begin_array.ensures (nothing_next (map hinder_tree told) all.2)))
          (no_more_members c.in_ok-end_object.ensures))),
    )
