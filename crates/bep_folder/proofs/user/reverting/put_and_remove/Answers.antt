use Rattle.std.proofs.Common.{◌∙◌, Err, inl, inr, refl, ap, sym, subst}
use Rattle.std.specs.Option.{option_copied}
use Rattle.bep_index.specs.Index.{IsSequenceFull}
use Rattle.bep_folder.specs.inner.Reverting.{PutsAndRemoves}
use Rattle.bep_folder.proofs.RevertFacts.{not_put, not_removed, removed}
use Rattle.bep_folder.proofs.user.reverting.put_and_remove.Goals as goal

pub returns-in-Err : goal.returns-in-Err
returns-in-Err g c =
    subst (λ e. PutsAndRemoves c.args.name.now c.args.entry (option_copied c.args.node) c.args.index.now c.put_undo.new.self c.args.store.now c.args.store.now (Err e)) (sym c.index_error.ensures)
    (not_put c.args.name.now c.args.entry (option_copied c.args.node) c.args.index.now c.put_undo.new.self c.args.store.now c.in-Err.error c.requires.recorded c.requires.named c.in-Err.ensures.only
    (λ is. c.in-Err.ensures.sequence_full.0 (ap Err is)) (λ is. (c.in-Err.ensures.index_full.0 (ap Err is)).1) c.in-Err.ensures.err)

pub returns-in-Ok-remove_node : goal.returns-in-Ok-remove_node
returns-in-Ok-remove_node g c =
    let numbers : ¬ IsSequenceFull c.args.index.now = λ full. absurd (let bad = c.in-Ok.ensures.sequence_full.1 full in cc) in
    inl (
      refl,
      removed c.args.name.now c.args.entry (option_copied c.args.node) c.args.index.now c.put_undo.new.self c.args.store.now c.remove_node.new.store numbers c.in-Ok.ensures.ok
          c.in-Ok-remove_node.ensures.removed c.in-Ok-remove_node.ensures.made,
    )

pub returns-in-Err-remove_node : goal.returns-in-Err-remove_node
returns-in-Err-remove_node g c =
    let numbers : ¬ IsSequenceFull c.args.index.now = λ full. absurd (let bad = c.in-Ok.ensures.sequence_full.1 full in cc) in
    inr (inr (inl (
      ap Err c.in-Err-remove_node.ensures.only,
      not_removed c.args.name.now (option_copied c.args.node) c.args.index.now c.undo-in-Err-remove_node.new.self c.args.store.now c.remove_node.new.store c.in-Err-remove_node.error c.in-Err-remove_node.ensures.only
          numbers (c.undo-in-Err-remove_node.ensures ∙ c.in-Ok.ensures.back) c.in-Err-remove_node.ensures.removed c.in-Err-remove_node.ensures.made,
    )))
