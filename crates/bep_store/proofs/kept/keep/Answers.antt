use Rattle.std.proofs.Common.{◌∙◌, List, ℕ, IfSome, sym, subst}
use Rattle.std.specs.List.{All}
use Rattle.std.specs.FinMap.{get}
use Rattle.bep_store.specs.Kept.{AreRanges, IsRange}
use Rattle.bep_store.proofs.KeptFacts.{ranges_at, ranges_kept, ranges_let_go}
use Rattle.bep_store.proofs.kept.keep.Goals as goal

pub returns-in_err-blocks : goal.returns-in_err-blocks
returns-in_err-blocks c = λ nodes is old.
    subst (AreRanges nodes) (sym c.remove.ensures.removed) (ranges_let_go nodes c.args.kept.now c.args.name.now old)

pub returns-in_err-insert : goal.returns-in_err-insert
returns-in_err-insert c = λ nodes is old.
    subst (AreRanges nodes) (sym (c.in_err-insert.ensures.err ∙ c.remove.ensures.removed)) (ranges_let_go nodes c.args.kept.now c.args.name.now old)

pub returns : goal.returns
returns c = λ nodes is old.
    let left : AreRanges nodes c.remove.new.self = subst (AreRanges nodes) (sym c.remove.ensures.removed) (ranges_let_go nodes c.args.kept.now c.args.name.now old) in
    let had : IfSome c.remove.result (All (IsRange (get nodes c.args.name.now))) = ranges_at nodes c.args.kept.now c.args.name.now c.remove.result c.remove.ensures.old old in
    let all : All (IsRange (get nodes c.args.name.now)) c.in_ok-blocks.blocks = c.in_ok-blocks.ensures (get nodes c.args.name.now) had is in
    subst (AreRanges nodes) (sym c.in_ok-insert.ensures.ok)
    (ranges_kept nodes c.remove.new.self c.in_ok-key.key c.in_ok-blocks.blocks
    (subst (λ (name : List ℕ). All (IsRange (get nodes name)) c.in_ok-blocks.blocks) (sym c.in_ok-key.ensures) all) left)
