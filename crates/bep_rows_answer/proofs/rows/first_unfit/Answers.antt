use Rattle.std.proofs.Common.{◌≡◌, ◌∙◌, ◌∷◌, ◌+◌, List, Some, None, true, false, drop, sym, ap, subst}
use Rattle.std.proofs.lemmas.List.{drop_all, drop_more}
use Rattle.bep_tables.specs.declared.share.Share.{Share}
use Rattle.bep_rows_answer.specs.Rows.{IsFirstUnfit, UnfitHere, UnfitLater, UnfitNowhere}
use Rattle.bep_rows_answer.proofs.rows.first_unfit.Goals as goal

pub returns-then-not-is_said_fit : goal.returns-then-not-is_said_fit
returns-then-not-is_said_fit c =
    let row = c.args.row.now in
    let shares = c.args.shares.now in
    let i = c.loop-share.share-index in
    let share = c.share-item.result in
    let cut = drop_more shares i share c.loop-share-test.true ∙ ap (λ (s : Share). s ∷ drop (i + 1) shares) (sym c.share-item.is) in
    c.loop-share.invariant (Some share.device)
    (subst (λ (left : List Share). IsFirstUnfit row left (Some share.device)) (sym cut)
    (UnfitHere share (drop (i + 1) shares) (λ fit. let so : false ≡ true = sym c.if-not-is_said_fit.true ∙ c.is_said_fit.ensures.1 fit in cc)))

pub loop-share-preserved : goal.loop-share-preserved
loop-share-preserved c = λ found rest.
    let row = c.args.row.now in
    let shares = c.args.shares.now in
    let i = c.loop-share.share-index in
    let share = c.share-item.result in
    let cut = drop_more shares i share c.loop-share-test.true ∙ ap (λ (s : Share). s ∷ drop (i + 1) shares) (sym c.share-item.is) in
    c.loop-share.invariant found
    (subst (λ (left : List Share). IsFirstUnfit row left found) (sym cut)
    (UnfitLater share (drop (i + 1) shares) found (c.is_said_fit.ensures.0 c.if-not-is_said_fit.false) rest))

pub returns : goal.returns
returns c =
    c.loop-share.invariant None
    (subst (λ (left : List Share). IsFirstUnfit c.args.row.now left None) (sym (drop_all c.loop-share.share-index c.args.shares.now c.loop-share-test.false)) UnfitNowhere)
