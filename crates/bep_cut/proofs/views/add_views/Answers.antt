use Rattle.std.proofs.Common.{◌≡◌, List, ◌∷◌, ◌++◌, ◌+◌, drop, sym, ap, subst, ◌∙◌}
use Rattle.std.specs.List.{AllByRecursion}
use Rattle.std.proofs.lemmas.List.{append_assoc}
use Rattle.std.specs.FinMap.{get}
use Rattle.bep_facts.specs.Places.{rest_at}
use Rattle.bep_model.specs.Tables.{Device}
use Rattle.bep_tables.specs.declared.share.PeerView.{PeerView}
use Rattle.bep_cut.specs.Share.{IsIndexIn, known_cut, views_cut}
use Rattle.bep_cut.proofs.views.add_views.Goals as goal

pub loop-other-preserved : goal.loop-other-preserved
loop-other-preserved g c =
    let views = c.args.replica.now.tables.views in
    let others = c.args.others.now in
    let i = c.loop-other.other-index in
    let other = c.other-item.result in
    let more = views_cut views (drop (i + 1) others) in
    let here : drop i others ≡ other ∷ drop (i + 1) others = rest_at others i other c.loop-other-test.true c.other-item.is in
    record {
      views =
          ap (λ (made : List PeerView). made ++ more) c.in_ok-add_known.ensures.views
          ∙ append_assoc c.loop-other.views.items (known_cut other (get views other)) more
          ∙ ap (λ (left : List Device). c.loop-other.views.items ++ views_cut views left) (sym here)
          ∙ c.loop-other.invariant.views;
      indexes = λ later. c.loop-other.invariant.indexes (subst (AllByRecursion (IsIndexIn views)) (sym here) (c.in_ok-add_known.ensures.index, later));
    }
