use Rattle.std.proofs.Common.{◌≡◌, List, ◌++◌, refl, ap, ◌∙◌}
use Rattle.bep_tables.specs.declared.share.PeerView.{PeerView}
use Rattle.bep_cut.specs.Share.{views_cut}
use Rattle.bep_cut.proofs.share.share_cut.Goals as goal

pub returns-clause-share : goal.returns-clause-share
returns-clause-share g c =
    let tables = c.args.replica.now.tables in
    let views : c.new.result ≡ views_cut tables.views tables.others =
    c.new.ensures
    ∙ c.in_ok-add_views.ensures.views
    ∙ ap (λ (made : List PeerView). made ++ views_cut tables.views c.others.result.now) c.new-views.ensures.items
    ∙ ap (views_cut tables.views) c.others.ensures.value in
    rw (c.device.ensures, c.kind.ensures, c.id.ensures, c.max_sequence-max_sequence.ensures.value, c.in_ok-own.ensures, c.index-index.ensures, c.requires, views, c.in_ok-pulls.ensures.value, c.pulls.ensures.value) refl
