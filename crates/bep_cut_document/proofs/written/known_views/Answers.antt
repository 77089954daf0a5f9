use Rattle.std.proofs.Common.{ap, ◌∙◌, rules}
use Rattle.std.proofs.lemmas.Fn.{filter_same}
use Rattle.std.specs.List.{filter}
use Rattle.bep_cut_document.specs.Written.{has_point}
use Rattle.bep_cut_document.proofs.written.known_views.Goals as goal

pub returns : goal.returns
returns c =
    c.new.ensures
    ∙ filter_same _ _ _ (λ x b f' k. search rules) _ _ c.retain.ensures.filtered
    ∙ ap (filter has_point) c.into_vec-views.ensures
