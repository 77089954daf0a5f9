use Rattle.std.proofs.Common.{sym, ap, subst, slice_get, ◌∙◌, ◌≡◌}
use Rattle.std.specs.Option.{option_copied}
use Rattle.bep_index.specs.Listing.{Listing}
use Rattle.bep_index.specs.Order.{in_order}
use Rattle.bep_index.proofs.OrderFacts.{in_order-with_all}
use Rattle.bep_index.proofs.index.Index.at.Goals as goal

pub returns-clause-value : goal.returns-clause-value
returns-clause-value c =
    subst (λ (index : Listing). option_copied c.at.result ≡ slice_get (in_order index.records) c.args.place) c.self.view_is
    (c.at.ensures.value ∙ ap (λ es. slice_get es c.args.place) (sym (in_order-with_all c.self.inside.records c.self.invariant.1)))
