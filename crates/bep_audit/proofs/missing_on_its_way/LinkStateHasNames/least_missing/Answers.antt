use Rattle.std.proofs.Common.{List, subst}
use Rattle.std.specs.Option.{option_copied}
use Rattle.bep_model.specs.declared.flight.Flight.{Flight}
use Rattle.bep_audit.specs.inner.Known.{IsBroughtBy}
use Rattle.bep_audit.specs.inner.Missing.{FindsMissing}
use Rattle.bep_audit.proofs.MissingFacts.{least_of_two}
use Rattle.bep_audit.proofs.missing_on_its_way.LinkStateHasNames.least_missing.Goals as goal

pub returns : goal.returns
returns c =
    let rows = c.args.rows.now in
    let folder = c.args.folder.now in
    let link = c.args.self.now in
    let one = option_copied c.least_of-to_a.result in
    let other = option_copied c.least_of-to_b.result in
    let to_a = subst (λ (flights : List Flight). FindsMissing rows folder (λ name. IsBroughtBy folder name flights) one) c.as_slice.ensures c.least_of-to_a.ensures in
    let to_b = subst (λ (flights : List Flight). FindsMissing rows folder (λ name. IsBroughtBy folder name flights) other) c.as_slice-2.ensures c.least_of-to_b.ensures in
    least_of_two rows folder (λ name. IsBroughtBy folder name link.to_a) (λ name. IsBroughtBy folder name link.to_b) one other (option_copied c.lesser.result) to_a to_b c.lesser.ensures
