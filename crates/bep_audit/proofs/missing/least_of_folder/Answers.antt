use Rattle.std.proofs.Common.{List, subst}
use Rattle.std.specs.Option.{option_copied}
use Rattle.bep_tables.specs.declared.share.Share.{Share}
use Rattle.bep_audit.specs.inner.Known.{IsHeldIn, IsOnItsWay}
use Rattle.bep_audit.specs.inner.Missing.{FindsMissing}
use Rattle.bep_audit.proofs.MissingFacts.{least_of_two}
use Rattle.bep_audit.proofs.missing.least_of_folder.Goals as goal

pub returns : goal.returns
returns c =
    let rows = c.args.rows.now in
    let held = c.args.held.now in
    let one = option_copied c.least_of-there.result in
    let there = subst (λ (shares : List Share). FindsMissing rows held.folder (IsHeldIn shares) one) c.as_slice.ensures c.least_of-there.ensures in
    least_of_two rows held.folder (IsHeldIn held.shares) (IsOnItsWay held.folder c.args.links.now) one (option_copied c.least_of-coming.result) (option_copied c.lesser.result) there c.least_of-coming.ensures c.lesser.ensures
