use Rattle.std.proofs.Common.{List, IsTrue, subst}
use Rattle.std.specs.FinMap.{contains_key}
use Rattle.std.specs.Option.{option_copied}
use Rattle.bep_tables.specs.declared.share.PeerView.{PeerView}
use Rattle.bep_audit.specs.inner.Known.{IsViewedIn}
use Rattle.bep_audit.specs.inner.Missing.{FindsMissing}
use Rattle.bep_audit.proofs.MissingFacts.{least_of_two}
use Rattle.bep_audit.proofs.missing_held.least_of_foreign.Goals as goal

pub returns : goal.returns
returns c =
    let share = c.args.share.now in
    let viewed = subst (λ (views : List PeerView). FindsMissing c.args.rows.now c.args.folder.now (IsViewedIn views) (option_copied c.least_of-viewed.result)) c.as_slice.ensures c.least_of-viewed.ensures in
    least_of_two c.args.rows.now c.args.folder.now (λ name. IsTrue (contains_key share.pulls name)) (IsViewedIn share.views)
    (option_copied c.first_without_row-pulled.result) (option_copied c.least_of-viewed.result) (option_copied c.lesser.result)
    c.first_without_row-pulled.ensures viewed c.lesser.ensures
