use Rattle.std.proofs.Common.{◌⊎◌, IsTrue}
use Rattle.std.specs.FinMap.{contains_key}
use Rattle.std.specs.Option.{option_copied}
use Rattle.bep_audit.specs.inner.Known.{HasForeign}
use Rattle.bep_audit.proofs.MissingFacts.{least_of_two}
use Rattle.bep_audit.proofs.missing_held.ShareHasNames.least_missing.Goals as goal

pub returns : goal.returns
returns c =
    let share = c.args.self.now in
    least_of_two c.args.rows.now c.args.folder.now (λ name. IsTrue (contains_key share.own name)) (λ name. IsTrue (contains_key share.store name) ⊎ HasForeign share name)
    (option_copied c.first_without_row-recorded.result) (option_copied c.lesser.result) (option_copied c.lesser-2.result)
    c.first_without_row-recorded.ensures
    (least_of_two c.args.rows.now c.args.folder.now (λ name. IsTrue (contains_key share.store name)) (HasForeign share)
    (option_copied c.first_without_row-stored.result) (option_copied c.least_of_foreign-elsewhere.result) (option_copied c.lesser.result)
    c.first_without_row-stored.ensures c.least_of_foreign-elsewhere.ensures c.lesser.ensures)
    c.lesser-2.ensures
