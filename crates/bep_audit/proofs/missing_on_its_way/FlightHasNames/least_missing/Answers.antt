use Rattle.std.proofs.Common.{List, subst, rules}
use Rattle.std.specs.Option.{option_copied}
use Rattle.bep_record.specs.declared.entry.Entry.{Entry}
use Rattle.bep_audit.specs.inner.Known.{HasValidOf}
use Rattle.bep_audit.specs.inner.Missing.{FindsMissing}
use Rattle.bep_audit.proofs.MissingFacts.{brought_if_of_folder}
use Rattle.bep_audit.proofs.missing_on_its_way.FlightHasNames.least_missing.Goals as goal

pub returns-then-eq : goal.returns-then-eq
returns-then-eq c =
    let found = option_copied c.least_of.result in
    brought_if_of_folder c.args.rows.now c.args.folder.now c.args.self.now (search rules) found
    (subst (λ (entries : List Entry). FindsMissing c.args.rows.now c.args.folder.now (λ name. HasValidOf name entries) found) c.as_slice.ensures c.least_of.ensures)
