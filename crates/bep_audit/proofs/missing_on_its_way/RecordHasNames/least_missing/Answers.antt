use Rattle.std.proofs.Common.{◌∙◌, sym, true≢false}
use Rattle.bep_audit.proofs.MissingFacts.{only_name}
use Rattle.bep_audit.proofs.missing_on_its_way.RecordHasNames.least_missing.Goals as goal

pub returns-else-has_row_if_valid : goal.returns-else-has_row_if_valid
returns-else-has_row_if_valid c =
    only_name c.args.rows.now c.args.folder.now c.args.self.now c.entry.result.now c.entry.ensures.value
    (λ has_row. true≢false (sym (c.has_row_if_valid.ensures.1 has_row) ∙ c.if-has_row_if_valid.false))
