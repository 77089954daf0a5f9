use Rattle.bep_fit.specs.Logs.{touches}
use Rattle.bep_fit.proofs.Faultless.{entries_of, faultless_agree, ticket_of}
use Rattle.bep_fit.proofs.Merged.{logs_merge, merged_is_one}
use Rattle.bep_fit.proofs.merge.faultless_logs_merge.Goals as goal

pub returns-clause-merged : goal.returns-clause-merged
returns-clause-merged c = λ logs faultless. logs_merge ticket_of entries_of touches logs (faultless_agree logs faultless)

pub returns-clause-one : goal.returns-clause-one
returns-clause-one c = merged_is_one ticket_of entries_of
