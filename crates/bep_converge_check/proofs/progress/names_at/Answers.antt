use Rattle.std.proofs.Common.{sym, ◌∙◌, true≢false}
use Rattle.bep_converge_check.proofs.ProgressFacts.{one_name, no_name}
use Rattle.bep_converge_check.proofs.progress.names_at.Goals as goal

pub returns-then-is_same-clause-count : goal.returns-then-is_same-clause-count
returns-then-is_same-clause-count c = one_name c.args.folder.now c.args.other.now c.args.name.now (c.is_same.ensures.0 c.if-is_same.true)

pub returns-else-is_same-clause-count : goal.returns-else-is_same-clause-count
returns-else-is_same-clause-count c = no_name c.args.folder.now c.args.other.now c.args.name.now (λ same. true≢false (sym (c.is_same.ensures.1 same) ∙ c.if-is_same.false))
