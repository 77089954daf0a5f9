use Rattle.std.proofs.Common.{take}
use Rattle.std.specs.Option.{option_copied}
use Rattle.bep_audit.specs.inner.Missing.{FindsMissing, OneHas}
use Rattle.bep_audit.proofs.least.least_of.Given as goal

abbrev pub invariant-loop-one : goal.invariant-loop-one
invariant-loop-one g l = FindsMissing l.rows l.folder (OneHas (λ one. g.T.HasNames.names one l.folder) (take l.one-index l.items)) (option_copied l.least)
