use Rattle.std.proofs.Common.{◌≡◌, take}
use Rattle.bep_log.proofs.copying.copy_log.Given as goal

-- the events so far were copied
abbrev pub invariant-loop-one : goal.invariant-loop-one
invariant-loop-one l = l.copy.items ≡ take l.one-index l.log
