use Rattle.std.proofs.lemmas.Map.Keys.{IsStrictlyIncreasing-from_sorted}
use Rattle.bep_core.proofs.others.numbers_of.Goals as goal

pub returns-in_err-push-clause-rising : goal.returns-in_err-push-clause-rising
returns-in_err-push-clause-rising g c = IsStrictlyIncreasing-from_sorted _ c.devices-device-items.ensures.rising

pub returns-clause-rising : goal.returns-clause-rising
returns-clause-rising g c = IsStrictlyIncreasing-from_sorted _ c.devices-device-items.ensures.rising
