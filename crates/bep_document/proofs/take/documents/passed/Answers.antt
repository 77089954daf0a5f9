use Rattle.std.proofs.Common.{refl}
use Rattle.bep_document.proofs.take.documents.passed.Goals as goal

pub returns-in-Ok-clause-value : goal.returns-in-Ok-clause-value
returns-in-Ok-clause-value c = λ d rest stood. (refl, c.in-Ok.ensures.value d rest stood)
