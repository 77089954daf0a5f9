use Rattle.std.proofs.Common.{refl}
use Rattle.bep_record.proofs.VectorFacts.{same_from_IsAtMost}
use Rattle.bep_record.proofs.vector.order_of.Goals as goal

pub returns-in-true-true-clause-equal : goal.returns-in-true-true-clause-equal
returns-in-true-true-clause-equal c =
    let same = same_from_IsAtMost c.args.first.now c.args.second.now c.requires.first_version c.requires.second_version
    (c.in-true-true.ensures.0 refl) (c.in-true-true.ensures'.0 refl) in
    (λ _. same, λ _. refl)
