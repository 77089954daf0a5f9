use Rattle.std.proofs.Common.{◌≡◌, ap, ◌∙◌, arith}
use Rattle.bep_record.specs.Vector.{ids_in_either}
use Rattle.bep_record.proofs.vector.Vector.merge.Goals as goal

pub returns-clause-many : goal.returns-clause-many
returns-clause-many c =
    let u = c.args.self.now in
    let v = c.args.other.now in
    let e : c.ids_in_either.result ≡ ids_in_either u v =
    c.ids_in_either.ensures
    ∙ ap (λ us. ids_in_either us c.counters-2.result.now) c.counters.ensures.value
    ∙ ap (λ vs. ids_in_either u vs) c.counters-2.ensures.value in
    (λ h. absurd (cc h), λ more. absurd (omega arith))
