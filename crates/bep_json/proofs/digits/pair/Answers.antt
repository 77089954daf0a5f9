use Rattle.std.proofs.Common.{◌∙◌, ◌+◌, ◌*◌, ◌≤◌, sym, ap₂, arith}
use Rattle.bep_json.proofs.DigitFacts.{both, pair_read, pair_some, pair_none}
use Rattle.bep_json.proofs.digits.pair.Goals as goal

pub returns-then-byte-gt255 : goal.returns-then-byte-gt255
returns-then-byte-gt255 c = λ place.
    let none = pair_none c.value.result c.value-2.result c.value.ensures.small c.value-2.ensures.small c.if-byte-gt255.true in
    sym (pair_read c.args.high c.args.low place ∙ sym (ap₂ both c.value.ensures.value c.value-2.ensures.value) ∙ none)

pub returns : goal.returns
returns c = λ place.
    let few : c.value.result * 16 + c.value-2.result ≤ 255 = omega arith in
    let some = pair_some c.value.result c.value-2.result c.value.ensures.small c.value-2.ensures.small few in
    sym (pair_read c.args.high c.args.low place ∙ sym (ap₂ both c.value.ensures.value c.value-2.ensures.value) ∙ some)
