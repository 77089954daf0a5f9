use Rattle.std.proofs.Common.{◌≡◌, ◌∙◌, ◌^◌, ◌<◌, Some, option_and_then, sym, ap, arith, to_z, w64, pos}
use Rattle.std.proofs.lemmas.Int.{ints}
use Rattle.serde_json.specs.Find.{as_i64}
use Rattle.serde_json.specs.Read.{number_of}
use Rattle.bep_tree.proofs.Digits.{few_digits_fit, signed_if_few}
use Rattle.bep_tree.proofs.number.signed_in.Goals as goal

pub overflow_cast-result : goal.overflow_cast-result
overflow_cast-result c =
    let is = c.in-Some.ensures in
    let small : c.in-Some.number < 10 ^ 18 = omega (arith, is.1, few_digits_fit c.as_bytes-bytes.result.now is.0.0.1 is.0.1) in
    omega (arith, ints)

pub returns-in-Some : goal.returns-in-Some
returns-in-Some c =
    let is = c.in-Some.ensures in
    let small : c.in-Some.number < 10 ^ 18 = omega (arith, is.1, few_digits_fit c.as_bytes-bytes.result.now is.0.0.1 is.0.1) in
    let same : to_z w64 c.in-Some.number ≡ pos c.in-Some.number = omega (arith, ints) in
    ap Some same ∙ sym (signed_if_few c.as_bytes-bytes.result.now c.in-Some.number is.0.0 is.0.1 is.1) ∙ ap (λ t. option_and_then as_i64 (number_of t)) c.as_bytes-bytes.ensures.value
