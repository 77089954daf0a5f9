use Rattle.std.proofs.Common.{◌∙◌, Some, option_and_then, sym, ap}
use Rattle.serde_json.specs.Find.{as_u64}
use Rattle.serde_json.specs.Read.{number_of}
use Rattle.bep_tree.proofs.Digits.{number_of_digits}
use Rattle.bep_tree.proofs.number.unsigned_in.Goals as goal

pub returns-in-Some : goal.returns-in-Some
returns-in-Some c =
    let is = c.in-Some.ensures in
    ap Some is.1 ∙ ap (option_and_then as_u64) (sym (number_of_digits c.as_bytes-bytes.result.now is.0.0 is.0.1)) ∙ ap (λ t. option_and_then as_u64 (number_of t)) c.as_bytes-bytes.ensures.value
