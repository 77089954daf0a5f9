use Rattle.std.proofs.Common.{◌∙◌, is_some, sym, ap}
use Rattle.serde_json.specs.Read.{number_of}
use Rattle.bep_tree.proofs.Digits.{in_range_if_few}
use Rattle.bep_tree.proofs.number.is_in_range.Goals as goal

pub returns-then-is_some : goal.returns-then-is_some
returns-then-is_some c =
    c.is_some.ensures ∙ in_range_if_few c.as_bytes-bytes.result.now _ c.few_digits.ensures (sym c.is_some.ensures ∙ c.if-is_some.true) ∙ ap (λ t. is_some (number_of t)) c.as_bytes-bytes.ensures.value
