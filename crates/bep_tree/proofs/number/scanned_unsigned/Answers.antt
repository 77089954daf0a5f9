use Rattle.std.proofs.Common.{◌∙◌, drop, false, option_and_then, sym, ap}
use Rattle.fast_float.specs.Text.{scan}
use Rattle.serde_json.specs.Find.{as_u64}
use Rattle.serde_json.specs.Read.{number_from}
use Rattle.bep_tree.proofs.Signed.{below_zero_by, unsigned_by, none_below_zero}
use Rattle.bep_tree.proofs.number.scanned_unsigned.Goals as goal

pub returns-then-has_minus : goal.returns-then-has_minus
returns-then-has_minus c =
    let s = c.args.bytes.now in
    sym (none_below_zero (scan (drop 1 s)))
    ∙ ap (option_and_then as_u64) (sym (below_zero_by s (sym c.if-has_minus.ensures.value)))

pub returns-else-has_minus : goal.returns-else-has_minus
returns-else-has_minus c =
    let s = c.args.bytes.now in
    c.unsigned.ensures ∙ ap (λ p. option_and_then as_u64 (number_from false p)) c.scan.ensures.parts
    ∙ ap (option_and_then as_u64) (sym (unsigned_by s (sym c.if-has_minus.ensures.value)))
