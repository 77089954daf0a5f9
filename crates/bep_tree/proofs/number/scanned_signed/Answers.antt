use Rattle.std.proofs.Common.{◌≡◌, ◌∙◌, true, false, drop, option_and_then, sym, ap, arith, take_all, length-drop}
use Rattle.fast_float.specs.Text.{scan}
use Rattle.serde_json.specs.Find.{as_i64}
use Rattle.serde_json.specs.Read.{number_from}
use Rattle.bep_tree.proofs.Signed.{below_zero_by, unsigned_by}
use Rattle.bep_tree.proofs.number.scanned_signed.Goals as goal

pub returns-then-has_minus : goal.returns-then-has_minus
returns-then-has_minus c =
    let s = c.args.bytes.now in
    let parts : c.scan.result ≡ scan (drop 1 s) = c.scan.ensures.parts ∙ ap scan (take_all _ (drop 1 s) (omega (arith, length-drop 1 s))) in
    c.below_zero.ensures ∙ ap (λ p. option_and_then as_i64 (number_from true p)) parts
    ∙ ap (option_and_then as_i64) (sym (below_zero_by s (sym c.if-has_minus.ensures.value)))

pub returns-else-has_minus : goal.returns-else-has_minus
returns-else-has_minus c =
    let s = c.args.bytes.now in
    c.above_zero.ensures ∙ ap (λ p. option_and_then as_i64 (number_from false p)) c.scan-else-has_minus.ensures.parts
    ∙ ap (option_and_then as_i64) (sym (unsigned_by s (sym c.if-has_minus.ensures.value)))
