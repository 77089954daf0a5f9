use Rattle.std.proofs.Common.{◌≡◌, ◌∙◌, true, false, drop, is_some, sym, ap, arith, take_all, length-drop}
use Rattle.fast_float.specs.Text.{scan}
use Rattle.serde_json.specs.Read.{number_from}
use Rattle.bep_tree.proofs.Signed.{below_zero_by, unsigned_by}
use Rattle.bep_tree.proofs.number.is_scanned_in_range.Goals as goal

pub returns-then-has_minus : goal.returns-then-has_minus
returns-then-has_minus c =
    let s = c.args.bytes.now in
    let parts : c.scan.result ≡ scan (drop 1 s) = c.scan.ensures.parts ∙ ap scan (take_all _ (drop 1 s) (omega (arith, length-drop 1 s))) in
    c.fits_below_zero.ensures ∙ ap (λ p. is_some (number_from true p)) parts ∙ ap is_some (sym (below_zero_by s (sym c.if-has_minus.ensures.value)))

pub returns-else-has_minus : goal.returns-else-has_minus
returns-else-has_minus c =
    let s = c.args.bytes.now in
    c.fits_unsigned.ensures ∙ ap (λ p. is_some (number_from false p)) c.scan-else-has_minus.ensures.parts ∙ ap is_some (sym (unsigned_by s (sym c.if-has_minus.ensures.value)))
