use Rattle.std.proofs.Common.{arith, ◌*◌, ap, sym, ◌∙◌}
use Rattle.std.specs.Result.{result_ok}
use Rattle.hex.proofs.Pairs.{decode_step, decode_done, decode_err}
use Rattle.bep_json.proofs.DigitFacts.{is_ok, is_err}
use Rattle.bep_json.proofs.digits.fill.Goals as goal

pub returns-in-None : goal.returns-in-None
returns-in-None c =
    let bad = is_err _ (sym c.in-None.is ∙ c.pair.ensures (2 * c.bytes.i)) in
    sym (ap result_ok (decode_err _ _ c.bytes.i bad.0 (omega arith) bad.1 c.bytes.invariant))

pub bytes-preserved : goal.bytes-preserved
bytes-preserved c =
    decode_step _ _ c.bytes.i _ (omega arith) (omega arith) (is_ok _ _ (sym c.in-Some.is ∙ c.pair.ensures (2 * c.bytes.i))) c.bytes.invariant

pub returns : goal.returns
returns c = sym (ap result_ok (decode_done _ _ c.bytes.i (omega arith) (omega arith) c.bytes.invariant))
