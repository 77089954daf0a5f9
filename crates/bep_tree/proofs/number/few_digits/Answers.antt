use Rattle.std.proofs.Common.{◌<◌, ◌∙◌, length, get_or, ap, arith, take_all}
use Rattle.std.proofs.lemmas.Bool.Decides.{nat_tests}
use Rattle.std.specs.Str.Parse.{digits_value}
use Rattle.bep_tree.proofs.Digits.{one_more_digit, one_more_value, one_more_fits, not_all_digits, all_are_digits}
use Rattle.bep_tree.proofs.number.few_digits.Goals as goal

pub returns-then-digit-gt9 : goal.returns-then-digit-gt9
returns-then-digit-gt9 c is =
    let s = c.args.bytes.now in
    let i = c.loop-byte.byte-index in
    not_all_digits s i c.loop-byte-test.true c.loop-byte.invariant.digits (c.type_inv.bytes i).fits c.if-digit-gt9.true is.0.1

pub overflow_mul-value : goal.overflow_mul-value
overflow_mul-value c =
    let s = c.args.bytes.now in
    let i = c.loop-byte.byte-index in
    let byte : get_or s i 0 < 256 = (c.type_inv.bytes i).fits in
    omega (arith, one_more_value s i c.loop-byte-test.true c.loop-byte.invariant.digits byte c.if-digit-gt9.false, one_more_fits s i c.loop-byte-test.true c.loop-byte.invariant.digits byte c.if-digit-gt9.false c.if-bytes-gt18.false)

pub overflow_add-value : goal.overflow_add-value
overflow_add-value c =
    let s = c.args.bytes.now in
    let i = c.loop-byte.byte-index in
    let byte : get_or s i 0 < 256 = (c.type_inv.bytes i).fits in
    omega (arith, one_more_value s i c.loop-byte-test.true c.loop-byte.invariant.digits byte c.if-digit-gt9.false, one_more_fits s i c.loop-byte-test.true c.loop-byte.invariant.digits byte c.if-digit-gt9.false c.if-bytes-gt18.false)

pub loop-byte-preserved : goal.loop-byte-preserved
loop-byte-preserved c =
    let s = c.args.bytes.now in
    let i = c.loop-byte.byte-index in
    let byte : get_or s i 0 < 256 = (c.type_inv.bytes i).fits in
    let small = c.if-digit-gt9.false in
    record {
      digits = one_more_digit s i c.loop-byte-test.true c.loop-byte.invariant.digits byte small;
      written = omega (arith, one_more_value s i c.loop-byte-test.true c.loop-byte.invariant.digits byte small, c.loop-byte.invariant.written);
    }

pub returns : goal.returns
returns c =
    let s = c.args.bytes.now in
    let i = c.loop-byte.byte-index in
    let all = all_are_digits s i c.loop-byte-test.false c.loop-byte.auto.byte-index-end c.loop-byte.invariant.digits in
    let some : 0 < length s = grind (arith, nat_tests) in
    (((some, all), c.if-bytes-gt18.false), c.loop-byte.invariant.written ∙ ap (digits_value 10) (take_all i s c.loop-byte-test.false))
