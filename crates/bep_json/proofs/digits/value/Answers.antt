use Rattle.std.proofs.Common.{◌≡◌, ◌∙◌, ◌<◌, slice_index, sym, ap, subst, rules}
use Rattle.bep_json.specs.declared.digits.TheConstants.{VALUES}
use Rattle.bep_json.specs.inner.Digits.{digit_of}
use Rattle.bep_json.proofs.DigitFacts.{IsBounded, table_right, table_bounded}
use Rattle.bep_json.proofs.digits.value.Goals as goal

pub returns-clause-value : goal.returns-clause-value
returns-clause-value c =
    let at : c.from-2.result ≡ slice_index VALUES c.args.digit = search rules in
    let byte : c.args.digit < 256 = search rules in
    ap digit_of at ∙ table_right c.args.digit byte

pub returns-clause-small : goal.returns-clause-small
returns-clause-small c =
    let at : c.from-2.result ≡ slice_index VALUES c.args.digit = search rules in
    let byte : c.args.digit < 256 = search rules in
    subst IsBounded (sym at) (table_bounded c.args.digit byte)
