use Rattle.std.proofs.Common.{◌≡◌, refl, sym, subst, length, arith, rules}
use Rattle.std.specs.Fmt.{signed_decimal}
use Rattle.std.specs.Str.{IsUtf8}
use Rattle.std.specs.String.{string_bytes}
use Rattle.std.proofs.lemmas.Result.{err_from_is_err_and}
use Rattle.std.proofs.lemmas.Str.{IsUtf8-string_bytes}
use Rattle.bep_record.specs.Name.{IsName}
use Rattle.bep_record.specs.Conflict.{conflict_name_of}
use Rattle.bep_record.proofs.ConflictFacts.{length_conflict_name, IsName-conflict_name}
use Rattle.bep_record.proofs.conflict.conflicted.Goals as goal

pub returns-then-len-gt-MAX_NAME_LEN-clause-bad : goal.returns-then-len-gt-MAX_NAME_LEN-clause-bad
returns-then-len-gt-MAX_NAME_LEN-clause-bad c =
    let whole = length_conflict_name c.args.name.now c.args.modified_s c.args.modified_by in
    let name : length c.as_str-2.result.now ≡ length c.args.name.now = search rules in
    let time : c.signed_len.result ≡ length (signed_decimal c.args.modified_s) = search rules in
    (λ _. omega arith, λ _. refl)

pub returns-in_err-text-clause-bad : goal.returns-in_err-text-clause-bad
returns-in_err-text-clause-bad c =
    let whole = length_conflict_name c.args.name.now c.args.modified_s c.args.modified_by in
    let name : length c.as_str-2.result.now ≡ length c.args.name.now = search rules in
    let time : c.signed_len.result ≡ length (signed_decimal c.args.modified_s) = search rules in
    let memory = err_from_is_err_and c.from_residual.result c.from_residual.ensures.1 in
    (λ e. absurd cc, λ long. absurd (omega arith))

pub from_text-requires : goal.from_text-requires
from_text-requires c =
    let given = c.args.name.now in
    let whole = length_conflict_name given c.args.modified_s c.args.modified_by in
    let name : length c.as_str-2.result.now ≡ length given = search rules in
    let time : c.signed_len.result ≡ length (signed_decimal c.args.modified_s) = search rules in
    let is : string_bytes c.in_ok-text.text ≡ conflict_name_of given c.args.modified_s c.args.modified_by = search rules in
    let named : IsName given = c.as_str.ensures.a_name in
    subst IsName (sym is) (IsName-conflict_name given c.args.modified_s c.args.modified_by named c.ranges.modified_s.sfits (omega arith) (subst IsUtf8 is (IsUtf8-string_bytes c.in_ok-text.text)))
