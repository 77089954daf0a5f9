use Rattle.std.proofs.Common.{◌≡◌, rules}
use Rattle.std.specs.Fmt.{signed_decimal}
use Rattle.std.specs.String.{string_bytes}
use Rattle.std.proofs.lemmas.List.{append_assoc}
use Rattle.bep_record.proofs.conflict.conflict_text.Goals as goal

pub returns : goal.returns
returns c =
    let stem : string_bytes c.in_ok-text.text ≡ c.args.stem.now = search rules in
    let time : c.as_str.result.now ≡ signed_decimal c.args.modified_s = search rules in
    let device : c.number.result ≡ c.args.modified_by = search rules in
    simp (c.in_ok-push_str-4.ensures.bytes, c.in_ok-push_hex.ensures, c.in_ok-push_str-3.ensures.bytes, c.in_ok-push_str-2.ensures.bytes, c.in_ok-push_str.ensures.bytes, stem, time, device, append_assoc)
