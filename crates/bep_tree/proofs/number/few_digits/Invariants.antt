use Rattle.std.proofs.Common.{◌≡◌, take}
use Rattle.std.specs.Str.Parse.{digits_value}
use Rattle.bep_tree.proofs.Digits.{AreDigits}
use Rattle.bep_tree.proofs.number.few_digits.Given as goal

-- the bytes so far are digits, which write the value
abbrev pub invariant-loop-byte : goal.invariant-loop-byte
invariant-loop-byte l = record {
  digits : AreDigits l.bytes l.byte-index;
  written : l.value ≡ digits_value 10 (take l.byte-index l.bytes);
}
