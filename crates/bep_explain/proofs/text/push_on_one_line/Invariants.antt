use Rattle.std.proofs.Common.{◌≡◌, ◌++◌, drop, map}
use Rattle.bep_explain.specs.Told.{not_newline}
use Rattle.bep_explain.proofs.text.push_on_one_line.Given as goal

-- the text so far, with the bytes that are left, is the whole
abbrev pub invariant-loop-byte : goal.invariant-loop-byte
invariant-loop-byte l = l.text.items ++ map not_newline (drop l.byte-index l.said) ≡ l.fn.text.items ++ map not_newline l.said
