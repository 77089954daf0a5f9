use Rattle.std.proofs.Common.{◌≡◌, ◌++◌, take, drop}
use Rattle.bep_lines.specs.Text.{printed}
use Rattle.bep_lines.proofs.text.push_printed.Given as goal

-- the text, with what is left of the name, is the text with the whole name; the old text stands at its front
abbrev pub invariant-loop-byte : goal.invariant-loop-byte
invariant-loop-byte l =
    record {
      whole : l.text.items ++ printed (drop l.byte-index l.name) ≡ l.fn.text.items ++ printed l.name;
      front : take l.len l.text.items ≡ l.fn.text.items;
    }
