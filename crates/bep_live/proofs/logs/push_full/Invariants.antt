use Rattle.std.proofs.Common.{◌≡◌, ◌++◌, IsUtf8, drop}
use Rattle.std.specs.List.{flat_map}
use Rattle.bep_live.specs.Lines.{full_line}
use Rattle.bep_live.proofs.logs.push_full.Given as goal

-- the text so far, with the lines of the logs that are left, is that of all; it is a text if it was one
abbrev pub invariant-loop-log : goal.invariant-loop-log
invariant-loop-log l =
    record {
      told : l.text.items ++ flat_map full_line (drop l.log-index l.logs) ≡ l.initial.text.items ++ flat_map full_line l.logs;
      text : IsUtf8 l.initial.text.items → IsUtf8 l.text.items;
    }
