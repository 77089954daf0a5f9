use Rattle.std.proofs.Common.{◌≡◌, ◌++◌, IsUtf8, drop, map}
use Rattle.std.specs.List.{flat_map}
use Rattle.bep_audit.specs.Shown.{place_shown}
use Rattle.bep_answer.specs.Beside.{line_without}
use Rattle.bep_answer.proofs.partial.lines_of.Given as goal

-- the lines so far, with those of the places that are left, are the lines of all; they are a text
abbrev pub invariant-loop-spot : goal.invariant-loop-spot
invariant-loop-spot l =
    record {
      told : l.text.items ++ flat_map line_without (map place_shown (drop l.spot-index l.without)) ≡ flat_map line_without (map place_shown l.without);
      text : IsUtf8 l.text.items;
    }
