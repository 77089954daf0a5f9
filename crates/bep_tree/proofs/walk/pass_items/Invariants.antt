use Rattle.std.proofs.Common.{List, length, ◌≤◌}
use Rattle.json.specs.Token.{Token as SpecToken}
use Rattle.serde_json.specs.Data.{Items}
use Rattle.bep_tree.specs.Walk.{StandItems}
use Rattle.bep_tree.proofs.walk.pass_items.Given as goal

-- where items stood, items stand, and the same follows them
abbrev pub invariant-loop-reader : goal.invariant-loop-reader
invariant-loop-reader l = record {
  items : (ds : Items) (rest : List SpecToken) → StandItems l.depth l.initial.reader ds rest → (more : Items) × StandItems l.depth l.reader more rest;
  no_longer : length l.reader ≤ length l.initial.reader;
}

abbrev pub decreases-loop-reader : goal.decreases-loop-reader
decreases-loop-reader l = length l.reader
