use Rattle.std.proofs.Common.{List, length, ◌≤◌}
use Rattle.json.specs.Token.{Token as SpecToken}
use Rattle.serde_json.specs.Data.{Members}
use Rattle.bep_tree.specs.Walk.{StandMembers}
use Rattle.bep_tree.proofs.walk.pass_members.Given as goal

-- where members stood, members stand, and the same follows them
abbrev pub invariant-loop-reader : goal.invariant-loop-reader
invariant-loop-reader l = record {
  members : (found : Members) (ms : Members) (rest : List SpecToken) → StandMembers l.depth l.initial.reader found ms rest
      → (before : Members) × StandMembers l.depth l.reader before ms rest;
  no_longer : length l.reader ≤ length l.initial.reader;
}

abbrev pub decreases-loop-reader : goal.decreases-loop-reader
decreases-loop-reader l = length l.reader
