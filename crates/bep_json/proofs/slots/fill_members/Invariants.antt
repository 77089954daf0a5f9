use Rattle.std.proofs.Common.{◌≡◌, ◌≤◌, List, length, true, None}
use Rattle.json.specs.Token.{Token as SpecToken}
use Rattle.serde_json.specs.Data.{Members as MembersOf, no_members}
use Rattle.serde_json.specs.Find.{get_member}
use Rattle.bep_tree.specs.Names.{are_among}
use Rattle.bep_tree.specs.Walk.{StandMembers}
use Rattle.bep_json.proofs.slots.fill_members.Given as goal

-- the slots know what is told of the members found so far, and the members that come are put to these
abbrev pub invariant-loop-key : goal.invariant-loop-key
invariant-loop-key g l = record {
  members : (ms : MembersOf) (rest : List SpecToken) → l.initial.slots ≡ g.S.Slots.known l.version (λ _. None) → StandMembers l.depth l.initial.reader no_members ms rest
      → (found : MembersOf) × StandMembers l.depth l.reader found ms rest × (are_among g.S.Slots.names found ≡ true)
      × (l.slots ≡ g.S.Slots.known l.version (λ name. get_member name found));
  no_longer : length l.reader ≤ length l.initial.reader;
}

abbrev pub decreases-loop-key : goal.decreases-loop-key
decreases-loop-key g l = length l.reader
