use Rattle.std.proofs.Common.{◌≡◌, ◌≤◌, List, length}
use Rattle.json.specs.Token.{Token as SpecToken}
use Rattle.serde_json.specs.Data.{Items as ItemsOf}
use Rattle.bep_tree.specs.Walk.{StandItems}
use Rattle.bep_json.specs.Lists.{have_shape, read_items}
use Rattle.bep_json.specs.Taking.{judged}
use Rattle.bep_json.specs.inner.Joined.{so_far, followed}
use Rattle.bep_json.proofs.items.take_items.Given as goal

-- what is told so far, and then of the items that come, is what is told of all
abbrev pub invariant-loop-alloc : goal.invariant-loop-alloc
invariant-loop-alloc g l = record {
  items : (ds : ItemsOf) (rest : List SpecToken) → StandItems l.depth l.initial.reader ds rest
      → (more : ItemsOf) × StandItems l.depth l.reader more rest
      × (followed (so_far l.misread l.things.items) (judged (have_shape (g.T.Shaped.has_shape l.version) more) (read_items (g.T.Shaped.reads l.version) more))
      ≡ judged (have_shape (g.T.Shaped.has_shape l.version) ds) (read_items (g.T.Shaped.reads l.version) ds));
  no_longer : length l.reader ≤ length l.initial.reader;
}

abbrev pub decreases-loop-alloc : goal.decreases-loop-alloc
decreases-loop-alloc g l = length l.reader
