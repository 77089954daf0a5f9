-- What the calls of a store do to what it holds, and to its count of faults (this project's profile).
use Rattle.std.specs.Prelude.{◌≡◌, ◌<◌, ℕ, ℤ, List, Option, Some, None, Result, Ok, Err, nat_le, if◌then◌else◌}
use Rattle.std.specs.FinMap.{get, insert}
use Rattle.bep_map.specs.NameMap.{ByName}
use Rattle.bep_record.specs.declared.node.NodeParts.{NodeParts}
use Rattle.bep_record.specs.declared.limits.TheConstants.{MAX_NANOSECONDS}
use Rattle.bep_record.specs.Node.{IsNode}
use Rattle.bep_store.specs.declared.error.StoreError.{StoreError}
use Rattle.bep_store.specs.declared.error.StoreError.TheVariants.{Fault, Memory}

-- the node with this time, in seconds and nanoseconds
abbrev pub at_time : NodeParts → ℤ → ℕ → NodeParts
at_time node seconds nanoseconds = record node { modified_s = seconds; modified_ns = nanoseconds }

-- the name's node, if it has one, has this time
abbrev pub with_time : ByName NodeParts → List ℕ → Option NodeParts → ℤ → ℕ → ByName NodeParts
with_time nodes name None seconds nanoseconds = nodes
with_time nodes name (Some node) seconds nanoseconds = insert nodes name (at_time node seconds nanoseconds)

-- what is held after a time was set: more than 999999999 nanoseconds change nothing
abbrev pub after_set_time : ByName NodeParts → List ℕ → ℤ → ℕ → ByName NodeParts
after_set_time nodes name seconds nanoseconds =
    if nat_le nanoseconds MAX_NANOSECONDS then with_time nodes name (get nodes name) seconds nanoseconds else nodes

-- the count of faults rises in a call that answers a fault, and in no other
abbrev pub CountsFault : {A : Type 0} → ℕ → ℕ → Result A StoreError → Type 0
CountsFault old new (Ok _) = new ≡ old
CountsFault old new (Err Fault) = old < new
CountsFault old new (Err Memory) = new ≡ old

-- what stands at each name is a node
abbrev pub AreNodes : ByName NodeParts → Type 0
AreNodes nodes = (name : List ℕ) (node : NodeParts) → get nodes name ≡ Some node → IsNode node
