-- Calm at one replica, and what a quiet step may change there.
use Rattle.std.specs.Prelude.{◌≡◌, ◌⊎◌, false, Option, Some, None}
use Rattle.bep_record.specs.declared.entry.Entry.{Entry}
use Rattle.bep_record.specs.declared.node.NodeParts.{NodeParts}
use Rattle.bep_record.specs.Content.{Content, content_of}
use Rattle.bep_record.specs.Node.{IsClean}
use Rattle.bep_record.specs.Vector.{IsAtMost}
use Rattle.bep_model.specs.Tables.{Device, FileName}
use Rattle.bep_model.specs.Settled.{content_of_node}
use Rattle.bep_model.specs.Calm.{content_due, OwnIsCalm, StoreIsCalm, NodeIsCalm, IsCalmBeside, SameFile}
use Rattle.bep_machine.specs.Replica.{Replica, own_at, node_at, viewed_at, target_at}

-- a record that the replica has of others, in its views or as a target
abbrev pub IsElsewhere : Replica → FileName → Entry → Type 0
IsElsewhere replica name entry = ((other : Device) × (viewed_at replica other name ≡ Some entry)) ⊎ (target_at replica name ≡ Some entry)

-- the replica is calm at a name, apart from what is on its way to it; its device was reset, and only receives, or not
pub record IsCalmThere (reset receives : Type 0) (contents : FileName → Option Content) (replica : Replica) (name : FileName) : Type 0 where
  pub own : OwnIsCalm reset receives (own_at replica name) (content_due (contents name))
  pub store : StoreIsCalm (node_at replica name) (content_due (contents name))
  pub node : NodeIsCalm (node_at replica name) (own_at replica name)
  pub elsewhere : (entry : Entry) → IsElsewhere replica name entry → entry.invalid ≡ false → IsCalmBeside (own_at replica name) (content_due (contents name)) entry
  pub unlisted : contents name ≡ None → (own_at replica name ≡ None) × ((entry : Entry) → IsElsewhere replica name entry → ¬ (entry.invalid ≡ false))

abbrev pub IsCalmReplica : Type 0 → Type 0 → (FileName → Option Content) → Replica → Type 0
IsCalmReplica reset receives contents replica = (name : FileName) → IsCalmThere reset receives contents replica name

-- an own record after a quiet step: one of the same content and at least the old version
pub record IsSuccessor (before after : Entry) : Type 0 where
  pub valid : after.invalid ≡ false
  pub same : content_of after ≡ content_of before
  pub above : IsAtMost before.version after.version

-- or the first one, of what a scan finds; it is local-only where the device only receives
pub record IsFirst (receives : Type 0) (node : Option NodeParts) (after : Entry) : Type 0 where
  pub valid : (after.invalid ≡ false) ⊎ receives
  pub same : content_of after ≡ content_of_node node
  pub unclean : ¬ IsClean node None

-- the same record, a successor, or a first one
abbrev pub GoesOn : Type 0 → Option NodeParts → Option Entry → Option Entry → Type 0
GoesOn receives node old new =
    (new ≡ old) ⊎
    ((before after : Entry) × (old ≡ Some before) × (new ≡ Some after) × IsSuccessor before after) ⊎
    ((after : Entry) × (old ≡ None) × (new ≡ Some after) × IsFirst receives node after)

-- what a quiet step of a calm replica may change
pub record IsQuietChange (receives : Type 0) (old new : Replica) : Type 0 where
  pub own : (name : FileName) → GoesOn receives (node_at old name) (own_at old name) (own_at new name)
  pub file : (name : FileName) → SameFile (node_at old name) (node_at new name)
  pub clean : (name : FileName) → NodeIsCalm (node_at new name) (own_at new name)
  pub viewed : (other : Device) (name : FileName) → viewed_at new other name ≡ viewed_at old other name
  pub target : (name : FileName) (entry : Entry) → target_at new name ≡ Some entry → IsElsewhere old name entry
