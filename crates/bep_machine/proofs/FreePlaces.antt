-- What a device's replica of a folder may become, where its changes need leave.
use Rattle.std.proofs.Common.{◌≡◌, ◌⊎◌, false, Option, inl}
use Rattle.bep_record.specs.declared.entry.Entry.{Entry}
use Rattle.bep_record.specs.Node.{IsClean}
use Rattle.bep_model.specs.Tables.{FileName}
use Rattle.bep_model.specs.Free.{IsNews}
use Rattle.bep_machine.specs.Replica.{Replica, own_at, node_at}
use Rattle.bep_machine.specs.Said.{looked_up}
use Rattle.bep_machine.proofs.CalmMoves.{ElsewhereIn}
use Rattle.bep_machine.proofs.ReadOn.{IsReadOn, nothing_read}

-- the device has a record from elsewhere that it may want
pub record HasNews (replica : Option Replica) (name : FileName) : Type 0 where
  pub entry : Entry
  pub had : ElsewhereIn replica name entry
  pub valid : entry.invalid ≡ false
  pub news : IsNews (looked_up own_at name replica) entry

-- own records and files stay, or there was leave to change them; records of others were there before or come from somewhere
pub record IsFreePlace (Comes : FileName → Entry → Type 0) (old new : Option Replica) : Type 0 where
  pub own : (name : FileName) → (looked_up own_at name new ≡ looked_up own_at name old) ⊎ ((¬ IsClean (looked_up node_at name old) (looked_up own_at name old)) ⊎ HasNews old name)
  pub node : (name : FileName) → (looked_up node_at name new ≡ looked_up node_at name old) ⊎ ((other : FileName) × HasNews old other)
  pub elsewhere : (name : FileName) (entry : Entry) → ElsewhereIn new name entry → ElsewhereIn old name entry ⊎ Comes name entry

-- what only learns of others is such a change
pub free_where_read : (Comes : FileName → Entry → Type 0) (old new : Option Replica) → IsReadOn Comes old new → IsFreePlace Comes old new
free_where_read Comes old new read = record { own = λ name. inl (read.own name); node = λ name. inl (read.node name); elsewhere = read.elsewhere }

pub free_where_same : (Comes : FileName → Entry → Type 0) (replica : Option Replica) → IsFreePlace Comes replica replica
free_where_same Comes replica = free_where_read Comes replica replica (nothing_read Comes replica)
