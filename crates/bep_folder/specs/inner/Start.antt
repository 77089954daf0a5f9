-- What a pull begins with (this project's profile).
use Rattle.std.specs.Prelude.{◌≡◌, ◌≤◌, false}
use Rattle.bep_record.specs.declared.entry.Entry.{Entry}
use Rattle.bep_choice.specs.Need.{IsNeeded}
use Rattle.bep_index.specs.declared.limits.TheConstants.{MAX_SEQUENCE}
use Rattle.bep_model.specs.Tables.{Device, FileName}
use Rattle.bep_machine.specs.Pull.{ArePullsFull}
use Rattle.bep_machine.specs.Replica.{Replica, Chooses, own_at}

-- A pull of this record may begin: the device chooses it of the name, and no other, it needs it, and there is room. It is a
-- record of the name that stands valid in an index.
pub record MayPull (device : Device) (name : FileName) (tables : Replica) (target : Entry) : Type 0 where
  pub chosen : Chooses device tables name target
  pub only : (one : Entry) → Chooses device tables name one → one ≡ target
  pub needed : IsNeeded tables.kind (own_at tables name) target
  pub room : ¬ ArePullsFull tables name
  pub valid : target.invalid ≡ false
  pub named : target.name ≡ name
  pub within : target.sequence ≤ MAX_SEQUENCE
