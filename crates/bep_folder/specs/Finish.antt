-- Whether the end of a pull leaves a conflict copy (this project's profile).
use Rattle.std.specs.Prelude.{◌≡◌, Some, None, IsSome}
use Rattle.bep_model.specs.Tables.{FileName}
use Rattle.bep_machine.specs.Pull.{IsConflictDue, copy_name}
use Rattle.bep_machine.specs.Replica.{Pull, Replica, own_at, node_at, pull_at}

-- a conflict copy is due, and nothing stood under the conflict name, where a node stands now
abbrev pub GainsCopy : FileName → Replica → Replica → Type 0
GainsCopy name old new =
    (pull : Pull) × (pull_at old name ≡ Some pull) × IsConflictDue (own_at old name) pull.target ×
    (node_at old (copy_name (own_at old name)) ≡ None) × IsSome (node_at new (copy_name (own_at old name)))
