-- How what holds of every outcome of a row is shown, one line of the row after the other.
use Rattle.std.proofs.Common.{◌≡◌, ◌⊎◌, sym, subst, ⊎_elim, ℕ, Option, None}
use Rattle.bep_record.specs.declared.entry.Entry.{Entry}
use Rattle.bep_record.specs.declared.node.NodeParts.{NodeParts}
use Rattle.bep_model.specs.Tables.{FileName}
use Rattle.bep_machine.specs.Answer.{Answer, Refused, Row, becomes, when◌then◌else◌, ◌answers◌when◌else◌}
use Rattle.bep_machine.specs.declared.refusal.Refusal.TheVariants.{StoreFault}
use Rattle.bep_machine.specs.Replica.{Replica, Pull, node_at, with_node}
use Rattle.bep_machine.specs.Local.{Fails}
use Rattle.bep_machine.specs.Pull.{SettlingRow, copy_name}

-- what holds of a state holds of each outcome that is this state
pub at_becomes : {S : Type 0} {made new : S} {given answer : Answer} (Q : S → Type 0) → becomes made given new answer → Q made → Q new
at_becomes Q is holds = subst Q (sym is.0) holds

-- where it holds of the old state and of each outcome of the rest, it holds of each of the whole
pub at_answers : {S : Type 0} {old new : S} {given answer : Answer} {condition R : Type 0} (Q : S → Type 0) → (condition × becomes old given new answer) ⊎ ((¬ condition) × R) → Q old → ((¬ condition) → R → Q new) → Q new
at_answers Q row holds rest =
    ⊎_elim
    (λ refused. at_becomes Q refused.1 holds)
    (λ passed. rest passed.0 passed.1)
    row

-- the end of a pull once its conflict copy may be kept: the copy is written, or is there
abbrev pub CopiedRow : FileName → Pull → Option ℕ → Option Entry → Option NodeParts → Replica → Row Replica
CopiedRow name pull failed own node old =
    when node_at old (copy_name own) ≡ None
    then (old answers Refused StoreFault when Fails 3 failed else SettlingRow name pull 4 failed own node (with_node old (copy_name own) node))
    else SettlingRow name pull 3 failed own node old
