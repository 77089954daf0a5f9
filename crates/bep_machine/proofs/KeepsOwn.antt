-- Scanning, the beginning of a pull and its end take no own record away: the index stays, or one record is put.
use Rattle.std.proofs.Common.{◌∙◌, ℕ, Option, IsSome, is_some, sym, ap, subst, ⊎_elim}
use Rattle.std.specs.FinMap.{get}
use Rattle.bep_record.specs.declared.entry.Entry.{Entry}
use Rattle.bep_index.specs.Listing.{Listing}
use Rattle.bep_model.specs.Tables.{Device, FileName}
use Rattle.bep_machine.specs.Answer.{Answer}
use Rattle.bep_machine.specs.Replica.{Replica, own_at, with_record}
use Rattle.bep_machine.specs.Local.{ScanRow}
use Rattle.bep_machine.specs.Pull.{StartPullRow, FinishRow}
use Rattle.bep_machine.proofs.GapRows.{IsGrown, scan_grows, start_pull_grows, finish_grows}
use Rattle.bep_machine.proofs.ReplicaFacts.{same_name_or_not, with_record_here, with_record_apart}

-- each name that has an own record has one afterwards
abbrev pub KeepsOwn : Replica → Replica → Type 0
KeepsOwn old new = (name : FileName) → IsSome (own_at old name) → IsSome (own_at new name)

with_record_keeps : (old : Replica) (entry : Entry) → KeepsOwn old (with_record old entry)
with_record_keeps old entry name has =
    ⊎_elim
    (λ same. subst (λ (n : FileName). IsSome (own_at (with_record old entry) n)) (sym same) (ap is_some (with_record_here old entry)))
    (λ apart. ap is_some (with_record_apart old entry name apart) ∙ has)
    (same_name_or_not name entry.name)

grown_keeps : (old new : Replica) → IsGrown old new → KeepsOwn old new
grown_keeps old new grown name has =
    ⊎_elim
    (λ same. subst (λ (index : Listing). IsSome (get index.records name)) (sym same) has)
    (λ put. subst (λ (index : Listing). IsSome (get index.records name)) (sym put.1) (with_record_keeps old put.0 name has))
    grown.index

abbrev pub ScanKeepsOwn : Type 0
ScanKeepsOwn = (device : Device) (name : FileName) (failed : Option ℕ) (old new : Replica) (answer : Answer) →
    ScanRow device name failed old new answer → KeepsOwn old new

pub scan_keeps_own : ScanKeepsOwn
scan_keeps_own device name failed old new answer row = grown_keeps old new (scan_grows device name failed old new answer row)

abbrev pub StartPullKeepsOwn : Type 0
StartPullKeepsOwn = (device : Device) (name : FileName) (old new : Replica) (answer : Answer) →
    StartPullRow device name old new answer → KeepsOwn old new

pub start_pull_keeps_own : StartPullKeepsOwn
start_pull_keeps_own device name old new answer row = grown_keeps old new (start_pull_grows device name old new answer row)

abbrev pub FinishKeepsOwn : Type 0
FinishKeepsOwn = (device : Device) (name : FileName) (failed : Option ℕ) (old new : Replica) (answer : Answer) →
    FinishRow device name failed old new answer → KeepsOwn old new

pub finish_keeps_own : FinishKeepsOwn
finish_keeps_own device name failed old new answer row = grown_keeps old new (finish_grows device name failed old new answer row)
