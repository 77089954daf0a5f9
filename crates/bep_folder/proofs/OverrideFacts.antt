-- An override makes its row.
use Rattle.std.proofs.Common.{◌≡◌, ◌⊎◌, ℕ, List, Option, Some, None, Result, Ok, Err, IfOk, refl, sym, ap, subst, ◌∙◌, inl, inr}
use Rattle.bep_record.specs.declared.entry.Entry.{Entry}
use Rattle.bep_record.specs.declared.folder_kind.FolderKind.TheVariants.{SendOnly}
use Rattle.bep_index.specs.Index.{IsSequenceFull, IsIndexFull}
use Rattle.bep_model.specs.Tables.{Device, FileName}
use Rattle.bep_machine.specs.Answer.{Answer, Done, Refused}
use Rattle.bep_machine.specs.declared.moved.Moved.TheVariants.{Changed}
use Rattle.bep_machine.specs.declared.refusal.Refusal.TheVariants as refusals
use Rattle.bep_machine.specs.Local.{CanOverride, IsOverridable, OverrideRow, PutRow, overriding}
use Rattle.bep_machine.specs.Replica.{Chooses, Replica, own_at, with_record}
use Rattle.bep_folder.specs.Held.{Held}
use Rattle.bep_folder.specs.Makes.{Makes}
use Rattle.bep_folder.specs.inner.Overriding.{IsOverriding, Overrides, WinsOver, WinsOverChosen}
use Rattle.bep_folder.specs.declared.error.FolderError.{FolderError}
use Rattle.bep_folder.specs.declared.error.FolderError.TheVariants as errors

-- ---- the new record

overriding_named : (device : Device) (name : FileName) (own : Option Entry) (chosen : Entry) (version : List (ℕ × ℕ)) →
    ((one : Entry) → own ≡ Some one → one.name ≡ name) → (overriding device name own chosen version).name ≡ name
overriding_named device name None chosen version named = refl
overriding_named device name (Some own) chosen version named = named own refl

-- it stands under the name
wins_named : (device : Device) (name : FileName) (own : Option Entry) (chosen entry : Entry) →
    ((one : Entry) → own ≡ Some one → one.name ≡ name) → WinsOver device name own chosen (Ok entry) → entry.name ≡ name
wins_named device name own chosen entry named wins =
    ap (λ (e : Entry). e.name) wins.2.2 ∙ overriding_named device name own chosen wins.2.0 named

-- and so it does where there is one
pub winner_named : (device : Device) (name : FileName) (own : Option Entry) (chosen : Entry) (result : Result Entry FolderError) →
    ((one : Entry) → own ≡ Some one → one.name ≡ name) → WinsOver device name own chosen result → IfOk result (λ entry. entry.name ≡ name)
winner_named device name own chosen (Ok entry) named wins = wins_named device name own chosen entry named wins
winner_named device name own chosen (Err error) named wins = tt

-- ---- the row

module _ (device : Device) (name : FileName) (old : Replica) (only : old.kind ≡ SendOnly) where
  can_override : (result : Result Entry FolderError) → WinsOverChosen device name old result → ¬ ¬ CanOverride device name old
  can_override result wins not = not (wins.0, wins.1, wins.2)

  put_row : (new : Replica) (answer : Answer) (entry : Entry) (wins : WinsOverChosen device name old (Ok entry)) →
      PutRow name (IsOverriding device name (own_at old name) wins.0) old new answer → OverrideRow device name old new answer
  put_row new answer entry wins put =
      inr ((λ apart. apart only), inr (can_override (Ok entry) wins, (wins.0, wins.1, inr (wins.3.0, inr (wins.3.1, put)))))

  -- the record was put
  pub override_done : (new : Replica) (entry : Entry) → WinsOverChosen device name old (Ok entry) → entry.name ≡ name →
      (¬ IsSequenceFull old.index) → (¬ IsIndexFull old.index entry.name) → new ≡ with_record old entry → OverrideRow device name old new (Done Changed)
  override_done new entry wins named numbers room same =
      put_row new (Done Changed) entry wins
      (inr (numbers, inr ((λ full. room (subst (IsIndexFull old.index) (sym named) full)), (entry, wins.3.2, (same, refl)))))

-- where a record is chosen that can be overridden, what wins over it is what an override puts
wins_made : (device : Device) (name : FileName) (tables : Replica) (result : Result Entry FolderError) → tables.kind ≡ SendOnly →
    WinsOverChosen device name tables result → Overrides device name tables result
wins_made device name tables (Ok entry) only wins = (only, wins)
wins_made device name tables (Err errors.CounterFull) only wins = (only, wins)
wins_made device name tables (Err errors.TooManyCounters) only wins = (only, wins)
wins_made device name tables (Err errors.Memory) only wins = (only, wins)
wins_made device name tables (Err errors.NameBad) only wins = (only, wins)
wins_made device name tables (Err errors.SequenceFull) only wins = (only, wins)
wins_made device name tables (Err errors.IndexFull) only wins = (only, wins)
wins_made device name tables (Err errors.BatchOld) only wins = (only, wins)
wins_made device name tables (Err errors.StoreFault) only wins = (only, wins)
wins_made device name tables (Err errors.Unscanned) only wins = (only, wins)
wins_made device name tables (Err errors.NotNeeded) only wins = (only, wins)
wins_made device name tables (Err errors.BlocksMissing) only wins = (only, wins)
wins_made device name tables (Err errors.HashBad) only wins = (only, wins)
wins_made device name tables (Err errors.CopyExists) only wins = (only, wins)
wins_made device name tables (Err errors.PullsFull) only wins = (only, wins)
wins_made device name tables (Err errors.Stale) only wins = (only, wins)
wins_made device name tables (Err errors.NotShared) only wins = (only, wins)
wins_made device name tables (Err errors.KindForbids) only wins = absurd wins.3
wins_made device name tables (Err errors.NothingToDo) only wins = absurd wins.3

pub overrides_chosen : (device inside : Device) (name : FileName) (tables : Replica) (own : Option Entry) (chosen : Entry) (result : Result Entry FolderError) →
    inside ≡ device → own ≡ own_at tables name → tables.kind ≡ SendOnly → Chooses device tables name chosen → IsOverridable own chosen →
    WinsOver inside name own chosen result → Overrides device name tables result
overrides_chosen device inside name tables own chosen result same_device same_own only chooses behind wins =
    wins_made device name tables result only (
      chosen,
      chooses,
      subst (λ (o : Option Entry). IsOverridable o chosen) same_own behind,
      subst (λ (o : Option Entry). WinsOver device name o chosen result) same_own (subst (λ (d : Device). WinsOver d name own chosen result) same_device wins),
    )

-- there is no record to be put
pub override_refused : (device : Device) (name : FileName) (old new : Held) (error : FolderError) →
    Overrides device name old.tables (Err error) → new.tables ≡ old.tables → Makes (OverrideRow device name) old new (Err error)
override_refused device name old new errors.KindForbids apart same = inl (apart, (same, refl))
override_refused device name old new errors.NothingToDo not same = inr ((λ apart. apart not.0), inl (not.1, (same, refl)))
override_refused device name old new errors.CounterFull made same =
    let wins = made.1 in
    inr ((λ apart. apart made.0), inr (can_override device name old.tables made.0 (Err errors.CounterFull) wins, (wins.0, wins.1, inl (wins.3, (same, refl)))))
override_refused device name old new errors.TooManyCounters made same =
    let wins = made.1 in
    inr ((λ apart. apart made.0), inr (can_override device name old.tables made.0 (Err errors.TooManyCounters) wins, (wins.0, wins.1, inr (wins.3.0, inl (wins.3.1, (same, refl))))))
override_refused device name old new errors.Memory made same = inl same
override_refused device name old new errors.NameBad made same = absurd made.1.3
override_refused device name old new errors.SequenceFull made same = absurd made.1.3
override_refused device name old new errors.IndexFull made same = absurd made.1.3
override_refused device name old new errors.BatchOld made same = absurd made.1.3
override_refused device name old new errors.StoreFault made same = absurd made.1.3
override_refused device name old new errors.Unscanned made same = absurd made.1.3
override_refused device name old new errors.NotNeeded made same = absurd made.1.3
override_refused device name old new errors.BlocksMissing made same = absurd made.1.3
override_refused device name old new errors.HashBad made same = absurd made.1.3
override_refused device name old new errors.CopyExists made same = absurd made.1.3
override_refused device name old new errors.PullsFull made same = absurd made.1.3
override_refused device name old new errors.Stale made same = absurd made.1.3
override_refused device name old new errors.NotShared made same = absurd made.1.3

-- the record couldn't be put
pub override_not_put : (device : Device) (name : FileName) (old new : Held) (entry : Entry) (error : FolderError) → old.tables.kind ≡ SendOnly →
    WinsOverChosen device name old.tables (Ok entry) → entry.name ≡ name → new.tables ≡ old.tables →
    (error ≡ errors.SequenceFull) ⊎ (error ≡ errors.IndexFull) ⊎ (error ≡ errors.Memory) →
    (error ≡ errors.SequenceFull → IsSequenceFull old.tables.index) →
    (error ≡ errors.IndexFull → (¬ IsSequenceFull old.tables.index) × IsIndexFull old.tables.index entry.name) →
    Makes (OverrideRow device name) old new (Err error)
override_not_put device name old new entry error only wins named same (inl is) numbers room =
    subst (λ (e : FolderError). Makes (OverrideRow device name) old new (Err e)) (sym is)
    (put_row device name old.tables only new.tables (Refused refusals.SequenceFull) entry wins (inl (numbers is, (same, refl))))
override_not_put device name old new entry error only wins named same (inr (inl is)) numbers room =
    subst (λ (e : FolderError). Makes (OverrideRow device name) old new (Err e)) (sym is)
    (put_row device name old.tables only new.tables (Refused refusals.IndexFull) entry wins
    (inr ((room is).0, inl (subst (IsIndexFull old.tables.index) named (room is).1, (same, refl)))))
override_not_put device name old new entry error only wins named same (inr (inr is)) numbers room =
    subst (λ (e : FolderError). Makes (OverrideRow device name) old new (Err e)) (sym is) (inl same)
