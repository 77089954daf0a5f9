-- The beginning of a pull makes its row.
use Rattle.std.proofs.Common.{◌≡◌, inl, inr, refl, subst}
use Rattle.bep_record.specs.declared.entry.Entry.{Entry}
use Rattle.bep_model.specs.Tables.{Device, FileName}
use Rattle.bep_machine.specs.declared.moved.Moved.TheVariants.{Changed}
use Rattle.bep_machine.specs.declared.refusal.Refusal.{Refusal}
use Rattle.bep_machine.specs.Answer.{Answer, Done, Refused}
use Rattle.bep_machine.specs.Replica.{Replica, Chooses, with_pull}
use Rattle.bep_machine.specs.Pull.{ChosenRow, StartPullRow, new_pull}
use Rattle.bep_folder.specs.inner.Start.{MayPull}
use Rattle.bep_folder.specs.Unhidden.{RefusesNone}

-- the row of the record that is chosen
pub of_chosen : (device : Device) (name : FileName) (old new : Replica) (answer : Answer) (chosen : Entry) → Chooses device old name chosen → ChosenRow name chosen old new answer →
    StartPullRow device name old new answer
of_chosen device name old new answer chosen chooses row = inr ((λ none. none chosen chooses), (chosen, chooses, row))

module _ (device : Device) (name : FileName) (old : Replica) (target : Entry) (may : MayPull device name old target) where
  -- a pull begins
  pub begins : (new : Replica) → new ≡ with_pull old name (new_pull target) → StartPullRow device name old new (Done Changed)
  begins new is =
      of_chosen device name old new (Done Changed) target may.chosen
      (inr ((λ both. both.0 may.needed), inr ((λ without. without may.needed), inr (may.room, (is, refl)))))

  of_target : (new : Replica) (refusal : Refusal) → ¬ ChosenRow name target old new (Refused refusal)
  of_target new refusal (inl both) = both.0.0 may.needed
  of_target new refusal (inr (needed, inl without)) = without.0 may.needed
  of_target new refusal (inr (needed, inr (kind, inl full))) = may.room full.0
  of_target new refusal (inr (needed, inr (kind, inr (room, done)))) = let e = done.1 in absurd (cc)

  -- and nothing refuses it
  pub unrefused : RefusesNone (StartPullRow device name old)
  unrefused new refusal (inl none) = none.0 target may.chosen
  unrefused new refusal (inr (some, (chosen, chooses, row))) =
      of_target new refusal (subst (λ (one : Entry). ChosenRow name one old new (Refused refusal)) (may.only chosen chooses) row)
