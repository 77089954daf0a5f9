-- What is read of a folder, as the device answers it.
use Rattle.std.proofs.Common.{◌≡◌, ◌⊎◌, Some, Result, Ok, Err, IfOk, IfErr, refl, sym, subst, ⊎_elim}
use Rattle.std.specs.FinMap.{get}
use Rattle.bep_model.specs.Tables.{Folder}
use Rattle.bep_machine.specs.Replica.{Replica}
use Rattle.bep_folder.specs.declared.error.FolderError.{FolderError}
use Rattle.bep_folder.specs.declared.error.FolderError.TheVariants as errors
use Rattle.bep_folder.specs.Held.{Held}
use Rattle.bep_folder.specs.Makes.{Stays, CountsFaults}
use Rattle.bep_peer.specs.declared.error.PeerError.{PeerError}
use Rattle.bep_peer.specs.inner.Call.{AnswersAt, IsRead}
use Rattle.bep_peer.specs.Contents.{IsReadIn, ReadsIn}
use Rattle.bep_peer.specs.Member.{Member, tables_of}
use Rattle.bep_peer.specs.Within.{answer_of, with_folder}
use Rattle.bep_peer.proofs.WithinFacts.{either_way, same_tables}

module _ {A : Type 0} (IsRight : Replica → A → Type 0) where
  -- the folder was read
  abbrev DoesRead : Held → Held → Result A FolderError → Type 0
  DoesRead before after answer = IsRead (IsRight before.tables) before after answer

  abbrev failing : FolderError → Result A FolderError
  failing error = Err error

  reads_at : (old : Member) (folder : Folder) (before after : Held) (answer : Result A FolderError) → get old.folders folder ≡ Some before → after.tables ≡ before.tables → Stays before after →
      IfOk answer (IsRight before.tables) → IfErr answer (λ e. (e ≡ errors.StoreFault) ⊎ (e ≡ errors.Memory)) → CountsFaults before after answer →
      ReadsIn IsRight folder old (with_folder old folder after) (answer_of answer)
  reads_at old folder before after answer is same stays right only counted = cases answer right only counted
    where
      read : IsReadIn folder old (with_folder old folder after)
      read = record { before = before; after = after; there = is; now = refl; tables = same; stays = stays }

      cases : (answer : Result A FolderError) → IfOk answer (IsRight before.tables) → IfErr answer (λ e. (e ≡ errors.StoreFault) ⊎ (e ≡ errors.Memory)) → CountsFaults before after answer →
          ReadsIn IsRight folder old (with_folder old folder after) (answer_of answer)
      cases (Ok nodes) right only counted = (read, counted.0, right)
      cases (Err error) right only counted =
          ⊎_elim
          (λ fault. subst (λ (e : FolderError). CountsFaults before after (failing e) → ReadsIn IsRight folder old (with_folder old folder after) (answer_of (failing e))) (sym fault) (λ rose. (read, rose.0)) counted)
          (λ memory. subst (λ (e : FolderError). CountsFaults before after (failing e) → ReadsIn IsRight folder old (with_folder old folder after) (answer_of (failing e))) (sym memory) (λ kept. (read, kept.0)) counted)
          only

  pub reads_within : {folder : Folder} {old new : Member} {result : Result A PeerError} → AnswersAt DoesRead folder old new result → ReadsIn IsRight folder old new result
  reads_within {folder = folder} {old = old} = either_way (ReadsIn IsRight folder old)
      (λ none. (none, refl))
      (λ call. reads_at old folder call.before call.after call.answer call.there call.done.same call.steady.stays call.done.right call.done.only call.steady.counted)

  -- the tables are as before
  pub reads_same : {folder : Folder} {old new : Member} {result : Result A PeerError} → AnswersAt DoesRead folder old new result → tables_of new ≡ tables_of old
  reads_same {folder = folder} {old = old} = either_way (λ m one. tables_of m ≡ tables_of old) (λ none. refl) (λ call. same_tables old folder call.before call.after call.there call.done.same)
