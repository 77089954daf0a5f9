-- What a device does with one of its folders is the step of the folder's replica, and leaves all else.
use Rattle.std.proofs.Common.{◌≡◌, ◌↔◌, ◌<◌, ℕ, List, Bool, true, false, cond, Option, Some, None, IsSome, Contains, Result, Ok, Err, IsErr, Bor, option_map, refl, sym, ap, subst, ◌∙◌, arith, inl, inr, ⊎_elim}
use Rattle.std.specs.Ordering.{nat_cmp, eq_by_cmp}
use Rattle.std.specs.Cmp.Lexicographic.{slice_cmp, nat_list_cmp_total}
use Rattle.std.specs.FinMap.{get, insert, get-insert}
use Rattle.std.proofs.lemmas.Map.Lookups.{exact_bytes}
use Rattle.bep_facts.specs.Maps.{found_after_insert, get-insert_here, insert-what_is_there, same_key}
use Rattle.bep_map.specs.NameMap.{ByName}
use Rattle.bep_model.specs.Tables.{Device, Folder, FileName}
use Rattle.bep_machine.specs.declared.moved.Moved.{Moved}
use Rattle.bep_machine.specs.declared.refusal.Refusal.TheVariants.{NotShared}
use Rattle.bep_machine.specs.Answer.{Answer, Done, OutOfMemory, Row}
use Rattle.bep_machine.specs.Peer.{Session, with_replica}
use Rattle.bep_machine.specs.Replica.{ByDevice, Replica}
use Rattle.bep_folder.specs.declared.error.FolderError.{FolderError}
use Rattle.bep_folder.specs.Finish.{GainsCopy}
use Rattle.bep_folder.specs.Held.{Held}
use Rattle.bep_folder.specs.Makes.{Makes, Stays, CountsFaults}
use Rattle.bep_folder.specs.Trace.{Trace as HeldTrace}
use Rattle.bep_peer.specs.declared.error.PeerError.{PeerError}
use Rattle.bep_peer.specs.declared.error.PeerError.TheVariants.{Refused}
use Rattle.bep_peer.specs.declared.within.steps.Step.{Step}
use Rattle.bep_peer.specs.declared.within.steps.Step.TheVariants.{Finish}
use Rattle.bep_peer.specs.declared.trace.Trace.{Trace}
use Rattle.bep_peer.specs.inner.Call.{AnswersAt, IsCalled, IsSteady, IsStepped, row_of}
use Rattle.bep_peer.specs.Member.{Member, AreOwn, IsMember, HasFailed, Remains, tables_of, untold}
use Rattle.bep_peer.specs.PeerError.{Gives}
use Rattle.bep_peer.specs.Within.{GainsCopyIn, OnlyFolder, StepWithin, told_of, with_folder, answer_of, error_of}
use Rattle.bep_peer.proofs.Refusals.{failed_or_not, wanting_or_refused}
use Rattle.bep_peer.proofs.Mapped.{get-changed, insert-changed}

-- ---- the tables

tables_with : (old : Member) (folder : Folder) (held : Held) → tables_of (with_folder old folder held) ≡ with_replica (tables_of old) folder held.tables
tables_with old folder held =
    ap (λ (replicas : ByName Replica). record { replicas = replicas; sessions = old.sessions })
    (insert-changed nat_list_cmp_total exact_bytes (λ (one : Held). one.tables) old.folders folder held)

table_there : (old : Member) (folder : Folder) (held : Held) → get old.folders folder ≡ Some held → get (tables_of old).replicas folder ≡ Some held.tables
table_there old folder held is =
    get-changed nat_list_cmp_total exact_bytes (λ (one : Held). one.tables) old.folders folder ∙ ap (option_map (λ (one : Held). one.tables)) is

-- ---- the step

-- the folder's row was made
at_folder : (old : Member) (folder : Folder) (before after : Held) (row : Replica → Row Replica) (answer : Answer) → get old.folders folder ≡ Some before → row before.tables after.tables answer → StepWithin folder row old (with_folder old folder after) answer
at_folder old folder before after row answer is made = inr (inr (
  λ none. let there = sym is ∙ none in absurd (cc),
  (before.tables, after.tables, table_there old folder before is, made, tables_with old folder after),
))

-- the folder's tables are as before
pub same_tables : (old : Member) (folder : Folder) (before after : Held) → get old.folders folder ≡ Some before → after.tables ≡ before.tables → tables_of (with_folder old folder after) ≡ tables_of old
same_tables old folder before after is same =
    tables_with old folder after
    ∙ ap (with_replica (tables_of old) folder) same
    ∙ ap (λ (replicas : ByName Replica). record { replicas = replicas; sessions = old.sessions })
    (insert-what_is_there nat_list_cmp_total exact_bytes (tables_of old).replicas folder before.tables (table_there old folder before is))

-- memory was wanting
unmade : (old : Member) (folder : Folder) (before after : Held) (row : Replica → Row Replica) → get old.folders folder ≡ Some before → after.tables ≡ before.tables → StepWithin folder row old (with_folder old folder after) OutOfMemory
unmade old folder before after row is same = inl (same_tables old folder before after is same, refl)

pub made_within : (old : Member) (folder : Folder) (before after : Held) (row : Replica → Row Replica) (answer : Result Moved FolderError) → get old.folders folder ≡ Some before → Makes row before after answer → Gives (StepWithin folder row old) (with_folder old folder after) (answer_of answer)
made_within old folder before after row (Ok moved) is made = at_folder old folder before after row (Done moved) is made
made_within old folder before after row (Err error) is made =
    ⊎_elim
    (λ wanting.
    subst (λ (e : FolderError). Gives (StepWithin folder row old) (with_folder old folder after) (Err (error_of e))) (sym wanting.0)
    (⊎_elim (λ same. unmade old folder before after row is same) (λ made. at_folder old folder before after row OutOfMemory is made) wanting.1))
    (λ refused.
    subst (λ (e : PeerError). Gives (StepWithin folder row old) (with_folder old folder after) (Err e)) (sym refused.1)
    (at_folder old folder before after row _ is refused.2))
    (wanting_or_refused row before after error made)

-- ---- as a call leaves it

-- the device once the folder is this, and so much is told
abbrev pub left_with : Member → Folder → Held → Trace → Member
left_with begun folder after trace = record begun { folders = insert begun.folders folder after; trace = trace }

-- what a folder tells is told
pub told_by : (trace : Trace) (pair : Option ℕ × Bool) (held : HeldTrace) → trace ≡ told_of (record { failed = pair.0; copied = pair.1 }) → pair ≡ (held.failed, held.copied) → trace ≡ told_of held
told_by trace pair held is same = is ∙ ap (λ (p : Option ℕ × Bool). told_of (record { failed = p.0; copied = p.1 })) same

left_within : (old begun : Member) (folder : Folder) (after : Held) (trace : Trace) → begun ≡ untold old → trace ≡ told_of after.trace → left_with begun folder after trace ≡ with_folder old folder after
left_within old begun folder after trace same told =
    ap (left_with begun folder after) told ∙ ap (λ (m : Member). left_with m folder after (told_of after.trace)) same

-- the folder was called, from where nothing is told yet
pub called_as : {A : Type 0} (does : Held → Held → Result A FolderError → Type 0) (old begun : Member) (folder : Folder) (before after : Held) (trace : Trace) (answer : Result A FolderError) (said : Result A PeerError) →
    begun ≡ untold old → Some before ≡ get begun.folders folder → AreOwn begun.number begun.folders → does before after answer → IsSteady before after answer → trace ≡ told_of after.trace → said ≡ answer_of answer →
    IsCalled does folder old (left_with begun folder after trace) said
called_as does old begun folder before after trace answer said same is own done steady told says = record {
  before = before;
  after = after;
  answer = answer;
  there = ap (λ (m : Member). get m.folders folder) (sym same) ∙ sym is;
  own = (own folder before (sym is)).0 ∙ ap (λ (m : Member). m.number) same;
  done = done;
  steady = steady;
  now = left_within old begun folder after trace same told;
  says = says;
}

-- ---- what stays

-- a call failed exactly where the count rose
counts : {A : Type 0} (before after : Held) (result : Result A FolderError) → CountsFaults before after result → IsSome after.trace.failed ↔ (before.faults < after.faults)
counts before after result counted =
    ⊎_elim
    (λ rose. (λ _. rose.0, λ _. rose.1))
    (λ same. (
      λ some. let none = same.1 in absurd (cc),
      λ rose. let held = same.0 in absurd (omega arith),
    ))
    (failed_or_not before after result counted)

-- the store that failed more often is the folder's
its_store : (old : Member) (folder : Folder) (before after : Held) → get old.folders folder ≡ Some before → HasFailed old (with_folder old folder after) → before.faults < after.faults
its_store old folder before after is failed = cases (eq_by_cmp (slice_cmp nat_cmp) failed.folder folder) refl (sym (get-insert nat_list_cmp_total old.folders folder after failed.folder) ∙ failed.after)
  where
    cases : (b : Bool) → eq_by_cmp (slice_cmp nat_cmp) failed.folder folder ≡ b → cond b (Some after) (get old.folders failed.folder) ≡ Some failed.now → before.faults < after.faults
    cases true tied now =
        let was : Some failed.was ≡ Some before = sym failed.before ∙ ap (get old.folders) (same_key exact_bytes failed.folder folder tied) ∙ is in
        let one : failed.was ≡ before = cc in
        let other : after ≡ failed.now = cc in
        let rose = failed.rose in
        subst (λ (h : Held). h.faults < after.faults) one (subst (λ (h : Held). failed.was.faults < h.faults) (sym other) rose)
    cases false apart now =
        let same : Some failed.was ≡ Some failed.now = sym failed.before ∙ now in
        let one : failed.was ≡ failed.now = cc in
        let rose : failed.now.faults < failed.now.faults = subst (λ (h : Held). h.faults < failed.now.faults) one failed.rose in
        absurd (omega arith)

remains_at : {A : Type 0} (old : Member) (folder : Folder) (before after : Held) (answer : Result A FolderError) → get old.folders folder ≡ Some before → CountsFaults before after answer → Remains old (with_folder old folder after)
remains_at old folder before after answer there counted = record {
  number = refl;
  linked = refl;
  failed = (
    λ told. record { folder = folder; was = before; now = after; before = there; after = get-insert_here nat_list_cmp_total exact_bytes old.folders folder after; rose = (counts before after answer counted).0 told },
    λ failed. (counts before after answer counted).1 (its_store old folder before after there failed),
  );
}

-- what holds of every member
pub member_within : (number : Device) (folders : ByName Held) (sessions : ByDevice Session) (linked : List Device) (folder : Folder) (before after : Held) →
    IsMember number folders sessions linked → Some before ≡ get folders folder → Stays before after → after.tables.others ≡ before.tables.others → IsMember number (insert folders folder after) sessions linked
member_within number folders sessions linked folder before after member there stays others =
    record {
      own = λ name held found.
          ⊎_elim
          (λ here. subst (λ (h : Held). (h.device ≡ number) × (h.folder ≡ name)) (sym here.1) (stays.device ∙ (member.own folder before is).0, stays.folder ∙ (member.own folder before is).1 ∙ sym here.0))
          (λ apart. member.own name held apart.1)
          (found_after_insert nat_list_cmp_total exact_bytes folders folder after name held found);
      named = λ other session name begun is_named. still other name (member.named other session name begun is_named);
      linked_to = member.linked_to;
    }
  where
    is : get folders folder ≡ Some before
    is = sym there

    still : (other : Device) (name : Folder) → ((held : Held) × (get folders name ≡ Some held) × Contains held.tables.others other) → (held : Held) × (get (insert folders folder after) name ≡ Some held) × Contains held.tables.others other
    still other name shared = cases (eq_by_cmp (slice_cmp nat_cmp) name folder) refl
      where
        cases : (b : Bool) → eq_by_cmp (slice_cmp nat_cmp) name folder ≡ b → (held : Held) × (get (insert folders folder after) name ≡ Some held) × Contains held.tables.others other
        cases true tied =
            let same : Some shared.0 ≡ Some before = sym shared.1 ∙ ap (get folders) (same_key exact_bytes name folder tied) ∙ is in
            let one : shared.0 ≡ before = cc in (
              after,
              get-insert nat_list_cmp_total folders folder after name ∙ ap (λ (b : Bool). cond b (Some after) (get folders name)) tied,
              subst (λ (devices : List Device). Contains devices other) (sym others) (subst (λ (h : Held). Contains h.tables.others other) one shared.2),
            )
        cases false apart = (shared.0, get-insert nat_list_cmp_total folders folder after name ∙ ap (λ (b : Bool). cond b (Some after) (get folders name)) apart ∙ shared.1, shared.2)

-- ---- what every call of a folder does

module _ {A : Type 0} {does : Held → Held → Result A FolderError → Type 0} {folder : Folder} {old new : Member} {result : Result A PeerError} where
  pub only_within : IsCalled does folder old new result → OnlyFolder folder old new
  only_within call =
      let has : IsSome (get old.folders folder) = subst (λ (found : Option Held). IsSome found) (sym call.there) refl in
      inr (call.after, has, call.now)

  pub remains_within : IsCalled does folder old new result → Remains old new
  remains_within call = subst (Remains old) (sym call.now) (remains_at old folder call.before call.after call.answer call.there call.steady.counted)

  -- what holds where the device doesn't have the folder, and where the folder was called
  pub either_way : (P : Member → Result A PeerError → Type 0) → (get old.folders folder ≡ None → P (untold old) (Err (Refused NotShared))) →
      ((call : IsCalled does folder old new result) → P (with_folder old folder call.after) (answer_of call.answer)) → AnswersAt does folder old new result → P new result
  either_way P absent called (inl none) = subst (λ (m : Member). P m result) (sym none.1) (subst (λ (one : Result A PeerError). P (untold old) one) (sym none.2) (absent none.0))
  either_way P absent called (inr call) =
      subst (λ (m : Member). P m result) (sym call.now) (subst (λ (one : Result A PeerError). P (with_folder old folder call.after) one) (sym call.says) (called call))

-- ---- a conflict copy

pub its_value : (one other : Held) (found : Option Held) → found ≡ Some one → found ≡ Some other → one ≡ other
its_value one other found is also = let same = sym is ∙ also in cc

gains_at : (old : Member) (folder : Folder) (name : FileName) (before after : Held) → get old.folders folder ≡ Some before → (after.trace.copied ≡ true) ↔ GainsCopy name before.tables after.tables →
    (after.trace.copied ≡ true) ↔ GainsCopyIn folder name old (with_folder old folder after)
gains_at old folder name before after there gains = (
  λ copied. (before, after, there, here, gains.0 copied),
  λ gained.
      let was = its_value gained.0 before (get old.folders folder) gained.2 there in
      let now = its_value gained.1 after (get (insert old.folders folder after) folder) gained.3 here in
      gains.1 (subst (λ (h : Held). GainsCopy name h.tables after.tables) was (subst (λ (h : Held). GainsCopy name gained.0.tables h.tables) now gained.4)),
)
  where
    here : get (insert old.folders folder after) folder ≡ Some after
    here = get-insert_here nat_list_cmp_total exact_bytes old.folders folder after

no_gain : (old : Member) (folder : Folder) (name : FileName) → get old.folders folder ≡ None → (false ≡ true) ↔ GainsCopyIn folder name old (untold old)
no_gain old folder name none = (λ copied. absurd (cc), λ gained. let there = sym gained.2 ∙ none in absurd (cc))

is_error : {A : Type 0} (answer : Result A FolderError) → IsErr (answer_of answer) → IsErr answer
is_error (Ok done) is = is
is_error (Err error) is = is

-- ---- a step

module _ {step : Step} {folder : Folder} {old new : Member} {result : Result Moved PeerError} where
  -- it is one of the device whose folder it is
  pub stepped_within : AnswersAt (IsStepped step) folder old new result → Gives (StepWithin folder (row_of step old.number new.trace.failed) old) new result
  stepped_within = either_way (λ m one. Gives (StepWithin folder (row_of step old.number m.trace.failed) old) m one)
      (λ none. inr (inl (none, (refl, refl))))
      (λ call.
      subst (λ (number : Device). Gives (StepWithin folder (row_of step number call.after.trace.failed) old) (with_folder old folder call.after) (answer_of call.answer)) call.own
      (made_within old folder call.before call.after (row_of step call.before.device call.after.trace.failed) call.answer call.there call.done.made))

module _ {name : Bor FileName} {folder : Folder} {old new : Member} {result : Result Moved PeerError} where
  pub copied_within : AnswersAt (IsStepped (Finish name)) folder old new result → (new.trace.copied ≡ true) ↔ GainsCopyIn folder name.now old new
  copied_within = either_way (λ m one. (m.trace.copied ≡ true) ↔ GainsCopyIn folder name.now old m)
      (λ none. no_gain old folder name.now none)
      (λ call. gains_at old folder name.now call.before call.after call.there call.done.told.copied)

  pub kept_within : AnswersAt (IsStepped (Finish name)) folder old new result → IsErr result → new.trace.copied ≡ false → tables_of new ≡ tables_of old
  kept_within = either_way (λ m one. IsErr one → m.trace.copied ≡ false → tables_of m ≡ tables_of old)
      (λ none error uncopied. refl)
      (λ call error uncopied. same_tables old folder call.before call.after call.there (call.done.told.kept (is_error call.answer error) uncopied))
