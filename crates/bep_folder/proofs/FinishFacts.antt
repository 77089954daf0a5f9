-- The end of a pull makes its row, from part to part.
use Rattle.std.proofs.Common.{◌≡◌, ℕ, Bool, true, false, ◌+◌, ◌<◌, length, Option, Some, None, Result, Ok, Err, inl, inr, refl, sym, ap, subst, ◌∙◌, ⊎_elim, arith}
use Rattle.std.specs.Prelude.{IsSome, ◌≢◌}
use Rattle.bep_record.specs.declared.entry.Entry.{Entry}
use Rattle.bep_record.specs.declared.node.NodeParts.{NodeParts}
use Rattle.bep_record.specs.Name.{max_name_len}
use Rattle.bep_record.specs.Node.{IsClean}
use Rattle.bep_model.specs.Tables.{FileName}
use Rattle.bep_machine.specs.declared.moved.Moved.{Moved}
use Rattle.bep_machine.specs.declared.moved.Moved.TheVariants.{Dropped}
use Rattle.bep_machine.specs.declared.refusal.Refusal.TheVariants as refusals
use Rattle.bep_machine.specs.Answer.{Answer, Done, Refused, OutOfMemory, Row, when◌then◌else◌, ◌answers◌when◌else◌}
use Rattle.bep_machine.specs.Local.{Fails}
use Rattle.bep_machine.specs.Replica.{Pull, Replica, own_at, node_at, pull_at, with_node, without_pull}
use Rattle.bep_machine.specs.Pull.{CopyingRow, EndingRow, FinishRow, RoomRow, SettlingRow, IsStillWanted, IsConflictDue, IsCopy, copy_name}
use Rattle.bep_folder.specs.declared.error.FolderError.{FolderError}
use Rattle.bep_folder.specs.declared.error.FolderError.TheVariants as errors
use Rattle.bep_folder.specs.inner.Ending.{CleanRow, IsIncomplete, PulledRow, RoomyRow, WritingRow}
use Rattle.bep_folder.specs.inner.Finish.{FailsLater, IfPulled, Looks}
use Rattle.bep_folder.specs.Held.{Held}
use Rattle.bep_folder.specs.inner.Conflict.{IsKeptAt}
use Rattle.bep_folder.specs.Makes.{Makes}
use Rattle.bep_folder.specs.Trace.{next_call}

-- ---- one row from another

-- a row is made that follows from the one that is made
pub makes_from : (row other : Replica → Row Replica) (old mid new : Held) (result : Result Moved FolderError) → mid.tables ≡ old.tables →
    ((answer : Answer) → row mid.tables new.tables answer → other old.tables new.tables answer) → Makes row mid new result → Makes other old new result
makes_from row other old mid new (Ok moved) same so made = so (Done moved) made
makes_from row other old mid new (Err errors.Memory) same so made = ⊎_elim (λ is. inl (is ∙ same)) (λ there. inr (so OutOfMemory there)) made
makes_from row other old mid new (Err errors.CounterFull) same so made = so (Refused refusals.CounterFull) made
makes_from row other old mid new (Err errors.TooManyCounters) same so made = so (Refused refusals.TooManyCounters) made
makes_from row other old mid new (Err errors.NameBad) same so made = so (Refused refusals.NameBad) made
makes_from row other old mid new (Err errors.SequenceFull) same so made = so (Refused refusals.SequenceFull) made
makes_from row other old mid new (Err errors.IndexFull) same so made = so (Refused refusals.IndexFull) made
makes_from row other old mid new (Err errors.BatchOld) same so made = made
makes_from row other old mid new (Err errors.StoreFault) same so made = so (Refused refusals.StoreFault) made
makes_from row other old mid new (Err errors.Unscanned) same so made = so (Refused refusals.Unscanned) made
makes_from row other old mid new (Err errors.NotNeeded) same so made = so (Refused refusals.NotNeeded) made
makes_from row other old mid new (Err errors.BlocksMissing) same so made = so (Refused refusals.BlocksMissing) made
makes_from row other old mid new (Err errors.HashBad) same so made = made
makes_from row other old mid new (Err errors.CopyExists) same so made = so (Refused refusals.CopyExists) made
makes_from row other old mid new (Err errors.PullsFull) same so made = so (Refused refusals.PullsFull) made
makes_from row other old mid new (Err errors.KindForbids) same so made = so (Refused refusals.KindForbids) made
makes_from row other old mid new (Err errors.Stale) same so made = made
makes_from row other old mid new (Err errors.NotShared) same so made = so (Refused refusals.NotShared) made
makes_from row other old mid new (Err errors.NothingToDo) same so made = so (Refused refusals.NothingToDo) made

-- the row of the name's pull
pulled_from : (name : FileName) (row other : Replica → Pull → Row Replica) (old mid new : Replica) (answer : Answer) → mid ≡ old →
    ((pull : Pull) → pull_at old name ≡ Some pull → row old pull new answer → other old pull new answer) →
    PulledRow name (row mid) mid new answer → PulledRow name (other old) old new answer
pulled_from name row other old mid new answer same so made =
    let there : PulledRow name (row old) old new answer = subst (λ t. PulledRow name (row t) t new answer) same made in
    (there.0, there.1, so there.0 there.1 there.2)

pub pulled_makes : (name : FileName) (row other : Replica → Pull → Row Replica) (old mid new : Held) (result : Result Moved FolderError) → mid.tables ≡ old.tables →
    ((answer : Answer) (pull : Pull) → pull_at old.tables name ≡ Some pull → row old.tables pull new.tables answer → other old.tables pull new.tables answer) →
    Makes (λ t. PulledRow name (row t) t) mid new result → Makes (λ t. PulledRow name (other t) t) old new result
pulled_makes name row other old mid new result same so made =
    makes_from (λ t. PulledRow name (row t) t) (λ t. PulledRow name (other t) t) old mid new result same
    (λ answer. pulled_from name row other old.tables mid.tables new.tables answer same (so answer)) made

-- where there is room, the rest may be another
room_more : (name : FileName) (own : Option Entry) (target : Entry) (old : Replica) (rest other : Row Replica) (new : Replica) (answer : Answer) →
    (rest new answer → other new answer) → RoomRow name own target old rest new answer → RoomRow name own target old other new answer
room_more name own target old rest other new answer so (inl many) = inl many
room_more name own target old rest other new answer so (inr (few, inl full)) = inr (few, inl full)
room_more name own target old rest other new answer so (inr (few, inr (numbers, inl full))) = inr (few, inr (numbers, inl full))
room_more name own target old rest other new answer so (inr (few, inr (numbers, inr (names, made)))) = inr (few, inr (numbers, inr (names, so made)))

-- ---- a look into the store

-- a look that fails changes nothing, and the row is refused where it has that call of the store
pub look_makes : (row : Replica → Row Replica) (old new : Held) (error : FolderError) → Looks {A = Option NodeParts} old new (Err error) →
    (new.tables ≡ old.tables → Fails (next_call old.made) new.trace.failed → row old.tables new.tables (Refused refusals.StoreFault)) → Makes row old new (Err error)
look_makes row old new error looked refused =
    ⊎_elim
    (λ wanting. subst (λ e. Makes row old new (Err e)) (sym wanting.0) (inl (ap (λ (h : Held). h.tables) wanting.1)))
    (λ fault. subst (λ e. Makes row old new (Err e)) (sym fault.0) (refused (ap (λ (h : Held). h.tables) fault.2) (ap (λ (h : Held). h.trace.failed) fault.2)))
    looked

-- ---- the parts

-- a file that is there, where it is clean
pub file_there : (name : FileName) (tables : Replica) → IsSome (pull_at tables name) → IsClean (node_at tables name) (own_at tables name) →
    IfPulled name tables (λ pull. IsConflictDue (own_at tables name) pull.target) → IsSome (node_at tables name)
file_there name tables pulled clean due = of_pull (pull_at tables name) refl pulled where
  each : (node : Option NodeParts) (own : Option Entry) (target : Entry) → IsClean node own → IsConflictDue own target → IsSome node
  each (Some node) own target is lost = refl
  each None None target is lost = absurd lost
  each None (Some own) target is lost = let there = lost.0.0 in absurd (cc)

  of_pull : (found : Option Pull) → pull_at tables name ≡ found → IsSome found → IsSome (node_at tables name)
  of_pull None is none = absurd (cc)
  of_pull (Some pull) is some = each (node_at tables name) (own_at tables name) pull.target clean (due pull is)

-- without a conflict copy
pub ends_plain : (name : FileName) (old new : Held) (result : Result Moved FolderError) → old.made ≡ 1 → IsClean (node_at old.tables name) (own_at old.tables name) →
    IfPulled name old.tables (λ pull. ¬ IsConflictDue (own_at old.tables name) pull.target) →
    Makes (λ t. PulledRow name (λ pull. RoomyRow name pull None (old.made + 1) new.trace.failed t) t) old new result →
    Makes (λ t. PulledRow name (λ pull. CleanRow name pull new.trace.failed t) t) old new result
ends_plain name old new result one clean apart made =
    pulled_makes name (λ t pull. RoomyRow name pull None (old.made + 1) new.trace.failed t) (λ t pull. CleanRow name pull new.trace.failed t) old old new result refl
    (λ answer pull is row. inr (
      (λ unclean. unclean clean),
      inr (apart pull is, subst (λ call. RoomyRow name pull None call new.trace.failed old.tables new.tables answer) (ap (λ n. n + 1) one) row),
    )) made

-- with one
pub ends_copying : (name : FileName) (old new : Held) (result : Result Moved FolderError) → IsClean (node_at old.tables name) (own_at old.tables name) →
    IfPulled name old.tables (λ pull. IsConflictDue (own_at old.tables name) pull.target) →
    Makes (λ t. PulledRow name (λ pull. CopyingRow name pull new.trace.failed (own_at t name) (node_at t name) t) t) old new result →
    Makes (λ t. PulledRow name (λ pull. CleanRow name pull new.trace.failed t) t) old new result
ends_copying name old new result clean due made =
    pulled_makes name (λ t pull. CopyingRow name pull new.trace.failed (own_at t name) (node_at t name) t) (λ t pull. CleanRow name pull new.trace.failed t) old old new result refl
    (λ answer pull is row. inr ((λ unclean. unclean clean), inl (due pull is, row))) made

-- after the node was read
pub ends_read : (name : FileName) (old mid new : Held) (result : Result Moved FolderError) → mid.tables ≡ old.tables → ¬ Fails 1 new.trace.failed →
    IfPulled name old.tables (λ pull. ¬ IsIncomplete (own_at old.tables name) pull) →
    Makes (λ t. PulledRow name (λ pull. CleanRow name pull new.trace.failed t) t) mid new result →
    Makes (λ t. PulledRow name (λ pull. EndingRow name pull new.trace.failed t) t) old new result
ends_read name old mid new result same steady complete made =
    pulled_makes name (λ t pull. CleanRow name pull new.trace.failed t) (λ t pull. EndingRow name pull new.trace.failed t) old mid new result same
    (λ answer pull is row. inr (complete pull is, inr (steady, row))) made

-- the node couldn't be read
pub ends_unread : (name : FileName) (old new : Held) → IsSome (pull_at old.tables name) → IfPulled name old.tables (λ pull. ¬ IsIncomplete (own_at old.tables name) pull) →
    new.tables ≡ old.tables → Fails 1 new.trace.failed →
    PulledRow name (λ pull. EndingRow name pull new.trace.failed old.tables) old.tables new.tables (Refused refusals.StoreFault)
ends_unread name old new pulled complete same fails = each (pull_at old.tables name) refl pulled where
  each : (found : Option Pull) → pull_at old.tables name ≡ found → IsSome found →
      PulledRow name (λ pull. EndingRow name pull new.trace.failed old.tables) old.tables new.tables (Refused refusals.StoreFault)
  each None is none = absurd (cc)
  each (Some pull) is some = (pull, is, inr (complete pull is, inl (fails, (same, refl))))

-- ---- beside the copy

-- what is known once the conflict name was read
pub record Beside (name copy : FileName) (old mid new : Held) : Type 0 where
  pub named : copy ≡ copy_name (own_at old.tables name)
  pub short : ¬ (max_name_len < length copy)
  pub same : mid.tables ≡ old.tables
  pub two : mid.made ≡ 2
  pub later : FailsLater mid new

-- the row under the copy's name
abbrev CopyRest : FileName → FileName → Pull → Option ℕ → Replica → Row Replica
CopyRest copy name pull failed old =
    when node_at old copy ≡ None
    then (old answers Refused refusals.StoreFault when Fails 3 failed else SettlingRow name pull 4 failed (own_at old name) (node_at old name) (with_node old copy (node_at old name)))
    else SettlingRow name pull 3 failed (own_at old name) (node_at old name) old

abbrev CopyingAt : FileName → FileName → Pull → Option ℕ → Replica → Row Replica
CopyingAt copy name pull failed old =
    old answers Refused refusals.NameBad when max_name_len < length copy else
    old answers Refused refusals.StoreFault when Fails 2 failed else
    old answers Refused refusals.CopyExists when (node_at old copy ≢ None) × (¬ IsCopy (node_at old copy) (node_at old name)) else
    RoomRow name (own_at old name) pull.target old (CopyRest copy name pull failed old)

module _ (name copy : FileName) (old mid new : Held) (beside : Beside name copy old mid new) where
  copying_row : (pull : Pull) (answer : Answer) →
      CopyingAt copy name pull new.trace.failed old.tables new.tables answer →
      CopyingRow name pull new.trace.failed (own_at old.tables name) (node_at old.tables name) old.tables new.tables answer
  copying_row pull answer row =
      subst (λ n. CopyingAt n name pull new.trace.failed old.tables new.tables answer) beside.named row

  steady : ¬ Fails 2 new.trace.failed
  steady = beside.later 2 (omega (arith, beside.two))

  -- whether the copy is written or is there
  ends_beside : (result : Result Moved FolderError) (written : Option FileName) →
      ¬ ((node_at old.tables copy ≢ None) × (¬ IsCopy (node_at old.tables copy) (node_at old.tables name))) →
      ((pull : Pull) (answer : Answer) → WritingRow name pull written 3 new.trace.failed old.tables new.tables answer → CopyRest copy name pull new.trace.failed old.tables new.tables answer) →
      Makes (λ t. PulledRow name (λ pull. RoomyRow name pull written (mid.made + 1) new.trace.failed t) t) mid new result →
      Makes (λ t. PulledRow name (λ pull. CopyingRow name pull new.trace.failed (own_at t name) (node_at t name) t) t) old new result
  ends_beside result written free rests made =
      pulled_makes name (λ t pull. RoomyRow name pull written (mid.made + 1) new.trace.failed t)
      (λ t pull. CopyingRow name pull new.trace.failed (own_at t name) (node_at t name) t) old mid new result beside.same
      (λ answer pull is row. copying_row pull answer (inr (
        beside.short,
        inr (
          steady,
          inr (
            free,
            room_more name (own_at old.tables name) pull.target old.tables (WritingRow name pull written 3 new.trace.failed old.tables) (CopyRest copy name pull new.trace.failed old.tables) new.tables answer (rests pull answer)
                (subst (λ call. RoomyRow name pull written call new.trace.failed old.tables new.tables answer) (ap (λ n. n + 1) beside.two) row),
          ),
        ),
      ))) made

  -- nothing stood there, and the copy is written
  pub ends_with_copy : (result : Result Moved FolderError) → node_at old.tables copy ≡ None →
      Makes (λ t. PulledRow name (λ pull. RoomyRow name pull (Some copy) (mid.made + 1) new.trace.failed t) t) mid new result →
      Makes (λ t. PulledRow name (λ pull. CopyingRow name pull new.trace.failed (own_at t name) (node_at t name) t) t) old new result
  ends_with_copy result free made = ends_beside result (Some copy) (λ stands. stands.0 free) (λ pull answer rest. inl (free, rest)) made

  -- its copy is there
  pub ends_without : (result : Result Moved FolderError) → node_at old.tables copy ≢ None → IsCopy (node_at old.tables copy) (node_at old.tables name) →
      Makes (λ t. PulledRow name (λ pull. RoomyRow name pull None (mid.made + 1) new.trace.failed t) t) mid new result →
      Makes (λ t. PulledRow name (λ pull. CopyingRow name pull new.trace.failed (own_at t name) (node_at t name) t) t) old new result
  ends_without result there same made = ends_beside result None (λ other. other.1 same) (λ pull answer rest. inr (there, rest)) made

-- the node is kept there, or nothing stands there
pub kept_there : (copy : FileName) (held : Option NodeParts) (old new : Held) (kept : Bool) → kept ≡ true → IsKeptAt copy held old new (Ok kept) →
    (new ≡ record old { made = next_call old.made }) × (node_at old.tables copy ≢ None) × IsCopy (node_at old.tables copy) held
kept_there copy held old new true is (inl found) = (found.0, found.1.0, found.1.1)
kept_there copy held old new true is (inr (error, gives, looked)) = absurd (cc)
kept_there copy held old new false is found = absurd (cc)

pub nothing_there : (copy : FileName) (held : Option NodeParts) (old new : Held) (kept : Bool) → kept ≡ false → IsKeptAt copy held old new (Ok kept) →
    (new ≡ record old { made = next_call old.made }) × (node_at old.tables copy ≡ None)
nothing_there copy held old new true is found = absurd (cc)
nothing_there copy held old new false is (inl found) = found
nothing_there copy held old new false is (inr (error, gives, looked)) = absurd (cc)

-- the store doesn't tell what stands there, or another node does
pub ends_unkept : (name copy : FileName) (old new : Held) (node : Option NodeParts) (error : FolderError) → IsSome (pull_at old.tables name) → copy ≡ copy_name (own_at old.tables name) →
    ¬ (max_name_len < length copy) → node_at old.tables name ≡ node → old.made ≡ 1 → old.trace.failed ≡ None → IsKeptAt copy node old new (Err error) →
    Makes (λ t. PulledRow name (λ pull. CopyingRow name pull new.trace.failed (own_at t name) (node_at t name) t) t) old new (Err error)
ends_unkept name copy old new node error pulled named short held one untroubled found = by_end found where
  ends : (answer : Answer) → ((pull : Pull) → CopyingAt copy name pull new.trace.failed old.tables new.tables answer) →
      PulledRow name (λ pull. CopyingRow name pull new.trace.failed (own_at old.tables name) (node_at old.tables name) old.tables) old.tables new.tables answer
  ends answer row = each (pull_at old.tables name) refl pulled where
    each : (found : Option Pull) → pull_at old.tables name ≡ found → IsSome found →
        PulledRow name (λ pull. CopyingRow name pull new.trace.failed (own_at old.tables name) (node_at old.tables name) old.tables) old.tables new.tables answer
    each None is none = absurd (cc)
    each (Some pull) is some = (pull, is, subst (λ n. CopyingAt n name pull new.trace.failed old.tables new.tables answer) named (row pull))

  by_end : IsKeptAt copy node old new (Err error) →
      Makes (λ t. PulledRow name (λ pull. CopyingRow name pull new.trace.failed (own_at t name) (node_at t name) t) t) old new (Err error)
  by_end (inl found) =
      subst (λ (e : FolderError). Makes (λ t. PulledRow name (λ pull. CopyingRow name pull new.trace.failed (own_at t name) (node_at t name) t) t) old new (Err e)) (sym found.1.0)
      (ends (Refused refusals.CopyExists) (λ pull. inr (
        short,
        inr (
          (λ fails. absurd (let e : Some 2 ≡ None = sym fails ∙ ap (λ (h : Held). h.trace.failed) found.0 ∙ untroubled in cc)),
          inl ((found.1.1, subst (λ (n : Option NodeParts). ¬ IsCopy (node_at old.tables copy) n) (sym held) found.1.2), (ap (λ (h : Held). h.tables) found.0, refl)),
        ),
      )))
  by_end (inr (failed, is, looked)) =
      let same : error ≡ failed = cc in
      look_makes (λ t. PulledRow name (λ pull. CopyingRow name pull new.trace.failed (own_at t name) (node_at t name) t) t) old new error (subst (λ (e : FolderError). Looks {A = Option NodeParts} old new (Err e)) (sym same) looked)
      (λ same fails. ends (Refused refusals.StoreFault) (λ pull. inr (short, inl (subst (λ call. Fails call new.trace.failed) (ap next_call one) fails, (same, refl)))))

-- ---- the whole

-- where a copy is due, there is an own record
pub own_there : (name : FileName) (tables : Replica) → IsSome (pull_at tables name) → IfPulled name tables (λ pull. IsConflictDue (own_at tables name) pull.target) → IsSome (own_at tables name)
own_there name tables pulled due = each (pull_at tables name) refl pulled where
  with_own : (own : Option Entry) (target : Entry) → IsConflictDue own target → IsSome own
  with_own None target lost = absurd lost
  with_own (Some own) target lost = refl

  each : (found : Option Pull) → pull_at tables name ≡ found → IsSome found → IsSome (own_at tables name)
  each None is none = absurd (cc)
  each (Some pull) is some = with_own (own_at tables name) pull.target (due pull is)

-- the pull's record is still wanted
pub ends_wanted : (name : FileName) (old mid new : Held) (result : Result Moved FolderError) → mid.tables ≡ old.tables → IsSome (pull_at old.tables name) →
    IfPulled name old.tables (λ pull. IsStillWanted old.device old.tables name pull.target) →
    Makes (λ t. PulledRow name (λ pull. EndingRow name pull new.trace.failed t) t) mid new result →
    Makes (FinishRow old.device name new.trace.failed) old new result
ends_wanted name old mid new result same pulled wanted made =
    makes_from (λ t. PulledRow name (λ pull. EndingRow name pull new.trace.failed t) t) (FinishRow old.device name new.trace.failed) old mid new result same
    (λ answer row.
    let here : PulledRow name (λ pull. EndingRow name pull new.trace.failed old.tables) old.tables new.tables answer =
    subst (λ t. PulledRow name (λ pull. EndingRow name pull new.trace.failed t) t new.tables answer) same row in
    inr ((λ none. absurd (let e : None ≡ Some here.0 = sym none ∙ here.1 in cc)), (here.0, here.1, inl (wanted here.0 here.1, here.2)))) made

-- it isn't wanted any more
pub ends_dropped : (name : FileName) (old new : Held) → IsSome (pull_at old.tables name) →
    IfPulled name old.tables (λ pull. ¬ IsStillWanted old.device old.tables name pull.target) → new.tables ≡ without_pull old.tables name →
    Makes (FinishRow old.device name new.trace.failed) old new (Ok Dropped)
ends_dropped name old new pulled unwanted is = each (pull_at old.tables name) refl pulled where
  each : (found : Option Pull) → pull_at old.tables name ≡ found → IsSome found → FinishRow old.device name new.trace.failed old.tables new.tables (Done Dropped)
  each None here none = absurd (cc)
  each (Some pull) here some = inr ((λ none. absurd (let e : None ≡ Some pull = sym none ∙ here in cc)), (pull, here, inr (unwanted pull here, (is, refl))))
