-- The event that tells of an action in a folder makes of the device what the action did.
use Rattle.std.proofs.Common.{◌≡◌, ◌≢◌, ◌⊎◌, ℕ, Bool, true, false, List, Some, None, Result, Ok, Err, IsErr, if◌then◌else◌, inl, inr, refl, sym, ap, subst, ◌∙◌, ⊎_elim}
use Rattle.bep_model.specs.Tables.{Folder}
use Rattle.bep_machine.specs.declared.logged.Logged.{Logged}
use Rattle.bep_machine.specs.declared.moved.Moved.{Moved}
use Rattle.bep_machine.specs.Answer.{Answer, Done}
use Rattle.bep_machine.specs.Halves.{PeerStep, kept_told, logged_of}
use Rattle.bep_machine.specs.Peer.{Peer, with_replica}
use Rattle.bep_peer.specs.declared.error.PeerError.{PeerError}
use Rattle.bep_peer.specs.Member.{Member, Remains, tables_of, untold}
use Rattle.bep_peer.specs.Within.{AtFolder}
use Rattle.bep_log.specs.declared.local.Local.{Local}
use Rattle.bep_log.specs.declared.local.Local.TheVariants.{Edit, Remove, Scan, Commit, Pull, Finish, Override, Revert}
use Rattle.bep_fit.specs.declared.stamped.Stamped.{Stamped}
use Rattle.bep_log.specs.Acts.{MayGain}
use Rattle.bep_log.specs.Event.{event_of, event_told}
use Rattle.bep_log.specs.History.{with_events}
use Rattle.bep_log.specs.inner.Local.{KeepsUncopied, copies, does_of, row_of, step_of}
use Rattle.bep_log.specs.LoggedPeer.{IsReplayed}
use Rattle.bep_log.proofs.LocalFacts.{AreTold, Fails, Leaves, Makes, done_of, fails_of, local_is_told, local_touches, never_keeps}
use Rattle.bep_log.proofs.LogFacts.{goes_on_replayed, stays_replayed}
use Rattle.bep_log.proofs.WithinFacts.{at_folder, changed_or_not, done_at_folder, gained_changes, same_again}

module _ (told : AreTold) (folder : Folder) (old left : Member) where
  -- what the action is, as an event
  abbrev event : Local → Bool → Logged
  event action kept = event_of (step_of action old.number folder) left.trace.failed kept None

  -- what was done is told by its event
  done_is_told : (action : Local) (moved : Moved) → does_of action old.number folder old left (Ok moved) → PeerStep old.number (event action false) (tables_of old) (tables_of left)
  done_is_told action moved made =
      let at = done_at_folder folder (row_of action old.number left.trace.failed) old left moved (done_of action folder old left moved made) in
      subst (λ (p : Peer). PeerStep old.number (event action false) (tables_of old) p) (sym at.4)
      (local_is_told told action old.number folder left.trace.failed (tables_of old) at.0 at.1 (Done moved) at.2 at.3 (inl tt))

  -- an action that can't keep a copy, and isn't done, changes nothing
  undone_leaves : (action : Local) → copies action ≡ None → Fails action folder old left → tables_of left ≡ tables_of old
  undone_leaves action none (Leaves same) = same
  undone_leaves action none (Makes answer kept made) =
      ⊎_elim
      (λ same. same)
      (λ at.
      ⊎_elim
      (λ same. same)
      (λ changed.
      absurd (never_keeps action none old.number folder left.trace.failed answer kept (tables_of old) (with_replica (tables_of old) folder at.1)
      (local_is_told told action old.number folder left.trace.failed (tables_of old) at.0 at.1 answer at.2 at.3 (inr changed))))
      (changed_or_not (tables_of old) (tables_of left) folder at.0 at.1 at.2 at.4))
      (at_folder folder (row_of action old.number left.trace.failed) old left answer made)

  -- an error without a copy
  pub kept_of : (action : Local) (answer : Result Moved PeerError) → does_of action old.number folder old left answer → KeepsUncopied action old left answer →
      IsErr answer → left.trace.copied ≡ false → tables_of left ≡ tables_of old
  kept_of (Edit name node) (Err error) made kept err uncopied = undone_leaves (Edit name node) refl (fails_of (Edit name node) folder old left error made)
  kept_of (Remove name) (Err error) made kept err uncopied = undone_leaves (Remove name) refl (fails_of (Remove name) folder old left error made)
  kept_of (Scan name) (Err error) made kept err uncopied = undone_leaves (Scan name) refl (fails_of (Scan name) folder old left error made)
  kept_of (Commit scan) (Err error) made kept err uncopied = undone_leaves (Commit scan) refl (fails_of (Commit scan) folder old left error made)
  kept_of (Pull name) (Err error) made kept err uncopied = undone_leaves (Pull name) refl (fails_of (Pull name) folder old left error made)
  kept_of (Finish name) (Err error) made kept err uncopied = kept err uncopied
  kept_of (Override name) (Err error) made kept err uncopied = undone_leaves (Override name) refl (fails_of (Override name) folder old left error made)
  kept_of (Revert name) (Err error) made kept err uncopied = undone_leaves (Revert name) refl (fails_of (Revert name) folder old left error made)
  kept_of action (Ok moved) made kept err uncopied = absurd (cc)

  -- the end of a pull that kept a copy and then failed is told by its event
  kept_is_told : (action : Local) → tables_of left ≢ tables_of old → Fails action folder old left → PeerStep old.number (event action true) (tables_of old) (tables_of left)
  kept_is_told action changed (Leaves same) = absurd (changed same)
  kept_is_told action changed (Makes answer kept made) = told_at action changed answer kept (at_folder folder (row_of action old.number left.trace.failed) old left answer made)
    where
      as_kept : (action : Local) (answer : Answer) → kept_told answer ≡ true → logged_of (record { step = step_of action old.number folder; failed = left.trace.failed; answer = answer }) None ≡ event action true
      as_kept action answer kept = ap (event action) kept

      told_at : (action : Local) → tables_of left ≢ tables_of old → (answer : Answer) → kept_told answer ≡ true → (tables_of left ≡ tables_of old) ⊎ AtFolder folder (row_of action old.number left.trace.failed) (tables_of old) (tables_of left) answer → PeerStep old.number (event action true) (tables_of old) (tables_of left)
      told_at action changed answer kept (inl same) = absurd (changed same)
      told_at action changed answer kept (inr at) =
          subst (λ (p : Peer). PeerStep old.number (event action true) (tables_of old) p) (sym at.4)
          (subst (λ (e : Logged). PeerStep old.number e (tables_of old) (with_replica (tables_of old) folder at.1)) (as_kept action answer kept)
          (local_is_told told action old.number folder left.trace.failed (tables_of old) at.0 at.1 answer at.2 at.3
          (inr (λ same. changed (at.4 ∙ ap (with_replica (tables_of old) folder) same ∙ same_again (tables_of old) folder at.0 at.2)))))

  -- only the end of a pull keeps a copy
  copy_changes : (action : Local) → MayGain (copies action) folder old left → left.trace.copied ≡ true → tables_of left ≢ tables_of old
  copy_changes (Edit name node) never copied = let e = sym never ∙ copied in absurd (cc)
  copy_changes (Remove name) never copied = let e = sym never ∙ copied in absurd (cc)
  copy_changes (Scan name) never copied = let e = sym never ∙ copied in absurd (cc)
  copy_changes (Commit scan) never copied = let e = sym never ∙ copied in absurd (cc)
  copy_changes (Pull name) never copied = let e = sym never ∙ copied in absurd (cc)
  copy_changes (Finish name) gains copied = gained_changes folder name.now old left (gains.0 copied)
  copy_changes (Override name) never copied = let e = sym never ∙ copied in absurd (cc)
  copy_changes (Revert name) never copied = let e = sym never ∙ copied in absurd (cc)

  -- whatever was answered, the log replays to what the device is
  pub acts_replayed : (action : Local) (answer : Result Moved PeerError) (base : Member) (log : List Stamped) (ticket : ℕ) → IsReplayed old base log → Remains old left →
      does_of action old.number folder old left answer → MayGain (copies action) folder old left → KeepsUncopied action old left answer →
      IsReplayed (untold left) base (with_events log ticket (event_told (step_of action old.number folder) answer left.trace))
  acts_replayed action (Ok moved) base log ticket was rest made copied kept =
      goes_on_replayed base old (untold left) log ticket (event action false) was rest.number rest.linked (local_touches action old.number folder) (done_is_told action moved made)
  acts_replayed action (Err error) base log ticket was rest made copied kept = at left.trace.copied refl
    where
      at : (b : Bool) → left.trace.copied ≡ b → IsReplayed (untold left) base (with_events log ticket (if b then Some (event action true) else None))
      at true copies_it = goes_on_replayed base old (untold left) log ticket (event action true) was rest.number rest.linked (local_touches action old.number folder) (kept_is_told action (copy_changes action copied copies_it) (fails_of action folder old left error made))
      at false uncopied = stays_replayed base old (untold left) log was rest.number rest.linked (kept_of action (Err error) made kept refl uncopied)
