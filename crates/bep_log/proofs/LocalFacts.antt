-- Each action in a folder is told by its event; and which of them may keep a copy.
use Rattle.std.proofs.Common.{◌≡◌, ◌==◌, ℕ, Bool, true, false, Option, None, Ok, Err, refl, sym, ◌∙◌, eq-eqb}
use Rattle.bep_model.specs.Tables.{Device, Folder}
use Rattle.bep_machine.specs.declared.moved.Moved.{Moved}
use Rattle.bep_machine.specs.declared.refusal.Refusal.TheVariants.{StoreFault}
use Rattle.bep_machine.specs.Answer.{Answer, Done, OutOfMemory, Refused as Refuses}
use Rattle.bep_machine.specs.HalfLaws.{EditIsTold, FinishIsTold, IsToldInFolder, OverrideIsTold, RemoveIsTold, RevertIsTold, ScanIsTold, StartPullIsTold}
use Rattle.bep_machine.specs.Halves.{OnlyIf, PeerStep, guards_of, kept_told, logged_of, touches_device}
use Rattle.bep_machine.specs.Peer.{Peer}
use Rattle.bep_peer.specs.declared.error.PeerError.{PeerError}
use Rattle.bep_peer.specs.declared.error.PeerError.TheVariants.{Refused, Stale, Memory}
use Rattle.bep_peer.specs.Member.{Member, tables_of}
use Rattle.bep_peer.specs.Within.{StepWithin}
use Rattle.bep_log.specs.declared.local.Local.{Local}
use Rattle.bep_log.specs.declared.local.Local.TheVariants.{Edit, Remove, Scan, Commit, Pull, Finish, Override, Revert}
use Rattle.bep_log.specs.inner.Local.{copies, does_of, row_of, step_of}

-- what is logged of the actions in a folder makes what they did
pub record AreTold : Type 0 where
  pub edit : EditIsTold
  pub remove : RemoveIsTold
  pub scan : ScanIsTold
  pub override_one : OverrideIsTold
  pub revert : RevertIsTold
  pub start_pull : StartPullIsTold
  pub finish : FinishIsTold

pub local_is_told : AreTold → (action : Local) (device : Device) (folder : Folder) (failed : Option ℕ) → IsToldInFolder device folder (step_of action device folder) failed (row_of action device failed)
local_is_told told (Edit name node) device folder failed = told.edit device folder name.now node.now failed
local_is_told told (Remove name) device folder failed = told.remove device folder name.now failed
local_is_told told (Scan name) device folder failed = told.scan device folder name.now failed
local_is_told told (Commit scan) device folder failed = told.scan device folder scan.name failed
local_is_told told (Pull name) device folder failed = told.start_pull device folder name.now failed
local_is_told told (Finish name) device folder failed = told.finish device folder name.now failed
local_is_told told (Override name) device folder failed = told.override_one device folder name.now failed
local_is_told told (Revert name) device folder failed = told.revert device folder name.now failed

-- its step touches the device
pub local_touches : (action : Local) (device : Device) (folder : Folder) → touches_device (guards_of (step_of action device folder)) device ≡ true
local_touches (Edit name node) device folder = eq-eqb device device refl
local_touches (Remove name) device folder = eq-eqb device device refl
local_touches (Scan name) device folder = eq-eqb device device refl
local_touches (Commit scan) device folder = eq-eqb device device refl
local_touches (Pull name) device folder = eq-eqb device device refl
local_touches (Finish name) device folder = eq-eqb device device refl
local_touches (Override name) device folder = eq-eqb device device refl
local_touches (Revert name) device folder = eq-eqb device device refl

-- what was answered was answered by the folder's row, save that a scan's result was old
abbrev pub MadeRow : Local → Device → Folder → Member → Member → Answer → Type 0
MadeRow action device folder old new answer = StepWithin folder (row_of action device new.trace.failed) old new answer

pub done_of : (action : Local) (folder : Folder) (old new : Member) (moved : Moved) → does_of action old.number folder old new (Ok moved) → MadeRow action old.number folder old new (Done moved)
done_of (Edit name node) folder old new moved made = made
done_of (Remove name) folder old new moved made = made
done_of (Scan name) folder old new moved made = made
done_of (Commit scan) folder old new moved made = made.1
done_of (Pull name) folder old new moved made = made
done_of (Finish name) folder old new moved made = made
done_of (Override name) folder old new moved made = made
done_of (Revert name) folder old new moved made = made

-- an answer that isn't done
pub data Fails (action : Local) (folder : Folder) (old new : Member) : Type 0 where
  Leaves : tables_of new ≡ tables_of old → Fails action folder old new
  Makes : (answer : Answer) → kept_told answer ≡ true → MadeRow action old.number folder old new answer → Fails action folder old new

pub fails_of : (action : Local) (folder : Folder) (old new : Member) (error : PeerError) → does_of action old.number folder old new (Err error) → Fails action folder old new
fails_of (Edit name node) folder old new (Refused why) made = Makes (Refuses why) refl made
fails_of (Edit name node) folder old new Stale made = absurd made
fails_of (Edit name node) folder old new Memory made = Makes OutOfMemory refl made
fails_of (Remove name) folder old new (Refused why) made = Makes (Refuses why) refl made
fails_of (Remove name) folder old new Stale made = absurd made
fails_of (Remove name) folder old new Memory made = Makes OutOfMemory refl made
fails_of (Scan name) folder old new (Refused why) made = Makes (Refuses why) refl made
fails_of (Scan name) folder old new Stale made = absurd made
fails_of (Scan name) folder old new Memory made = Makes OutOfMemory refl made
fails_of (Commit scan) folder old new (Refused StoreFault) made = Makes (Refuses StoreFault) refl made
fails_of (Commit scan) folder old new Stale made = Leaves made.1
fails_of (Commit scan) folder old new Memory made = Makes OutOfMemory refl made
fails_of (Commit scan) folder old new (Refused why) made = Makes (Refuses why) refl made.1
fails_of (Pull name) folder old new (Refused why) made = Makes (Refuses why) refl made
fails_of (Pull name) folder old new Stale made = absurd made
fails_of (Pull name) folder old new Memory made = Makes OutOfMemory refl made
fails_of (Finish name) folder old new (Refused why) made = Makes (Refuses why) refl made
fails_of (Finish name) folder old new Stale made = absurd made
fails_of (Finish name) folder old new Memory made = Makes OutOfMemory refl made
fails_of (Override name) folder old new (Refused why) made = Makes (Refuses why) refl made
fails_of (Override name) folder old new Stale made = absurd made
fails_of (Override name) folder old new Memory made = Makes OutOfMemory refl made
fails_of (Revert name) folder old new (Refused why) made = Makes (Refuses why) refl made
fails_of (Revert name) folder old new Stale made = absurd made
fails_of (Revert name) folder old new Memory made = Makes OutOfMemory refl made

-- the device that acts makes its half
pub touched : {half : Type 0} (device : Device) (old new : Peer) → OnlyIf (device == device) half old new → half
touched device old new made = at (device == device) (eq-eqb device device refl) made
  where
    at : {half : Type 0} (b : Bool) → b ≡ true → OnlyIf b half old new → half
    at true is made = made
    at false is made = absurd (cc)

-- no event tells that another action than the end of a pull kept a copy and then failed
pub never_keeps : (action : Local) → copies action ≡ None → (device : Device) (folder : Folder) (failed : Option ℕ) (answer : Answer) → kept_told answer ≡ true → (old new : Peer) →
    ¬ PeerStep device (logged_of (record { step = step_of action device folder; failed = failed; answer = answer }) None) old new
never_keeps (Edit name node) none device folder failed answer kept old new made = let never = sym kept ∙ (touched device old new made).0.1 in absurd (cc)
never_keeps (Remove name) none device folder failed answer kept old new made = let never = sym kept ∙ (touched device old new made).0.1 in absurd (cc)
never_keeps (Scan name) none device folder failed answer kept old new made = let never = sym kept ∙ (touched device old new made).0.1 in absurd (cc)
never_keeps (Commit scan) none device folder failed answer kept old new made = let never = sym kept ∙ (touched device old new made).0.1 in absurd (cc)
never_keeps (Pull name) none device folder failed answer kept old new made = let never = sym kept ∙ (touched device old new made).0.1 in absurd (cc)
never_keeps (Finish name) none device folder failed answer kept old new made = absurd (cc)
never_keeps (Override name) none device folder failed answer kept old new made = let never = sym kept ∙ (touched device old new made).0.1 in absurd (cc)
never_keeps (Revert name) none device folder failed answer kept old new made = let never = sym kept ∙ (touched device old new made).0.1 in absurd (cc)
