-- What a device did within one of its folders, as the cluster answers it.
use Rattle.std.proofs.Common.{◌≡◌, ℕ, get_or, option_map, Option, Some, None, Result, Ok, Err, refl, sym, ap, subst, ◌∙◌, rules}
use Rattle.std.specs.List.{position}
use Rattle.std.specs.Prelude.{IsErrOf}
use Rattle.bep_model.specs.Tables.{Device, Folder}
use Rattle.bep_machine.specs.declared.moved.Moved.{Moved}
use Rattle.bep_machine.specs.declared.refusal.Refusal.TheVariants.{NotShared}
use Rattle.bep_machine.specs.Answer.{Answer, Refused as Refuses, Row}
use Rattle.bep_machine.specs.Cluster.{Cluster}
use Rattle.bep_machine.specs.Replica.{Replica}
use Rattle.bep_machine.specs.Steps.{AtReplica, IsStep, SharesFolder}
use Rattle.bep_peer.specs.declared.error.PeerError.{PeerError}
use Rattle.bep_peer.specs.declared.error.PeerError.TheVariants.{Memory as Wanting}
use Rattle.bep_peer.specs.Member.{Member, Remains, untold}
use Rattle.bep_peer.specs.PeerError.{Gives as GivesThere}
use Rattle.bep_peer.specs.Unhidden.{IsUnrefusedWithin}
use Rattle.bep_peer.specs.Within.{StepWithin, TellsFault as TellsThere}
use Rattle.bep_core.specs.declared.why.Why.{Why}
use Rattle.bep_peer.specs.network.Network.{Network, IsNetwork, is_number, cluster_of, failed_at}
use Rattle.bep_core.specs.Applying.{maker_of}
use Rattle.bep_core.specs.Counts.{AnswersFault, IsCounted, TellsFault}
use Rattle.bep_core.specs.declared.why.Why.TheVariants.{Refused}
use Rattle.bep_core.specs.Unhidden.{HidesNone, TestsWithin}
use Rattle.bep_core.specs.Why.{Gives, answer_of}
use Rattle.bep_core.specs.inner.Within.{row_of, step_of}
use Rattle.bep_core.specs.declared.folder_steps.Within.{Within}
use Rattle.bep_core.specs.declared.folder_steps.Within.TheVariants.{Edit, Remove, Scan, Override, Revert, Pull, Finish}
use Rattle.bep_core.proofs.AtLinks.{none_found}
use Rattle.bep_core.proofs.Counted.{counted_at, counted_none}
use Rattle.bep_core.proofs.OneDevice.{Replaces, with_member, network_after, failed_now}
use Rattle.bep_peer.proofs.RowsKeep.{Keeps, edit_keeps, remove_keeps, scan_keeps, override_keeps, revert_keeps, start_keeps, finish_keeps}
use Rattle.bep_core.proofs.HidesNone.{hides_within}
use Rattle.bep_core.proofs.Within.{StepOf, absent, carried, replaces, whichever, within, within_keeps}

-- the cluster's step is the row at the folder's replica
is_step : (what : Within) (device : Device) (folder : Folder) (failed : Option ℕ) (old new : Cluster) (answer : Answer) →
    StepOf (SharesFolder old.config device folder) (AtReplica device folder (row_of what device failed) old) old new answer → IsStep (step_of what device folder) failed old new answer
is_step (Edit name node) device folder failed old new answer made = made
is_step (Remove name) device folder failed old new answer made = made
is_step (Scan name) device folder failed old new answer made = made
is_step (Override name) device folder failed old new answer made = made
is_step (Revert name) device folder failed old new answer made = made
is_step (Pull name) device folder failed old new answer made = made
is_step (Finish name) device folder failed old new answer made = made

row_keeps : (what : Within) (number : Device) (failed : Option ℕ) (replica : Replica) → Keeps replica (row_of what number failed replica)
row_keeps (Edit name node) number failed replica = edit_keeps name node failed replica
row_keeps (Remove name) number failed replica = remove_keeps name failed replica
row_keeps (Scan name) number failed replica = scan_keeps number name failed replica
row_keeps (Override name) number failed replica = override_keeps number name replica
row_keeps (Revert name) number failed replica = revert_keeps number name failed replica
row_keeps (Pull name) number failed replica = start_keeps number name replica
row_keeps (Finish name) number failed replica = finish_keeps number name failed replica

-- the device makes the step
makes_within : (what : Within) (device : Device) (folder : Folder) → maker_of (step_of what device folder) ≡ Some device
makes_within (Edit name node) device folder = refl
makes_within (Remove name) device folder = refl
makes_within (Scan name) device folder = refl
makes_within (Override name) device folder = refl
makes_within (Revert name) device folder = refl
makes_within (Pull name) device folder = refl
makes_within (Finish name) device folder = refl

-- and answers where its store fails
told_within : (what : Within) (device : Device) (folder : Folder) (old : Cluster) (failed : Option ℕ) (result : Result Moved Why) → AnswersFault failed result → TellsFault (step_of what device folder) old failed result
told_within (Edit name node) device folder old failed result tells = tells
told_within (Remove name) device folder old failed result tells = tells
told_within (Scan name) device folder old failed result tells = tells
told_within (Override name) device folder old failed result tells = tells
told_within (Revert name) device folder old failed result tells = tells
told_within (Pull name) device folder old failed result tells = tells
told_within (Finish name) device folder old failed result tells = tells

answers_fault : (member : Member) (result : Result Moved PeerError) → TellsThere member result → AnswersFault member.trace.failed (answer_of result)
answers_fault member result tells = search rules

-- what the device does in the folder
module _ (device : Device) (folder : Folder) (what : Within) where
  abbrev step : Option ℕ → Cluster → Row Cluster
  step = IsStep (step_of what device folder)

  abbrev row : Device → Option ℕ → Replica → Row Replica
  row = row_of what

  -- the device isn't there
  pub none_within : (self network : Network) (failed : Option ℕ) → network ≡ self → IsNetwork network → position (is_number device) self.members ≡ None → step failed (cluster_of self) (cluster_of self) (Refuses NotShared)
  none_within self network failed seen rules none =
      is_step what device folder failed (cluster_of self) (cluster_of self) (Refuses NotShared)
      (absent self device folder (AtReplica device folder (row device failed) (cluster_of self)) (subst IsNetwork seen rules) (none_found (is_number device) self.members none))

  pub none_counts : (self : Network) → position (is_number device) self.members ≡ None → IsCounted (step_of what device folder) self self (Err (Refused NotShared))
  none_counts self none =
      let absent = none_found (is_number device) self.members none in
      counted_none (step_of what device folder) device (makes_within what device folder) self (Err (Refused NotShared)) self (absent ∙ sym (ap (option_map untold) absent)) (λ other apart. refl)
      (told_within what device folder (cluster_of self) None (Err (Refused NotShared)) refl)

  module _ (self network : Network) (seen : network ≡ self) (rules : IsNetwork network) (place : ℕ) (was after : Member)
      (found : position (is_number device) self.members ≡ Some place) (value : was ≡ get_or network.members place was)
      (result : Result Moved PeerError) (given : GivesThere (StepWithin folder (row was.number after.trace.failed) was) after result) (numbered : after.number ≡ was.number) (linked : after.linked ≡ was.linked) where
    replaced : Replaces network.members device place was after
    replaced =
        replaces network.members device place was after (ap (λ (n : Network). position (is_number device) n.members) seen ∙ found) value numbered linked
        (whichever (StepWithin folder (row was.number after.trace.failed) was) after (within_keeps folder (row was.number after.trace.failed) (row_keeps what was.number after.trace.failed) was after) result given)

    -- the cluster is a network still
    pub within_rules : IsNetwork (with_member network place after)
    within_rules = network_after network device place was after replaced rules

    -- and it made the step
    pub within_made : (answer : Result Moved Why) → answer ≡ answer_of result → Gives (step (failed_at (with_member network place after).members device) (cluster_of self)) (cluster_of (with_member network place after)) answer
    within_made answer same =
        subst (λ (n : Network). Gives (step (failed_at (with_member network place after).members device) (cluster_of n)) (cluster_of (with_member network place after)) answer) seen
        (subst (Gives (step (failed_at (with_member network place after).members device) (cluster_of network)) (cluster_of (with_member network place after))) (sym same)
        (subst (λ (failed : Option ℕ). Gives (step failed (cluster_of network)) (cluster_of (with_member network place after)) (answer_of result)) (sym (failed_now network device place was after replaced))
        (carried (StepWithin folder (row device after.trace.failed) was) after (step after.trace.failed (cluster_of network)) (cluster_of (with_member network place after))
        (λ answer made. is_step what device folder after.trace.failed (cluster_of network) (cluster_of (with_member network place after)) answer
        (within folder (row device after.trace.failed) network rules device place was after replaced answer made))
        result (subst (λ (number : Device). GivesThere (StepWithin folder (row number after.trace.failed) was) after result) replaced.number given))))

    -- and its stores alone were called
    pub within_counts : Remains was after → TellsThere after result → (answer : Result Moved Why) → answer ≡ answer_of result → IsCounted (step_of what device folder) self (with_member network place after) answer
    within_counts rest tells answer same =
        subst (λ (n : Network). IsCounted (step_of what device folder) n (with_member network place after) answer) seen
        (counted_at (step_of what device folder) device (makes_within what device folder) network answer place was after replaced network.links rest
        (told_within what device folder (cluster_of network) after.trace.failed answer (subst (AnswersFault after.trace.failed) (sym same) (answers_fault after result tells))))

    -- where it wanted memory, and tests first, nothing refused it
    pub within_hides : (IsErrOf result Wanting → TestsWithin what → IsUnrefusedWithin folder (row was.number after.trace.failed) was) → (answer : Result Moved Why) → answer ≡ answer_of result →
        HidesNone (step_of what device folder) (failed_at (with_member network place after).members device) (cluster_of self) answer
    within_hides un answer same =
        hides_within what device folder self network seen rules place was after replaced (StepWithin folder (row was.number after.trace.failed) was) after result answer given same un
