-- A step that tests first and wants memory is one that nothing refuses.
use Rattle.std.proofs.Common.{◌≡◌, ℕ, Option, Some, Result, Ok, Err, Contains, option_map, refl, sym, ap, subst, ◌∙◌, inl, inr}
use Rattle.std.specs.Prelude.{IsErrOf}
use Rattle.std.specs.FinMap.{get}
use Rattle.std.proofs.lemmas.Option.{same_Some}
use Rattle.bep_model.specs.Tables.{Device, Folder}
use Rattle.bep_machine.specs.declared.moved.Moved.{Moved}
use Rattle.bep_machine.specs.Answer.{Answer, Refused as Refuses, Row}
use Rattle.bep_machine.specs.Cluster.{Cluster, link_between}
use Rattle.bep_machine.specs.Link.{Link, Sight, end_of, sight_of}
use Rattle.bep_machine.specs.Peer.{Acted, Peer}
use Rattle.bep_machine.specs.Replica.{Replica}
use Rattle.bep_machine.specs.Steps.{AreLinked, AtReplica, IsStep, IsThere, OverLink, SharesFolder}
use Rattle.bep_folder.specs.Held.{Held}
use Rattle.bep_folder.specs.Unhidden.{RefusesNone}
use Rattle.bep_links.specs.Link.{LinkBetween}
use Rattle.bep_peer.specs.declared.error.PeerError.{PeerError}
use Rattle.bep_peer.specs.declared.error.PeerError.TheVariants as peer
use Rattle.bep_peer.specs.Lent.{Lent}
use Rattle.bep_peer.specs.Member.{Member, tables_of}
use Rattle.bep_peer.specs.PeerError.{Gives as GivesThere}
use Rattle.bep_peer.specs.Unhidden.{IsUnrefused, IsUnrefusedWithin}
use Rattle.bep_peer.specs.network.Network.{Network, IsNetwork, cluster_of, config_of, failed_at, in_order, link_of, member_at, peer_of}
use Rattle.bep_peer.proofs.Changed.{tables_at}
use Rattle.bep_core.specs.declared.folder_steps.Within.{Within}
use Rattle.bep_core.specs.declared.folder_steps.Within.TheVariants as within
use Rattle.bep_core.specs.declared.session_steps.Over.{Over}
use Rattle.bep_core.specs.declared.session_steps.Over.TheVariants.{Begin, Deliver, Announce, Ask}
use Rattle.bep_core.specs.declared.why.Why.{Why}
use Rattle.bep_core.specs.declared.why.Why.TheVariants.{Memory}
use Rattle.bep_core.specs.inner.Over as over
use Rattle.bep_core.specs.Unhidden.{HidesNone, TestsFirst, TestsWithin}
use Rattle.bep_core.specs.Why.{answer_of}
use Rattle.bep_core.specs.inner.Within.{row_of, step_of}
use Rattle.bep_core.proofs.Lift.{ReplacesLink}
use Rattle.bep_core.proofs.OneDevice.{Replaces, with_member, failed_now}
use Rattle.bep_core.proofs.Over.{link_found, linked_there, other_is, with_both}
use Rattle.bep_core.proofs.Within.{StepOf}

-- what the device answered where the cluster wants memory
wanted : {S : Type 0} (row : Row S) (new : S) (result : Result Moved PeerError) → GivesThere row new result → answer_of result ≡ Err Memory → result ≡ Err peer.Memory
wanted row new (Ok moved) given wants = absurd (cc)
wanted row new (Err (peer.Refused refusal)) given wants = absurd (cc)
wanted row new (Err peer.Stale) given wants = absurd given
wanted row new (Err peer.Memory) given wants = refl

-- ---- within a folder

of_within : (what : Within) (device : Device) (folder : Folder) (failed : Option ℕ) (old new : Cluster) (answer : Answer) → IsStep (step_of what device folder) failed old new answer →
    StepOf (SharesFolder old.config device folder) (AtReplica device folder (row_of what device failed) old) old new answer
of_within (within.Edit name node) device folder failed old new answer made = made
of_within (within.Remove name) device folder failed old new answer made = made
of_within (within.Scan name) device folder failed old new answer made = made
of_within (within.Override name) device folder failed old new answer made = made
of_within (within.Revert name) device folder failed old new answer made = made
of_within (within.Pull name) device folder failed old new answer made = made
of_within (within.Finish name) device folder failed old new answer made = made

tests_within : (what : Within) (device : Device) (folder : Folder) → TestsFirst (step_of what device folder) → TestsWithin what
tests_within (within.Edit name node) device folder first = first
tests_within (within.Remove name) device folder first = first
tests_within (within.Scan name) device folder first = first
tests_within (within.Override name) device folder first = first
tests_within (within.Revert name) device folder first = first
tests_within (within.Pull name) device folder first = first
tests_within (within.Finish name) device folder first = first

module _ (folder : Folder) (row : Replica → Row Replica) (network : Network) (rules : IsNetwork network) (device : Device) (place : ℕ) (was after : Member)
    (r : Replaces network.members device place was after) (un : IsUnrefusedWithin folder row was) where
  has : get (tables_of was).replicas folder ≡ Some un.held.tables
  has = tables_at was.folders folder ∙ ap (option_map (λ (held : Held). held.tables)) un.there

  there : SharesFolder (config_of network) device folder
  there = (
    un.held.tables.kind,
    subst (λ (n : Device). Contains ((config_of network).sharing folder) (n, un.held.tables.kind)) r.number ((rules.joined device was r.found).folders folder un.held.tables has).kind,
  )

  unrefused_within : RefusesNone (StepOf (SharesFolder (config_of network) device folder) (AtReplica device folder row (cluster_of network)) (cluster_of network))
  unrefused_within new refusal (inl wanting) = let answer = wanting.1.1 in absurd (cc)
  unrefused_within new refusal (inr (inl absent)) = absent.0 there
  unrefused_within new refusal (inr (inr (here, (before, made, is, done, changed)))) =
      un.unrefused made refusal
      (subst (λ (b : Replica). row b made (Refuses refusal))
      (same_Some before un.held.tables (sym is ∙ ap (λ (p : Peer). get p.replicas folder) (ap peer_of r.found) ∙ has)) done)

module _ (what : Within) (device : Device) (folder : Folder) (self network : Network) (seen : network ≡ self) (rules : IsNetwork network) (place : ℕ) (was after : Member)
    (r : Replaces network.members device place was after) where
  pub hides_within : {S : Type 0} (made : Row S) (new : S) (result : Result Moved PeerError) (answer : Result Moved Why) → GivesThere made new result → answer ≡ answer_of result →
      (IsErrOf result peer.Memory → TestsWithin what → IsUnrefusedWithin folder (row_of what was.number after.trace.failed) was) →
      HidesNone (step_of what device folder) (failed_at (with_member network place after).members device) (cluster_of self) answer
  hides_within made new result answer given same un wants first =
      subst (λ (failed : Option ℕ). RefusesNone (IsStep (step_of what device folder) failed (cluster_of self))) (sym (failed_now network device place was after r))
      (subst (λ (n : Network). RefusesNone (IsStep (step_of what device folder) after.trace.failed (cluster_of n))) seen
      (λ later refusal step.
      unrefused_within folder (row_of what device after.trace.failed) network rules device place was after r
      (subst (λ (number : Device). IsUnrefusedWithin folder (row_of what number after.trace.failed) was) r.number
      (un (wanted made new result given (sym same ∙ wants)) (tests_within what device folder first)))
      later refusal (of_within what device folder after.trace.failed (cluster_of network) later (Refuses refusal) step)))

-- ---- over a link

of_over : (what : Over) (device other : Device) (failed : Option ℕ) (old new : Cluster) (answer : Answer) → IsStep (over.step_of what device other) failed old new answer →
    StepOf (IsThere old.config (over.step_of what device other)) (OverLink device other (over.row_of what failed other) old) old new answer
of_over Begin device other failed old new answer made = made
of_over Deliver device other failed old new answer made = made
of_over (Announce folder) device other failed old new answer made = made
of_over (Ask folder name) device other failed old new answer made = made

module _ (network : Network) (rules : IsNetwork network) (device other : Device)
    (place : ℕ) (was after : Member) (r : Replaces network.members device place was after)
    (between : ℕ) (had has : LinkBetween) (l : ReplacesLink network.links (in_order device other).0 (in_order device other).1 between had has) where
  abbrev lent : Lent
  lent = record { member = was; link = had }

  unrefused_over : (row : Device → Sight → Peer → Row Acted) (shares : Device → Peer → Type 0) (There : Type 0) → (AreLinked (config_of network) device other → shares other (tables_of was) → There) →
      IsUnrefused row shares lent → RefusesNone (StepOf There (OverLink device other (row other) (cluster_of network)) (cluster_of network))
  unrefused_over row shares There from_hand un new refusal (inl wanting) = let answer = wanting.1.1 in absurd (cc)
  unrefused_over row shares There from_hand un new refusal (inr (inl absent)) =
      let same = other_is network rules device other place was after r between had has l un.other un.joins in
      absent.0 (from_hand (linked_there network rules device other place was after r between had has l un.other un.joins) (subst (λ (one : Device). shares one (tables_of was)) same un.at_hand))
  unrefused_over row shares There from_hand un new refusal (inr (inr (here, (acted, made, changed)))) =
      let same = sym (other_is network rules device other place was after r between had has l un.other un.joins) in
      let link : link_between (cluster_of network) device other ≡ had.link = link_found network device other ∙ ap link_of l.found in
      let tables : peer_of (member_at network.members device) ≡ tables_of was = ap peer_of r.found in
      let number = sym r.number in
      un.unrefused acted refusal
      (subst (λ (x : (Device × Device) × (Link × Peer)). row x.0.0 (sight_of (end_of x.0.1 x.0.0) x.1.0) x.1.1 acted (Refuses refusal))
      (λ i. ((same i, number i), (link i, tables i))) made)

module _ (what : Over) (device other : Device) (self network : Network) (seen : network ≡ self) (rules : IsNetwork network)
    (place : ℕ) (was after : Member) (r : Replaces network.members device place was after)
    (between : ℕ) (had has : LinkBetween) (l : ReplacesLink network.links (in_order device other).0 (in_order device other).1 between had has) where
  pub hides_over : {S : Type 0} (made : Row S) (new : S) (result : Result Moved PeerError) (answer : Result Moved Why) → GivesThere made new result → answer ≡ answer_of result →
      (AreLinked (config_of network) device other → over.shares_of what other (tables_of was) → IsThere (config_of network) (over.step_of what device other)) →
      (IsErrOf result peer.Memory → IsUnrefused (over.row_of what after.trace.failed) (over.shares_of what) (record { member = was; link = had })) →
      HidesNone (over.step_of what device other) (failed_at (with_both network place after between has).members device) (cluster_of self) answer
  hides_over made new result answer given same there un wants first =
      subst (λ (failed : Option ℕ). RefusesNone (IsStep (over.step_of what device other) failed (cluster_of self))) (sym (failed_now network device place was after r))
      (subst (λ (n : Network). RefusesNone (IsStep (over.step_of what device other) after.trace.failed (cluster_of n))) seen
      (λ later refusal step.
      unrefused_over network rules device other place was after r between had has l (over.row_of what after.trace.failed) (over.shares_of what) (IsThere (config_of network) (over.step_of what device other)) there
      (un (wanted made new result given (sym same ∙ wants)))
      later refusal (of_over what device other after.trace.failed (cluster_of network) later (Refuses refusal) step)))
