-- What a device did over its link with another one, as the cluster answers it.
use Rattle.std.proofs.Common.{◌≡◌, ◌≢◌, ◌⊎◌, ℕ, get_or, option_map, Option, Some, None, Result, Err, refl, sym, ap, subst, ◌∙◌, inl, inr}
use Rattle.std.specs.List.{position}
use Rattle.std.specs.Prelude.{IsErrOf}
use Rattle.bep_model.specs.Tables.{Device}
use Rattle.bep_machine.specs.declared.moved.Moved.{Moved}
use Rattle.bep_machine.specs.declared.refusal.Refusal.TheVariants.{NotShared}
use Rattle.bep_machine.specs.Answer.{Answer, Refused as Refuses}
use Rattle.bep_machine.specs.Cluster.{Config, Cluster, link_between}
use Rattle.bep_machine.specs.Link.{Link, Sight, end_of, sight_of}
use Rattle.bep_machine.specs.Peer.{Peer}
use Rattle.bep_machine.specs.Steps.{AreLinked, IsStep, IsThere, OverLink}
use Rattle.bep_links.specs.Link.{LinkBetween}
use Rattle.bep_peer.specs.declared.error.PeerError.{PeerError}
use Rattle.bep_peer.specs.declared.error.PeerError.TheVariants.{Memory as Wanting}
use Rattle.bep_peer.specs.Lent.{Joins, Lent, StepOver}
use Rattle.bep_peer.specs.Member.{Member, Remains, tables_of, untold}
use Rattle.bep_peer.specs.PeerError.{Gives as GivesThere}
use Rattle.bep_peer.specs.Unhidden.{IsUnrefused}
use Rattle.bep_core.specs.declared.why.Why.{Why}
use Rattle.bep_core.specs.declared.why.Why.TheVariants.{Refused}
use Rattle.bep_peer.specs.network.Network.{Network, IsNetwork, in_order, is_between, is_number, cluster_of, config_of, failed_at, link_of, member_at}
use Rattle.bep_core.specs.Applying.{failed_by, maker_of}
use Rattle.bep_core.specs.Counts.{AwaitsRequest, IsCounted, IsRequest, TellsFault}
use Rattle.bep_core.specs.inner.Over.{TellsOver, row_of, shares_of, step_of}
use Rattle.bep_core.specs.declared.session_steps.Over.{Over}
use Rattle.bep_core.specs.declared.session_steps.Over.TheVariants.{Begin, Deliver, Announce, Ask}
use Rattle.bep_core.specs.Unhidden.{HidesNone}
use Rattle.bep_core.specs.Why.{Gives, answer_of}
use Rattle.bep_core.proofs.AtLinks.{replaces_link}
use Rattle.bep_core.proofs.Counted.{counted_at, counted_none}
use Rattle.bep_core.proofs.Delivered.{tells_read}
use Rattle.bep_core.proofs.HidesNone.{hides_over}
use Rattle.bep_core.proofs.Lift.{ReplacesLink, network_after_link}
use Rattle.bep_core.proofs.OneDevice.{Replaces, with_member, network_after, failed_now}
use Rattle.bep_core.proofs.Over.{link_found, other_is, over, over_ends, over_keeps, with_both}
use Rattle.bep_core.proofs.SessionsKeep.{KeepsFolders, begin_keeps, deliver_keeps, announce_keeps, ask_keeps}
use Rattle.bep_core.proofs.SharedBetween.{not_linked, shares_with, both_share}
use Rattle.bep_core.proofs.Within.{StepOf, carried, replaces, whichever}

-- ---- what the steps are

-- the cluster's step is the row over the link
is_step : (what : Over) (device other : Device) (failed : Option ℕ) (old new : Cluster) (answer : Answer) →
    StepOf (IsThere old.config (step_of what device other)) (OverLink device other (row_of what failed other) old) old new answer → IsStep (step_of what device other) failed old new answer
is_step Begin device other failed old new answer made = made
is_step Deliver device other failed old new answer made = made
is_step (Announce folder) device other failed old new answer made = made
is_step (Ask folder name) device other failed old new answer made = made

linked_there : (what : Over) (device other : Device) (config : Config) → IsThere config (step_of what device other) → AreLinked config device other
linked_there Begin device other config there = there
linked_there Deliver device other config there = there
linked_there (Announce folder) device other config there = there.0
linked_there (Ask folder name) device other config there = there.0

module _ (network : Network) (rules : IsNetwork network) (device other : Device) (member : Member) (found : member_at network.members device ≡ Some member) where
  -- what the step names the device has at hand
  shared_there : (what : Over) → IsThere (config_of network) (step_of what device other) → shares_of what other (tables_of member)
  shared_there Begin there = tt
  shared_there Deliver there = tt
  shared_there (Announce folder) there = shares_with network rules device other folder member found there.0 there.1 there.2
  shared_there (Ask folder name) there = shares_with network rules device other folder member found there.0 there.1 there.2

  -- and what it has at hand is there
  there_by : (what : Over) → AreLinked (config_of network) device other → shares_of what other (tables_of member) → IsThere (config_of network) (step_of what device other)
  there_by Begin linked shares = linked
  there_by Deliver linked shares = linked
  there_by (Announce folder) linked shares = let both = both_share network rules device other folder member found shares in (linked, both.0, both.1)
  there_by (Ask folder name) linked shares = let both = both_share network rules device other folder member found shares in (linked, both.0, both.1)

row_keeps : (what : Over) (failed : Option ℕ) (one : Device) (sight : Sight) (peer : Peer) → KeepsFolders peer (row_of what failed one sight peer)
row_keeps Begin failed one = begin_keeps one
row_keeps Deliver failed one = deliver_keeps one failed
row_keeps (Announce folder) failed one = announce_keeps one folder
row_keeps (Ask folder name) failed one = ask_keeps one folder name

-- the device makes the step
makes_over : (what : Over) (device other : Device) → maker_of (step_of what device other) ≡ Some device
makes_over Begin device other = refl
makes_over Deliver device other = refl
makes_over (Announce folder) device other = refl
makes_over (Ask folder name) device other = refl

-- a step that isn't made tells of no failure
silent_over : (what : Over) (device other : Device) (old : Cluster) → TellsFault (step_of what device other) old None (Err (Refused NotShared))
silent_over Begin device other old = refl
silent_over Deliver device other old = refl
silent_over (Announce folder) device other old = refl
silent_over (Ask folder name) device other old = refl

-- ---- what they answer

module _ (what : Over) (device other : Device) where
  -- there is no link between the two
  pub none_over : (self network : Network) (failed : Option ℕ) → network ≡ self → IsNetwork network →
      (position (is_number device) self.members ≡ None) ⊎ (position (is_between (in_order device other).0 (in_order device other).1) self.links ≡ None) → IsStep (step_of what device other) failed (cluster_of self) (cluster_of self) (Refuses NotShared)
  none_over self network failed seen rules none =
      is_step what device other failed (cluster_of self) (cluster_of self) (Refuses NotShared)
      (inr (inl (λ there. not_linked self (subst IsNetwork seen rules) device other none (linked_there what device other (config_of self) there), (refl, refl))))

  -- nothing is told of the device then
  pub none_over_counts : (self new : Network) → member_at new.members device ≡ option_map untold (member_at self.members device) → ((one : Device) → one ≢ device → member_at new.members one ≡ member_at self.members one) →
      IsCounted (step_of what device other) self new (Err (Refused NotShared))
  none_over_counts self new here others =
      counted_none (step_of what device other) device (makes_over what device other) self (Err (Refused NotShared)) new here others (silent_over what device other (cluster_of self))

  module _ (self network : Network) (seen : network ≡ self) (rules : IsNetwork network) (place between : ℕ) (was after : Member) (had has : LinkBetween)
      (found : position (is_number device) self.members ≡ Some place) (joined : position (is_between (in_order device other).0 (in_order device other).1) self.links ≡ Some between)
      (value : was ≡ get_or network.members place was) (lent : had ≡ get_or network.links between had)
      (result : Result Moved PeerError) (given : GivesThere (StepOver (row_of what after.trace.failed) (shares_of what) (record { member = was; link = had })) (record { member = after; link = has }) result) (rest : Remains was after) where
    abbrev old : Lent
    old = record { member = was; link = had }

    abbrev new : Lent
    new = record { member = after; link = has }

    replaced : Replaces network.members device place was after
    replaced =
        replaces network.members device place was after (ap (λ (n : Network). position (is_number device) n.members) seen ∙ found) value rest.number rest.linked
        (whichever (StepOver (row_of what after.trace.failed) (shares_of what) old) new (over_keeps (row_of what after.trace.failed) (shares_of what) old new (row_keeps what after.trace.failed)) result given)

    relinked : ReplacesLink network.links (in_order device other).0 (in_order device other).1 between had has
    relinked =
        replaces_link network.links (in_order device other).0 (in_order device other).1 between had has
        (ap (λ (n : Network). position (is_between (in_order device other).0 (in_order device other).1) n.links) seen ∙ joined) lent
        (whichever (StepOver (row_of what after.trace.failed) (shares_of what) old) new (over_ends (row_of what after.trace.failed) (shares_of what) old new) result given)

    -- the cluster is a network still
    pub over_rules : IsNetwork (with_both network place after between has)
    over_rules =
        network_after_link (with_member network place after) (in_order device other).0 (in_order device other).1 between had has relinked
        (network_after network device place was after replaced rules)

    -- and it made the step
    pub over_made : (answer : Result Moved Why) → answer ≡ answer_of result →
        Gives (IsStep (step_of what device other) (failed_at (with_both network place after between has).members device) (cluster_of self)) (cluster_of (with_both network place after between has)) answer
    over_made answer same =
        let later = cluster_of (with_both network place after between has) in
        subst (λ (n : Network). Gives (IsStep (step_of what device other) (failed_at (with_both network place after between has).members device) (cluster_of n)) later answer) seen
        (subst (Gives (IsStep (step_of what device other) (failed_at (with_both network place after between has).members device) (cluster_of network)) later) (sym same)
        (subst (λ (failed : Option ℕ). Gives (IsStep (step_of what device other) failed (cluster_of network)) later (answer_of result)) (sym (failed_now network device place was after replaced))
        (carried (StepOver (row_of what after.trace.failed) (shares_of what) old) new (IsStep (step_of what device other) after.trace.failed (cluster_of network)) later
        (λ answer made. is_step what device other after.trace.failed (cluster_of network) later answer
        (over network rules device other place was after replaced between had has relinked (row_of what after.trace.failed) (shares_of what) (IsThere (config_of network) (step_of what device other))
        (λ there. (linked_there what device other (config_of network) there, shared_there network rules device other was replaced.found what there))
        (there_by network rules device other was replaced.found what) answer made))
        result given)))

    -- where the message that waits is a request, the cluster's is
    awaits : (one : Device) → Joins old one → IsRequest (sight_of (end_of old.member.number one) old.link.link).waiting → AwaitsRequest device other (cluster_of network)
    awaits one joins request =
        subst (λ (x : (Device × Device) × Link). IsRequest (sight_of (end_of x.0.0 x.0.1) x.1).waiting)
        (λ i. (
          (replaced.number i, other_is network rules device other place was after replaced between had has relinked one joins i),
          (sym (link_found network device other ∙ ap link_of relinked.found)) i,
        )) request

    -- what is told of the stores is the step's
    told_over : TellsOver what after.trace result → TellsFault (step_of what device other) (cluster_of network) after.trace.failed (answer_of result)
    told_over tells = cases what given tells
      where
        cases : (what : Over) → GivesThere (StepOver (row_of what after.trace.failed) (shares_of what) old) new result → TellsOver what after.trace result →
            TellsFault (step_of what device other) (cluster_of network) after.trace.failed (answer_of result)
        cases Begin given tells = tells
        cases Deliver given tells = tells_read (AwaitsRequest device other (cluster_of network)) old new awaits result given tells
        cases (Announce folder) given tells = tells
        cases (Ask folder name) given tells = tells

    -- and the device's stores alone were called
    pub over_counts : TellsOver what after.trace result → (answer : Result Moved Why) → answer ≡ answer_of result → IsCounted (step_of what device other) self (with_both network place after between has) answer
    over_counts tells answer same =
        subst (λ (n : Network). IsCounted (step_of what device other) n (with_both network place after between has) answer) seen
        (counted_at (step_of what device other) device (makes_over what device other) network answer place was after replaced (with_both network place after between has).links rest
        (subst (TellsFault (step_of what device other) (cluster_of network) after.trace.failed) (sym same) (told_over tells)))

    -- where it wanted memory, nothing refused it
    pub over_hides : (IsErrOf result Wanting → IsUnrefused (row_of what after.trace.failed) (shares_of what) (record { member = was; link = had })) → (answer : Result Moved Why) → answer ≡ answer_of result →
        HidesNone (step_of what device other) (failed_at (with_both network place after between has).members device) (cluster_of self) answer
    over_hides un answer same =
        hides_over what device other self network seen rules place was after replaced between had has relinked (StepOver (row_of what after.trace.failed) (shares_of what) old) new result answer given same
        (there_by network rules device other was replaced.found what) un
