-- What holds of each cluster that the run which brings a name goes through: it is sound, no view has a gap, and what prevailed
-- does still.
use Rattle.std.proofs.Common.{◌≡◌, ◌≢◌, ◌∙◌, ◌==◌, ◌||◌, ℕ, Bool, true, false, List, [], ◌∷◌, ◌++◌, Option, Some, None, IsSome, Contains, refl, sym, ap, subst, inr, ⊎_elim}
use Rattle.std.specs.List.{list_any}
use Rattle.std.specs.FinMap.{get}
use Rattle.std.proofs.lemmas.Bool.{eq-eqb, eqb-true}
use Rattle.bep_facts.specs.Members.{not_in_none, Contains-first, Contains-more, Contains-cons_cases}
use Rattle.bep_record.specs.declared.entry.Entry.{Entry}
use Rattle.bep_model.specs.Tables.{Device, Folder, FileName}
use Rattle.bep_machine.specs.declared.moved.Moved.TheVariants.{Changed}
use Rattle.bep_machine.specs.declared.message.Announced.{Announced}
use Rattle.bep_machine.specs.declared.message.Message.{Message}
use Rattle.bep_machine.specs.declared.step.Step.{Step}
use Rattle.bep_machine.specs.Answer.{Done}
use Rattle.bep_machine.specs.Replica.{Replica}
use Rattle.bep_machine.specs.Link.{Sight}
use Rattle.bep_machine.specs.Peer.{Peer, Acted}
use Rattle.bep_machine.specs.Answer.{Row}
use Rattle.bep_machine.specs.Exchange.{SharesWith, NamesShared}
use Rattle.bep_machine.specs.Cluster.{Config, Cluster}
use Rattle.bep_machine.specs.Steps.{SharesFolder, AreLinked, IsThere, StepRow, IsStep, IsRun, OverLink}
use Rattle.bep_machine.specs.Said.{at_device, looked_up, tables_of_cluster}
use Rattle.bep_machine.specs.Sound.{IsSound, IsSoundPeer, FitsFolder}
use Rattle.bep_machine.specs.Gapless.{IsGapless}
use Rattle.bep_machine.specs.Laws.{StepsKeepSound, RunsAreGapless}
use Rattle.bep_converge.specs.Prevails.{AllPrevail, Prevails}
use Rattle.bep_converge.specs.Received.{AllHaveHashes}
use Rattle.bep_converge.specs.Rises.{GoesOnPrevailing}
use Rattle.bep_converge.specs.Laws.{StepsKeepHashes, PrevailingGoesOn}
use Rattle.bep_converge.specs.Bring.{done, IsJoinedUp, IsReached}
use Rattle.bep_converge.proofs.ReplicaAlone.{said_here}
use Rattle.bep_converge.proofs.BringSteps.{runs_on, sound_on, IsCalm, are_quiet, are_sound, have_no_reset}
use Rattle.bep_converge.proofs.BringLinks.{IsUp, sight_with, sees, after_act, HasActed, acts}

-- what is cited of each step
pub record StepLaws : Type 0 where
  pub keep_sound : StepsKeepSound
  pub keep_hashes : StepsKeepHashes
  pub gapless : RunsAreGapless
  pub goes_on : PrevailingGoesOn

pub record Stage (device owner : Device) (folder : Folder) (name : FileName) (top : Entry) (c : Cluster) : Type 0 where
  pub sound : IsSound c
  pub hashes : AllHaveHashes c
  pub reached : IsReached c
  pub all : AllPrevail (tables_of_cluster c)
  pub joined : IsJoinedUp c.config
  pub prevails : Prevails (tables_of_cluster c) folder name top
  pub near_shares : SharesFolder c.config device folder
  pub far_shares : SharesFolder c.config owner folder

-- where all that a step names is there, it makes its row
pub step_made : (step : Step) (c next : Cluster) → IsThere c.config step → StepRow step None c next (Done Changed) → IsStep step None c next (Done Changed)
step_made step c next there row = inr (inr ((λ no. no there), row))

-- what the device does at the sight of a link that is up is done
over_made : (c : Cluster) (device other : Device) (epoch : ℕ) (here there : _) (row : Sight → Peer → Row Acted) (acted : Acted) →
    IsUp c device other epoch here there → row (sight_with epoch here there) (c.peer device) acted (Done Changed) →
    OverLink device other row c (after_act c device other acted) (Done Changed)
over_made c device other epoch here there row acted link made =
    (acted, subst (λ (s : Sight). row s (c.peer device) acted (Done Changed)) (sym (sees c device other epoch here there link)) made, refl)

-- the two are linked
pub near_linked : (device owner : Device) (folder : Folder) (name : FileName) (top : Entry) (c : Cluster) → device ≢ owner → Stage device owner folder name top c → AreLinked c.config device owner
near_linked device owner folder name top c apart stage = stage.joined.linked device owner folder apart stage.near_shares stage.far_shares

pub far_linked : (device owner : Device) (folder : Folder) (name : FileName) (top : Entry) (c : Cluster) → device ≢ owner → Stage device owner folder name top c → AreLinked c.config owner device
far_linked device owner folder name top c apart stage = stage.joined.linked owner device folder (λ same. apart (sym same)) stage.far_shares stage.near_shares

-- the device acted over its link with the other one, and that was a step of the run
pub record HasDone (device owner : Device) (folder : Folder) (name : FileName) (top : Entry) (c next : Cluster) (step : Step) (one other : Device) (acted : Acted) (epoch : ℕ) (here there : List Message) : Type 0 where
  pub made : IsStep step None c next (Done Changed)
  pub stage : Stage device owner folder name top next
  pub has : HasActed c next one other acted epoch here there

module _ (laws : StepLaws) (device owner : Device) (folder : Folder) (name : FileName) (top : Entry) where
  -- after each step of the run it holds again
  pub stage_on : (c next : Cluster) (step : Step) → Stage device owner folder name top c → IsCalm step → IsStep step None c next (Done Changed) → next.config ≡ c.config → Stage device owner folder name top next
  stage_on c next step stage calm made same =
      let run : IsRun c (done step ∷ []) next = (next, made, refl) in
      let on : GoesOnPrevailing (tables_of_cluster c) (tables_of_cluster next) =
      laws.goes_on (tables_of_cluster c) stage.all c next (done step ∷ []) stage.sound stage.hashes refl run (are_quiet (step ∷ []) (calm, tt)) (have_no_reset (step ∷ []) (calm, tt)) in
      record {
        sound = laws.keep_sound step None c next (Done Changed) calm.sound stage.sound made;
        hashes = laws.keep_hashes step None c next (Done Changed) stage.hashes made;
        reached = record {
          first = stage.reached.first;
          events = stage.reached.events ++ done step ∷ [];
          sound = stage.reached.sound;
          apart = stage.reached.apart;
          made = sound_on stage.reached.events (done step ∷ []) stage.reached.made (are_sound (step ∷ []) (calm, tt));
          run = runs_on stage.reached.first c next stage.reached.events (done step ∷ []) stage.reached.run run;
        };
        all = on.all;
        joined = subst IsJoinedUp (sym same) stage.joined;
        prevails = on.same folder name top stage.prevails;
        near_shares = subst (λ (config : Config). SharesFolder config device folder) (sym same) stage.near_shares;
        far_shares = subst (λ (config : Config). SharesFolder config owner folder) (sym same) stage.far_shares;
      }

  -- and so it does once the device acted over a link that is up
  pub does : (c : Cluster) → Stage device owner folder name top c → (step : Step) → IsCalm step → IsThere c.config step → (one other : Device) (row : Sight → Peer → Row Acted) →
      ((next : Cluster) → OverLink one other row c next (Done Changed) → StepRow step None c next (Done Changed)) →
      (epoch : ℕ) (here there : List Message) → IsUp c one other epoch here there → (acted : Acted) → acted.deed.loses ≡ false →
      (peer : Peer) → c.peer one ≡ peer → row (sight_with epoch here there) peer acted (Done Changed) →
      HasDone device owner folder name top c (after_act c one other acted) step one other acted epoch here there
  does c stage step calm is_there one other row makes epoch here there link acted keeps peer is made =
      let has : HasActed c (after_act c one other acted) one other acted epoch here there = acts c one other acted epoch here there link keeps in
      let done : IsStep step None c (after_act c one other acted) (Done Changed) =
      step_made step c (after_act c one other acted) is_there (makes (after_act c one other acted)
      (over_made c one other epoch here there row acted link (subst (λ (p : Peer). row (sight_with epoch here there) p acted (Done Changed)) (sym is) made))) in
      record { made = done; stage = stage_on c (after_act c one other acted) step stage calm done has.config; has = has }

  pub no_gap : (c : Cluster) → Stage device owner folder name top c → IsGapless c
  no_gap c stage = (laws.gapless stage.reached.first c stage.reached.events stage.reached.sound stage.reached.apart stage.reached.made stage.reached.run).0

-- ---- what the tables say

pub any_from_member : {X : Type 0} (test : X → Bool) (xs : List X) (x : X) → Contains xs x → test x ≡ true → list_any test xs ≡ true
any_from_member test [] x member passes = absurd (not_in_none x member)
any_from_member test (first ∷ xs) x member passes =
    ⊎_elim
    (λ same. ap (λ (b : Bool). b || list_any test xs) (ap test same ∙ passes))
    (λ more. later (test first) (any_from_member test xs x more passes))
    (Contains-cons_cases first xs x member)
  where
    later : (b : Bool) → list_any test xs ≡ true → (b || list_any test xs) ≡ true
    later true e = refl
    later false e = e

pub member_from_any : {X : Type 0} (test : X → Bool) (xs : List X) → list_any test xs ≡ true → (x : X) × Contains xs x × (test x ≡ true)
member_from_any test [] any = absurd (cc)
member_from_any test (first ∷ xs) any = cases (test first) refl any (λ rest. member_from_any test xs rest)
  where
    cases : (b : Bool) → test first ≡ b → (b || list_any test xs) ≡ true → (list_any test xs ≡ true → (x : _) × Contains xs x × (test x ≡ true)) → (x : _) × Contains (first ∷ xs) x × (test x ≡ true)
    cases true is e more = (first, Contains-first first xs, is)
    cases false is e more = let found = more e in (found.0, Contains-more first xs found.0 found.1, found.2)

-- what a sharing device's replica says is what the tables say
pub said_of : {X : Type 0} (look : Replica → FileName → Option X) (c : Cluster) (device : Device) (folder : Folder) (replica : Replica) (name : FileName) →
    SharesFolder c.config device folder → get (c.peer device).replicas folder ≡ Some replica → at_device look c device folder name ≡ look replica name
said_of look c device folder replica name shares there = ap (looked_up look name) (said_here c device folder replica shares there)

-- ---- replicas

module _ (c : Cluster) (sound : IsSound c) (device : Device) (folder : Folder) (shares : SharesFolder c.config device folder) where
  pub sound_peer : IsSoundPeer c.config device (c.peer device)
  sound_peer = sound.peers device (sound.config.sharing folder device shares)

  pub has_replica : (replica : Replica) × (get (c.peer device).replicas folder ≡ Some replica)
  has_replica = found (get (c.peer device).replicas folder) refl ((sound.peers device (sound.config.sharing folder device shares)).all folder shares)
    where
      found : (o : Option Replica) → get (c.peer device).replicas folder ≡ o → IsSome o → (replica : Replica) × (get (c.peer device).replicas folder ≡ Some replica)
      found None is some = absurd (cc)
      found (Some replica) is some = (replica, is)

  -- and knows each other device that shares the folder
  pub knows_other : (replica : Replica) → get (c.peer device).replicas folder ≡ Some replica → (other : Device) → other ≢ device → SharesFolder c.config other folder → Contains replica.others other
  knows_other replica there other apart shares_too =
      (((sound.peers device (sound.config.sharing folder device shares)).fit folder replica there).others other).1 (apart, shares_too)

-- a folder that a device shares with another one is shared by that one with the first
pub shares_back : (c : Cluster) → IsSound c → (one other : Device) (folder : Folder) → one ≢ other → Contains c.config.devices one → SharesWith other (c.peer one) folder → SharesWith one (c.peer other) folder
shares_back c sound one other folder apart in_cluster shares =
    let fit : FitsFolder c.config one folder shares.0 = (sound.peers one in_cluster).fit folder shares.0 shares.1 in
    let found = member_from_any (λ (device : Device). device == other) shares.0.others shares.2 in
    let is : found.0 ≡ other = eqb-true found.0 other found.2 in
    let knows = (fit.others other).0 (subst (λ (device : Device). Contains shares.0.others device) is found.1) in
    let there = has_replica c sound other folder knows.1 in (
      there.0,
      there.1,
      any_from_member (λ (device : Device). device == one) there.0.others one (knows_other c sound other folder knows.1 there.0 there.1 one apart (shares.0.kind, fit.kind)) (eq-eqb one one refl),
    )

-- so it is of each folder that a ClusterConfig names
pub names_shared : (other : Device) (peer : Peer) (named : List Announced) → ((one : Announced) → Contains named one → SharesWith other peer one.folder) → NamesShared other peer named
names_shared other peer [] shares = tt
names_shared other peer (one ∷ more) shares = (shares one (Contains-first one more), names_shared other peer more (λ later stands. shares later (Contains-more one more later stands)))
