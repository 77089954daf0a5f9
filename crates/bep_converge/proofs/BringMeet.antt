-- Two devices that were restarted begin a session, and each takes the other's ClusterConfig.
use Rattle.std.proofs.Common.{◌≡◌, ◌≢◌, ◌⊎◌, ◌∙◌, ◌==◌, ℕ, true, List, [], ◌∷◌, map, Some, None, IsSome, is_some, Contains, refl, sym, ap, subst, inl, inr, ⊎_elim, arith}
use Rattle.std.proofs.lemmas.Bool.{cases_eq, cases_lt, eq-eqb}
use Rattle.std.proofs.lemmas.Option.{same_Some}
use Rattle.std.specs.Cmp.{nat_cmp_total}
use Rattle.std.specs.Ordering.{nat_cmp}
use Rattle.std.specs.FinMap.{get, empty, get-empty, nat_cmp-IsAntisymmetric}
use Rattle.bep_facts.specs.Maps.{get-insert_here}
use Rattle.bep_record.specs.declared.entry.Entry.{Entry}
use Rattle.bep_index.specs.declared.send.Plan.{Plan}
use Rattle.bep_index.specs.declared.send.Plan.TheVariants.{Full, Above}
use Rattle.bep_index.specs.Index.{IsPoint}
use Rattle.bep_index.specs.Listing.{Listing}
use Rattle.bep_model.specs.Tables.{Device, Folder, FileName}
use Rattle.bep_machine.specs.declared.message.Announced.{Announced}
use Rattle.bep_machine.specs.declared.message.Message.{Message}
use Rattle.bep_machine.specs.declared.message.Message.TheVariants as messages
use Rattle.bep_machine.specs.declared.moved.Moved.TheVariants.{Changed}
use Rattle.bep_machine.specs.declared.step.Step.TheVariants.{Begin, Deliver}
use Rattle.bep_machine.specs.Answer.{Done}
use Rattle.bep_machine.specs.Replica.{Replica, view_of}
use Rattle.bep_machine.specs.Link.{Sight, sending}
use Rattle.bep_machine.specs.Peer.{Session, Peer, Acted, new_session, with_session, config_for}
use Rattle.bep_machine.specs.Exchange.{BeginRow, DeliverRow, IsGoodConfig, SharesWith, cursors_for, configured_by, taken_by}
use Rattle.bep_machine.specs.Cluster.{Cluster}
use Rattle.bep_machine.specs.Steps.{SharesFolder, AreLinked, IsRun, without_pulls, restarted}
use Rattle.bep_machine.specs.Sound.{IsSound}
use Rattle.bep_machine.specs.LinkEffects.{IsTaking, BeginOpens, ConfigIsTaken, IsConfigFor, IsConfigured, TellsPoints}
use Rattle.bep_converge.specs.Bring.{done}
use Rattle.bep_converge.proofs.BringLinks.{IsUp, sight_with, turned, after_act}
use Rattle.bep_converge.proofs.BringStage.{StepLaws, Stage, HasDone, does, near_linked, far_linked, knows_other, shares_back, names_shared, any_from_member}
use Rattle.bep_converge.proofs.BringSession.{begins, config_tells, config_makes, delivers}
use Rattle.bep_converge.proofs.BringRestart.{IsFresh, without_pulls_there}

-- ---- in session

-- The two are in session over a link that is up, with nothing on its way: the device asked for nothing that wasn't answered,
-- its next request has this number, and the owner is to send it what this plan says. These are the device's replica of the
-- folder and the indexes of both.
pub record Talks (device owner : Device) (folder : Folder) (far_index : Listing) (epoch number : ℕ) (plan : Plan) (replica : Replica) (c : Cluster) : Type 0 where
  pub link : IsUp c device owner epoch [] []
  pub near : Session
  pub near_is : get (c.peer device).sessions owner ≡ Some near
  pub near_epoch : near.epoch ≡ epoch
  pub near_named : IsSome (get near.cursors folder)
  pub unasked : near.outstanding ≡ []
  pub numbered : near.next ≡ number
  pub far : Session
  pub far_is : get (c.peer owner).sessions device ≡ Some far
  pub far_epoch : far.epoch ≡ epoch
  pub far_plan : get far.cursors folder ≡ Some plan
  pub near_there : get (c.peer device).replicas folder ≡ Some replica
  pub far_replica : Replica
  pub far_there : get (c.peer owner).replicas folder ≡ Some far_replica
  pub far_index_is : far_replica.index ≡ far_index

-- ---- a ClusterConfig is taken

-- the session afterwards
abbrev configured : Session → List Announced → Peer → Session
configured session named old = record session { configured = true; cursors = cursors_for named old.replicas empty }

taken : ConfigIsTaken → (other : Device) (sight : Sight) (old : Peer) (session : Session) (named : List Announced) → IsTaking other sight old session (messages.ClusterConfig named) →
    IsGoodConfig other session old named → (one : Announced) (replica : Replica) → Contains named one → get old.replicas one.folder ≡ Some replica →
    (later : Replica) × (get (configured_by other session named old).replicas one.folder ≡ Some later) × IsConfigured other one replica later (configured session named old)
taken takes other sight old session named taking good one replica stands there =
    let made = takes other None sight old session named taking good.first good.once good.shared in
    let is : made.0 ≡ taken_by (configured_by other session named old) = config_makes other None sight old session named made.0 (Done Changed) taking good made.2 in
    let next : made.1 ≡ configured session named old =
    same_Some made.1 (configured session named old)
    (sym made.5 ∙ ap (λ (a : Acted). get a.peer.sessions other) is ∙ get-insert_here nat_cmp_total nat_cmp-IsAntisymmetric old.sessions other (configured session named old)) in
    let facts = made.8 one replica stands there in
    (facts.0, ap (λ (a : Acted). get a.peer.replicas one.folder) (sym is) ∙ facts.1, subst (λ (s : Session). IsConfigured other one replica facts.0 s) next facts.2)

-- whether a point is one of the index
point_or_not : (index : Listing) (id sequence : ℕ) → IsPoint index id sequence ⊎ (¬ IsPoint index id sequence)
point_or_not index id sequence =
    ⊎_elim
    (λ same.
    ⊎_elim
    (λ none. inr (λ point. let n = point.not_zero in absurd (omega arith)))
    (λ some.
    ⊎_elim
    (λ ahead. inr (λ point. let n = point.given in absurd (omega arith)))
    (λ given. inl (record { same_index = same; not_zero = omega arith; given = omega arith }))
    (cases_lt index.sequence sequence))
    (cases_lt sequence 1))
    (λ apart. inr (λ point. apart point.same_index))
    (cases_eq id index.id)

-- the folder has a cursor then
is_named : {other : Device} {one : Announced} {replica later : Replica} {session : Session} → IsConfigured other one replica later session → IsSome (get session.cursors one.folder)
is_named {one = one} {replica = replica} facts =
    ⊎_elim
    (λ point. ap (λ o. is_some o) (facts.goes_on point))
    (λ none. ap (λ o. is_some o) (facts.anew none))
    (point_or_not replica.index one.known_id one.known_sequence)

-- what the owner is to send fits what the device has of its index
abbrev pub IsDue : Plan → Listing → Type 0
IsDue plan view = (plan ≡ Full) ⊎ (plan ≡ Above view.sequence)

-- what the owner is to send once both took the other's ClusterConfig, and under which id the device has its view
planned : {device owner : Device} {later_far : Replica} {near far : Session} (near_replica far_replica : Replica) (named_far named_near : Announced) (replica : Replica) →
    IsConfigured owner named_far near_replica replica near → IsConfigured device named_near far_replica later_far far → TellsPoints device far_replica named_far → TellsPoints owner near_replica named_near →
    (plan : Plan) × (get far.cursors named_near.folder ≡ Some plan) × ((view_of replica owner).id ≡ far_replica.index.id) × IsDue plan (view_of replica owner)
planned {owner = owner} near_replica far_replica named_far named_near replica facts facts_far tells_far tells_near =
    let same_id : (view_of replica owner).id ≡ far_replica.index.id =
    ⊎_elim
    (λ same. ap (λ (l : Listing). l.id) (facts.known same) ∙ same ∙ tells_far.index_id)
    (λ other. ap (λ (l : Listing). l.id) (facts.unknown other) ∙ tells_far.index_id)
    (cases_eq (view_of near_replica owner).id named_far.index_id) in
    ⊎_elim
    (λ point.
    let same : (view_of near_replica owner).id ≡ named_far.index_id = sym tells_near.known_id ∙ point.same_index ∙ sym tells_far.index_id in
    (Above named_near.known_sequence, facts_far.goes_on point, same_id, inr (ap (λ (n : ℕ). Above n) (tells_near.known_sequence ∙ ap (λ (l : Listing). l.sequence) (sym (facts.known same))))))
    (λ none. (Full, facts_far.anew none, same_id, inl refl))
    (point_or_not far_replica.index named_near.known_id named_near.known_sequence)

-- ---- both begin

-- what a device does that begins a session
abbrev beginning : Device → ℕ → Peer → Acted
beginning other epoch peer = record { peer = with_session peer other (new_session epoch); deed = sending (messages.ClusterConfig (config_for other peer)) }

pub record HasBegun (device owner : Device) (folder : Folder) (name : FileName) (top : Entry) (near0 far0 : Peer) (epoch : ℕ) (c next : Cluster) : Type 0 where
  pub stage : Stage device owner folder name top next
  pub run : IsRun c (map done (Begin device owner ∷ Begin owner device ∷ [])) next
  pub link : IsUp next device owner epoch (messages.ClusterConfig (config_for device far0) ∷ []) (messages.ClusterConfig (config_for owner near0) ∷ [])
  pub near : next.peer device ≡ with_session near0 owner (new_session epoch)
  pub far : next.peer owner ≡ with_session far0 device (new_session epoch)

module _ (laws : StepLaws) (device owner : Device) (folder : Folder) (name : FileName) (top : Entry) where
  -- one of them begins
  begins_there : (c : Cluster) → Stage device owner folder name top c → (one other : Device) → AreLinked c.config one other → (epoch : ℕ) (here : List Message) → IsUp c one other epoch here [] →
      (peer : Peer) → c.peer one ≡ peer → get peer.sessions other ≡ None →
      HasDone device owner folder name top c (after_act c one other (beginning other epoch peer)) (Begin one other) one other (beginning other epoch peer) epoch here []
  begins_there c stage one other linked epoch here link peer is none =
      does laws device owner folder name top c stage (Begin one other) (record { quiet = tt; unreset = refl; sound = tt }) linked one other (BeginRow other) (λ next made. made)
      epoch here [] link (beginning other epoch peer) refl peer is (begins other (sight_with epoch here []) peer refl refl none)

  -- one of them takes the other one's ClusterConfig
  takes_config : (c : Cluster) → Stage device owner folder name top c → (one other : Device) → AreLinked c.config one other → (epoch : ℕ) (named : List Announced) (there : List Message) →
      IsUp c one other epoch (messages.ClusterConfig named ∷ []) there → (peer : Peer) → c.peer one ≡ peer → IsTaking other (sight_with epoch (messages.ClusterConfig named ∷ []) there) peer (new_session epoch) (messages.ClusterConfig named) →
      IsGoodConfig other (new_session epoch) peer named →
      HasDone device owner folder name top c (after_act c one other (taken_by (configured_by other (new_session epoch) named peer))) (Deliver one other) one other
      (taken_by (configured_by other (new_session epoch) named peer)) epoch (messages.ClusterConfig named ∷ []) there
  takes_config c stage one other linked epoch named there link peer is taking right =
      let acted : Acted = taken_by (configured_by other (new_session epoch) named peer) in
      does laws device owner folder name top c stage (Deliver one other) (record { quiet = tt; unreset = refl; sound = tt }) linked one other (DeliverRow other None) (λ next made. made)
      epoch (messages.ClusterConfig named ∷ []) there link acted refl peer is
      (delivers other None (sight_with epoch (messages.ClusterConfig named ∷ []) there) peer (new_session epoch) (messages.ClusterConfig named) taking acted (Done Changed) (inl (right, (refl, refl))))

module _ (laws : StepLaws) (device owner : Device) (folder : Folder) (name : FileName) (top : Entry) (apart : device ≢ owner) where
  begun : (first c : Cluster) (epoch : ℕ) → IsFresh device owner folder name top first c epoch →
      (next : Cluster) × HasBegun device owner folder name top (restarted (first.peer device)) (restarted (first.peer owner)) epoch c next
  begun first c epoch fresh =
      let near0 : Peer = restarted (first.peer device) in
      let far0 : Peer = restarted (first.peer owner) in
      let told_near = messages.ClusterConfig (config_for owner near0) in
      let told_far = messages.ClusterConfig (config_for device far0) in
      let c1 : Cluster = after_act c device owner (beginning owner epoch near0) in
      let one = begins_there laws device owner folder name top c fresh.stage device owner (near_linked device owner folder name top c apart fresh.stage) epoch [] fresh.link near0 fresh.near (get-empty {X = Session} nat_cmp owner) in
      let up1 : IsUp c1 owner device epoch (told_near ∷ []) [] = turned c1 device owner epoch [] (told_near ∷ []) apart one.has.link in
      let c2 : Cluster = after_act c1 owner device (beginning device epoch far0) in
      let two = begins_there laws device owner folder name top c1 one.stage owner device (far_linked device owner folder name top c1 apart one.stage) epoch (told_near ∷ []) up1 far0
      (one.has.far owner (λ e. apart (sym e)) ∙ fresh.far) (get-empty {X = Session} nat_cmp device) in (
        c2,
        record {
          stage = two.stage;
          run = (c1, one.made, (c2, two.made, refl));
          link = turned c2 owner device epoch (told_near ∷ []) (told_far ∷ []) (λ e. apart (sym e)) two.has.link;
          near = two.has.far device apart ∙ one.has.near;
          far = two.has.near;
        },
      )

-- ---- the whole

-- the owner has records to announce that the device is to take
pub record Hears (device owner : Device) (folder : Folder) (name : FileName) (top : Entry) (near_index far_index : Listing) (epoch : ℕ) (plan : Plan) (replica : Replica) (c : Cluster) : Type 0 where
  pub stage : Stage device owner folder name top c
  pub talks : Talks device owner folder far_index epoch 1 plan replica c
  pub index_is : replica.index ≡ near_index
  pub unpulled : replica.pulls ≡ empty
  pub viewed : (view_of replica owner).id ≡ far_index.id
  pub due : IsDue plan (view_of replica owner)

pub record HasMet (device owner : Device) (folder : Folder) (name : FileName) (top : Entry) (near_index far_index : Listing) (c next : Cluster) : Type 0 where
  pub run : IsRun c (map done (Deliver device owner ∷ Deliver owner device ∷ [])) next
  pub epoch : ℕ
  pub plan : Plan
  pub replica : Replica
  pub hears : Hears device owner folder name top near_index far_index epoch plan replica next

-- what one of them knows when both have begun, and what the other one's ClusterConfig tells it
module _ (opens : BeginOpens) (c : Cluster) (sound : IsSound c) (one other : Device) (apart : one ≢ other) (peer0 other0 : Peer) (epoch : ℕ)
    (is : c.peer one ≡ with_session peer0 other (new_session epoch)) (other_is : c.peer other ≡ with_session other0 one (new_session epoch))
    (no_session : get other0.sessions one ≡ None) (in_cluster : Contains c.config.devices other) where
  tells : IsConfigFor one other0 (config_for one other0)
  tells = config_tells opens one other0 no_session

  -- it is good
  good : IsGoodConfig other (new_session epoch) (with_session peer0 other (new_session epoch)) (config_for one other0)
  good = record {
    first = refl;
    once = (config_tells opens one other0 no_session).once;
    shared = names_shared other (with_session peer0 other (new_session epoch)) (config_for one other0) (λ named stands.
        let told = (config_tells opens one other0 no_session).told named stands in
        subst (λ (p : Peer). SharesWith other p named.folder) is
        (shares_back c sound other one named.folder (λ e. apart (sym e)) in_cluster
        (subst (λ (p : Peer). SharesWith one p named.folder) (sym other_is) (told.0, told.1, told.2))));
  }

  -- it tells of the folder
  names : (folder : Folder) (replica : Replica) → SharesFolder c.config one folder → SharesFolder c.config other folder → get other0.replicas folder ≡ Some replica →
      (named : Announced) × Contains (config_for one other0) named × (named.folder ≡ folder) × TellsPoints one replica named
  names folder replica shares other_shares there =
      let at : get (c.peer other).replicas folder ≡ Some replica = ap (λ (p : Peer). get p.replicas folder) other_is ∙ there in
      let shared : SharesWith one other0 folder =
      (replica, there, any_from_member (λ (device : Device). device == one) replica.others one (knows_other c sound other folder other_shares replica at one apart shares) (eq-eqb one one refl)) in
      let named = (config_tells opens one other0 no_session).all folder shared in
      let told = (config_tells opens one other0 no_session).told named.0 named.1 in
      let same : told.0 ≡ replica = same_Some told.0 replica (sym told.1 ∙ ap (get other0.replicas) named.2 ∙ there) in
      (named.0, named.1, named.2, subst (λ (r : Replica). TellsPoints one r named.0) same told.3)

module _ (laws : StepLaws) (opens : BeginOpens) (takes : ConfigIsTaken) (device owner : Device) (folder : Folder) (name : FileName) (top : Entry) (apart : device ≢ owner) where
  exchanged : (near0 far0 : Peer) (epoch : ℕ) (first c : Cluster) → HasBegun device owner folder name top near0 far0 epoch first c →
      get near0.sessions owner ≡ None → get far0.sessions device ≡ None → (near_replica far_replica : Replica) →
      get near0.replicas folder ≡ Some near_replica → get far0.replicas folder ≡ Some far_replica → near_replica.pulls ≡ empty →
      (next : Cluster) × HasMet device owner folder name top near_replica.index far_replica.index c next
  exchanged near0 far0 epoch first c has none_near none_far near_replica far_replica near_there far_there unpulled =
      let back : owner ≢ device = λ e. apart (sym e) in
      let session : Session = new_session epoch in
      let told_near : List Announced = config_for owner near0 in
      let told_far : List Announced = config_for device far0 in
      let near1 : Peer = with_session near0 owner session in
      let far1 : Peer = with_session far0 device session in
      let in_cluster = has.stage.sound.config.sharing folder device has.stage.near_shares in
      let also_in = has.stage.sound.config.sharing folder owner has.stage.far_shares in
      let names_far = names opens c has.stage.sound device owner apart near0 far0 epoch has.near has.far none_far also_in folder far_replica has.stage.near_shares has.stage.far_shares far_there in
      let names_near = names opens c has.stage.sound owner device back far0 near0 epoch has.far has.near none_near in_cluster folder near_replica has.stage.far_shares has.stage.near_shares near_there in
      -- the device takes the owner's
      let sight1 : Sight = sight_with epoch (messages.ClusterConfig told_far ∷ []) (messages.ClusterConfig told_near ∷ []) in
      let taking1 : IsTaking owner sight1 near1 session (messages.ClusterConfig told_far) =
      record { up = refl; current = (get-insert_here nat_cmp_total nat_cmp-IsAntisymmetric near0.sessions owner session, refl); waiting = refl } in
      let good_far : IsGoodConfig owner session near1 told_far = good opens c has.stage.sound device owner apart near0 far0 epoch has.near has.far none_far also_in in
      let near2 : Peer = configured_by owner session told_far near1 in
      let c1 : Cluster = after_act c device owner (taken_by near2) in
      let one = takes_config laws device owner folder name top c has.stage device owner (near_linked device owner folder name top c apart has.stage) epoch told_far (messages.ClusterConfig told_near ∷ []) has.link near1 has.near taking1 good_far in
      -- the owner takes the device's
      let up1 : IsUp c1 owner device epoch (messages.ClusterConfig told_near ∷ []) [] = turned c1 device owner epoch [] (messages.ClusterConfig told_near ∷ []) apart one.has.link in
      let sight2 : Sight = sight_with epoch (messages.ClusterConfig told_near ∷ []) [] in
      let taking2 : IsTaking device sight2 far1 session (messages.ClusterConfig told_near) =
      record { up = refl; current = (get-insert_here nat_cmp_total nat_cmp-IsAntisymmetric far0.sessions device session, refl); waiting = refl } in
      let good_near : IsGoodConfig device session far1 told_near = good opens c has.stage.sound owner device back far0 near0 epoch has.far has.near none_near in_cluster in
      let far2 : Peer = configured_by device session told_near far1 in
      let c2 : Cluster = after_act c1 owner device (taken_by far2) in
      let two = takes_config laws device owner folder name top c1 one.stage owner device (far_linked device owner folder name top c1 apart one.stage) epoch told_near [] up1 far1 (one.has.far owner back ∙ has.far) taking2 good_near in
      -- what each has then
      let near_at : c2.peer device ≡ near2 = two.has.far device apart ∙ one.has.near in
      let near_taken = taken takes owner sight1 near1 session told_far taking1 good_far names_far.0 near_replica names_far.1 (ap (get near0.replicas) names_far.2 ∙ near_there) in
      let far_taken = taken takes device sight2 far1 session told_near taking2 good_near names_near.0 far_replica names_near.1 (ap (get far0.replicas) names_near.2 ∙ far_there) in
      let plans = planned near_replica far_replica names_far.0 names_near.0 near_taken.0 near_taken.2 far_taken.2 names_far.3 names_near.3 in (
        c2,
        record {
          run = (c1, one.made, (c2, two.made, refl));
          epoch = epoch;
          plan = plans.0;
          replica = near_taken.0;
          hears = record {
            stage = two.stage;
            talks = record {
              link = turned c2 owner device epoch [] [] back two.has.link;
              near = configured session told_far near1;
              near_is = ap (λ (p : Peer). get p.sessions owner) near_at ∙ get-insert_here nat_cmp_total nat_cmp-IsAntisymmetric near1.sessions owner (configured session told_far near1);
              near_epoch = refl;
              near_named = subst (λ (f : Folder). IsSome (get (configured session told_far near1).cursors f)) names_far.2 (is_named near_taken.2);
              unasked = refl;
              numbered = refl;
              far = configured session told_near far1;
              far_is = ap (λ (p : Peer). get p.sessions device) two.has.near ∙ get-insert_here nat_cmp_total nat_cmp-IsAntisymmetric far1.sessions device (configured session told_near far1);
              far_epoch = refl;
              far_plan = ap (get (configured session told_near far1).cursors) (sym names_near.2) ∙ plans.1;
              near_there = ap (λ (p : Peer). get p.replicas folder) near_at ∙ ap (get near2.replicas) (sym names_far.2) ∙ near_taken.1;
              far_replica = far_taken.0;
              far_there = ap (λ (p : Peer). get p.replicas folder) two.has.near ∙ ap (get far2.replicas) (sym names_near.2) ∙ far_taken.1;
              far_index_is = far_taken.2.index;
            };
            index_is = near_taken.2.index;
            unpulled = near_taken.2.pulls ∙ unpulled;
            viewed = plans.2;
            due = plans.3;
          };
        },
      )

  pub meets : (first c : Cluster) (epoch : ℕ) → IsFresh device owner folder name top first c epoch → (near_replica far_replica : Replica) →
      get (first.peer device).replicas folder ≡ Some near_replica → get (first.peer owner).replicas folder ≡ Some far_replica →
      (middle next : Cluster) × HasBegun device owner folder name top (restarted (first.peer device)) (restarted (first.peer owner)) epoch c middle × HasMet device owner folder name top near_replica.index far_replica.index middle next
  meets first c epoch fresh near_replica far_replica near_there far_there =
      let begin = begun laws device owner folder name top apart first c epoch fresh in
      let met = exchanged (restarted (first.peer device)) (restarted (first.peer owner)) epoch c begin.0 begin.1
      (get-empty {X = Session} nat_cmp owner) (get-empty {X = Session} nat_cmp device) (without_pulls near_replica) (without_pulls far_replica)
      (without_pulls_there (first.peer device) folder near_replica near_there) (without_pulls_there (first.peer owner) folder far_replica far_there) refl in
      (begin.0, met.0, begin.1, met.1)
