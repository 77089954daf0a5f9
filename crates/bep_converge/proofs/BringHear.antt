-- The owner announces its next records, and the device takes them; and so on, until the device has the record that it lacks.
use Rattle.std.proofs.Common.{◌≡◌, ◌≢◌, ◌⊎◌, ◌∙◌, ◌+◌, ◌*◌, ◌<◌, ◌≤◌, ℕ, zero, suc, Bool, true, false, List, [], ◌∷◌, map, length, Option, Some, None, IsSome, is_some, unwrap_or, refl, sym, ap, subst, inl, inr, ⊎_elim, arith}
use Rattle.std.proofs.lemmas.Bool.{cases_lt}
use Rattle.std.proofs.lemmas.Option.{same_Some}
use Rattle.std.proofs.lemmas.Cmp.{nat_list_cmp_total}
use Rattle.std.proofs.lemmas.Map.Lookups.{exact_bytes}
use Rattle.std.specs.Cmp.{nat_cmp_total}
use Rattle.std.specs.Cmp.Lexicographic.{slice_cmp}
use Rattle.std.specs.Ordering.{nat_cmp}
use Rattle.std.specs.FinMap.{get, empty, insert, len, nat_cmp-IsAntisymmetric}
use Rattle.bep_facts.specs.Maps.{get-insert_here, nothing_in_empty}
use Rattle.bep_map.specs.NameMap.{ByName}
use Rattle.bep_record.specs.declared.entry.Entry.{Entry}
use Rattle.bep_index.specs.declared.limits.TheConstants.{MAX_NAMES, MAX_RECORDS}
use Rattle.bep_index.specs.declared.send.Plan.{Plan}
use Rattle.bep_index.specs.declared.send.Plan.TheVariants.{Full, Above}
use Rattle.bep_index.specs.Listing.{Listing, IsRecord}
use Rattle.bep_index.specs.Index.{IsIndex}
use Rattle.bep_index.specs.Batch.{Rises, last_sequence, with_all}
use Rattle.bep_index.specs.After.{IsAmong, AreRecords, IsAfter}
use Rattle.bep_index.specs.View.{cleared, replaced, amended, IsOld}
use Rattle.bep_index.specs.Laws.{FoundIsOfBatchOrBefore}
use Rattle.bep_model.specs.Tables.{Device, Folder, FileName}
use Rattle.bep_machine.specs.declared.message.Message.{Message}
use Rattle.bep_machine.specs.declared.moved.Moved.TheVariants.{Changed}
use Rattle.bep_machine.specs.declared.step.Step.TheVariants.{Announce, Deliver, StartPull}
use Rattle.bep_machine.specs.Answer.{Done}
use Rattle.bep_machine.specs.Replica.{Replica, view_of, viewed_at, with_view}
use Rattle.bep_machine.specs.Link.{Sight, sending}
use Rattle.bep_machine.specs.Peer.{Session, Peer, Acted, with_replica, with_session}
use Rattle.bep_machine.specs.Exchange.{AnnounceRow, CursorRow, DeliverRow, MessageRow, IsNamed, sent_up_to, index_message, IsAllSent, taken_by}
use Rattle.bep_machine.specs.Cluster.{Cluster}
use Rattle.bep_machine.specs.Steps.{IsStep, IsRun}
use Rattle.bep_machine.specs.Sound.{IsSoundReplica}
use Rattle.bep_machine.specs.Gapless.{HasNoGap}
use Rattle.bep_machine.specs.LinkEffects.{IsTaking, WholeIsAnnounced, FurtherIsAnnounced}
use Rattle.bep_converge.specs.Bring.{done, repeated, hear}
use Rattle.bep_converge.specs.Watched.{HasHeardUpTo, FetchesTo, HearsTo}
use Rattle.bep_converge.proofs.FewerKeys.{len_within}
use Rattle.bep_converge.proofs.BringSteps.{steps_run_on}
use Rattle.bep_converge.proofs.BringLinks.{IsUp, sight_with, turned, after_act}
use Rattle.bep_converge.proofs.BringStage.{StepLaws, Stage, does, near_linked, far_linked, no_gap, knows_other, sound_peer}
use Rattle.bep_converge.proofs.BringSession.{in_session, delivers}
use Rattle.bep_converge.proofs.BringMeet.{Talks, IsDue, Hears}

-- ---- a batch

rises_far : (low : ℕ) (batch : List Entry) → Rises low batch → low + length batch ≤ last_sequence low batch
rises_far low [] rises = omega arith
rises_far low (entry ∷ more) rises = let rest = rises_far entry.sequence more rises.2 in let first = rises.0 in omega arith

among_records : (records : ByName Entry) (batch : List Entry) (entry : Entry) → AreRecords records batch → IsAmong entry batch → IsRecord records entry
among_records records [] entry are among = absurd among
among_records records (first ∷ batch) entry are among = ⊎_elim (λ same. subst (λ (one : Entry). IsRecord records one) (sym same) are.0) (λ more. among_records records batch entry are.1 more) among

not_old : (sequence : ℕ) (batch : List Entry) → Rises sequence batch → ¬ IsOld sequence batch
not_old sequence [] rises old = old
not_old sequence (entry ∷ more) rises old = let above = rises.0 in omega arith

-- the view once the batch was taken
abbrev heard : Plan → Listing → List Entry → Listing
heard Full view batch = replaced view batch
heard (Above sequence) view batch = amended view batch

heard_id : (plan : Plan) (view : Listing) (batch : List Entry) → (heard plan view batch).id ≡ view.id
heard_id Full view batch = refl
heard_id (Above sequence) view batch = refl

heard_up_to : (plan : Plan) (view : Listing) (batch : List Entry) → IsDue plan view → (heard plan view batch).sequence ≡ last_sequence (sent_up_to plan) batch
heard_up_to Full view batch due = refl
heard_up_to (Above sequence) view batch due =
    ⊎_elim
    (λ never. absurd (cc))
    (λ same. let is : sequence ≡ view.sequence = cc in ap (λ (n : ℕ). last_sequence n batch) (sym is))
    due

-- the owner's session once they were announced
abbrev announcing : Session → Folder → Plan → List Entry → Session
announcing far folder plan batch = record far { cursors = insert far.cursors folder (Above (last_sequence (sent_up_to plan) batch)) }

-- a view of records of the index, with more of these, has no more names than the index has
module _ (found : FoundIsOfBatchOrBefore) (index : Listing) (is : IsIndex index) (batch : List Entry) (records : AreRecords index.records batch) where
  none_new : (m : ByName Entry) → ((name : FileName) (entry : Entry) → get m name ≡ Some entry → IsSome (get index.records name)) → len (with_all m batch) ≤ MAX_NAMES
  none_new m within =
      let fewer : len (with_all m batch) ≤ len index.records =
      len_within nat_list_cmp_total exact_bytes (with_all m batch) index.records (λ name has. there name (get (with_all m batch) name) refl has) in
      let few = is.few in
      omega arith
    where
      there : (name : FileName) (o : Option Entry) → get (with_all m batch) name ≡ o → IsSome o → IsSome (get index.records name)
      there name None stands has = absurd (cc)
      there name (Some entry) stands has =
          ⊎_elim
          (λ new. ap (λ (o : Option Entry). is_some o) (ap (get index.records) (sym new.1) ∙ among_records index.records batch entry records new.0))
          (λ old. within name entry old.1)
          (found m batch name entry stands)

-- ---- one round

view_here : (replica : Replica) (other : Device) (view : Listing) → view_of (with_view replica other view) other ≡ view
view_here replica other view = ap (λ (o : Option Listing). unwrap_or o (cleared 0)) (get-insert_here nat_cmp_total nat_cmp-IsAntisymmetric replica.views other view)

-- what the message with these records makes of the device
index_makes : (owner : Device) (folder : Folder) (near : Session) (plan : Plan) (replica : Replica) (batch : List Entry) (full : Bool) (old : Peer) →
    IsNamed near folder → get old.replicas folder ≡ Some replica → IsDue plan (view_of replica owner) → Rises (sent_up_to plan) batch → len (heard plan (view_of replica owner) batch).records ≤ MAX_NAMES →
    MessageRow owner None full near (index_message plan folder batch) old (taken_by (with_replica old folder (with_view replica owner (heard plan (view_of replica owner) batch)))) (Done Changed)
index_makes owner folder near Full replica batch full old named there due rises few =
    inl (named, (replica, there, inr ((λ many. absurd (omega arith)), (refl, refl))))
index_makes owner folder near (Above sequence) replica batch full old named there due rises few =
    let same : sequence ≡ (view_of replica owner).sequence = ⊎_elim (λ never. absurd (cc)) (λ is. cc) due in
    inl (named, (replica, there, inr (not_old (view_of replica owner).sequence batch (subst (λ (n : ℕ). Rises n batch) same rises), inr ((λ many. absurd (omega arith)), (refl, refl)))))

module _ (laws : StepLaws) (whole : WholeIsAnnounced) (further : FurtherIsAnnounced) (found : FoundIsOfBatchOrBefore) (device owner : Device) (folder : Folder) (name : FileName) (top : Entry) (apart : device ≢ owner) where
  -- the next records that the owner announces
  next_records : (far_index : Listing) (epoch : ℕ) (plan : Plan) (replica : Replica) (c : Cluster) (talks : Talks device owner folder far_index epoch 1 plan replica c) →
      IsIndex talks.far_replica.index → IsRecord talks.far_replica.index.records top → sent_up_to plan < top.sequence →
      (batch : List Entry) × IsAfter talks.far_replica.index.records (sent_up_to plan) MAX_RECORDS batch
  next_records far_index epoch Full replica c talks is recorded behind =
      let made = whole device folder (sight_with epoch [] []) (c.peer owner) talks.far talks.far_replica (record { up = refl; room = refl }) (talks.far_is, talks.far_epoch) talks.far_plan talks.far_there is in
      (made.1, made.3)
  next_records far_index epoch (Above sequence) replica c talks is recorded behind =
      let made = further device folder (sight_with epoch [] []) (c.peer owner) talks.far sequence talks.far_replica top (record { up = refl; room = refl }) (talks.far_is, talks.far_epoch) talks.far_plan talks.far_there is recorded behind in
      (made.1, made.3)

  not_all_sent : (records : ByName Entry) (plan : Plan) (batch : List Entry) → IsAfter records (sent_up_to plan) MAX_RECORDS batch → IsRecord records top → sent_up_to plan < top.sequence → ¬ IsAllSent plan batch
  not_all_sent records Full batch after recorded behind sent = sent
  not_all_sent records (Above sequence) batch after recorded behind sent =
      let none : length batch ≡ 0 = ap (λ (b : List Entry). length b) sent in
      let ended : top.sequence ≤ last_sequence sequence batch = after.ended (omega arith) top recorded in
      let at_end : last_sequence sequence batch ≡ sequence = ap (λ (b : List Entry). last_sequence sequence b) sent in
      omega arith

  view_is_gapless : (near_index far_index : Listing) (epoch : ℕ) (plan : Plan) (replica : Replica) (c : Cluster) (hears : Hears device owner folder name top near_index far_index epoch plan replica c) →
      HasNoGap hears.talks.far_replica.index (view_of replica owner)
  view_is_gapless near_index far_index epoch plan replica c hears =
      no_gap laws device owner folder name top c hears.stage device owner folder replica hears.talks.far_replica hears.stage.near_shares hears.talks.near_there hears.talks.far_there
      (knows_other c hears.stage.sound device folder hears.stage.near_shares replica hears.talks.near_there owner (λ e. apart (sym e)) hears.stage.far_shares)
      (hears.viewed ∙ ap (λ (l : Listing). l.id) (sym hears.talks.far_index_is))

  -- the owner announces these records
  pub record HasAnnounced (far_index : Listing) (epoch : ℕ) (plan : Plan) (replica : Replica) (c : Cluster) (talks : Talks device owner folder far_index epoch 1 plan replica c) (batch : List Entry) (next : Cluster) : Type 0 where
    pub made : IsStep (Announce owner device folder) None c next (Done Changed)
    pub stage : Stage device owner folder name top next
    pub link : IsUp next device owner epoch (index_message plan folder batch ∷ []) []
    pub near : next.peer device ≡ c.peer device
    pub far : next.peer owner ≡ with_session (c.peer owner) device (announcing talks.far folder plan batch)

  announced : (far_index : Listing) (epoch : ℕ) (plan : Plan) (replica : Replica) (c : Cluster) → Stage device owner folder name top c → (talks : Talks device owner folder far_index epoch 1 plan replica c) (batch : List Entry) →
      IsAfter talks.far_replica.index.records (sent_up_to plan) MAX_RECORDS batch → ¬ IsAllSent plan batch → (next : Cluster) × HasAnnounced far_index epoch plan replica c talks batch next
  announced far_index epoch plan replica c stage talks batch after unsent =
      let back : owner ≢ device = λ e. apart (sym e) in
      let message : Message = index_message plan folder batch in
      let acted : Acted = record { peer = with_session (c.peer owner) device (announcing talks.far folder plan batch); deed = sending message } in
      let row : AnnounceRow device folder (sight_with epoch [] []) (c.peer owner) acted (Done Changed) =
      in_session device (sight_with epoch [] []) (c.peer owner) talks.far refl (talks.far_is, talks.far_epoch) (λ session. CursorRow device folder false session (get session.cursors folder) (c.peer owner)) acted (Done Changed)
      (subst (λ (o : Option Plan). CursorRow device folder false talks.far o (c.peer owner) acted (Done Changed)) (sym talks.far_plan)
      (talks.far_replica, talks.far_there, (batch, after, inr (unsent, inr ((λ full. let never : false ≡ true = full in absurd (cc)), (refl, refl)))))) in
      let next : Cluster = after_act c owner device acted in
      let one = does laws device owner folder name top c stage (Announce owner device folder) (record { quiet = tt; unreset = refl; sound = tt })
      (far_linked device owner folder name top c apart stage, stage.far_shares, stage.near_shares) owner device (AnnounceRow device folder) (λ next made. made)
      epoch [] [] (turned c device owner epoch [] [] apart talks.link) acted refl (c.peer owner) refl row in
      (next, record { made = one.made; stage = one.stage; link = turned next owner device epoch [] (message ∷ []) back one.has.link; near = one.has.far device apart; far = one.has.near })

  -- what is in the device's view then, is in the owner's index
  few_names : (plan : Plan) (index : Listing) → IsIndex index → (batch : List Entry) → AreRecords index.records batch → (view : Listing) → HasNoGap index view → len (heard plan view batch).records ≤ MAX_NAMES
  few_names Full index is batch records view gapless = none_new found index is batch records empty (λ name entry stands. nothing_in_empty (slice_cmp nat_cmp) name entry stands)
  few_names (Above sequence) index is batch records view gapless =
      none_new found index is batch records view.records (λ name entry stands. let own = gapless.named name entry stands in ap (λ (o : Option Entry). is_some o) own.1)

  -- the device takes them
  pub record HasHeard (near_index far_index : Listing) (epoch : ℕ) (plan : Plan) (batch : List Entry) (c next : Cluster) : Type 0 where
    pub run : IsRun c (map done (hear device owner folder)) next
    pub replica : Replica
    pub hears : Hears device owner folder name top near_index far_index epoch (Above (last_sequence (sent_up_to plan) batch)) replica next

  heard_one : (near_index far_index : Listing) (epoch : ℕ) (plan : Plan) (replica : Replica) (c : Cluster) (hears : Hears device owner folder name top near_index far_index epoch plan replica c) (batch : List Entry) (c1 : Cluster) →
      HasAnnounced far_index epoch plan replica c hears.talks batch c1 → Rises (sent_up_to plan) batch → len (heard plan (view_of replica owner) batch).records ≤ MAX_NAMES →
      (next : Cluster) × HasHeard near_index far_index epoch plan batch c next
  heard_one near_index far_index epoch plan replica c hears batch c1 told rises few =
      let talks = hears.talks in
      let message : Message = index_message plan folder batch in
      let view : Listing = heard plan (view_of replica owner) batch in
      let later : Replica = with_view replica owner view in
      let acted : Acted = taken_by (with_replica (c.peer device) folder later) in
      let sight : Sight = sight_with epoch (message ∷ []) [] in
      let taking : IsTaking owner sight (c.peer device) talks.near message = record { up = refl; current = (talks.near_is, talks.near_epoch); waiting = refl } in
      let c2 : Cluster = after_act c1 device owner acted in
      let two = does laws device owner folder name top c1 told.stage (Deliver device owner) (record { quiet = tt; unreset = refl; sound = tt }) (near_linked device owner folder name top c1 apart told.stage)
      device owner (DeliverRow owner None) (λ next made. made) epoch (message ∷ []) [] told.link acted refl (c.peer device) told.near
      (delivers owner None sight (c.peer device) talks.near message taking acted (Done Changed)
      (index_makes owner folder talks.near plan replica batch false (c.peer device) talks.near_named talks.near_there hears.due rises few)) in
      let far_at : c2.peer owner ≡ with_session (c.peer owner) device (announcing talks.far folder plan batch) = two.has.far owner (λ e. apart (sym e)) ∙ told.far in
      let is : view_of later owner ≡ view = view_here replica owner view in (
        c2,
        record {
          run = (c1, told.made, (c2, two.made, refl));
          replica = later;
          hears = record {
            stage = two.stage;
            talks = record {
              link = two.has.link;
              near = talks.near;
              near_is = ap (λ (p : Peer). get p.sessions owner) two.has.near ∙ talks.near_is;
              near_epoch = talks.near_epoch;
              near_named = talks.near_named;
              unasked = talks.unasked;
              numbered = talks.numbered;
              far = announcing talks.far folder plan batch;
              far_is = ap (λ (p : Peer). get p.sessions device) far_at ∙ get-insert_here nat_cmp_total nat_cmp-IsAntisymmetric (c.peer owner).sessions device (announcing talks.far folder plan batch);
              far_epoch = talks.far_epoch;
              far_plan = get-insert_here nat_list_cmp_total exact_bytes talks.far.cursors folder (Above (last_sequence (sent_up_to plan) batch));
              near_there = ap (λ (p : Peer). get p.replicas folder) two.has.near ∙ get-insert_here nat_list_cmp_total exact_bytes (c.peer device).replicas folder later;
              far_replica = talks.far_replica;
              far_there = ap (λ (p : Peer). get p.replicas folder) far_at ∙ talks.far_there;
              far_index_is = talks.far_index_is;
            };
            index_is = hears.index_is;
            unpulled = hears.unpulled;
            viewed = ap (λ (l : Listing). l.id) is ∙ heard_id plan (view_of replica owner) batch ∙ hears.viewed;
            due = inr (ap (λ (n : ℕ). Above n) (sym (ap (λ (l : Listing). l.sequence) is ∙ heard_up_to plan (view_of replica owner) batch hears.due)));
          };
        },
      )

  round : (near_index far_index : Listing) (epoch : ℕ) (plan : Plan) (replica : Replica) (c : Cluster) → Hears device owner folder name top near_index far_index epoch plan replica c →
      get far_index.records name ≡ Some top → sent_up_to plan < top.sequence →
      (batch : List Entry) × (next : Cluster) × HasHeard near_index far_index epoch plan batch c next × ((sent_up_to plan + MAX_RECORDS ≤ last_sequence (sent_up_to plan) batch) ⊎ (top.sequence ≤ last_sequence (sent_up_to plan) batch))
  round near_index far_index epoch plan replica c hears owned behind =
      let talks = hears.talks in
      let stage = hears.stage in
      let far_replica : Replica = talks.far_replica in
      let far_sound : IsSoundReplica owner far_replica = (sound_peer c stage.sound owner folder stage.far_shares).replicas folder far_replica talks.far_there in
      let owns : get far_replica.index.records name ≡ Some top = ap (λ (l : Listing). get l.records name) talks.far_index_is ∙ owned in
      let recorded : IsRecord far_replica.index.records top = ap (get far_replica.index.records) (far_sound.index.numbered name top owns).0 ∙ owns in
      let records = next_records far_index epoch plan replica c talks far_sound.index recorded behind in
      let batch : List Entry = records.0 in
      let after : IsAfter far_replica.index.records (sent_up_to plan) MAX_RECORDS batch = records.1 in
      let told = announced far_index epoch plan replica c stage talks batch after (not_all_sent far_replica.index.records plan batch after recorded behind) in
      let few : len (heard plan (view_of replica owner) batch).records ≤ MAX_NAMES =
      few_names plan far_replica.index far_sound.index batch after.run.recorded (view_of replica owner) (view_is_gapless near_index far_index epoch plan replica c hears) in
      let taken = heard_one near_index far_index epoch plan replica c hears batch told.0 told.1 after.run.rises few in (
        batch,
        taken.0,
        taken.1,
        ⊎_elim
            (λ short. inr (after.ended short top recorded))
            (λ long. inl (let far_on = rises_far (sent_up_to plan) batch after.run.rises in omega arith))
            (cases_lt (length batch) MAX_RECORDS),
      )

  -- ---- until the record has come

  positive : (near_index far_index : Listing) (epoch : ℕ) (plan : Plan) (replica : Replica) (c : Cluster) → Hears device owner folder name top near_index far_index epoch plan replica c →
      get far_index.records name ≡ Some top → 1 ≤ top.sequence
  positive near_index far_index epoch plan replica c hears owned =
      let some = ((sound_peer c hears.stage.sound owner folder hears.stage.far_shares).replicas folder hears.talks.far_replica hears.talks.far_there).index.numbered name top (ap (λ (l : Listing). get l.records name) hears.talks.far_index_is ∙ owned) in
      let above = some.1 in
      omega arith

  -- what the owner has announced up to the record's number the device has heard
  has_come : (near_index far_index : Listing) (epoch : ℕ) (plan : Plan) (replica : Replica) (c : Cluster) → Hears device owner folder name top near_index far_index epoch plan replica c →
      get far_index.records name ≡ Some top → top.sequence ≤ sent_up_to plan → top.sequence ≤ (view_of replica owner).sequence
  has_come near_index far_index epoch plan replica c hears owned within = by_plan plan hears.due within
    where
      by_plan : (plan : Plan) → IsDue plan (view_of replica owner) → top.sequence ≤ sent_up_to plan → top.sequence ≤ (view_of replica owner).sequence
      by_plan Full due within = let some = positive near_index far_index epoch plan replica c hears owned in absurd (omega arith)
      by_plan (Above sequence) due within =
          let same : sequence ≡ (view_of replica owner).sequence = ⊎_elim (λ never. absurd (cc)) (λ is. cc) due in
          omega arith

  -- and what it hasn't heard is still to be announced
  to_come : (near_index far_index : Listing) (epoch : ℕ) (plan : Plan) (replica : Replica) (c : Cluster) → Hears device owner folder name top near_index far_index epoch plan replica c →
      get far_index.records name ≡ Some top → (view_of replica owner).sequence < top.sequence → sent_up_to plan < top.sequence
  to_come near_index far_index epoch plan replica c hears owned behind = by_plan plan hears.due
    where
      by_plan : (plan : Plan) → IsDue plan (view_of replica owner) → sent_up_to plan < top.sequence
      by_plan Full due = let some = positive near_index far_index epoch plan replica c hears owned in omega arith
      by_plan (Above sequence) due =
          let same : sequence ≡ (view_of replica owner).sequence = ⊎_elim (λ never. absurd (cc)) (λ is. cc) due in
          omega arith

  -- the record is in the device's view then
  arrived : (near_index far_index : Listing) (epoch : ℕ) (plan : Plan) (replica : Replica) (c : Cluster) → Hears device owner folder name top near_index far_index epoch plan replica c →
      get far_index.records name ≡ Some top → top.sequence ≤ (view_of replica owner).sequence → viewed_at replica owner name ≡ Some top
  arrived near_index far_index epoch plan replica c hears owned within =
      let gapless : HasNoGap hears.talks.far_replica.index (view_of replica owner) = view_is_gapless near_index far_index epoch plan replica c hears in
      gapless.held name top (ap (λ (l : Listing). get l.records name) hears.talks.far_index_is ∙ owned) within

  not_heard : (near_index far_index : Listing) (epoch : ℕ) (plan : Plan) (replica : Replica) (c : Cluster) → Hears device owner folder name top near_index far_index epoch plan replica c →
      (view_of replica owner).sequence < top.sequence → ¬ HasHeardUpTo c device owner folder top.sequence
  not_heard near_index far_index epoch plan replica c hears behind heard =
      let same : heard.0 ≡ replica = same_Some heard.0 replica (sym heard.1 ∙ hears.talks.near_there) in
      let within : top.sequence ≤ (view_of replica owner).sequence = subst (λ (r : Replica). top.sequence ≤ (view_of r owner).sequence) same heard.2 in
      omega arith

  pub record HasHeardAll (near_index far_index : Listing) (epoch rounds : ℕ) (c next : Cluster) : Type 0 where
    pub batches : ℕ
    pub few : batches ≤ rounds
    pub run : IsRun c (map done (repeated batches (hear device owner folder))) next
    pub plan : Plan
    pub replica : Replica
    pub hears : Hears device owner folder name top near_index far_index epoch plan replica next
    pub has : viewed_at replica owner name ≡ Some top
    pub told : (later : Cluster) (blocks : ℕ) (started : Cluster) → IsStep (StartPull device folder name) None next started (Done Changed) → FetchesTo device owner folder name later blocks started →
        HearsTo device owner folder name top.sequence later blocks batches c

  none_left : (near_index far_index : Listing) (epoch rounds : ℕ) (plan : Plan) (replica : Replica) (c : Cluster) → Hears device owner folder name top near_index far_index epoch plan replica c →
      get far_index.records name ≡ Some top → top.sequence ≤ (view_of replica owner).sequence → HasHeardAll near_index far_index epoch rounds c c
  none_left near_index far_index epoch rounds plan replica c hears owned within = record {
    batches = 0;
    few = omega arith;
    run = refl;
    plan = plan;
    replica = replica;
    hears = hears;
    has = arrived near_index far_index epoch plan replica c hears owned within;
    told = λ later blocks started made fetches. ((replica, hears.talks.near_there, within), started, made, fetches);
  }

  pub hear_all : (rounds : ℕ) (near_index far_index : Listing) (epoch : ℕ) (plan : Plan) (replica : Replica) (c : Cluster) → Hears device owner folder name top near_index far_index epoch plan replica c →
      get far_index.records name ≡ Some top → top.sequence ≤ sent_up_to plan + rounds * MAX_RECORDS → (next : Cluster) × HasHeardAll near_index far_index epoch rounds c next
  hear_all zero near_index far_index epoch plan replica c hears owned within =
      (c, none_left near_index far_index epoch 0 plan replica c hears owned (has_come near_index far_index epoch plan replica c hears owned (omega arith)))
  hear_all (suc rounds) near_index far_index epoch plan replica c hears owned within =
      ⊎_elim
      (λ behind.
      let one = round near_index far_index epoch plan replica c hears owned (to_come near_index far_index epoch plan replica c hears owned behind) in
      let closer : top.sequence ≤ last_sequence (sent_up_to plan) one.0 + rounds * MAX_RECORDS = ⊎_elim (λ far_on. omega arith) (λ there. omega arith) one.3 in
      let rest = hear_all rounds near_index far_index epoch (Above (last_sequence (sent_up_to plan) one.0)) one.2.replica one.1 one.2.hears owned closer in (
        rest.0,
        record {
          batches = suc rest.1.batches;
          few = let fewer = rest.1.few in omega arith;
          run = steps_run_on c one.1 rest.0 (hear device owner folder) (repeated rest.1.batches (hear device owner folder)) one.2.run rest.1.run;
          plan = rest.1.plan;
          replica = rest.1.replica;
          hears = rest.1.hears;
          has = rest.1.has;
          told = λ later blocks started made fetches. (not_heard near_index far_index epoch plan replica c hears behind, one.1, one.2.run, rest.1.told later blocks started made fetches);
        },
      ))
      (λ there. (c, none_left near_index far_index epoch (suc rounds) plan replica c hears owned there))
      (cases_lt (view_of replica owner).sequence top.sequence)
