-- The device asks the owner for a block of the file that it pulls, and takes it; and so on, until none is missing.
use Rattle.std.proofs.Common.{◌≡◌, ◌≢◌, ◌∙◌, ◌+◌, ◌<◌, ◌≤◌, ℕ, zero, suc, Bool, true, false, List, [], ◌∷◌, ◌++◌, map, length, Option, Some, None, Contains, refl, sym, ap, subst, inl, inr, ⊎_elim, if◌then◌else◌, arith}
use Rattle.std.proofs.lemmas.Bool.{cases_lt, eq-eqb}
use Rattle.std.proofs.lemmas.Cmp.{nat_list_cmp_total}
use Rattle.std.proofs.lemmas.Map.Lookups.{exact_bytes}
use Rattle.std.specs.Cmp.{nat_cmp_total}
use Rattle.std.specs.FinMap.{get, insert, nat_cmp-IsAntisymmetric}
use Rattle.bep_facts.specs.Maps.{get-insert_here}
use Rattle.bep_record.specs.declared.block.Block.{Block}
use Rattle.bep_record.specs.declared.entry.Entry.{Entry}
use Rattle.bep_record.specs.Content.{content_of}
use Rattle.bep_index.specs.declared.send.Plan.{Plan}
use Rattle.bep_index.specs.Listing.{Listing}
use Rattle.bep_model.specs.Tables.{Device, Folder, FileName}
use Rattle.bep_machine.specs.declared.limits.TheConstants.{MAX_REQUEST_ID}
use Rattle.bep_machine.specs.declared.message.Message.{Message}
use Rattle.bep_machine.specs.declared.message.Message.TheVariants as messages
use Rattle.bep_machine.specs.declared.message.Request.{Request}
use Rattle.bep_machine.specs.declared.message.Response.{Response}
use Rattle.bep_machine.specs.declared.moved.Moved.TheVariants.{Changed}
use Rattle.bep_machine.specs.declared.step.Step.TheVariants.{Ask, Deliver}
use Rattle.bep_machine.specs.Answer.{Done}
use Rattle.bep_machine.specs.Pull.{IsFile}
use Rattle.bep_machine.specs.Replica.{Pull, Replica, own_at, pull_at, viewed_at, HasContentOf, with_pull}
use Rattle.bep_machine.specs.Link.{Sight, sending}
use Rattle.bep_machine.specs.Peer.{Session, Peer, Acted, with_replica, with_session}
use Rattle.bep_machine.specs.Exchange.{ReplicaRow, AskRow, AskingRow, CanAsk, DeliverRow, MessageRow, AskedRow, HasBytes, asked_for, without, received_at, next_block, request_for, with_block, with_received, taken_by}
use Rattle.bep_machine.specs.Cluster.{Cluster}
use Rattle.bep_machine.specs.Steps.{IsStep, IsRun}
use Rattle.bep_machine.specs.Sound.{IsSoundReplica}
use Rattle.bep_machine.specs.LinkEffects.{IsTaking, RequestIsAnswered}
use Rattle.bep_converge.specs.Bring.{done, repeated, fetch}
use Rattle.bep_converge.specs.Watched.{LacksBlocks, FetchesTo}
use Rattle.bep_converge.proofs.BringSteps.{steps_run_on}
use Rattle.bep_converge.proofs.BringLinks.{IsUp, sight_with, turned, after_act}
use Rattle.bep_converge.proofs.BringStage.{StepLaws, Stage, does, near_linked, far_linked, sound_peer}
use Rattle.bep_converge.proofs.BringSession.{in_session, delivers}
use Rattle.bep_converge.proofs.BringMeet.{Talks}
use Rattle.bep_converge.proofs.BringAnswer.{IsLike, file_like, holds_file, answering, answered}
use Rattle.bep_converge.proofs.MissingBlocks.{missing, not_received, some_next, next_is_one, fewer_missing}

-- The device pulls the target from the owner, and is in session with it. But for its pulls its replica is this base.
pub record Fetches (device owner : Device) (folder : Folder) (name : FileName) (top : Entry) (far_index : Listing) (epoch number : ℕ) (plan : Plan) (base : Replica) (target : Entry) (pull : Pull) (replica : Replica) (c : Cluster) : Type 0 where
  pub stage : Stage device owner folder name top c
  pub talks : Talks device owner folder far_index epoch number plan replica c
  pub pulled : pull_at replica name ≡ Some pull
  pub target_is : pull.target ≡ target
  pub rest : replica ≡ record base { pulls = replica.pulls }

asked_alone : (requests : List Request) (request : Request) (id : ℕ) → requests ≡ [] → id ≡ request.id → asked_for id (requests ++ request ∷ []) ≡ Some request
asked_alone requests request id none same =
    ap (λ (rs : List Request). asked_for id (rs ++ request ∷ [])) none
    ∙ ap (λ (b : Bool). if b then Some request else None) (eq-eqb request.id id (sym same))

without_it : (requests : List Request) (request : Request) (id : ℕ) → requests ≡ [] → id ≡ request.id → without id (requests ++ request ∷ []) ≡ []
without_it requests request id none same =
    ap (λ (rs : List Request). without id (rs ++ request ∷ [])) none
    ∙ ap (λ (b : Bool). if b then [] else request ∷ []) (eq-eqb request.id id (sym same))

-- the session once the device asked for the block
abbrev asking : Session → Folder → FileName → Block → Session
asking near folder name block = record near { outstanding = near.outstanding ++ request_for near folder name block ∷ []; next = near.next + 1 }

-- a right response to the session's request makes this of the device
abbrev answered_session : Session → Response → Session
answered_session session response = record session { outstanding = without response.id session.outstanding }

abbrev pull_with : Pull → Request → Response → Pull
pull_with pull request response = record pull { received = received_at request response.bytes pull.target.blocks pull.received }

abbrev peer_with : Device → Session → Request → Response → Replica → Pull → Peer → Peer
peer_with other session request response replica pull old =
    with_replica (with_session old other (answered_session session response)) request.folder (with_pull replica request.name (pull_with pull request response))

response_makes : (other : Device) (full : Bool) (session : Session) (request : Request) (response : Response) (replica : Replica) (pull : Pull) (old : Peer) →
    asked_for response.id session.outstanding ≡ Some request → HasBytes response request → get old.replicas request.folder ≡ Some replica → pull_at replica request.name ≡ Some pull →
    MessageRow other None full session (messages.Response response) old (taken_by (peer_with other session request response replica pull old)) (Done Changed)
response_makes other full session request response replica pull old asked right there pulled =
    subst (λ (o : Option Request). AskedRow other session response o old (taken_by (peer_with other session request response replica pull old)) (Done Changed)) (sym asked)
    (inl (right, (ap taken_by (sym is), refl)))
  where
    is : with_received request response.bytes (get old.replicas request.folder) (with_session old other (answered_session session response)) ≡ peer_with other session request response replica pull old
    is =
        ap (λ (o : Option Replica). with_received request response.bytes o (with_session old other (answered_session session response))) there
        ∙ ap (λ (o : Option Pull). with_replica (with_session old other (answered_session session response)) request.folder (with_block request response.bytes o replica)) pulled

module _ (laws : StepLaws) (answers : RequestIsAnswered) (device owner : Device) (folder : Folder) (name : FileName) (top : Entry) (apart : device ≢ owner) where
  module _ (far_index : Listing) (owned : get far_index.records name ≡ Some top) (epoch : ℕ) (plan : Plan) (base : Replica) (has : viewed_at base owner name ≡ Some top) (target : Entry) (file : IsFile target)
      (content : content_of target ≡ content_of top) (different : ¬ HasContentOf (own_at base name) target) where
    -- the device can ask the owner for a block that is missing
    can_ask : (number : ℕ) (pull : Pull) (replica : Replica) (c : Cluster) (fetches : Fetches device owner folder name top far_index epoch number plan base target pull replica c) → 1 ≤ missing pull.received → number ≤ MAX_REQUEST_ID →
        (block : Block) × (next_block fetches.talks.near folder name pull.target.blocks pull.received ≡ Some block) × CanAsk owner folder name fetches.talks.near replica block
    can_ask number pull replica c fetches some low =
        let talks = fetches.talks in
        let sound : IsSoundReplica device replica = (sound_peer c fetches.stage.sound device folder fetches.stage.near_shares).replicas folder replica talks.near_there in
        let next_one = some_next talks.near folder name talks.unasked pull.target.blocks pull.received (sound.pulls name pull fetches.pulled).received some in (
          next_one.0,
          next_one.1,
          record {
            pull = pull;
            pulled = fetches.pulled;
            different = λ alike. different (subst (λ (e : Entry). HasContentOf (own_at base name) e) fetches.target_is (subst (λ (r : Replica). HasContentOf (own_at r name) pull.target) fetches.rest alike));
            next = next_one.1;
            few = let none : length talks.near.outstanding ≡ 0 = ap (λ (rs : List Request). length rs) talks.unasked in omega arith;
            numbered = let n = talks.numbered in omega arith;
            viewed = top;
            seen = ap (λ (r : Replica). viewed_at r owner name) fetches.rest ∙ has;
            valid = fetches.stage.prevails.top_of.owned.1;
            same = sym (ap content_of fetches.target_is ∙ content);
          },
        )

    -- it asks
    pub record HasAsked (c : Cluster) (session : Session) (block : Block) (next : Cluster) : Type 0 where
      pub made : IsStep (Ask device owner folder name) None c next (Done Changed)
      pub stage : Stage device owner folder name top next
      pub link : IsUp next owner device epoch (messages.Request (request_for session folder name block) ∷ []) []
      pub near : next.peer device ≡ with_session (c.peer device) owner (asking session folder name block)
      pub far : next.peer owner ≡ c.peer owner

    asks : (number : ℕ) (pull : Pull) (replica : Replica) (c : Cluster) (fetches : Fetches device owner folder name top far_index epoch number plan base target pull replica c) (block : Block) →
        CanAsk owner folder name fetches.talks.near replica block → (next : Cluster) × HasAsked c fetches.talks.near block next
    asks number pull replica c fetches block can =
        let talks = fetches.talks in
        let stage = fetches.stage in
        let message : Message = messages.Request (request_for talks.near folder name block) in
        let acted : Acted = record { peer = with_session (c.peer device) owner (asking talks.near folder name block); deed = sending message } in
        let next : Cluster = after_act c device owner acted in
        let one = does laws device owner folder name top c stage (Ask device owner folder name) (record { quiet = tt; unreset = refl; sound = tt })
        (near_linked device owner folder name top c apart stage, stage.near_shares, stage.far_shares) device owner (AskRow owner folder name) (λ next made. made) epoch [] [] talks.link acted refl (c.peer device) refl
        (in_session owner (sight_with epoch [] []) (c.peer device) talks.near refl (talks.near_is, talks.near_epoch) (λ session. ReplicaRow folder (c.peer device) (AskingRow owner folder name false session (c.peer device))) acted (Done Changed)
        (replica, talks.near_there, inr ((λ none. none (block, can)), inr ((λ full. let never : false ≡ true = full in absurd (cc)), (block, can, (refl, refl)))))) in
        (next, record { made = one.made; stage = one.stage; link = turned next device owner epoch [] (message ∷ []) apart one.has.link; near = one.has.near; far = one.has.far owner (λ e. apart (sym e)) })

    -- the owner answers
    pub record HasReplied (c1 : Cluster) (session : Session) (block : Block) (next : Cluster) : Type 0 where
      pub response : Response
      pub id : response.id ≡ session.next
      pub right : HasBytes response (request_for session folder name block)
      pub made : IsStep (Deliver owner device) None c1 next (Done Changed)
      pub stage : Stage device owner folder name top next
      pub link : IsUp next device owner epoch (messages.Response response ∷ []) []
      pub near : next.peer device ≡ c1.peer device
      pub far : next.peer owner ≡ c1.peer owner

    replies : (number : ℕ) (pull : Pull) (replica : Replica) (c : Cluster) (fetches : Fetches device owner folder name top far_index epoch number plan base target pull replica c) (block : Block) →
        Contains pull.target.blocks block → (c1 : Cluster) → HasAsked c fetches.talks.near block c1 → (next : Cluster) × HasReplied c1 fetches.talks.near block next
    replies number pull replica c fetches block stands c1 asked =
        let talks = fetches.talks in
        let back : owner ≢ device = λ e. apart (sym e) in
        let like : IsLike pull.target top = file_like pull.target top (subst IsFile (sym fetches.target_is) file) (ap content_of fetches.target_is ∙ content) in
        let request : Request = request_for talks.near folder name block in
        let message : Message = messages.Request request in
        let sight : Sight = sight_with epoch (message ∷ []) [] in
        let taking : IsTaking device sight (c.peer owner) talks.far message = record { up = refl; current = (talks.far_is, talks.far_epoch); waiting = refl } in
        let held = holds_file device owner folder name top c fetches.stage talks.far_replica talks.far_there (ap (λ (l : Listing). get l.records name) talks.far_index_is ∙ owned) like.present like.file in
        let reply = answered answers device sight (c.peer owner) talks.far plan request talks.far_replica top held.0 block taking refl talks.far_plan talks.far_there held.1
        (subst (λ (blocks : List Block). Contains blocks block) (sym like.blocks) stands) (record { offset = refl; size = refl; hash = refl }) in
        let next : Cluster = after_act c1 owner device (answering (c.peer owner) reply.0) in
        let two = does laws device owner folder name top c1 asked.stage (Deliver owner device) (record { quiet = tt; unreset = refl; sound = tt }) (far_linked device owner folder name top c1 apart asked.stage)
        owner device (DeliverRow device None) (λ next made. made) epoch (message ∷ []) [] asked.link (answering (c.peer owner) reply.0) refl (c.peer owner) asked.far reply.1 in (
          next,
          record {
            response = reply.0;
            id = reply.2;
            right = reply.3;
            made = two.made;
            stage = two.stage;
            link = turned next owner device epoch [] (messages.Response reply.0 ∷ []) back two.has.link;
            near = two.has.far device apart;
            far = two.has.near ∙ sym asked.far;
          },
        )

    -- and the device takes the block
    pub record HasFetched (number : ℕ) (pull : Pull) (c next : Cluster) : Type 0 where
      pub run : IsRun c (map done (fetch device owner folder name)) next
      pub now : Pull
      pub replica : Replica
      pub fetches : Fetches device owner folder name top far_index epoch (number + 1) plan base target now replica next
      pub fewer : missing now.received < missing pull.received

    takes_block : (number : ℕ) (pull : Pull) (replica : Replica) (c : Cluster) (fetches : Fetches device owner folder name top far_index epoch number plan base target pull replica c) (block : Block) →
        next_block fetches.talks.near folder name pull.target.blocks pull.received ≡ Some block → (c1 : Cluster) → HasAsked c fetches.talks.near block c1 → (c2 : Cluster) → HasReplied c1 fetches.talks.near block c2 →
        (next : Cluster) × HasFetched number pull c next
    takes_block number pull replica c fetches block is_next c1 asked c2 replied =
        let talks = fetches.talks in
        let request : Request = request_for talks.near folder name block in
        let response : Response = replied.response in
        let session : Session = asking talks.near folder name block in
        let near1 : Peer = with_session (c.peer device) owner session in
        let message : Message = messages.Response response in
        let sight : Sight = sight_with epoch (message ∷ []) [] in
        let taking : IsTaking owner sight near1 session message =
        record { up = refl; current = (get-insert_here nat_cmp_total nat_cmp-IsAntisymmetric (c.peer device).sessions owner session, talks.near_epoch); waiting = refl } in
        let now : Pull = pull_with pull request response in
        let later : Replica = with_pull replica name now in
        let acted : Acted = taken_by (peer_with owner session request response replica pull near1) in
        let c3 : Cluster = after_act c2 device owner acted in
        let three = does laws device owner folder name top c2 replied.stage (Deliver device owner) (record { quiet = tt; unreset = refl; sound = tt }) (near_linked device owner folder name top c2 apart replied.stage)
        device owner (DeliverRow owner None) (λ next made. made) epoch (message ∷ []) [] replied.link acted refl near1 (replied.near ∙ asked.near)
        (delivers owner None sight near1 session message taking acted (Done Changed)
        (response_makes owner false session request response replica pull near1 (asked_alone talks.near.outstanding request response.id talks.unasked replied.id) replied.right talks.near_there fetches.pulled)) in
        let far_at : c3.peer owner ≡ c.peer owner = three.has.far owner (λ e. apart (sym e)) ∙ replied.far ∙ asked.far in (
          c3,
          record {
            run = (c1, asked.made, (c2, replied.made, (c3, three.made, refl)));
            now = now;
            replica = later;
            fetches = record {
              stage = three.stage;
              talks = record {
                link = three.has.link;
                near = answered_session session response;
                near_is = ap (λ (p : Peer). get p.sessions owner) three.has.near ∙ get-insert_here nat_cmp_total nat_cmp-IsAntisymmetric near1.sessions owner (answered_session session response);
                near_epoch = talks.near_epoch;
                near_named = talks.near_named;
                unasked = without_it talks.near.outstanding request response.id talks.unasked replied.id;
                numbered = ap (λ (n : ℕ). n + 1) talks.numbered;
                far = talks.far;
                far_is = ap (λ (p : Peer). get p.sessions device) far_at ∙ talks.far_is;
                far_epoch = talks.far_epoch;
                far_plan = talks.far_plan;
                near_there = ap (λ (p : Peer). get p.replicas folder) three.has.near ∙ get-insert_here nat_list_cmp_total exact_bytes near1.replicas folder later;
                far_replica = talks.far_replica;
                far_there = ap (λ (p : Peer). get p.replicas folder) far_at ∙ talks.far_there;
                far_index_is = talks.far_index_is;
              };
              pulled = get-insert_here nat_list_cmp_total exact_bytes replica.pulls name now;
              target_is = fetches.target_is;
              rest = ap (λ (r : Replica). record r { pulls = insert replica.pulls name now }) fetches.rest;
            };
            fewer = fewer_missing talks.near folder name talks.unasked request response.bytes pull.target.blocks pull.received block is_next (record { offset = refl; size = refl; hash = refl });
          },
        )

    one_block : (number : ℕ) (pull : Pull) (replica : Replica) (c : Cluster) → Fetches device owner folder name top far_index epoch number plan base target pull replica c →
        1 ≤ missing pull.received → number ≤ MAX_REQUEST_ID → (next : Cluster) × HasFetched number pull c next
    one_block number pull replica c fetches some low =
        let can = can_ask number pull replica c fetches some low in
        let asked = asks number pull replica c fetches can.0 can.2 in
        let stands : Contains pull.target.blocks can.0 = next_is_one fetches.talks.near folder name fetches.talks.unasked pull.target.blocks pull.received can.0 can.1 in
        let replied = replies number pull replica c fetches can.0 stands asked.0 asked.1 in
        takes_block number pull replica c fetches can.0 can.1 asked.0 asked.1 replied.0 replied.1

    pub record HasFetchedAll (left : ℕ) (c next : Cluster) : Type 0 where
      pub blocks : ℕ
      pub few : blocks ≤ left
      pub run : IsRun c (map done (repeated blocks (fetch device owner folder name))) next
      pub number : ℕ
      pub now : Pull
      pub replica : Replica
      pub fetches : Fetches device owner folder name top far_index epoch number plan base target now replica next
      pub whole : missing now.received ≡ 0
      pub told : (later : Cluster) → FetchesTo device owner folder name later 0 next → FetchesTo device owner folder name later blocks c

    -- what is fetched is what is missing
    lacks : (number : ℕ) (pull : Pull) (replica : Replica) (c : Cluster) → Fetches device owner folder name top far_index epoch number plan base target pull replica c → 1 ≤ missing pull.received → LacksBlocks c device folder name
    lacks number pull replica c fetches some = (
      replica,
      pull,
      fetches.talks.near_there,
      fetches.pulled,
      (
        subst IsFile (sym fetches.target_is) file,
        λ alike. different (subst (λ (e : Entry). HasContentOf (own_at base name) e) fetches.target_is (subst (λ (r : Replica). HasContentOf (own_at r name) pull.target) fetches.rest alike)),
        not_received pull.received some,
      ),
    )

    pub fetch_all : (left number : ℕ) (pull : Pull) (replica : Replica) (c : Cluster) → Fetches device owner folder name top far_index epoch number plan base target pull replica c →
        missing pull.received ≤ left → number + left ≤ MAX_REQUEST_ID + 1 → (next : Cluster) × HasFetchedAll left c next
    fetch_all zero number pull replica c fetches within low =
        (c, record { blocks = 0; few = omega arith; run = refl; number = number; now = pull; replica = replica; fetches = fetches; whole = omega arith; told = λ later end. end })
    fetch_all (suc left) number pull replica c fetches within low =
        ⊎_elim
        (λ none. (c, record { blocks = 0; few = omega arith; run = refl; number = number; now = pull; replica = replica; fetches = fetches; whole = omega arith; told = λ later end. end }))
        (λ some.
        let one = one_block number pull replica c fetches (omega arith) (omega arith) in
        let fewer = one.1.fewer in
        let rest = fetch_all left (number + 1) one.1.now one.1.replica one.0 one.1.fetches (omega arith) (omega arith) in (
          rest.0,
          record {
            blocks = suc rest.1.blocks;
            few = let less = rest.1.few in omega arith;
            run = steps_run_on c one.0 rest.0 (fetch device owner folder name) (repeated rest.1.blocks (fetch device owner folder name)) one.1.run rest.1.run;
            number = rest.1.number;
            now = rest.1.now;
            replica = rest.1.replica;
            fetches = rest.1.fetches;
            whole = rest.1.whole;
            told = λ later end. (lacks number pull replica c fetches (omega arith), one.0, one.1.run, rest.1.told later end);
          },
        ))
        (cases_lt (missing pull.received) 1)
