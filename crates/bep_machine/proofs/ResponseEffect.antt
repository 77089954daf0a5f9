-- A block that was asked for is received, and a response that nobody asked for is ignored.
use Rattle.std.proofs.Common.{◌≡◌, ◌≢◌, ◌==◌, ◌&&◌, ◌++◌, ℕ, Bool, true, false, List, [], ◌∷◌, length, Contains, Option, Some, None, if◌then◌else◌, refl, sym, ap, subst, ◌∙◌, inl, arith}
use Rattle.std.proofs.lemmas.Bool.{cond-false, eq-eqb, ne_eqb}
use Rattle.std.specs.Cmp.{nat_cmp_total}
use Rattle.std.specs.FinMap.{get, nat_cmp-IsAntisymmetric}
use Rattle.bep_facts.specs.Maps.{get-insert_here}
use Rattle.bep_facts.specs.Members.{Contains-first, Contains-more}
use Rattle.bep_record.specs.declared.block.Block.{Block}
use Rattle.bep_machine.specs.declared.message.Message.TheVariants as messages
use Rattle.bep_machine.specs.declared.message.Request.{Request}
use Rattle.bep_machine.specs.declared.moved.Moved.TheVariants.{Changed}
use Rattle.bep_machine.specs.Answer.{Done}
use Rattle.bep_machine.specs.Replica.{Pull, Replica, pull_at}
use Rattle.bep_machine.specs.Peer.{Session, Peer, with_session}
use Rattle.bep_machine.specs.Exchange.{is_about, same_bytes, received_at, with_block, with_received, taken_by, asked_for, without, AskedRow}
use Rattle.bep_machine.specs.LinkEffects.{AsksFor, BlockIsReceived, UnaskedIsIgnored}
use Rattle.bep_machine.specs.Sound.{IsSoundPull}
use Rattle.bep_machine.proofs.BlockPlaces.{block_is_alone, not_about}
use Rattle.bep_machine.proofs.ReplicaFacts.{insert_here}
use Rattle.bep_machine.proofs.GapSend.{same_when_equal}
use Rattle.bep_machine.proofs.TakingFacts.{delivers, only_delivers}

about_block : (request : Request) (block : Block) → AsksFor block request → is_about request block ≡ true
about_block request block asks =
    all_true (request.offset == block.offset) (request.size == block.size) (same_bytes request.hash block.hash)
    (eq-eqb request.offset block.offset asks.offset) (eq-eqb request.size block.size asks.size) (same_when_equal request.hash block.hash asks.hash)
  where
    all_true : (a b c : Bool) → a ≡ true → b ≡ true → c ≡ true → (a && (b && c)) ≡ true
    all_true true true c one two three = three
    all_true true false c one two three = absurd (cc)
    all_true false b c one two three = absurd (cc)

-- ---- the block's place

abbrev AreApart : Request → List Block → Type 0
AreApart request blocks = (one : Block) → Contains blocks one → is_about request one ≡ false

-- blocks that the request isn't about are as before
all_stay : (request : Request) (bytes : List ℕ) (blocks : List Block) (received : List (Option (List ℕ))) → AreApart request blocks → received_at request bytes blocks received ≡ received
all_stay request bytes [] received apart = refl
all_stay request bytes (block ∷ blocks) [] apart = refl
all_stay request bytes (block ∷ blocks) (None ∷ received) apart =
    let here = apart block (Contains-first block blocks) in
    let rest = all_stay request bytes blocks received (λ one stands. apart one (Contains-more block blocks one stands)) in
    λ i. (if here i then Some bytes else None) ∷ rest i
all_stay request bytes (block ∷ blocks) (Some held ∷ received) apart =
    ap (λ (later : List (Option (List ℕ))). Some held ∷ later) (all_stay request bytes blocks received (λ one stands. apart one (Contains-more block blocks one stands)))

-- the bytes stand at the block's place, and all others are as before where the request isn't about them
record Receives (request : Request) (bytes : List ℕ) (front : List Block) (block : Block) (back : List Block) (had more : List (Option (List ℕ))) : Type 0 where
  pub before : List (Option (List ℕ))
  pub after : List (Option (List ℕ))
  pub stands : received_at request bytes (front ++ (block ∷ back)) (had ++ (None ∷ more)) ≡ before ++ (Some bytes ∷ after)
  pub placed : length before ≡ length front
  pub same_before : AreApart request front → before ≡ had
  pub same_after : AreApart request back → after ≡ more

block_received : (request : Request) (bytes : List ℕ) (block : Block) → is_about request block ≡ true → (front back : List Block) (had more : List (Option (List ℕ))) → length front ≡ length had → Receives request bytes front block back had more
block_received request bytes block about [] back [] more same = record {
  before = [];
  after = received_at request bytes back more;
  stands = ap (λ (b : Bool). (if b then Some bytes else None) ∷ received_at request bytes back more) about;
  placed = refl;
  same_before = λ apart. refl;
  same_after = λ apart. all_stay request bytes back more apart;
}
block_received request bytes block about [] back (one ∷ had) more same = absurd (omega (arith, same))
block_received request bytes block about (first ∷ front) back [] more same = absurd (omega (arith, same))
block_received request bytes block about (first ∷ front) back (None ∷ had) more same =
    let rest = block_received request bytes block about front back had more (omega (arith, same)) in
    let here : Option (List ℕ) = if is_about request first then Some bytes else None in
    record {
      before = here ∷ rest.before;
      after = rest.after;
      stands = ap (λ (later : List (Option (List ℕ))). here ∷ later) rest.stands;
      placed = let lengths = rest.placed in omega (arith, lengths);
      same_before = λ apart.
          let first_stays = apart first (Contains-first first front) in
          let more_stay = rest.same_before (λ one stands. apart one (Contains-more first front one stands)) in
          λ i. (if first_stays i then Some bytes else None) ∷ more_stay i;
      same_after = rest.same_after;
    }
block_received request bytes block about (first ∷ front) back (Some held ∷ had) more same =
    let rest = block_received request bytes block about front back had more (omega (arith, same)) in
    record {
      before = Some held ∷ rest.before;
      after = rest.after;
      stands = ap (λ (later : List (Option (List ℕ))). Some held ∷ later) rest.stands;
      placed = let lengths = rest.placed in omega (arith, lengths);
      same_before = λ apart. ap (λ (later : List (Option (List ℕ))). Some held ∷ later) (rest.same_before (λ one stands. apart one (Contains-more first front one stands)));
      same_after = rest.same_after;
    }

pub block_is_received_lem : BlockIsReceived
block_is_received_lem other failed sight old session response request replica pull block front back had more taking asked code size hash there pulled asks blocks received same =
    let next : Session = record session { outstanding = without response.id session.outstanding } in
    let answered : Peer = with_session old other next in
    let now : Pull = record pull { received = received_at request response.bytes pull.target.blocks pull.received } in
    let places = block_received request response.bytes block (about_block request block asks) front back had more same in
    let sound_stays : IsSoundPull request.name pull → (places.before ≡ had) × (places.after ≡ more) =
    λ sound.
    let alone = block_is_alone pull.target sound.good.formed front block back blocks in (
      places.same_before (λ one stands. not_about request block one asks.offset (λ equal. let below = alone.before one stands in omega (arith, below, equal))),
      places.same_after (λ one stands. not_about request block one asks.offset (λ equal. let above = alone.after one stands in omega (arith, above, equal))),
    )
    in (
      taken_by (with_received request response.bytes (get old.replicas request.folder) answered),
      next,
      with_block request response.bytes (pull_at replica request.name) replica,
      now,
      places.before,
      places.after,
      delivers other failed sight old session (messages.Response response) taking _ (Done Changed)
          (subst (λ (found : Option Request). AskedRow other session response found old (taken_by (with_received request response.bytes (get old.replicas request.folder) answered)) (Done Changed)) (sym asked)
          (inl ((code, size, hash), (refl, refl)))),
      sessions,
      refl,
      ap (λ (found : Option Replica). get (with_received request response.bytes found answered).replicas request.folder) there
          ∙ insert_here old.replicas request.folder (with_block request response.bytes (pull_at replica request.name) replica),
      ap (λ (found : Option Pull). pull_at (with_block request response.bytes found replica) request.name) pulled ∙ insert_here replica.pulls request.name now,
      refl,
      ap (λ (bs : List Block). received_at request response.bytes bs pull.received) blocks
          ∙ ap (received_at request response.bytes (front ++ (block ∷ back))) received
          ∙ places.stands,
      places.placed,
      sound_stays,
    )
  where
    with_next : (found : Option Replica) → get (with_received request response.bytes found (with_session old other (record session { outstanding = without response.id session.outstanding }))).sessions other ≡ Some (record session { outstanding = without response.id session.outstanding })
    with_next None = get-insert_here nat_cmp_total nat_cmp-IsAntisymmetric old.sessions other (record session { outstanding = without response.id session.outstanding })
    with_next (Some one) = get-insert_here nat_cmp_total nat_cmp-IsAntisymmetric old.sessions other (record session { outstanding = without response.id session.outstanding })

    sessions : get (with_received request response.bytes (get old.replicas request.folder) (with_session old other (record session { outstanding = without response.id session.outstanding }))).sessions other ≡ Some (record session { outstanding = without response.id session.outstanding })
    sessions = with_next (get old.replicas request.folder)

-- ---- a response that nobody asked for

none_asked : (id : ℕ) (requests : List Request) → ((request : Request) → Contains requests request → request.id ≢ id) → asked_for id requests ≡ None
none_asked id [] none = refl
none_asked id (one ∷ more) none =
    cond-false _ (Some one) (asked_for id more) (ne_eqb one.id id (none one (Contains-first one more)))
    ∙ none_asked id more (λ request stands. none request (Contains-more one more request stands))

pub unasked_is_ignored_lem : UnaskedIsIgnored
unasked_is_ignored_lem other failed sight old session response taking none = record {
  made = taken_by old;
  comes = delivers other failed sight old session (messages.Response response) taking (taken_by old) (Done Changed)
      (subst (λ (found : Option Request). AskedRow other session response found old (taken_by old) (Done Changed)) (sym unasked) (refl, refl));
  fits = record { peer = refl; takes = refl; silent = refl; keeps = refl };
  only = λ new answer made.
      subst (λ (found : Option Request). AskedRow other session response found old new answer) unasked
      (only_delivers other failed sight old session (messages.Response response) taking new answer made);
}
  where
    unasked : asked_for response.id session.outstanding ≡ None
    unasked = none_asked response.id session.outstanding none
