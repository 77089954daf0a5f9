-- A response that is taken keeps a device sound.
use Rattle.std.proofs.Common.{◌≡◌, ◌+◌, ◌≤◌, ◌==◌, ◌&&◌, ℕ, Bool, true, false, cond, List, [], ◌∷◌, length, Option, Some, None, if◌then◌else◌, is_some, refl, ap, ◌∙◌, inl, inr, arith, eqb-true}
use Rattle.std.specs.Cmp.Lexicographic.{nat_list_cmp_total}
use Rattle.std.specs.FinMap.{get, len, len-insert}
use Rattle.std.proofs.lemmas.Bool.{and_parts}
use Rattle.bep_record.specs.declared.block.Block.{Block}
use Rattle.bep_model.specs.Tables.{Device}
use Rattle.bep_machine.specs.declared.message.Request.{Request}
use Rattle.bep_machine.specs.declared.message.Response.{Response}
use Rattle.bep_machine.specs.Answer.{Answer}
use Rattle.bep_machine.specs.Replica.{Pull, Replica, pull_at}
use Rattle.bep_machine.specs.Link.{Sight}
use Rattle.bep_machine.specs.Peer.{Session, Peer, Acted, with_session}
use Rattle.bep_machine.specs.Exchange.{same_bytes, is_about, without, received_at, with_block, with_received, AnsweredRow, AskedRow, ResponseRow, asked_for}
use Rattle.bep_machine.specs.Cluster.{Config}
use Rattle.bep_machine.specs.Sound.{AreReceived, IsSoundPull, IsSoundReplica, IsSoundSession, IsSoundPeer}
use Rattle.bep_machine.proofs.SoundParts.{SoundChange, unchanged}
use Rattle.bep_machine.proofs.SoundMaps.{each_after_insert}
use Rattle.bep_machine.proofs.PeerKept.{sound_with_replica, sound_with_session}
use Rattle.bep_machine.proofs.ActedKept.{SoundActed, took}

-- ---- the bytes stand at the block that was asked for

about_block : (request : Request) (block : Block) → is_about request block ≡ true → request.size ≡ block.size
about_block request block is =
    let place = and_parts (request.offset == block.offset) ((request.size == block.size) && same_bytes request.hash block.hash) is in
    let rest = and_parts (request.size == block.size) (same_bytes request.hash block.hash) place.1 in
    eqb-true request.size block.size rest.0

module _ (request : Request) (bytes : List ℕ) (long : length bytes ≡ request.size) where
  block_is_received : (block : Block) (blocks : List Block) (received : List (Option (List ℕ))) (b : Bool) → is_about request block ≡ b → AreReceived blocks received → AreReceived (block ∷ blocks) ((if b then Some bytes else None) ∷ received)
  block_is_received block blocks received true about all = (long ∙ about_block request block about, all)
  block_is_received block blocks received false about all = all

  are_received : (blocks : List Block) (received : List (Option (List ℕ))) → AreReceived blocks received → AreReceived blocks (received_at request bytes blocks received)
  are_received [] [] all = tt
  are_received [] (one ∷ received) all = absurd all
  are_received (block ∷ blocks) [] all = absurd all
  are_received (block ∷ blocks) (None ∷ received) all =
      block_is_received block blocks (received_at request bytes blocks received) (is_about request block) refl (are_received blocks received all)
  are_received (block ∷ blocks) (Some had ∷ received) all = (all.0, are_received blocks received all.1)

  -- ---- the pull

  with_block_changes : (device : Device) (replica : Replica) (o : Option Pull) → IsSoundReplica device replica → pull_at replica request.name ≡ o → SoundChange device replica (with_block request bytes o replica)
  with_block_changes device replica None sound is = unchanged sound
  with_block_changes device replica (Some pull) sound is = record {
    sound = record {
      index = sound.index;
      id = sound.id;
      own = sound.own;
      views = sound.views;
      pulls = each_after_insert IsSoundPull replica.pulls request.name sound.pulls new (later (sound.pulls request.name pull is));
      few_pulls =
          let size = len-insert nat_list_cmp_total replica.pulls request.name new ∙ ap (λ o. cond (is_some o) (len replica.pulls) (len replica.pulls + 1)) is in
          let few = sound.few_pulls in
          omega arith;
      store = sound.store;
    };
    kind = refl;
    others = refl;
  }
    where
      new : Pull
      new = record pull { received = received_at request bytes pull.target.blocks pull.received }

      later : IsSoundPull request.name pull → IsSoundPull request.name new
      later old = record { named = old.named; valid = old.valid; good = old.good; received = are_received pull.target.blocks pull.received old.received }

  with_received_is_sound : (config : Config) (device : Device) (peer : Peer) (o : Option Replica) → IsSoundPeer config device peer → get peer.replicas request.folder ≡ o → IsSoundPeer config device (with_received request bytes o peer)
  with_received_is_sound config device peer None sound is = sound
  with_received_is_sound config device peer (Some replica) sound is =
      sound_with_replica config device peer request.folder replica (with_block request bytes (pull_at replica request.name) replica) sound is
      (with_block_changes device replica (pull_at replica request.name) (sound.replicas request.folder replica is) refl)

-- ---- the session

one_fewer : (b : Bool) (request : Request) (rest more : List Request) → length rest ≤ length more → length (if b then more else request ∷ rest) ≤ length (request ∷ more)
one_fewer true request rest more few = omega arith
one_fewer false request rest more few = omega arith

no_more_outstanding : (id : ℕ) (requests : List Request) → length (without id requests) ≤ length requests
no_more_outstanding id [] = omega arith
no_more_outstanding id (request ∷ more) = one_fewer (request.id == id) request (without id more) more (no_more_outstanding id more)

answered_is_sound : (other : Device) (peer : Peer) (session : Session) (id : ℕ) → IsSoundSession other peer session → IsSoundSession other peer (record session { outstanding = without id session.outstanding })
answered_is_sound other peer session id sound = record {
  named = sound.named;
  unnamed = sound.unnamed;
  few = let few = sound.few in let fewer = no_more_outstanding id session.outstanding in omega arith;
}

-- ---- the whole

module _ (config : Config) (device other : Device) (sight : Sight) (session : Session) (old : Peer) (acted : Acted) (answer : Answer)
    (sound : IsSoundPeer config device old) (one : IsSoundSession other old session) where
  answered_keeps : (response : Response) (request : Request) → AnsweredRow other session response request old acted answer → SoundActed config device sight acted
  answered_keeps response request (inl (has, made)) =
      let answered : Peer = with_session old other (record session { outstanding = without response.id session.outstanding }) in
      took config device sight (with_received request response.bytes (get answered.replicas request.folder) answered) acted
      (with_received_is_sound request response.bytes has.1 config device answered (get answered.replicas request.folder)
      (sound_with_session config device other old (record session { outstanding = without response.id session.outstanding }) sound (answered_is_sound other old session response.id one)) refl)
      made.0
  answered_keeps response request (inr (wrong, made)) =
      took config device sight (with_session old other (record session { outstanding = without response.id session.outstanding })) acted
      (sound_with_session config device other old (record session { outstanding = without response.id session.outstanding }) sound (answered_is_sound other old session response.id one))
      made.0

  asked_keeps : (response : Response) (asked : Option Request) → AskedRow other session response asked old acted answer → SoundActed config device sight acted
  asked_keeps response None made = took config device sight old acted sound made.0
  asked_keeps response (Some request) made = answered_keeps response request made

  pub response_keeps : (response : Response) → ResponseRow other session response old acted answer → SoundActed config device sight acted
  response_keeps response made = asked_keeps response (asked_for response.id session.outstanding) made
