-- The next block of a pull, and the sessions once it was asked for.
use Rattle.std.proofs.Common.{◌≡◌, ℕ, suc, zero, ◌+◌, ◌<◌, true, false, List, [], ◌∷◌, length, drop, get_or, Option, Some, None, unwrap_or, Contains, refl, sym, ap, subst, ◌∙◌, inl, inr, ⊎_elim, arith}
use Rattle.std.proofs.lemmas.Bool.{cond-true, cond-false}
use Rattle.std.specs.Ordering.{nat_cmp}
use Rattle.std.specs.Cmp.{nat_cmp_total}
use Rattle.std.specs.Cmp.Lexicographic.{slice_cmp}
use Rattle.std.specs.FinMap.{nat_cmp-IsAntisymmetric, get, insert, get-empty}
use Rattle.bep_facts.specs.Maps.{found_after_insert}
use Rattle.bep_map.specs.NameMap.{ByName}
use Rattle.bep_record.specs.declared.block.Block.{Block}
use Rattle.bep_index.specs.Listing.{Listing}
use Rattle.bep_index.specs.View.{cleared}
use Rattle.bep_model.specs.Tables.{Device, Folder, FileName}
use Rattle.bep_machine.specs.declared.message.Message.{Message}
use Rattle.bep_machine.specs.declared.message.Message.TheVariants as messages
use Rattle.bep_machine.specs.declared.message.Request.{Request}
use Rattle.bep_machine.specs.declared.refusal.Refusal.TheVariants.{LinkFull, NothingToDo}
use Rattle.bep_machine.specs.Answer.{Answer, Refused as Refuses}
use Rattle.bep_machine.specs.Exchange.{AskRow, AskingRow, CanAsk, IsNamed, ReplicaRow, is_asked, next_block, request_for}
use Rattle.bep_machine.specs.Link.{Sight, sending}
use Rattle.bep_machine.specs.Peer.{Session, Peer, Acted, idle, with_session}
use Rattle.bep_machine.specs.Replica.{ByDevice, Replica, viewed_at}
use Rattle.bep_machine.specs.Sound.{AreReceived}
use Rattle.bep_folder.specs.Held.{Held}
use Rattle.bep_folder.specs.Pull.{IsReceivedAt}
use Rattle.bep_peer.specs.inner.InSession.{IsNextAsked, IsOver}
use Rattle.bep_peer.specs.Member.{NameShared}
use Rattle.bep_peer.specs.Session.{with_request}
use Rattle.bep_peer.proofs.StepFacts.{in_session}

-- ---- what is viewed

-- before anything was known of a device's index, it has nothing
pub nothing_viewed : (replica : Replica) (other : Device) (name : FileName) → get replica.views other ≡ None → viewed_at replica other name ≡ None
nothing_viewed replica other name none =
    ap (λ (found : Option Listing). get (unwrap_or found (cleared 0)).records name) none ∙ get-empty (slice_cmp nat_cmp) name

-- ---- the first block that can be asked for

module _ (session : Session) (folder : Folder) (name : FileName) (default : Block) where
  -- the block at a place, neither received nor asked for, is the first from there on
  next_here : (blocks : List Block) (received : List (Option (List ℕ))) (place : ℕ) → AreReceived blocks received → place < length blocks → (¬ IsReceivedAt received place) →
      is_asked session folder name (get_or blocks place default) ≡ false → next_block session folder name (drop place blocks) (drop place received) ≡ Some (get_or blocks place default)
  next_here [] received place are within none off = absurd (omega arith)
  next_here (first ∷ blocks) [] place are within none off = absurd are
  next_here (first ∷ blocks) (Some had ∷ received) zero are within none off = absurd (none (had, refl))
  next_here (first ∷ blocks) (None ∷ received) zero are within none off = cond-false _ _ _ off
  next_here (first ∷ blocks) (None ∷ received) (suc place) are within none off = next_here blocks received place are (omega arith) none off
  next_here (first ∷ blocks) (Some had ∷ received) (suc place) are within none off = next_here blocks received place are.1 (omega arith) none off

  one_more : (n : ℕ) → suc (n + 1) ≡ suc n + 1
  one_more n = omega arith

  -- a block that was received, or is asked for, is left out
  next_after : (blocks : List Block) (received : List (Option (List ℕ))) (place : ℕ) → AreReceived blocks received → place < length blocks →
      ((¬ IsReceivedAt received place) → is_asked session folder name (get_or blocks place default) ≡ true) →
      next_block session folder name (drop (place + 1) blocks) (drop (place + 1) received) ≡ next_block session folder name (drop place blocks) (drop place received)
  next_after [] received place are within left = absurd (omega arith)
  next_after (first ∷ blocks) [] place are within left = absurd are
  next_after (first ∷ blocks) (Some had ∷ received) zero are within left = refl
  next_after (first ∷ blocks) (None ∷ received) zero are within left = sym (cond-true _ _ _ (left (λ there. let e = there.1 in absurd (cc))))
  next_after (first ∷ blocks) (None ∷ received) (suc place) are within left =
      ap (λ n. next_block session folder name (drop n (first ∷ blocks)) (drop n (None ∷ received))) (sym (one_more place))
      ∙ next_after blocks received place are (omega arith) left
  next_after (first ∷ blocks) (Some had ∷ received) (suc place) are within left =
      ap (λ n. next_block session folder name (drop n (first ∷ blocks)) (drop n (Some had ∷ received))) (sym (one_more place))
      ∙ next_after blocks received place are.1 (omega arith) left

  module _ (items blocks : List Block) (received : List (Option (List ℕ))) (place : ℕ) (same : items ≡ blocks) (are : AreReceived blocks received) (within : place < length items) (left : next_block session folder name (drop place blocks) (drop place received) ≡ next_block session folder name blocks received) where
    -- the walk finds the block
    pub found : (¬ IsReceivedAt received place) → is_asked session folder name (get_or items place default) ≡ false → Some (get_or items place default) ≡ next_block session folder name blocks received
    found none off = subst
        (λ (items : List Block). place < length items → is_asked session folder name (get_or items place default) ≡ false → Some (get_or items place default) ≡ next_block session folder name blocks received)
        (sym same)
        (λ within off. sym (next_here blocks received place are within none off) ∙ left) within off

    -- or goes on
    pub goes_on : ((¬ IsReceivedAt received place) → is_asked session folder name (get_or items place default) ≡ true) →
        next_block session folder name (drop (place + 1) blocks) (drop (place + 1) received) ≡ next_block session folder name blocks received
    goes_on on = subst
        (λ (items : List Block). place < length items → ((¬ IsReceivedAt received place) → is_asked session folder name (get_or items place default) ≡ true) →
        next_block session folder name (drop (place + 1) blocks) (drop (place + 1) received) ≡ next_block session folder name blocks received)
        (sym same)
        (λ within on. next_after blocks received place are within on ∙ left) within on

-- ---- the folders that a session names

request_shared : (folders : ByName Held) (sessions : ByDevice Session) (to : Device) (session : Session) (request : Request) → NameShared folders sessions → get sessions to ≡ Some session → NameShared folders (insert sessions to (with_request session request))
request_shared folders sessions to session request shared has other found one is is_named =
    ⊎_elim
    (λ here.
    let before = shared to session one has (subst (λ (s : Session). IsNamed s one) here.1 is_named) in
    (before.0, before.1, subst (λ (d : Device). Contains before.0.tables.others d) (sym here.0) before.2))
    (λ apart. shared other found one apart.1 is_named)
    (found_after_insert nat_cmp_total nat_cmp-IsAntisymmetric sessions to (with_request session request) other found is)

-- a request names no folder more
pub still_shared : (folders : ByName Held) (sessions new : ByDevice Session) (to : Device) (session : Session) (request : Request) → NameShared folders sessions → get sessions to ≡ Some session → new ≡ insert sessions to (with_request session request) → NameShared folders new
still_shared folders sessions new to session request shared has is = subst (NameShared folders) (sym is) (request_shared folders sessions to session request shared has)

-- ---- in the session

module _ (other : Device) (folder : Folder) (name : FileName) (sight : Sight) (peer : Peer) (session : Session) (replica : Replica) (over : IsOver other sight peer session) (has : get peer.replicas folder ≡ Some replica) where
  -- what is done in this session, with this replica
  asking : (new : Acted) (answer : Answer) → AskingRow other folder name sight.full session peer replica new answer → AskRow other folder name sight peer new answer
  asking new answer made = in_session other sight peer (λ s. ReplicaRow folder peer (AskingRow other folder name sight.full s peer)) session new answer over (replica, has, made)

  pub nothing_to_ask : ((block : Block) → ¬ CanAsk other folder name session replica block) → AskRow other folder name sight peer (idle peer) (Refuses NothingToDo)
  nothing_to_ask none = asking _ _ (inl (λ there. none there.0 there.1, (refl, refl)))

  module _ (block : Block) (can : CanAsk other folder name session replica block) where
    pub no_room : sight.full ≡ true → AskRow other folder name sight peer (idle peer) (Refuses LinkFull)
    no_room filled = asking _ _ (inr (λ none. none (block, can), inl (filled, (refl, refl))))

    pub next_is : (request : Request) (message : Message) → sight.full ≡ false → request ≡ request_for session folder name block → message ≡ messages.Request request →
        IsNextAsked other folder name sight peer request message
    next_is request message room is sent = record {
      session = session;
      over = over;
      next = record { few = can.few; left = can.numbered; number = ap (λ (r : Request). r.id) is };
      room = room;
      made = asking _ _ (inr (
        λ none. none (block, can),
        inr (
          (λ filled. absurd (cc)),
          (block, can, (let whole = sent ∙ ap messages.Request is in λ i. record { peer = with_session peer other (with_request session (is i)); deed = sending (whole i) }, refl)),
        ),
      ));
    }
