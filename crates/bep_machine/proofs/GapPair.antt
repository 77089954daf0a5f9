-- What an action of one device over a link keeps of each folder that it exchanges with the other one.
use Rattle.std.proofs.Common.{◌≡◌, ◌≢◌, ◌≤◌, ◌==◌, ℕ, Bool, true, false, if◌then◌else◌, List, [], Option, Some, None, IsSome, refl, sym, ap, subst, ◌∙◌, inl, inr, arith}
use Rattle.std.specs.Bool.{⊤}
use Rattle.std.proofs.lemmas.Bool.Decides.{nat_tests}
use Rattle.std.specs.FinMap.{get}
use Rattle.bep_index.specs.declared.send.Plan.{Plan}
use Rattle.bep_index.specs.Listing.{Listing}
use Rattle.bep_index.specs.Index.{IsIndex}
use Rattle.bep_model.specs.Tables.{Device, Folder}
use Rattle.bep_machine.specs.declared.message.Message.{Message}
use Rattle.bep_machine.specs.Answer.{Answer, Row}
use Rattle.bep_machine.specs.Replica.{Replica, view_of}
use Rattle.bep_machine.specs.Link.{Deed, losing, first_of_queue, after_taking, after_sending}
use Rattle.bep_machine.specs.Peer.{Session, Peer, Acted, idle}
use Rattle.bep_machine.specs.Exchange.{SessionRow}
use Rattle.bep_machine.specs.Gapless.{HasNoGap}
use Rattle.bep_machine.proofs.GapFlow.{IsInStep}

-- the cursor of a folder in a session, if it is of this epoch
abbrev pub cursor_at : ℕ → Folder → Option Session → Option Plan
cursor_at epoch folder None = None
cursor_at epoch folder (Some session) = if session.epoch == epoch then get session.cursors folder else None

-- One folder, from a sender to a receiver: the view is of no later index, it doesn't get ahead of the index, and while the
-- link is up the two are in step. The sender's cursor and the receiver's are those of the sessions of this epoch.
pub record IsBetween (folder : Folder) (up : Bool) (index view : Listing) (cursor named : Option Plan) (queue back : List Message) : Type 0 where
  pub earlier : view.id ≤ index.id
  pub keeps_up : view.id ≡ index.id → HasNoGap index view
  pub in_step : up ≡ true → IsInStep folder index view cursor (IsSome named) queue back

pub between_in_step : (folder : Folder) (up : Bool) (index view : Listing) (cursor named : Option Plan) (queue back : List Message) → IsInStep folder index view cursor (IsSome named) queue back → IsBetween folder up index view cursor named queue back
between_in_step folder up index view cursor named queue back step = record { earlier = step.earlier; keeps_up = step.keeps_up; in_step = λ _. step }

pub between_down : (folder : Folder) (index view : Listing) (cursor named : Option Plan) (queue back : List Message) → view.id ≤ index.id → (view.id ≡ index.id → HasNoGap index view) → IsBetween folder false index view cursor named queue back
between_down folder index view cursor named queue back earlier keeps = record { earlier = earlier; keeps_up = keeps; in_step = λ up. absurd (cc) }

-- ---- the link after a deed

abbrev pub up_after : Deed → Bool → Bool
up_after deed up = if deed.loses then false else up

abbrev pub queue_after : Deed → List Message → List Message
queue_after deed queue = if deed.loses then [] else after_taking deed.takes queue

abbrev pub back_after : Deed → List Message → List Message
back_after deed back = if deed.loses then [] else after_sending deed.sends back

-- ---- what an action keeps

-- of a folder: its device's index, its views of third ones, and what is between it and the other device, whichever
-- sends
pub record KeepsFolder (folder : Folder) (other : Device) (up : Bool) (queue back : List Message) (deed : Deed) (mine now : Option Plan) (before after : Replica) : Type 0 where
  pub same_index : after.index ≡ before.index
  pub views : (third : Device) → third ≢ other → view_of after third ≡ view_of before third
  pub receives : (index : Listing) (theirs : Option Plan) → IsIndex index → IsBetween folder up index (view_of before other) theirs mine queue back →
      IsBetween folder (up_after deed up) index (view_of after other) theirs now (queue_after deed queue) (back_after deed back)
  pub sends : (view : Listing) (theirs : Option Plan) → IsBetween folder up before.index view mine theirs back queue →
      IsBetween folder (up_after deed up) before.index view now theirs (back_after deed back) (queue_after deed queue)

-- the same folders are there, and of each this holds
abbrev pub OfBoth : (Replica → Replica → Type 0) → Option Replica → Option Replica → Type 0
OfBoth Keeps None None = ⊤
OfBoth Keeps (Some before) (Some after) = Keeps before after
OfBoth Keeps _ _ = ⊥

pub of_same : (Keeps : Replica → Replica → Type 0) (found : Option Replica) → ((replica : Replica) → found ≡ Some replica → Keeps replica replica) → OfBoth Keeps found found
of_same Keeps None each = tt
of_same Keeps (Some replica) each = each replica refl

abbrev pub IsOfEpoch : ℕ → Option Session → Type 0
IsOfEpoch epoch None = ⊤
IsOfEpoch epoch (Some session) = session.epoch ≤ epoch

pub record KeepsExchange (other : Device) (up : Bool) (epoch : ℕ) (queue back : List Message) (old : Peer) (acted : Acted) : Type 0 where
  pub folders : (folder : Folder) →
      OfBoth (KeepsFolder folder other up queue back acted.deed (cursor_at epoch folder (get old.sessions other)) (cursor_at epoch folder (get acted.peer.sessions other)))
      (get old.replicas folder) (get acted.peer.replicas folder)
  pub sessions : (third : Device) → third ≢ other → get acted.peer.sessions third ≡ get old.sessions third
  pub epochs : IsOfEpoch epoch (get old.sessions other) → IsOfEpoch epoch (get acted.peer.sessions other)

-- ---- a session of the epoch

pub cursor_in_session : (epoch : ℕ) (folder : Folder) (session : Session) → session.epoch ≡ epoch → cursor_at epoch folder (Some session) ≡ get session.cursors folder
cursor_in_session epoch folder session same = by_test (session.epoch == epoch) refl
  where
    by_test : (b : Bool) → (session.epoch == epoch) ≡ b → (if b then get session.cursors folder else None) ≡ get session.cursors folder
    by_test true e = refl
    by_test false e = absurd (grind (arith, nat_tests))

pub cursor_of_another : (epoch : ℕ) (folder : Folder) (found : Option Session) → ((session : Session) → found ≡ Some session → session.epoch ≢ epoch) → cursor_at epoch folder found ≡ None
cursor_of_another epoch folder None apart = refl
cursor_of_another epoch folder (Some session) apart = by_test (session.epoch == epoch) refl
  where
    by_test : (b : Bool) → (session.epoch == epoch) ≡ b → (if b then get session.cursors folder else None) ≡ None
    by_test true e = absurd (apart session refl (grind (arith, nat_tests)))
    by_test false e = refl

pub is_up : (up : Bool) → ¬ (up ≡ false) → up ≡ true
is_up true up = refl
is_up false up = absurd (up refl)

-- ---- actions that do nothing, or lose the link

module _ (other : Device) (up : Bool) (epoch : ℕ) (queue back : List Message) (old : Peer) where
  pub idle_keeps : KeepsExchange other up epoch queue back old (idle old)
  idle_keeps = record {
    folders = λ folder. of_same _ (get old.replicas folder) (λ replica here. record {
      same_index = refl;
      views = λ third apart. refl;
      receives = λ index theirs is_index between. between;
      sends = λ view theirs between. between;
    });
    sessions = λ third apart. refl;
    epochs = λ is. is;
  }

  pub losing_keeps : KeepsExchange other up epoch queue back old (record { peer = old; deed = losing })
  losing_keeps = record {
    folders = λ folder. of_same _ (get old.replicas folder) (λ replica here. record {
      same_index = refl;
      views = λ third apart. refl;
      receives = λ index theirs is_index between. between_down folder index (view_of replica other) theirs _ [] [] between.earlier between.keeps_up;
      sends = λ view theirs between. between_down folder replica.index view _ theirs [] [] between.earlier between.keeps_up;
    });
    sessions = λ third apart. refl;
    epochs = λ is. is;
  }

  -- what is done in a session over a link that is up
  pub session_keeps : (full : Bool) (rest : Session → Row Acted) (acted : Acted) (answer : Answer) →
      ((session : Session) → up ≡ true → get old.sessions other ≡ Some session → session.epoch ≡ epoch → rest session acted answer → KeepsExchange other up epoch queue back old acted) →
      SessionRow other (record { up = up; epoch = epoch; waiting = first_of_queue queue; full = full }) old rest acted answer → KeepsExchange other up epoch queue back old acted
  session_keeps full rest acted answer on (inl down) = subst (KeepsExchange other up epoch queue back old) (sym down.1.0) idle_keeps
  session_keeps full rest acted answer on (inr (is, inl none)) = subst (KeepsExchange other up epoch queue back old) (sym none.1.0) idle_keeps
  session_keeps full rest acted answer on (inr (is, inr (has, made))) = on made.0 (is_up up is) made.1.0 made.1.1 made.2

  -- the peer after an action in its session: of each folder that both share, what is between them
  pub in_session_keeps : (acted : Acted) (session next : Session) → get old.sessions other ≡ Some session → session.epoch ≡ epoch → get acted.peer.sessions other ≡ Some next → next.epoch ≡ epoch →
      ((third : Device) → third ≢ other → get acted.peer.sessions third ≡ get old.sessions third) →
      ((folder : Folder) → OfBoth (KeepsFolder folder other up queue back acted.deed (get session.cursors folder) (get next.cursors folder)) (get old.replicas folder) (get acted.peer.replicas folder)) →
      KeepsExchange other up epoch queue back old acted
  in_session_keeps acted session next has current later still thirds each = record {
    folders = λ folder.
        subst (λ (now : Option Plan). OfBoth (KeepsFolder folder other up queue back acted.deed (cursor_at epoch folder (get old.sessions other)) now) (get old.replicas folder) (get acted.peer.replicas folder))
        (sym (ap (cursor_at epoch folder) later ∙ cursor_in_session epoch folder next still))
        (subst (λ (mine : Option Plan). OfBoth (KeepsFolder folder other up queue back acted.deed mine (get next.cursors folder)) (get old.replicas folder) (get acted.peer.replicas folder))
        (sym (ap (cursor_at epoch folder) has ∙ cursor_in_session epoch folder session current))
        (each folder));
    sessions = thirds;
    epochs = λ _. subst (IsOfEpoch epoch) (sym later) (omega (arith, still));
  }

-- ---- an action over a link that is up, folder by folder

-- it takes or sends a message, and keeps the two in step
pub steps_keep_folder : (folder : Folder) (other : Device) (up : Bool) (queue back : List Message) (takes : Bool) (sends : Option Message) (mine now : Option Plan) (before after : Replica) →
    up ≡ true → after.index ≡ before.index → ((third : Device) → third ≢ other → view_of after third ≡ view_of before third) →
    ((index : Listing) (theirs : Option Plan) → IsIndex index → IsInStep folder index (view_of before other) theirs (IsSome mine) queue back → IsInStep folder index (view_of after other) theirs (IsSome now) (after_taking takes queue) (after_sending sends back)) →
    ((view : Listing) (theirs : Option Plan) → IsInStep folder before.index view mine (IsSome theirs) back queue → IsInStep folder before.index view now (IsSome theirs) (after_sending sends back) (after_taking takes queue)) →
    KeepsFolder folder other up queue back (record { takes = takes; sends = sends; loses = false }) mine now before after
steps_keep_folder folder other up queue back takes sends mine now before after is_up same thirds receives sends_too = record {
  same_index = same;
  views = thirds;
  receives = λ index theirs is_index between. between_in_step folder up index (view_of after other) theirs now _ _ (receives index theirs is_index (between.in_step is_up));
  sends = λ view theirs between. between_in_step folder up before.index view now theirs _ _ (sends_too view theirs (between.in_step is_up));
}
