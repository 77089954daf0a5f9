-- What a device does in its session over a link that is up, and with the message that waits.
use Rattle.std.proofs.Common.{◌≡◌, ◌∙◌, ℕ, true, false, List, Option, Some, None, refl, sym, ap, subst, inl, inr}
use Rattle.std.proofs.lemmas.Option.{same_Some, none-some}
use Rattle.std.specs.FinMap.{get}
use Rattle.bep_model.specs.Tables.{Device}
use Rattle.bep_machine.specs.declared.message.Message.{Message}
use Rattle.bep_machine.specs.declared.message.Message.TheVariants as messages
use Rattle.bep_machine.specs.declared.message.Announced.{Announced}
use Rattle.bep_machine.specs.declared.moved.Moved.TheVariants.{Changed}
use Rattle.bep_machine.specs.Answer.{Answer, Done, Row}
use Rattle.bep_machine.specs.Link.{Sight, sending}
use Rattle.bep_machine.specs.Peer.{Session, Peer, Acted, new_session, with_session, config_for}
use Rattle.bep_machine.specs.Exchange.{IsInSession, SessionRow, MessageRow, WaitingRow, DeliverRow, BeginRow, IsGoodConfig, configured_by, taken_by}
use Rattle.bep_machine.specs.LinkEffects.{IsTaking, BeginOpens, IsConfigFor}

module _ (other : Device) (sight : Sight) (old : Peer) (session : Session) (up : sight.up ≡ true) (is : IsInSession other sight old session) where
  pub in_session : (rest : Session → Row Acted) (new : Acted) (answer : Answer) → rest session new answer → SessionRow other sight old rest new answer
  in_session rest new answer made =
      inr ((λ down. let never : true ≡ false = sym up ∙ down in absurd (cc)), inr ((λ none. none (session, is)), (session, is, made)))

  only_in_session : (rest : Session → Row Acted) (new : Acted) (answer : Answer) → SessionRow other sight old rest new answer → rest session new answer
  only_in_session rest new answer (inl down) = let never : true ≡ false = sym up ∙ down.0 in absurd (cc)
  only_in_session rest new answer (inr (is_up, inl none)) = absurd (none.0 (session, is))
  only_in_session rest new answer (inr (is_up, inr (has, made))) = subst (λ (s : Session). rest s new answer) (same_Some made.0 session (sym made.1.0 ∙ is.0)) made.2

module _ (other : Device) (failed : Option ℕ) (sight : Sight) (old : Peer) (session : Session) (message : Message) (taking : IsTaking other sight old session message) where
  -- what the message makes is what the delivery makes
  pub delivers : (new : Acted) (answer : Answer) → MessageRow other failed sight.full session message old new answer → DeliverRow other failed sight old new answer
  delivers new answer made =
      in_session other sight old session taking.up taking.current (λ one. WaitingRow other failed sight.full one sight.waiting old) new answer
      (subst (λ (first : Option Message). WaitingRow other failed sight.full session first old new answer) (sym taking.waiting) made)

  pub only_delivers : (new : Acted) (answer : Answer) → DeliverRow other failed sight old new answer → MessageRow other failed sight.full session message old new answer
  only_delivers new answer made =
      subst (λ (first : Option Message). WaitingRow other failed sight.full session first old new answer) taking.waiting
      (only_in_session other sight old session taking.up taking.current (λ one. WaitingRow other failed sight.full one sight.waiting old) new answer made)

-- a good ClusterConfig makes this of a device, and nothing else
pub config_makes : (other : Device) (failed : Option ℕ) (sight : Sight) (old : Peer) (session : Session) (named : List Announced) (new : Acted) (answer : Answer) →
    IsTaking other sight old session (messages.ClusterConfig named) → IsGoodConfig other session old named → DeliverRow other failed sight old new answer →
    new ≡ taken_by (configured_by other session named old)
config_makes other failed sight old session named new answer taking good made = cases (only_delivers other failed sight old session (messages.ClusterConfig named) taking new answer made)
  where
    cases : MessageRow other failed sight.full session (messages.ClusterConfig named) old new answer → new ≡ taken_by (configured_by other session named old)
    cases (inl taken) = taken.1.0
    cases (inr bad) = absurd (bad.0 good)

-- ---- a session begins

pub begins : (other : Device) (sight : Sight) (old : Peer) → sight.up ≡ true → sight.full ≡ false → get old.sessions other ≡ None →
    BeginRow other sight old (record { peer = with_session old other (new_session sight.epoch); deed = sending (messages.ClusterConfig (config_for other old)) }) (Done Changed)
begins other sight old up room none =
    inr (
      (λ down. let never : true ≡ false = sym up ∙ down in absurd (cc)),
      inr (
        (λ has. none-some has.0 (sym none ∙ has.1.0)),
        inr (
          (λ full. let never : true ≡ false = sym full ∙ room in absurd (cc)),
          (refl, refl),
        ),
      ),
    )

begin_says : (other : Device) (sight : Sight) (old : Peer) (new : Acted) (named : List Announced) → BeginRow other sight old new (Done Changed) → new.deed.sends ≡ Some (messages.ClusterConfig named) → named ≡ config_for other old
begin_says other sight old new named (inl down) says = let wrong = down.1.1 in absurd (cc)
begin_says other sight old new named (inr (up, inl has)) says = let wrong = has.1.1 in absurd (cc)
begin_says other sight old new named (inr (up, inr (none, inl full))) says = let wrong = full.1.1 in absurd (cc)
begin_says other sight old new named (inr (up, inr (none, inr (room, made)))) says =
    let sends : new.deed.sends ≡ Some (messages.ClusterConfig (config_for other old)) = ap (λ (a : Acted). a.deed.sends) made.0 in cc

-- what its ClusterConfig tells
pub config_tells : BeginOpens → (other : Device) (old : Peer) → get old.sessions other ≡ None → IsConfigFor other old (config_for other old)
config_tells opens other old none =
    let sight : Sight = record { up = true; epoch = 0; waiting = None; full = false } in
    let opened = opens other sight old (record { up = refl; room = refl }) (λ has. none-some has.0 (sym none ∙ has.1.0)) in
    subst (IsConfigFor other old) (begin_says other sight old opened.0 opened.2 opened.3 opened.7) opened.6
