-- What a device does in its session over a link that is up, and with the message that waits; and what loses the link.
use Rattle.std.proofs.Common.{◌≡◌, true, false, List, Option, Some, None, IsSome, refl, sym, ap, subst, ◌∙◌, inl, inr, ⊎_elim, ℕ}
use Rattle.std.proofs.lemmas.Option.{same_Some}
use Rattle.std.specs.FinMap.{get}
use Rattle.bep_index.specs.declared.send.Plan.{Plan}
use Rattle.bep_index.specs.View.{IsOld}
use Rattle.bep_model.specs.Tables.{Device, Folder}
use Rattle.bep_machine.specs.declared.message.Message.{Message}
use Rattle.bep_machine.specs.declared.message.Message.TheVariants as messages
use Rattle.bep_machine.specs.declared.message.Announced.{Announced}
use Rattle.bep_machine.specs.declared.moved.Moved.TheVariants.{LinkLost}
use Rattle.bep_machine.specs.Answer.{Answer, Done, Row, when◌then◌else◌}
use Rattle.bep_machine.specs.Replica.{Replica, view_of}
use Rattle.bep_machine.specs.Link.{Sight, losing}
use Rattle.bep_machine.specs.Peer.{Session, Peer, Acted}
use Rattle.bep_machine.specs.Exchange.{IsInSession, SessionRow, LosingRow, IsNamed, IsGoodConfig, MessageRow, WaitingRow, DeliverRow}
use Rattle.bep_machine.proofs.GapNamed.{shared_at}
use Rattle.bep_machine.specs.LinkEffects.{IsTaking, LosesLink, UnnamedLosesLink, SecondConfigLosesLink, UnsharedLosesLink, OldUpdateLosesLink}

-- ---- a row in a session

module _ (other : Device) (sight : Sight) (old : Peer) (session : Session) (up : sight.up ≡ true) (is : IsInSession other sight old session) where
  pub in_session : (rest : Session → Row Acted) (new : Acted) (answer : Answer) → rest session new answer → SessionRow other sight old rest new answer
  in_session rest new answer made =
      inr ((λ down. let never : true ≡ false = sym up ∙ down in absurd (cc)), inr ((λ none. none (session, is)), (session, is, made)))

  only_in_session : (rest : Session → Row Acted) (new : Acted) (answer : Answer) → SessionRow other sight old rest new answer → rest session new answer
  only_in_session rest new answer (inl down) = let never : true ≡ false = sym up ∙ down.0 in absurd (cc)
  only_in_session rest new answer (inr (is_up, inl none)) = absurd (none.0 (session, is))
  only_in_session rest new answer (inr (is_up, inr (has, made))) = subst (λ (s : Session). rest s new answer) (same_Some made.0 session (sym made.1.0 ∙ is.0)) made.2

module _ (other : Device) (failed : Option ℕ) (sight : Sight) (old : Peer) (session : Session) (message : Message) (taking : IsTaking other sight old session message) where
  -- what the message makes is what the delivery makes
  pub delivers : (new : Acted) (answer : Answer) → MessageRow other failed sight.full session message old new answer → DeliverRow other failed sight old new answer
  delivers new answer made =
      in_session other sight old session taking.up taking.current (λ one. WaitingRow other failed sight.full one sight.waiting old) new answer
      (subst (λ (first : Option Message). WaitingRow other failed sight.full session first old new answer) (sym taking.waiting) made)

  pub only_delivers : (new : Acted) (answer : Answer) → DeliverRow other failed sight old new answer → MessageRow other failed sight.full session message old new answer
  only_delivers new answer made =
      subst (λ (first : Option Message). WaitingRow other failed sight.full session first old new answer) taking.waiting
      (only_in_session other sight old session taking.up taking.current (λ one. WaitingRow other failed sight.full one sight.waiting old) new answer made)

  loses_when_taken : LosesLink old (MessageRow other failed sight.full session message old) → LosesLink old (DeliverRow other failed sight old)
  loses_when_taken loses = record {
    acted = loses.acted;
    made = delivers loses.acted (Done LinkLost) loses.made;
    only = λ new answer made. loses.only new answer (only_delivers new answer made);
  }

-- ---- the link is lost

ends_lost : (old : Peer) (new : Acted) (answer : Answer) → LosingRow old new answer → (answer ≡ Done LinkLost) × (new.deed.loses ≡ true) × (new.peer ≡ old)
ends_lost old new answer lost = (lost.1, ap (λ (a : Acted). a.deed.loses) lost.0, ap (λ (a : Acted). a.peer) lost.0)

-- where the condition of the row doesn't hold
loses_unless : (old : Peer) (Holds : Type 0) (row : Row Acted) → ¬ Holds → LosesLink old (when Holds then row else LosingRow old)
loses_unless old Holds row not = record {
  acted = record { peer = old; deed = losing };
  made = inr (not, (refl, refl));
  only = λ new answer made. ⊎_elim (λ holds. absurd (not holds.0)) (λ lost. ends_lost old new answer lost.1) made;
}

pub not_named : (session : Session) (folder named : Folder) → named ≡ folder → get session.cursors folder ≡ None → ¬ IsNamed session named
not_named session folder named same none has = let found = ap (get session.cursors) same ∙ none in let some = has in absurd (cc)

pub unnamed_loses_link : UnnamedLosesLink
unnamed_loses_link other failed sight old session (messages.Index named batch) folder taking about none =
    loses_when_taken other failed sight old session (messages.Index named batch) taking (loses_unless old (IsNamed session named) _ (not_named session folder named about none))
unnamed_loses_link other failed sight old session (messages.IndexUpdate named batch) folder taking about none =
    loses_when_taken other failed sight old session (messages.IndexUpdate named batch) taking (loses_unless old (IsNamed session named) _ (not_named session folder named about none))
unnamed_loses_link other failed sight old session (messages.Request request) folder taking about none =
    loses_when_taken other failed sight old session (messages.Request request) taking (loses_unless old (IsNamed session request.folder) _ (not_named session folder request.folder about none))
unnamed_loses_link other failed sight old session (messages.ClusterConfig named) folder taking about none = absurd about
unnamed_loses_link other failed sight old session (messages.Response response) folder taking about none = absurd about

-- ---- ClusterConfigs

pub bad_config_loses : (other : Device) (failed : Option ℕ) (sight : Sight) (old : Peer) (session : Session) (named : List Announced) → IsTaking other sight old session (messages.ClusterConfig named) → ¬ IsGoodConfig other session old named → LosesLink old (DeliverRow other failed sight old)
bad_config_loses other failed sight old session named taking bad =
    loses_when_taken other failed sight old session (messages.ClusterConfig named) taking (loses_unless old (IsGoodConfig other session old named) _ bad)

pub second_config_loses_link : SecondConfigLosesLink
second_config_loses_link other failed sight old session named taking configured =
    bad_config_loses other failed sight old session named taking (λ good. let never : true ≡ false = sym configured ∙ good.first in absurd (cc))

pub unshared_loses_link : UnsharedLosesLink
unshared_loses_link other failed sight old session named one taking stands unshared =
    bad_config_loses other failed sight old session named taking (λ good. unshared (shared_at other old named one stands good.shared))

-- ---- updates

pub old_update_loses_link : OldUpdateLosesLink
old_update_loses_link other failed sight old session folder batch replica taking there is_old =
    loses_when_taken other failed sight old session (messages.IndexUpdate folder batch) taking
    (record { acted = record { peer = old; deed = losing }; made = by_cursor (get session.cursors folder) refl; only = only })
  where
    by_cursor : (cursor : Option Plan) → get session.cursors folder ≡ cursor → MessageRow other failed sight.full session (messages.IndexUpdate folder batch) old (record { peer = old; deed = losing }) (Done LinkLost)
    by_cursor None is = inr (not_named session folder folder refl is, (refl, refl))
    by_cursor (Some cursor) is = inl (subst IsSome (sym is) refl, (replica, there, inl (is_old, (refl, refl))))

    only : (new : Acted) (answer : Answer) → MessageRow other failed sight.full session (messages.IndexUpdate folder batch) old new answer → (answer ≡ Done LinkLost) × (new.deed.loses ≡ true) × (new.peer ≡ old)
    only new answer (inl (named, (found, is, inl lost))) = ends_lost old new answer lost.1
    only new answer (inl (named, (found, is, inr fresh))) =
        absurd (fresh.0 (subst (λ (r : Replica). IsOld (view_of r other).sequence batch) (same_Some replica found (sym there ∙ is)) is_old))
    only new answer (inr lost) = ends_lost old new answer lost.1
