-- Rows that refuse nothing, from part to part.
use Rattle.std.proofs.Common.{◌≡◌, ◌<◌, ℕ, Bor, Bool, false, List, Option, Some, None, Result, Ok, Err, refl, sym, ap, subst, ◌∙◌, inl, inr}
use Rattle.std.specs.FinMap.{empty, get, len}
use Rattle.std.proofs.lemmas.Option.{same_Some}
use Rattle.bep_map.specs.NameMap.{ByName}
use Rattle.bep_record.specs.declared.block.Block.{Block}
use Rattle.bep_record.specs.declared.entry.Entry.{Entry}
use Rattle.bep_index.specs.declared.limits.TheConstants.{MAX_NAMES, MAX_RECORDS}
use Rattle.bep_index.specs.declared.send.Plan.{Plan}
use Rattle.bep_index.specs.After.{IsAfter}
use Rattle.bep_index.specs.Batch.{with_all}
use Rattle.bep_index.specs.Listing.{Listing}
use Rattle.bep_index.specs.View.{IsOld, amended}
use Rattle.bep_model.specs.Tables.{Device, Folder, FileName}
use Rattle.bep_machine.specs.declared.message.Announced.{Announced}
use Rattle.bep_machine.specs.declared.message.Message.{Message}
use Rattle.bep_machine.specs.declared.message.Message.TheVariants as messages
use Rattle.bep_machine.specs.declared.message.Request.{Request}
use Rattle.bep_machine.specs.declared.message.Response.{Response}
use Rattle.bep_machine.specs.declared.moved.Moved.{Moved}
use Rattle.bep_machine.specs.declared.refusal.Refusal.TheVariants.{NotShared}
use Rattle.bep_machine.specs.Answer.{Refused, Row}
use Rattle.bep_machine.specs.Exchange.{AnnounceRow, AnsweredRow, AskRow, AskedRow, AskingRow, BeginRow, CanAsk, CursorRow, DeliverRow, IsAllSent, IsNamed, MessageRow, ReplicaRow, SendingRow, SessionRow, WaitingRow, asked_for, sent_up_to}
use Rattle.bep_machine.specs.Link.{End, Sight, end_of, sight_of}
use Rattle.bep_machine.specs.Peer.{Acted, Peer, Session}
use Rattle.bep_machine.specs.Pull.{StartPullRow}
use Rattle.bep_machine.specs.Replica.{Replica, view_of}
use Rattle.bep_folder.specs.declared.error.FolderError.{FolderError}
use Rattle.bep_folder.specs.declared.error.FolderError.TheVariants as folder_errors
use Rattle.bep_folder.specs.Held.{Held}
use Rattle.bep_folder.specs.Unhidden.{RefusesNone}
use Rattle.bep_peer.specs.declared.taking.effect.Effect.{Effect}
use Rattle.bep_peer.specs.declared.error.PeerError.{PeerError}
use Rattle.bep_peer.specs.declared.error.PeerError.TheVariants as errors
use Rattle.bep_peer.specs.declared.within.steps.Step.TheVariants.{Pull}
use Rattle.bep_peer.specs.inner.Call.{AnswersAt, IsStepped}
use Rattle.bep_peer.specs.inner.InSession.{IsOver}
use Rattle.bep_peer.specs.Lent.{IsOpenTo, Joins, Lent, NamesNone}
use Rattle.bep_peer.specs.Member.{Member, tables_of, untold}
use Rattle.bep_peer.specs.Unhidden.{GoesOn, IsUnrefused, IsUnrefusedWithin}
use Rattle.bep_peer.specs.inner.Index.{HasTooMany, TakesInView}
use Rattle.bep_peer.specs.Within.{answer_of, error_of}
use Rattle.bep_peer.proofs.StepFacts.{begun_with}

-- ---- in a session, and in a folder

in_session : (other : Device) (sight : Sight) (peer : Peer) (rest : Session → Row Acted) (session : Session) → IsOver other sight peer session → RefusesNone (rest session) → RefusesNone (SessionRow other sight peer rest)
in_session other sight peer rest session over none new refusal (inl down) = let up = over.up in let is = down.0 in absurd (cc)
in_session other sight peer rest session over none new refusal (inr (up, inl unbegun)) = unbegun.0 (session, over.current)
in_session other sight peer rest session over none new refusal (inr (up, inr (begun, (one, current, made)))) =
    none new refusal (subst (λ (s : Session). rest s new (Refused refusal)) (same_Some one session (sym current.0 ∙ over.current.0)) made)

in_folder : (folder : Folder) (peer : Peer) (rest : Replica → Row Acted) (replica : Replica) → get peer.replicas folder ≡ Some replica → RefusesNone (rest replica) → RefusesNone (ReplicaRow folder peer rest)
in_folder folder peer rest replica has none new refusal (one, is, made) =
    none new refusal (subst (λ (r : Replica). rest r new (Refused refusal)) (same_Some one replica (sym is ∙ has)) made)

-- ---- begin

pub begin_unrefused : (other : Device) (sight : Sight) (peer : Peer) → IsOpenTo other sight peer → RefusesNone (BeginRow other sight peer)
begin_unrefused other sight peer may new refusal (inl down) = let up = may.up in let is = down.0 in absurd (cc)
begin_unrefused other sight peer may new refusal (inr (up, inl begun)) = may.fresh begun.0
begin_unrefused other sight peer may new refusal (inr (up, inr (fresh, inl full))) = let room = may.room in let is = full.0 in absurd (cc)
begin_unrefused other sight peer may new refusal (inr (up, inr (fresh, inr (room, made)))) = let answer = made.1 in absurd (cc)

-- ---- announce

sending : (other : Device) (folder : Folder) (full : Bool) (session : Session) (cursor : Plan) (peer : Peer) (replica : Replica) → full ≡ false →
    ((batch : List Entry) → IsAfter replica.index.records (sent_up_to cursor) MAX_RECORDS batch → ¬ IsAllSent cursor batch) → RefusesNone (SendingRow other folder full session cursor peer replica)
sending other folder full session cursor peer replica room left new refusal (batch, after, inl sent) = left batch after sent.0
sending other folder full session cursor peer replica room left new refusal (batch, after, inr (more, inl filled)) = let is = filled.0 in absurd (cc)
sending other folder full session cursor peer replica room left new refusal (batch, after, inr (more, inr (free, made))) = let answer = made.1 in absurd (cc)

pub sending_unrefused : (other : Device) (folder : Folder) (full : Bool) (session : Session) (cursor : Plan) (peer : Peer) (replica : Replica) → get peer.replicas folder ≡ Some replica → full ≡ false →
    ((batch : List Entry) → IsAfter replica.index.records (sent_up_to cursor) MAX_RECORDS batch → ¬ IsAllSent cursor batch) → RefusesNone (ReplicaRow folder peer (SendingRow other folder full session cursor peer))
sending_unrefused other folder full session cursor peer replica has room left =
    in_folder folder peer (SendingRow other folder full session cursor peer) replica has (sending other folder full session cursor peer replica room left)

pub announce_unrefused : (other : Device) (folder : Folder) (sight : Sight) (peer : Peer) (session : Session) (cursor : Plan) → IsOver other sight peer session → get session.cursors folder ≡ Some cursor →
    RefusesNone (ReplicaRow folder peer (SendingRow other folder sight.full session cursor peer)) → RefusesNone (AnnounceRow other folder sight peer)
announce_unrefused other folder sight peer session cursor over named none =
    in_session other sight peer (λ s. CursorRow other folder sight.full s (get s.cursors folder) peer) session over
    (subst (λ (found : Option Plan). RefusesNone (CursorRow other folder sight.full session found peer)) (sym named) none)

-- ---- ask

asking : (other : Device) (folder : Folder) (name : FileName) (full : Bool) (session : Session) (peer : Peer) (replica : Replica) (block : Block) → full ≡ false → CanAsk other folder name session replica block →
    RefusesNone (AskingRow other folder name full session peer replica)
asking other folder name full session peer replica block room can new refusal (inl none) = none.0 (block, can)
asking other folder name full session peer replica block room can new refusal (inr (some, inl filled)) = let is = filled.0 in absurd (cc)
asking other folder name full session peer replica block room can new refusal (inr (some, inr (free, (one, ask, made)))) = let answer = made.1 in absurd (cc)

pub ask_unrefused : (other : Device) (folder : Folder) (name : FileName) (sight : Sight) (peer : Peer) (session : Session) (replica : Replica) (block : Block) → IsOver other sight peer session → get peer.replicas folder ≡ Some replica →
    sight.full ≡ false → CanAsk other folder name session replica block → RefusesNone (AskRow other folder name sight peer)
ask_unrefused other folder name sight peer session replica block over has room can =
    in_session other sight peer (λ s. ReplicaRow folder peer (AskingRow other folder name sight.full s peer)) session over
    (in_folder folder peer (AskingRow other folder name sight.full session peer) replica has (asking other folder name sight.full session peer replica block room can))

-- ---- taking a message

module _ (other : Device) (failed : Option ℕ) (full : Bool) (session : Session) (peer : Peer) where
  abbrev Unrefused : Message → Type 0
  Unrefused message = RefusesNone (MessageRow other failed full session message peer)

  pub config_unrefused : (named : List Announced) → Unrefused (messages.ClusterConfig named)
  config_unrefused named new refusal (inl made) = let answer = made.1.1 in absurd (cc)
  config_unrefused named new refusal (inr made) = let answer = made.1.1 in absurd (cc)

  pub response_unrefused : (response : Response) → Unrefused (messages.Response response)
  response_unrefused response = cases (asked_for response.id session.outstanding) refl
    where
      cases : (found : Option Request) → asked_for response.id session.outstanding ≡ found → Unrefused (messages.Response response)
      cases None is new refusal made = let answer = (subst (λ (r : Option Request). AskedRow other session response r peer new (Refused refusal)) is made).1 in absurd (cc)
      cases (Some request) is new refusal made = of_request request new refusal (subst (λ (r : Option Request). AskedRow other session response r peer new (Refused refusal)) is made)
        where
          of_request : (request : Request) → RefusesNone (AnsweredRow other session response request peer)
          of_request request new refusal (inl right) = let answer = right.1.1 in absurd (cc)
          of_request request new refusal (inr wrong) = let answer = wrong.1.1 in absurd (cc)

  -- a folder that the session doesn't name loses the link
  pub index_lost : (folder : Folder) (batch : List Entry) → ¬ IsNamed session folder → Unrefused (messages.Index folder batch)
  index_lost folder batch not new refusal (inl made) = not made.0
  index_lost folder batch not new refusal (inr made) = let answer = made.1.1 in absurd (cc)

  pub update_lost : (folder : Folder) (batch : List Entry) → ¬ IsNamed session folder → Unrefused (messages.IndexUpdate folder batch)
  update_lost folder batch not new refusal (inl made) = not made.0
  update_lost folder batch not new refusal (inr made) = let answer = made.1.1 in absurd (cc)

  pub request_lost : (request : Request) → ¬ IsNamed session request.folder → Unrefused (messages.Request request)
  request_lost request not new refusal (inl made) = not made.0
  request_lost request not new refusal (inr made) = let answer = made.1.1 in absurd (cc)

  pub index_unrefused : (folder : Folder) (batch : List Entry) → ¬ (MAX_NAMES < len (with_all empty batch)) → Unrefused (messages.Index folder batch)
  index_unrefused folder batch few new refusal (inl (named, (one, is, inl many))) = few many.0
  index_unrefused folder batch few new refusal (inl (named, (one, is, inr (room, made)))) = let answer = made.1 in absurd (cc)
  index_unrefused folder batch few new refusal (inr made) = let answer = made.1.1 in absurd (cc)

  pub update_unrefused : (folder : Folder) (batch : List Entry) (replica : Replica) → get peer.replicas folder ≡ Some replica → ((¬ IsOld (view_of replica other).sequence batch) → ¬ HasTooMany (amended (view_of replica other) batch)) →
      Unrefused (messages.IndexUpdate folder batch)
  update_unrefused folder batch replica has few new refusal (inl (named, (one, is, inl old))) = let answer = old.1.1 in absurd (cc)
  update_unrefused folder batch replica has few new refusal (inl (named, (one, is, inr (fresh, inl many)))) =
      subst (λ (r : Replica). (¬ IsOld (view_of r other).sequence batch) → ¬ HasTooMany (amended (view_of r other) batch)) (same_Some replica one (sym has ∙ is)) few fresh many.0
  update_unrefused folder batch replica has few new refusal (inl (named, (one, is, inr (fresh, inr (room, made))))) = let answer = made.1 in absurd (cc)
  update_unrefused folder batch replica has few new refusal (inr made) = let answer = made.1.1 in absurd (cc)

  pub request_unrefused : (request : Request) → full ≡ false → Unrefused (messages.Request request)
  request_unrefused request room new refusal (inl (named, (replica, has, inl filled))) = let is = filled.0 in absurd (cc)
  request_unrefused request room new refusal (inl (named, (replica, has, inr (free, (response, said, made))))) = let answer = made.1 in absurd (cc)
  request_unrefused request room new refusal (inr made) = let answer = made.1.1 in absurd (cc)

pub deliver_unrefused : (other : Device) (failed : Option ℕ) (sight : Sight) (peer : Peer) (session : Session) → IsOver other sight peer session →
    RefusesNone (WaitingRow other failed sight.full session sight.waiting peer) → RefusesNone (DeliverRow other failed sight peer)
deliver_unrefused other failed sight peer session over none = in_session other sight peer (λ s. WaitingRow other failed sight.full s sight.waiting peer) session over none

-- what is taken into a view fits there, unless the link is lost
pub fits : (folder : Folder) (other : Device) (held : Held) (losing : Listing → Type 0) (changed : Listing → Listing) (old new : ByName Held) (result : Result Effect PeerError) →
    TakesInView folder other held losing changed old new result → GoesOn result → (¬ losing (view_of held.tables other)) → ¬ HasTooMany (changed (view_of held.tables other))
fits folder other held losing changed old new result (inl taken) on not = taken.2
fits folder other held losing changed old new result (inr (inl lost)) on not = absurd (not lost.1)
fits folder other held losing changed old new result (inr (inr (inl full))) on not = absurd (subst GoesOn full.0 on)
fits folder other held losing changed old new result (inr (inr (inr wanting))) on not = wanting.2

-- ---- the ends of an action

-- an action that was refused wanted no memory
pub wanted : {T : Type 0} (result : Result T PeerError) (error : PeerError) → result ≡ Err error → result ≡ Err errors.Memory → error ≡ errors.Memory
wanted result error is wants = let both : Err error ≡ Err errors.Memory = sym is ∙ wants in cc

module _ (row : Device → Sight → Peer → Row Acted) (shares : Device → Peer → Type 0) where
  pub unrefused_over : (old : Lent) (begun : Member) (other : Device) → begun ≡ untold old.member → Joins (begun_with old begun) other → shares other (tables_of begun) →
      RefusesNone (row other (sight_of (end_of begun.number other) old.link.link) (tables_of begun)) → IsUnrefused row shares old
  unrefused_over old begun other same joins at_hand none =
      subst
      (λ (m : Member). Joins (begun_with old m) other → shares other (tables_of m) → RefusesNone (row other (sight_of (end_of m.number other) old.link.link) (tables_of m)) → IsUnrefused row shares old)
      (sym same)
      (λ joins at_hand none. record { other = other; joins = record { ends = joins.ends; linked = joins.linked }; at_hand = at_hand; unrefused = none })
      joins at_hand none

-- a delivery, once its session is known
pub delivers_unrefused : (old : Lent) (begun : Member) (other : Device) → begun ≡ untold old.member → Joins (begun_with old begun) other → (failed : Option ℕ) (session : Session) →
    IsOver other (sight_of (end_of begun.number other) old.link.link) (tables_of begun) session → (end : End) → end ≡ end_of begun.number other →
    RefusesNone (WaitingRow other failed (sight_of end old.link.link).full session (sight_of end old.link.link).waiting (tables_of begun)) → IsUnrefused (λ one. DeliverRow one failed) NamesNone old
delivers_unrefused old begun other same joins failed session over end at none =
    unrefused_over (λ one. DeliverRow one failed) NamesNone old begun other same joins tt
    (deliver_unrefused other failed (sight_of (end_of begun.number other) old.link.link) (tables_of begun) session over
    (subst (λ (there : End). RefusesNone (WaitingRow other failed (sight_of there old.link.link).full session (sight_of there old.link.link).waiting (tables_of begun))) at none))

-- ---- within a folder

-- memory was wanting in the folder where the device says so
of_error : (error : FolderError) → error_of error ≡ errors.Memory → error ≡ folder_errors.Memory
of_error folder_errors.Memory is = refl
of_error folder_errors.CounterFull is = absurd (cc)
of_error folder_errors.TooManyCounters is = absurd (cc)
of_error folder_errors.NameBad is = absurd (cc)
of_error folder_errors.SequenceFull is = absurd (cc)
of_error folder_errors.IndexFull is = absurd (cc)
of_error folder_errors.BatchOld is = absurd (cc)
of_error folder_errors.StoreFault is = absurd (cc)
of_error folder_errors.Unscanned is = absurd (cc)
of_error folder_errors.NotNeeded is = absurd (cc)
of_error folder_errors.BlocksMissing is = absurd (cc)
of_error folder_errors.HashBad is = absurd (cc)
of_error folder_errors.CopyExists is = absurd (cc)
of_error folder_errors.PullsFull is = absurd (cc)
of_error folder_errors.KindForbids is = absurd (cc)
of_error folder_errors.Stale is = absurd (cc)
of_error folder_errors.NotShared is = absurd (cc)
of_error folder_errors.NothingToDo is = absurd (cc)

wanted_there : (answer : Result Moved FolderError) → answer_of answer ≡ Err errors.Memory → answer ≡ Err folder_errors.Memory
wanted_there (Ok moved) wants = absurd (cc)
wanted_there (Err error) wants = let same : error_of error ≡ errors.Memory = cc in ap Err (of_error error same)

pub pull_unrefused : (folder : Folder) (name : Bor FileName) (old new : Member) (result : Result Moved PeerError) → AnswersAt (IsStepped (Pull name)) folder old new result → result ≡ Err errors.Memory →
    IsUnrefusedWithin folder (StartPullRow old.number name.now) old
pull_unrefused folder name old new result (inl absent) wants = let is = absent.2 in let both : Err (errors.Refused NotShared) ≡ Err errors.Memory = sym is ∙ wants in absurd (cc)
pull_unrefused folder name old new result (inr called) wants = record {
  held = called.before;
  there = called.there;
  unrefused = subst (λ (device : Device). RefusesNone (StartPullRow device name.now called.before.tables)) called.own (called.done.unhidden (wanted_there called.answer (sym called.says ∙ wants)));
}
