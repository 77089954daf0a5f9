-- What each step over a link and each restart leaves of a replica: it gets views and blocks, or loses its pulls, and that is all.
use Rattle.std.proofs.Common.{◌≡◌, ◌⊎◌, ℕ, Bool, true, false, cond, List, [], ◌∷◌, map, Option, Some, None, option_map, refl, sym, ap, subst, ◌∙◌, ⊎_elim}
use Rattle.std.proofs.lemmas.Cmp.{nat_list_cmp_total}
use Rattle.std.specs.declared.cmp.Ordering.{Ordering}
use Rattle.std.specs.Ordering.{eq_by_cmp}
use Rattle.std.specs.Cmp.{IsTotalOrder}
use Rattle.std.specs.FinMap.{FinMap, find, get, insert, entries, from_entries, get-entries, get-from_entries}
use Rattle.bep_map.specs.NameMap.{ByName}
use Rattle.bep_blocks.specs.Plain.{hash_of}
use Rattle.bep_index.specs.Listing.{Listing}
use Rattle.bep_index.specs.declared.send.Plan.{Plan}
use Rattle.bep_model.specs.Tables.{Device, Folder, FileName}
use Rattle.bep_machine.specs.declared.message.Announced.{Announced}
use Rattle.bep_machine.specs.declared.message.Message.{Message}
use Rattle.bep_machine.specs.declared.message.Message.TheVariants as messages
use Rattle.bep_machine.specs.declared.message.Request.{Request}
use Rattle.bep_machine.specs.declared.message.Response.{Response}
use Rattle.bep_machine.specs.Answer.{Answer, Row, becomes}
use Rattle.bep_machine.specs.Replica.{Replica, pull_at, with_view}
use Rattle.bep_machine.specs.Link.{Link, Sight}
use Rattle.bep_machine.specs.Peer.{Session, Peer, Acted, idle, with_session}
use Rattle.bep_machine.specs.Exchange.{SessionRow, ReplicaRow, AskingRow, BeginRow, renewed, all_renewed, ViewRow, AnsweredRow, AskedRow, asked_for, MessageRow, WaitingRow, DeliverRow, LosingRow, with_received, with_block, CursorRow, AnnounceRow, AskRow, without}
use Rattle.bep_machine.specs.Cluster.{Cluster, with_peer}
use Rattle.bep_machine.specs.Steps.{OverLink, AtLink, without_pulls, restarted, RestartRow}
use Rattle.bep_converge.proofs.Rows.{where_becomes, where_answers, at_each_folder, Everywhere, nothing_changes, where_one_changes, where_link_changes}

-- ---- a map of which each value was mapped

through : {V W : Type 0} (f : V → W) (b : Bool) (x : V) (o : Option V) → cond b (Some (f x)) (option_map f o) ≡ option_map f (cond b (Some x) o)
through f true x o = refl
through f false x o = refl

find-each : {K V W : Type 0} (R : K → K → Ordering) (f : V → W) (es : List (K × V)) (q : K) → find R q (map (λ one. (one.0, f one.1)) es) ≡ option_map f (find R q es)
find-each R f [] q = refl
find-each R f (one ∷ es) q = ap (cond (eq_by_cmp R q one.0) (Some (f one.1))) (find-each R f es q) ∙ through f (eq_by_cmp R q one.0) one.1 (find R q es)

pub get-each : {K V W : Type 0} {R : K → K → Ordering} → IsTotalOrder R → (f : V → W) (m : FinMap R V) (q : K) → get (from_entries {R = R} (map (λ one. (one.0, f one.1)) (entries m))) q ≡ option_map f (get m q)
get-each {R = R} total f m q = get-from_entries total (map (λ one. (one.0, f one.1)) (entries m)) q ∙ find-each R f (entries m) q ∙ ap (option_map f) (sym (get-entries m q))

-- a relation of replicas that holds of whatever gets views and blocks, or loses its pulls
pub record IsReading (P : Option Replica → Option Replica → Type 0) : Type 0 where
  pub same : (replica : Option Replica) → P replica replica
  pub then : (first second third : Option Replica) → P first second → P second third → P first third
  pub view : (replica : Replica) (other : Device) (view : Listing) → P (Some replica) (Some (with_view replica other view))
  pub block : (replica : Replica) (request : Request) (bytes : List ℕ) → hash_of bytes ≡ request.hash → P (Some replica) (Some (with_block request bytes (pull_at replica request.name) replica))
  pub unpulled : (replica : Replica) → P (Some replica) (Some (without_pulls replica))

module _ (P : Option Replica → Option Replica → Type 0) (reading : IsReading P) where
  abbrev AreRead : ByName Replica → ByName Replica → Type 0
  AreRead old new = (folder : Folder) → P (get old folder) (get new folder)

  one_read : (replicas : ByName Replica) (folder : Folder) (before after : Replica) → get replicas folder ≡ Some before → P (Some before) (Some after) → AreRead replicas (insert replicas folder after)
  one_read = at_each_folder (λ _. P) (λ _. reading.same)

  -- ---- one device

  module _ (old : Peer) where
    abbrev IsRead : Acted → Type 0
    IsRead acted = AreRead old.replicas acted.peer.replicas

    none_read : AreRead old.replicas old.replicas
    none_read folder = reading.same (get old.replicas folder)

    or_read : {acted : Acted} {given answer : Answer} {condition R : Type 0} → (condition × becomes (idle old) given acted answer) ⊎ ((¬ condition) × R) → (R → IsRead acted) → IsRead acted
    or_read row rest = where_answers IsRead row none_read (λ _. rest)

    session_read : (other : Device) (sight : Sight) (rest : Session → Row Acted) (acted : Acted) (answer : Answer) → ((session : Session) → rest session acted answer → IsRead acted) → SessionRow other sight old rest acted answer → IsRead acted
    session_read other sight rest acted answer more row = or_read row (λ up. or_read up (λ has. more has.0 has.2))

    begin_read : (other : Device) (sight : Sight) (acted : Acted) (answer : Answer) → BeginRow other sight old acted answer → IsRead acted
    begin_read other sight acted answer row = or_read row (λ up. or_read up (λ none. or_read none (λ begins. where_becomes IsRead begins none_read)))

    cursor_read : (other : Device) (folder : Folder) (full : Bool) (session : Session) (cursor : Option Plan) (acted : Acted) (answer : Answer) → CursorRow other folder full session cursor old acted answer → IsRead acted
    cursor_read other folder full session None acted answer row = where_becomes IsRead row none_read
    cursor_read other folder full session (Some cursor) acted answer row =
        or_read row.2.2 (λ left. or_read left (λ sends. where_becomes IsRead sends none_read))

    announce_read : (other : Device) (folder : Folder) (sight : Sight) (acted : Acted) (answer : Answer) → AnnounceRow other folder sight old acted answer → IsRead acted
    announce_read other folder sight acted answer =
        session_read other sight (λ session. CursorRow other folder sight.full session (get session.cursors folder) old) acted answer
        (λ session. cursor_read other folder sight.full session (get session.cursors folder) acted answer)

    ask_read : (other : Device) (folder : Folder) (name : FileName) (sight : Sight) (acted : Acted) (answer : Answer) → AskRow other folder name sight old acted answer → IsRead acted
    ask_read other folder name sight acted answer =
        session_read other sight (λ session. ReplicaRow folder old (AskingRow other folder name sight.full session old)) acted answer
        (λ session row. or_read row.2 (λ can. or_read can (λ asks. where_becomes IsRead asks.2 none_read)))

    -- ---- taking a message

    losing_read : (acted : Acted) (answer : Answer) → LosingRow old acted answer → IsRead acted
    losing_read acted answer row = where_becomes IsRead row none_read

    renewed_read : (other : Device) (one : Announced) (replicas : ByName Replica) (found : Option Replica) → get replicas one.folder ≡ found → AreRead replicas (renewed other one found replicas)
    renewed_read other one replicas None is = λ folder. reading.same (get replicas folder)
    renewed_read other one replicas (Some replica) is = one_read replicas one.folder replica _ is (reading.view replica other _)

    all_renewed_read : (other : Device) (named : List Announced) (replicas : ByName Replica) → AreRead replicas (all_renewed other named replicas)
    all_renewed_read other [] replicas = λ folder. reading.same (get replicas folder)
    all_renewed_read other (one ∷ more) replicas = λ folder.
        reading.then _ _ _ (renewed_read other one replicas (get replicas one.folder) refl folder)
        (all_renewed_read other more (renewed other one (get replicas one.folder) replicas) folder)

    view_read : (other : Device) (folder : Folder) (view : Listing) (replica : Replica) (acted : Acted) (answer : Answer) → get old.replicas folder ≡ Some replica → ViewRow other folder view replica old acted answer → IsRead acted
    view_read other folder view replica acted answer here row =
        or_read row (λ fits. where_becomes IsRead fits (one_read old.replicas folder replica _ here (reading.view replica other view)))

    received_read : (request : Request) (bytes : List ℕ) (peer : Peer) (found : Option Replica) → get peer.replicas request.folder ≡ found → hash_of bytes ≡ request.hash → AreRead peer.replicas (with_received request bytes found peer).replicas
    received_read request bytes peer None is right = λ folder. reading.same (get peer.replicas folder)
    received_read request bytes peer (Some replica) is right = one_read peer.replicas request.folder replica _ is (reading.block replica request bytes right)

    answered_read : (other : Device) (session : Session) (response : Response) (request : Request) (acted : Acted) (answer : Answer) → AnsweredRow other session response request old acted answer → IsRead acted
    answered_read other session response request acted answer row =
        ⊎_elim
        (λ right. where_becomes IsRead right.1
        (received_read request response.bytes (with_session old other (record session { outstanding = without response.id session.outstanding })) (get old.replicas request.folder) refl right.0.2))
        (λ wrong. where_becomes IsRead wrong.1 none_read)
        row

    asked_read : (other : Device) (session : Session) (response : Response) (found : Option Request) (acted : Acted) (answer : Answer) → AskedRow other session response found old acted answer → IsRead acted
    asked_read other session response None acted answer row = where_becomes IsRead row none_read
    asked_read other session response (Some request) acted answer row = answered_read other session response request acted answer row

    message_read : (other : Device) (failed : Option ℕ) (full : Bool) (session : Session) (message : Message) (acted : Acted) (answer : Answer) → MessageRow other failed full session message old acted answer → IsRead acted
    message_read other failed full session (messages.ClusterConfig named) acted answer row =
        ⊎_elim
        (λ good. where_becomes IsRead good.1 (all_renewed_read other named old.replicas))
        (λ bad. losing_read acted answer bad.1)
        row
    message_read other failed full session (messages.Index folder batch) acted answer row =
        ⊎_elim
        (λ named. view_read other folder _ named.1.0 acted answer named.1.1 named.1.2)
        (λ unnamed. losing_read acted answer unnamed.1)
        row
    message_read other failed full session (messages.IndexUpdate folder batch) acted answer row =
        ⊎_elim
        (λ named.
        ⊎_elim
        (λ behind. losing_read acted answer behind.1)
        (λ good. view_read other folder _ named.1.0 acted answer named.1.1 good.1)
        named.1.2)
        (λ unnamed. losing_read acted answer unnamed.1)
        row
    message_read other failed full session (messages.Request request) acted answer row =
        ⊎_elim
        (λ named. or_read named.1.2 (λ answers. where_becomes IsRead answers.2 none_read))
        (λ unnamed. losing_read acted answer unnamed.1)
        row
    message_read other failed full session (messages.Response response) acted answer row = asked_read other session response (asked_for response.id session.outstanding) acted answer row

    waiting_read : (other : Device) (failed : Option ℕ) (full : Bool) (session : Session) (waiting : Option Message) (acted : Acted) (answer : Answer) → WaitingRow other failed full session waiting old acted answer → IsRead acted
    waiting_read other failed full session None acted answer row = where_becomes IsRead row none_read
    waiting_read other failed full session (Some message) acted answer row = message_read other failed full session message acted answer row

    deliver_read : (other : Device) (failed : Option ℕ) (sight : Sight) (acted : Acted) (answer : Answer) → DeliverRow other failed sight old acted answer → IsRead acted
    deliver_read other failed sight acted answer =
        session_read other sight (λ session. WaitingRow other failed sight.full session sight.waiting old) acted answer
        (λ session. waiting_read other failed sight.full session sight.waiting acted answer)

  -- ---- the cluster

  abbrev Reads : Cluster → Cluster → Type 0
  Reads = Everywhere (λ _ _. P)

  nothing_read : (old : Cluster) → Reads old old
  nothing_read = nothing_changes (λ _ _. P) (λ _ _. reading.same)

  -- a step of a device over a link
  over_link : (device other : Device) (row : Sight → Peer → Row Acted) (old new : Cluster) (answer : Answer) → ((sight : Sight) (acted : Acted) → row sight (old.peer device) acted answer → IsRead (old.peer device) acted) → OverLink device other row old new answer → Reads old new
  over_link device other row old new answer reads made =
      subst (λ (one : Cluster). Reads old one) (sym made.2)
      (where_link_changes (λ _ _. P) (λ _ _. reading.same) old (with_peer old device made.0.peer) device other _
      (where_one_changes (λ _ _. P) (λ _ _. reading.same) old device made.0.peer (reads _ made.0 made.1)))

  pub begin_reads : (device other : Device) (old new : Cluster) (answer : Answer) → OverLink device other (BeginRow other) old new answer → Reads old new
  begin_reads device other old new answer = over_link device other (BeginRow other) old new answer (λ sight acted. begin_read (old.peer device) other sight acted answer)

  pub deliver_reads : (device other : Device) (failed : Option ℕ) (old new : Cluster) (answer : Answer) → OverLink device other (DeliverRow other failed) old new answer → Reads old new
  deliver_reads device other failed old new answer = over_link device other (DeliverRow other failed) old new answer (λ sight acted. deliver_read (old.peer device) other failed sight acted answer)

  pub announce_reads : (device other : Device) (folder : Folder) (old new : Cluster) (answer : Answer) → OverLink device other (AnnounceRow other folder) old new answer → Reads old new
  announce_reads device other folder old new answer = over_link device other (AnnounceRow other folder) old new answer (λ sight acted. announce_read (old.peer device) other folder sight acted answer)

  pub ask_reads : (device other : Device) (folder : Folder) (name : FileName) (old new : Cluster) (answer : Answer) → OverLink device other (AskRow other folder name) old new answer → Reads old new
  ask_reads device other folder name old new answer = over_link device other (AskRow other folder name) old new answer (λ sight acted. ask_read (old.peer device) other folder name sight acted answer)

  -- links come up and go down
  pub link_reads : (lower upper : Device) (row : Link → Row Link) (old new : Cluster) (answer : Answer) → AtLink lower upper row old new answer → Reads old new
  link_reads lower upper row old new answer made = subst (λ (one : Cluster). Reads old one) (sym made.2) (nothing_read old)

  -- a restart
  unpulled_if_there : (replica : Option Replica) → P replica (option_map without_pulls replica)
  unpulled_if_there None = reading.same None
  unpulled_if_there (Some replica) = reading.unpulled replica

  pub restart_reads : (device : Device) (old new : Cluster) (answer : Answer) → RestartRow device old new answer → Reads old new
  restart_reads device old new answer made =
      where_becomes (Reads old) made
      (where_one_changes (λ _ _. P) (λ _ _. reading.same) old device (restarted (old.peer device))
      (λ folder. subst (P (get (old.peer device).replicas folder)) (sym (get-each nat_list_cmp_total without_pulls (old.peer device).replicas folder)) (unpulled_if_there (get (old.peer device).replicas folder))))
