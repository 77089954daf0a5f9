-- What the owner answers to a request for a block of the file that prevails: its bytes, which have the block's hash.
use Rattle.std.proofs.Common.{◌≡◌, ◌∙◌, ℕ, min, Bool, true, false, cond, List, drop, length, Option, Some, None, Contains, refl, sym, ap, subst, inl, inr, arith}
use Rattle.std.proofs.lemmas.List.{length-take, length-drop}
use Rattle.std.specs.FinMap.{get}
use Rattle.bep_record.specs.declared.block.Block.{Block}
use Rattle.bep_record.specs.declared.entry.Entry.{Entry}
use Rattle.bep_record.specs.declared.kind.Kind.{Kind}
use Rattle.bep_record.specs.declared.kind.Kind.TheVariants as kinds
use Rattle.bep_record.specs.declared.node.NodeParts.{NodeParts}
use Rattle.bep_record.specs.Content.{Deleted, File, content_of, content_of_kind}
use Rattle.bep_blocks.specs.Plain.{hash_of}
use Rattle.bep_index.specs.declared.send.Plan.{Plan}
use Rattle.bep_model.specs.Tables.{Device, Folder, FileName}
use Rattle.bep_model.specs.Settled.{content_of_node}
use Rattle.bep_model.proofs.StaysFacts.{not_deleted}
use Rattle.bep_machine.specs.declared.message.Message.TheVariants as messages
use Rattle.bep_machine.specs.declared.message.Request.{Request}
use Rattle.bep_machine.specs.declared.message.Response.{Response}
use Rattle.bep_machine.specs.declared.message.Code.TheVariants.{NoError, Generic, NoSuchFile, InvalidFile}
use Rattle.bep_machine.specs.declared.moved.Moved.TheVariants.{Changed}
use Rattle.bep_machine.specs.Answer.{Done}
use Rattle.bep_machine.specs.Pull.{IsFile}
use Rattle.bep_machine.specs.Replica.{Replica, own_at, node_at}
use Rattle.bep_machine.specs.Link.{Sight, taking}
use Rattle.bep_machine.specs.Peer.{Session, Peer, Acted}
use Rattle.bep_machine.specs.Exchange.{DeliverRow, MessageRow, Answers, HasRange, bytes_asked, HasBytes}
use Rattle.bep_machine.specs.Cluster.{Cluster}
use Rattle.bep_machine.specs.LinkEffects.{IsTaking, HoldsFile, AsksFor, RequestIsAnswered}
use Rattle.bep_machine.specs.Effects.{content_owned}
use Rattle.bep_machine.specs.Said.{tables_of_cluster}
use Rattle.bep_converge.specs.Prevails.{LetsIn}
use Rattle.bep_converge.proofs.BringSession.{only_delivers}
use Rattle.bep_converge.proofs.BringStage.{Stage, said_of}

-- ---- a file of the same content

-- a record of a file's content is of a file with the same blocks
pub record IsLike (target top : Entry) : Type 0 where
  pub present : top.deleted ≡ false
  pub file : top.kind ≡ kinds.File
  pub blocks : top.blocks ≡ target.blocks

parts_like : (over : Bool) (other : Kind) (blocks others : List Block) (link : List ℕ) → File blocks ≡ cond over Deleted (content_of_kind other others link) →
    (over ≡ false) × (other ≡ kinds.File) × (others ≡ blocks)
parts_like true other blocks others link e = absurd (cc)
parts_like false kinds.File blocks others link e = (refl, refl, cc)
parts_like false kinds.Directory blocks others link e = absurd (cc)
parts_like false kinds.Symlink blocks others link e = absurd (cc)

pub file_like : (target top : Entry) → IsFile target → content_of target ≡ content_of top → IsLike target top
file_like target top file same =
    let is : content_of target ≡ File target.blocks =
    ap (λ (b : Bool). cond b Deleted (content_of_kind target.kind target.blocks target.target)) file.0 ∙ ap (λ (kind : Kind). content_of_kind kind target.blocks target.target) file.1 in
    let parts = parts_like top.deleted top.kind target.blocks top.blocks top.target (sym is ∙ same) in
    record { present = parts.0; file = parts.1; blocks = parts.2 }

-- what a device has that holds the top, where that is a file
pub holds_file : (device owner : Device) (folder : Folder) (name : FileName) (top : Entry) (c : Cluster) → Stage device owner folder name top c → (replica : Replica) → get (c.peer owner).replicas folder ≡ Some replica →
    own_at replica name ≡ Some top → top.deleted ≡ false → top.kind ≡ kinds.File → (node : NodeParts) × HoldsFile replica name top node
holds_file device owner folder name top c stage replica there owned present file = by_node (node_at replica name) refl
  where
    by_node : (node : Option NodeParts) → node_at replica name ≡ node → (node : NodeParts) × HoldsFile replica name top node
    by_node node is =
        let lets : LetsIn (tables_of_cluster c) owner folder name top = stage.prevails.everywhere owner stage.far_shares in
        let same : content_of_node node ≡ content_of top =
        ap content_of_node (sym (said_of node_at c owner folder replica name stage.far_shares there ∙ is)) ∙ lets.holds ∙ ap content_owned (said_of own_at c owner folder replica name stage.far_shares there ∙ owned) in
        held node is same
      where
        held : (node : Option NodeParts) → node_at replica name ≡ node → content_of_node node ≡ content_of top → (node : NodeParts) × HoldsFile replica name top node
        held None is same = absurd (not_deleted top present (sym same))
        held (Some node) is same = (node, record { recorded = owned; present = present; file = file; stored = is; same = same })

-- ---- the answer

bytes_in_range : (request : Request) (node : Option NodeParts) → HasRange request node → length (bytes_asked request node) ≡ request.size
bytes_in_range request None range = absurd range
bytes_in_range request (Some node) range =
    let within = range.1 in
    length-take request.size (drop request.offset node.bytes) ∙ ap (min request.size) (length-drop request.offset node.bytes) ∙ omega arith

right_bytes : (request : Request) (failed : Option ℕ) (node : Option NodeParts) (response : Response) → Answers request failed node response → response.code ≡ NoError → (response.id ≡ request.id) × HasBytes response request
right_bytes request failed stored response (inl fails) right = let wrong : Generic ≡ NoError = ap (λ (r : Response). r.code) (sym fails.1) ∙ right in absurd (cc)
right_bytes request failed stored response (inr (works, inl none)) right = let wrong : NoSuchFile ≡ NoError = ap (λ (r : Response). r.code) (sym none.1) ∙ right in absurd (cc)
right_bytes request failed stored response (inr (works, inr (range, inl other))) right = let wrong : InvalidFile ≡ NoError = ap (λ (r : Response). r.code) (sym other.1) ∙ right in absurd (cc)
right_bytes request failed stored response (inr (works, inr (range, inr found))) right =
    let bytes : response.bytes ≡ bytes_asked request stored = ap (λ (r : Response). r.bytes) found.1 in
    (ap (λ (r : Response). r.id) found.1, (right, ap (λ (b : List ℕ). length b) bytes ∙ bytes_in_range request stored range, ap hash_of bytes ∙ found.0))

abbrev pub answering : Peer → Response → Acted
answering old response = record { peer = old; deed = record taking { sends = Some (messages.Response response) } }

pub answered : RequestIsAnswered → (other : Device) (sight : Sight) (old : Peer) (session : Session) (cursor : Plan) (request : Request) (replica : Replica) (own : Entry) (node : NodeParts) (block : Block) →
    IsTaking other sight old session (messages.Request request) → sight.full ≡ false → get session.cursors request.folder ≡ Some cursor → get old.replicas request.folder ≡ Some replica →
    HoldsFile replica request.name own node → Contains own.blocks block → AsksFor block request →
    (response : Response) × DeliverRow other None sight old (answering old response) (Done Changed) × (response.id ≡ request.id) × HasBytes response request
answered answers other sight old session cursor request replica own node block waits room named there holds stands asks =
    let made = answers other sight old session cursor request replica own node block waits room named there holds stands asks in
    cases made.0 made.1 made.2 made.3 made.8 (only_delivers other None sight old session (messages.Request request) waits made.0 (Done Changed) made.2)
  where
    cases : (new : Acted) (response : Response) → DeliverRow other None sight old new (Done Changed) → new.deed.sends ≡ Some (messages.Response response) → response.code ≡ NoError →
        MessageRow other None sight.full session (messages.Request request) old new (Done Changed) →
        (response : Response) × DeliverRow other None sight old (answering old response) (Done Changed) × (response.id ≡ request.id) × HasBytes response request
    cases new response row sends right (inr bad) = let wrong = bad.1.1 in absurd (cc)
    cases new response row sends right (inl (named, (other_replica, is, inl full))) = let never : true ≡ false = sym full.0 ∙ room in absurd (cc)
    cases new response row sends right (inl (named, (other_replica, is, inr (unfull, (told, answers, made))))) =
        let says : new.deed.sends ≡ Some (messages.Response told) = ap (λ (a : Acted). a.deed.sends) made.0 in
        let same : told ≡ response = cc in
        let facts = right_bytes request None (node_at other_replica request.name) told answers (ap (λ (r : Response). r.code) same ∙ right) in
        (told, subst (λ (a : Acted). DeliverRow other None sight old a (Done Changed)) made.0 row, facts.0, facts.1)
