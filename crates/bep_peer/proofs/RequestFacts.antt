-- Taking a request is the step of the table on the device.
use Rattle.std.proofs.Common.{◌≡◌, Bool, true, false, ℕ, List, Option, Some, None, Result, Ok, Err, IfOk, IfSome, inl, inr, refl, sym, ap, subst, ◌∙◌}
use Rattle.std.specs.FinMap.{get, insert}
use Rattle.std.specs.Cmp.Lexicographic.{nat_list_cmp_total}
use Rattle.std.proofs.lemmas.Map.Lookups.{exact_bytes}
use Rattle.bep_facts.specs.Maps.{insert-what_is_there}
use Rattle.bep_map.specs.NameMap.{ByName}
use Rattle.bep_record.specs.declared.node.NodeParts.{NodeParts}
use Rattle.bep_model.specs.Tables.{Device, Folder, FileName}
use Rattle.bep_machine.specs.declared.message.Message.TheVariants as messages
use Rattle.bep_machine.specs.declared.message.Request.{Request}
use Rattle.bep_machine.specs.declared.message.Response.{Response}
use Rattle.bep_machine.specs.declared.refusal.Refusal.TheVariants.{LinkFull}
use Rattle.bep_machine.specs.Exchange.{Answers, IsNamed, MessageRow}
use Rattle.bep_machine.specs.Peer.{Session, Peer, Acted}
use Rattle.bep_machine.specs.Replica.{node_at}
use Rattle.bep_store.specs.Range.{HasRangeHash}
use Rattle.bep_folder.specs.declared.error.FolderError.{FolderError}
use Rattle.bep_folder.specs.Held.{Held}
use Rattle.bep_peer.specs.declared.taking.effect.Effect.TheVariants.{Answered}
use Rattle.bep_peer.specs.declared.error.PeerError.TheVariants.{Refused}
use Rattle.bep_peer.specs.inner.Effect.{Takes, deed_of}
use Rattle.bep_peer.specs.Member.{Member, tables_of}
use Rattle.bep_peer.specs.inner.Request.{IsNodeAt}
use Rattle.bep_peer.proofs.MemberFacts.{has_tables}

pub request_waits : (other : Device) (failed : Option ℕ) (full : Bool) (session : Session) (request : Request) (member : Member) (held : Held) →
    full ≡ true → IsNamed session request.folder → get member.folders request.folder ≡ Some held →
    Takes (MessageRow other failed full session (messages.Request request) (tables_of member)) member member (Err (Refused LinkFull))
request_waits other failed full session request member held is_full named has =
    inl (named, (held.tables, has_tables member.folders request.folder held has, inl (is_full, (refl, refl))))

-- the node of the folder that the session names
pub node_of : (folders : ByName Held) (folder : Folder) (name : FileName) (held : Held) (result : Result (Option NodeParts) FolderError) →
    get folders folder ≡ Some held → IfOk result (IsNodeAt folders folder name) → IfOk result (λ found. found ≡ node_at held.tables name)
node_of folders folder name held (Ok found) has at =
    let same : Some at.0 ≡ Some held = sym at.1 ∙ has in
    let one : at.0 ≡ held = cc in
    at.2 ∙ ap (λ (h : Held). node_at h.tables name) one
node_of folders folder name held (Err e) has at = tt

pub request_answered : (other : Device) (failed : Option ℕ) (full : Bool) (session : Session) (request : Request) (old new : Member) (held : Held) (response : Response) →
    full ≡ false → IsNamed session request.folder → get old.folders request.folder ≡ Some held → tables_of new ≡ tables_of old → Answers request failed (node_at held.tables request.name) response →
    Takes (MessageRow other failed full session (messages.Request request) (tables_of old)) old new (Ok (Answered response))
request_answered other failed full session request old new held response not_full named has same answers = inl (
  named,
  (
    held.tables,
    has_tables old.folders request.folder held has,
    inr (
      λ is_full. absurd (cc),
      (response, answers, (ap acted same, refl)),
    ),
  ),
)
  where
    acted : Peer → Acted
    acted peer = record { peer = peer; deed = deed_of (Answered response) }

-- the node that was at hand is the one that is asked for
pub seen_answers : (request : Request) (failed : Option ℕ) (there : Option NodeParts) (node : NodeParts) (response : Response) → failed ≡ None → Some node ≡ there →
    Answers request None (Some node) response → Answers request failed there response
seen_answers request failed there node response none is answers =
    subst (λ (f : Option ℕ). Answers request f there response) (sym none) (subst (λ (n : Option NodeParts). Answers request None n response) is answers)

-- what a folder has at hand stands in it
pub hand_of : (folders : ByName Held) (folder : Folder) (name : FileName) (held : Held) (found : Option NodeParts) → get folders folder ≡ Some held →
    IfSome found (λ node. node_at held.tables name ≡ Some node) → IfSome found (λ node. IsNodeAt folders folder name (Some node))
hand_of folders folder name held (Some node) is at = (held, is, sym at)
hand_of folders folder name held None is at = tt

-- ---- hashes at hand

-- a hash that the folder at hand tells is told of every folder that stands there
pub hash_of_held : (folders : ByName Held) (folder : Folder) (name : FileName) (offset size : ℕ) (held : Held) (found : Option (List ℕ)) → get folders folder ≡ Some held →
    IfSome found (HasRangeHash (node_at held.tables name) offset size) →
    IfSome found (λ hash. (other : Held) → get folders folder ≡ Some other → HasRangeHash (node_at other.tables name) offset size hash)
hash_of_held folders folder name offset size held None has is = tt
hash_of_held folders folder name offset size held (Some hash) has is = λ other there.
    let same : Some held ≡ Some other = sym has ∙ there in
    let one : held ≡ other = cc in
    subst (λ (h : Held). HasRangeHash (node_at h.tables name) offset size hash) one is

-- so it is the hash of the node that is at hand
pub hash_of_node : (folders : ByName Held) (folder : Folder) (name : FileName) (offset size : ℕ) (found : Option (List ℕ)) (node : NodeParts) →
    IfSome found (λ hash. (held : Held) → get folders folder ≡ Some held → HasRangeHash (node_at held.tables name) offset size hash) → IsNodeAt folders folder name (Some node) →
    IfSome found (HasRangeHash (Some node) offset size)
hash_of_node folders folder name offset size None node told at = tt
hash_of_node folders folder name offset size (Some hash) node told at =
    subst (λ (n : Option NodeParts). HasRangeHash n offset size hash) (sym at.2) (told at.0 at.1)

-- a folder that is as it was changes nothing
pub same_folder : (folders : ByName Held) (folder : Folder) (was now : Held) → get folders folder ≡ Some was → now ≡ was → insert folders folder now ≡ folders
same_folder folders folder was now has same =
    insert-what_is_there nat_list_cmp_total exact_bytes folders folder now (has ∙ ap (λ (h : Held). Some h) (sym same))
