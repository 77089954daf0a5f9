-- A block is asked for, and a request is answered.
use Rattle.std.proofs.Common.{◌≡◌, ◌≤◌, ◌+◌, ◌-◌, ◌*◌, ◌<◌, ℕ, min, true, false, Bool, List, [], ◌∷◌, ◌++◌, length, take, drop, Option, Some, None, Contains, cond, zero, suc, ⊎_elim, refl, sym, ap, subst, ◌∙◌, inl, inr, arith}
use Rattle.std.specs.List.{range_with_len}
use Rattle.std.proofs.lemmas.List.{length-take, length-drop}
use Rattle.std.specs.Cmp.{nat_cmp_total}
use Rattle.std.specs.FinMap.{nat_cmp-IsAntisymmetric}
use Rattle.bep_facts.specs.Maps.{get-insert_here}
use Rattle.bep_facts.specs.Members.{not_in_none, Contains-cons_cases, Contains-from_image}
use Rattle.bep_record.specs.declared.block.Block.{Block}
use Rattle.bep_record.specs.declared.entry.Entry.{Entry}
use Rattle.bep_record.specs.declared.kind.Kind.{Kind}
use Rattle.bep_record.specs.declared.kind.Kind.TheVariants as kinds
use Rattle.bep_record.specs.declared.node.NodeParts.{NodeParts}
use Rattle.bep_record.specs.Block.{block_count, block_size_of}
use Rattle.bep_record.specs.Content.{Deleted, File, content_of, content_of_kind}
use Rattle.bep_record.proofs.BlockSizeFacts.{begins_within}
use Rattle.bep_blocks.specs.Plain.{file_blocks, hash_of, plain_block, plain_blocks}
use Rattle.bep_model.specs.Tables.{FileName}
use Rattle.bep_machine.specs.declared.message.Message.TheVariants as messages
use Rattle.bep_machine.specs.declared.message.Request.{Request}
use Rattle.bep_machine.specs.declared.message.Response.{Response}
use Rattle.bep_machine.specs.declared.message.Code.TheVariants.{NoError}
use Rattle.bep_machine.specs.declared.moved.Moved.TheVariants.{Changed}
use Rattle.bep_machine.specs.Answer.{Done}
use Rattle.bep_machine.specs.Replica.{Replica}
use Rattle.bep_machine.specs.Link.{sending, taking}
use Rattle.bep_machine.specs.Peer.{with_session}
use Rattle.bep_machine.specs.Exchange.{ReplicaRow, AskingRow, Answers, request_for}
use Rattle.bep_machine.specs.LinkEffects.{HoldsFile, AsksFor, RequestIsAnswered, AskSendsRequest}
use Rattle.bep_machine.proofs.EffectFacts.{none_fails}
use Rattle.bep_machine.proofs.RecordsEffect.{is_named}
use Rattle.bep_machine.proofs.TakingFacts.{in_session, delivers}

-- ---- asking

pub ask_sends_request : AskSendsRequest
ask_sends_request other folder name sight old session replica block free is there can =
    let request = request_for session folder name block in
    let later = record session { outstanding = session.outstanding ++ request ∷ []; next = session.next + 1 } in (
      record { peer = with_session old other later; deed = sending (messages.Request request) },
      request,
      later,
      in_session other sight old session free.up is (λ one. ReplicaRow folder old (AskingRow other folder name sight.full one old)) _ (Done Changed)
          (replica, there, inr ((λ cannot. cannot (block, can)), inr ((λ full. let never : true ≡ false = sym full ∙ free.room in absurd (cc)), (block, can, (refl, refl))))),
      refl,
      refl,
      refl,
      refl,
      refl,
      record { offset = refl; size = refl; hash = refl },
      get-insert_here nat_cmp_total nat_cmp-IsAntisymmetric old.sessions other later,
      refl,
      refl,
      refl,
    )

-- ---- answering

-- a block of the file that stands in the store
record IsPart (bytes : List ℕ) (block : Block) : Type 0 where
  within : block.offset + block.size ≤ length bytes
  hashed : hash_of (take block.size (drop block.offset bytes)) ≡ block.hash

take_all_taken : (n : ℕ) (xs : List ℕ) → take (length (take n xs)) xs ≡ take n xs
take_all_taken zero xs = refl
take_all_taken (suc n) [] = refl
take_all_taken (suc n) (x ∷ xs) = ap (λ (rest : List ℕ). x ∷ rest) (take_all_taken n xs)

in_range : (first n k : ℕ) → Contains (range_with_len first n) k → k < first + n
in_range first zero k stands = absurd (not_in_none k stands)
in_range first (suc n) k stands =
    ⊎_elim
    (λ same. omega (arith, same))
    (λ later. let below = in_range (first + 1) n k later in omega (arith, below))
    (Contains-cons_cases first (range_with_len (first + 1) n) k stands)

from_front : (n k : ℕ) → Contains (range_with_len 0 n) k → k < n
from_front n k stands = let below = in_range 0 n k stands in omega (arith, below)

-- a cut of a file ends within it
cut_within : (size len k : ℕ) → k < block_count size len → k * size + min size (len - k * size) ≤ len
cut_within size len k below = let begins = begins_within size len k below in omega (arith, begins)

piece_is_part : (size : ℕ) (bytes : List ℕ) (k : ℕ) → k < block_count size (length bytes) → IsPart bytes (plain_block size bytes k)
piece_is_part size bytes k below = record {
  within =
      subst (λ (n : ℕ). k * size + n ≤ length bytes)
      (sym (length-take size (drop (k * size) bytes) ∙ ap (min size) (length-drop (k * size) bytes)))
      (cut_within size (length bytes) k below);
  hashed = ap hash_of (take_all_taken size (drop (k * size) bytes));
}

plain_is_part : (size : ℕ) (bytes : List ℕ) (block : Block) → Contains (plain_blocks size bytes) block → IsPart bytes block
unfolding plain_blocks
plain_is_part size bytes block stands =
    let from = Contains-from_image (λ k. plain_block size bytes k) (range_with_len 0 (block_count size (length bytes))) block stands in
    subst (IsPart bytes) from.2 (piece_is_part size bytes from.0 (from_front (block_count size (length bytes)) from.0 from.1))

file_of_kind : (kind : Kind) (blocks others : List Block) (target : List ℕ) → content_of_kind kind blocks target ≡ File others → (kind ≡ kinds.File) × (blocks ≡ others)
file_of_kind kinds.File blocks others target same = (refl, cc)
file_of_kind kinds.Directory blocks others target same = absurd (cc)
file_of_kind kinds.Symlink blocks others target same = absurd (cc)

own_is_file : (own : Entry) → own.deleted ≡ false → own.kind ≡ kinds.File → content_of own ≡ File own.blocks
own_is_file own present file =
    ap (λ (b : Bool). cond b Deleted (content_of_kind own.kind own.blocks own.target)) present
    ∙ ap (λ (kind : Kind). content_of_kind kind own.blocks own.target) file

-- the store has each block of such a file
block_is_stored : (replica : Replica) (name : FileName) (own : Entry) (node : NodeParts) (block : Block) → HoldsFile replica name own node → Contains own.blocks block → (node.kind ≡ kinds.File) × IsPart node.bytes block
block_is_stored replica name own node block holds stands =
    let same = file_of_kind node.kind (file_blocks node.bytes) own.blocks node.target (holds.same ∙ own_is_file own holds.present holds.file) in
    (same.0, plain_is_part (block_size_of (length node.bytes)) node.bytes block (subst (λ (blocks : List Block). Contains blocks block) (sym same.1) stands))

-- the answer to a request for such a block
abbrev answering : Request → NodeParts → Response
answering request node = record { id = request.id; code = NoError; bytes = take request.size (drop request.offset node.bytes) }

answers_part : (request : Request) (node : NodeParts) (block : Block) → node.kind ≡ kinds.File → IsPart node.bytes block → AsksFor block request → Answers request None (Some node) (answering request node)
answers_part request node block file part asks =
    inr (none_fails 1, inr ((file, within), inr (hashed, refl)))
  where
    asked : take request.size (drop request.offset node.bytes) ≡ take block.size (drop block.offset node.bytes)
    asked =
        ap (λ (n : ℕ). take n (drop request.offset node.bytes)) asks.size
        ∙ ap (λ (n : ℕ). take block.size (drop n node.bytes)) asks.offset

    within : request.offset + request.size ≤ length node.bytes
    within = let bound = part.within in omega (arith, bound, asks.offset, asks.size)

    hashed : hash_of (take request.size (drop request.offset node.bytes)) ≡ request.hash
    hashed = ap hash_of asked ∙ part.hashed ∙ sym asks.hash

pub request_is_answered_lem : RequestIsAnswered
request_is_answered_lem other sight old session cursor request replica own node block waits room named there holds stands asks =
    let stored = block_is_stored replica request.name own node block holds stands in
    let response = answering request node in (
      record { peer = old; deed = record taking { sends = Some (messages.Response response) } },
      response,
      delivers other None sight old session (messages.Request request) waits _ (Done Changed)
          (inl (
            is_named session request.folder cursor named,
            (
              replica,
              there,
              inr (
                (λ full. let never : true ≡ false = sym full ∙ room in absurd (cc)),
                (response, subst (λ (found : Option NodeParts). Answers request None found response) (sym holds.stored) (answers_part request node block stored.0 stored.1 asks), (refl, refl)),
              ),
            ),
          )),
      refl,
      refl,
      refl,
      refl,
      refl,
      refl,
      ap (λ (n : ℕ). take n (drop request.offset node.bytes)) asks.size ∙ ap (λ (n : ℕ). take block.size (drop n node.bytes)) asks.offset,
    )
