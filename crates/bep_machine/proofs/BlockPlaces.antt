-- In a well-formed record no two blocks begin at one offset, so that a request is about one block alone.
use Rattle.std.proofs.Common.{◌≡◌, ◌≢◌, ◌∙◌, ◌⊎◌, ◌==◌, ◌&&◌, ◌++◌, ℕ, ◌+◌, ◌*◌, ◌<◌, ◌≤◌, zero, suc, Bool, true, false, List, [], ◌∷◌, map, Contains, sym, ap, subst, inl, inr, ⊎_elim, arith}
use Rattle.std.proofs.lemmas.Bool.{ne_eqb}
use Rattle.std.proofs.lemmas.List.Elements.{Contains-append_right}
use Rattle.std.specs.List.{range_with_len}
use Rattle.bep_facts.specs.Members.{not_in_none, Contains-first, Contains-cons_cases}
use Rattle.bep_record.specs.declared.block.Block.{Block}
use Rattle.bep_record.specs.declared.entry.Entry.{Entry}
use Rattle.bep_record.specs.declared.kind.Kind.{Kind}
use Rattle.bep_record.specs.declared.kind.Kind.TheVariants.{File, Directory, Symlink}
use Rattle.bep_record.specs.Block.{block_count, block_size_of, cut_at, CutWhole}
use Rattle.bep_record.specs.Entry.{IsWellFormed, HasBody}
use Rattle.bep_record.proofs.BlockSizeFacts.{some_bytes}
use Rattle.bep_machine.specs.declared.message.Request.{Request}
use Rattle.bep_machine.specs.Exchange.{is_about, same_bytes}

-- ---- offsets rise

-- the offsets and sizes of blocks from place k on
abbrev AreCut : ℕ → ℕ → ℕ → ℕ → List Block → Type 0
AreCut size len k n blocks = map (λ (b : Block). (b.offset, b.size)) blocks ≡ map (λ j. cut_at size len j) (range_with_len k n)

abbrev first_offset : List (ℕ × ℕ) → ℕ
first_offset [] = 0
first_offset (cut ∷ cuts) = cut.0

abbrev later_cuts : List (ℕ × ℕ) → List (ℕ × ℕ)
later_cuts [] = []
later_cuts (cut ∷ cuts) = cuts

record IsFirstCut (size len k n : ℕ) (block : Block) (blocks : List Block) : Type 0 where
  pub here : block.offset ≡ k * size
  pub more : AreCut size len (k + 1) n blocks

first_cut : (size len k n : ℕ) (block : Block) (blocks : List Block) → AreCut size len k (suc n) (block ∷ blocks) → IsFirstCut size len k n block blocks
first_cut size len k n block blocks are = record { here = ap first_offset are; more = ap later_cuts are }

from_place : (size len k n : ℕ) (blocks : List Block) → AreCut size len k n blocks → (one : Block) → Contains blocks one → k * size ≤ one.offset
from_place size len k n [] are one stands = absurd (not_in_none one stands)
from_place size len k zero (block ∷ blocks) are one stands = absurd (cc)
from_place size len k (suc n) (block ∷ blocks) are one stands =
    let first = first_cut size len k n block blocks are in
    ⊎_elim
    (λ same. let here = first.here in let offset = ap (λ (b : Block). b.offset) same in omega (arith, here, offset))
    (λ later. let bound = from_place size len (k + 1) n blocks first.more one later in omega (arith, bound))
    (Contains-cons_cases block blocks one stands)

-- what stands before the block begins below it, and what stands after it above
pub record IsAlone (low : ℕ) (front : List Block) (block : Block) (back : List Block) : Type 0 where
  pub bound : low ≤ block.offset
  pub before : (one : Block) → Contains front one → one.offset < block.offset
  pub after : (one : Block) → Contains back one → block.offset < one.offset

alone_from : (size len : ℕ) → 0 < size → (k n : ℕ) (front : List Block) (block : Block) (back : List Block) → AreCut size len k n (front ++ (block ∷ back)) → IsAlone (k * size) front block back
alone_from size len positive k zero [] block back are = absurd (cc)
alone_from size len positive k zero (first ∷ front) block back are = absurd (cc)
alone_from size len positive k (suc n) [] block back are =
    let cut = first_cut size len k n block back are in
    let here = cut.here in
    record {
      bound = omega (arith, here);
      before = λ one stands. absurd (not_in_none one stands);
      after = λ one stands. let bound = from_place size len (k + 1) n back cut.more one stands in omega (arith, here, bound, positive);
    }
alone_from size len positive k (suc n) (first ∷ front) block back are =
    let cut = first_cut size len k n first (front ++ (block ∷ back)) are in
    let here = cut.here in
    let rest = alone_from size len positive (k + 1) n front block back cut.more in
    let low = rest.bound in
    record {
      bound = omega (arith, low);
      before = λ one stands.
          ⊎_elim
          (λ same. let offset = ap (λ (b : Block). b.offset) same in omega (arith, here, offset, low, positive))
          (λ later. rest.before one later)
          (Contains-cons_cases first front one stands);
      after = rest.after;
    }

-- ---- in a record

has_cut : (deleted : Bool) (kind : Kind) (entry : Entry) → HasBody deleted kind entry → CutWhole (block_size_of entry.size) entry.size entry.blocks ⊎ (entry.blocks ≡ [])
has_cut true kind entry body = inr body.0.blocks
has_cut false File entry body = inl body.0.blocks
has_cut false Directory entry body = inr body.0.blocks
has_cut false Symlink entry body = inr body.0.blocks

pub block_is_alone : (entry : Entry) → IsWellFormed entry → (front : List Block) (block : Block) (back : List Block) → entry.blocks ≡ front ++ (block ∷ back) → IsAlone 0 front block back
block_is_alone entry formed front block back blocks =
    ⊎_elim
    (λ cut.
    let alone =
    alone_from (block_size_of entry.size) entry.size (some_bytes entry.size) 0 (block_count (block_size_of entry.size) entry.size) front block back
    (subst (λ (bs : List Block). CutWhole (block_size_of entry.size) entry.size bs) blocks cut) in
    record { bound = omega arith; before = alone.before; after = alone.after })
    (λ none.
    absurd (not_in_none block (subst (λ (bs : List Block). Contains bs block) (sym blocks ∙ none) (Contains-append_right front (block ∷ back) block (Contains-first block back)))))
    (has_cut entry.deleted entry.kind entry formed.body)

-- ---- in a request

-- a request for the block isn't about one that begins elsewhere
pub not_about : (request : Request) (block one : Block) → request.offset ≡ block.offset → one.offset ≢ block.offset → is_about request one ≡ false
not_about request block one offset differs =
    ap (λ (b : Bool). b && ((request.size == one.size) && same_bytes request.hash one.hash)) (ne_eqb request.offset one.offset (λ same. differs (sym same ∙ offset)))
