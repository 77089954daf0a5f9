-- A list of blocks that matches a file: one block further along, and the laws on plain lists.
use Rattle.std.proofs.Common.{◌≡◌, ℕ, zero, suc, ◌+◌, ◌-◌, ◌*◌, ◌/◌, ◌<◌, ◌≤◌, ◌↔◌, min, List, [], ◌∷◌, length, take, drop, map, refl, ap, sym, ◌∙◌, add-one, arith}
use Rattle.std.specs.List.{range_with_len}
use Rattle.std.proofs.lemmas.List.{drop-drop, drop_all, length-drop, length-take, take_min}
use Rattle.std.proofs.lemmas.Nat.{div-add-mod', mod_below}
use Rattle.bep_record.specs.Block.{block_count, cut_at, CutWhole}
use Rattle.bep_record.specs.declared.block.Block.{Block}
use Rattle.bep_blocks.specs.Plain.{block_of, blocks_from, piece_at, plain_block, plain_blocks}
use Rattle.bep_blocks.specs.Matching.{BeginsRest, Matches, MatchesRest}
use Rattle.bep_blocks.proofs.PlainFacts.{length-piece_at, plain_blocks-nil}

-- ---- walking along the blocks

-- past the last block: it ended where the bytes do
pub MatchesRest-end : (offset : ℕ) (bytes : List ℕ) (blocks : List Block) (i : ℕ) → length blocks ≤ i → offset ≤ length bytes →
    (MatchesRest offset (drop offset bytes) (drop i blocks)) ↔ (offset ≡ length bytes)
MatchesRest-end offset bytes blocks i past within =
    let left = length-drop offset bytes in
    rw (drop_all i blocks past) (λ none. let none_left = ap length none in omega (arith, left, none_left), λ all. drop_all offset bytes (omega arith))

-- ---- what matches a file, and is cut by one size, is its plain list

-- the block of the bytes of a cut, which is an offset and a size
abbrev block_at_cut : List ℕ → ℕ × ℕ → Block
block_at_cut bytes cut = block_of cut.0 (take cut.1 (drop cut.0 bytes))

-- blocks that match are told by where they cut
told_by_cuts : (bytes : List ℕ) (blocks : List Block) (offset : ℕ) → MatchesRest offset (drop offset bytes) blocks →
    blocks ≡ map (λ cut. block_at_cut bytes cut) (map (λ b. (b.offset, b.size)) blocks)
told_by_cuts bytes [] offset matching = refl
told_by_cuts bytes (block ∷ more) offset matching =
    let place : block.offset ≡ offset = ap (λ (b : Block). b.offset) matching.0.1 in
    let here : block ≡ block_at_cut bytes (block.offset, block.size) =
    matching.0.1 ∙ ap (λ start. block_at_cut bytes (start, block.size)) (sym place) in
    let rest = rw (drop-drop block.size offset bytes) at matching.1 in
    let later = told_by_cuts bytes more (offset + block.size) rest in
    cc

-- the block at a cut by one size is a plain block
block_at_cut_at : (block_size : ℕ) (bytes : List ℕ) (k : ℕ) →
    block_at_cut bytes (cut_at block_size (length bytes) k) ≡ plain_block block_size bytes k
block_at_cut_at block_size bytes k =
    let left = drop (k * block_size) bytes in
    let size : min block_size (length bytes - k * block_size) ≡ min block_size (length left) = ap (min block_size) (sym (length-drop (k * block_size) bytes)) in
    ap (λ piece. block_of (k * block_size) piece) (ap (λ n. take n left) size ∙ take_min block_size left)

blocks_at_cuts : (block_size : ℕ) (bytes : List ℕ) (k n : ℕ) →
    map (λ cut. block_at_cut bytes cut) (map (λ j. cut_at block_size (length bytes) j) (range_with_len k n)) ≡ blocks_from block_size bytes k n
blocks_at_cuts block_size bytes k zero = refl
blocks_at_cuts block_size bytes k (suc n) =
    let here = block_at_cut_at block_size bytes k in
    let later = blocks_at_cuts block_size bytes (k + 1) n in
    cc

pub only-plain : (block_size : ℕ) (bytes : List ℕ) (blocks : List Block) →
    Matches bytes blocks → CutWhole block_size (length bytes) blocks → blocks ≡ plain_blocks block_size bytes
unfolding plain_blocks
only-plain block_size [] blocks matching cut = matching ∙ sym (plain_blocks-nil block_size)
only-plain block_size (byte ∷ bytes) blocks matching cut =
    told_by_cuts (byte ∷ bytes) blocks 0 matching
    ∙ ap (map (λ c. block_at_cut (byte ∷ bytes) c)) cut
    ∙ blocks_at_cuts block_size (byte ∷ bytes) 0 (block_count block_size (length (byte ∷ bytes)))

-- ---- a plain list matches its file

-- a piece that has bytes begins the bytes from its place on
begins-plain : (block_size : ℕ) (bytes : List ℕ) (k : ℕ) → 0 < block_size → k * block_size < length bytes →
    BeginsRest (k * block_size) (drop (k * block_size) bytes) (plain_block block_size bytes k)
begins-plain block_size bytes k positive before =
    let left = drop (k * block_size) bytes in
    let size = length-piece_at block_size bytes k in
    let piece : piece_at block_size bytes k ≡ take (length (piece_at block_size bytes k)) left =
    sym (ap (λ n. take n left) (length-take block_size left) ∙ take_min block_size left) in
    (omega (arith, size), ap (λ bs. block_of (k * block_size) bs) piece)

MatchesRest-along : (offset start : ℕ) (rest left : List ℕ) (blocks : List Block) → offset ≡ start → rest ≡ left →
    MatchesRest start left blocks → MatchesRest offset rest blocks
MatchesRest-along offset start rest left blocks same_offset same_rest matching =
    rw (same_offset, same_rest) matching

-- the plain blocks from piece k on, of which n are followed by more bytes
plain-from : (block_size : ℕ) (bytes : List ℕ) (k n : ℕ) → 0 < block_size →
    (k + n) * block_size < length bytes → length bytes ≤ (k + n + 1) * block_size →
    MatchesRest (k * block_size) (drop (k * block_size) bytes) (blocks_from block_size bytes k (suc n))
plain-from block_size bytes k zero positive before after =
    let size = length-piece_at block_size bytes k in
    let left = length-drop (k * block_size) bytes in
    (begins-plain block_size bytes k positive (omega arith), drop_all (length (piece_at block_size bytes k)) (drop (k * block_size) bytes) (omega (arith, size, left)))
plain-from block_size bytes k (suc n) positive before after =
    let size : length (piece_at block_size bytes k) ≡ block_size =
    length-piece_at block_size bytes k ∙ omega arith in
    let next : k * block_size + length (piece_at block_size bytes k) ≡ (k + 1) * block_size = omega arith in
    let later = plain-from block_size bytes (k + 1) n positive (omega arith) (omega arith) in
    let left = drop-drop (length (piece_at block_size bytes k)) (k * block_size) bytes ∙ ap (λ m. drop m bytes) next in
    (begins-plain block_size bytes k positive (omega arith), MatchesRest-along _ _ _ _ (blocks_from block_size bytes (k + 1) (suc n)) next left later)

-- where the last of a file's blocks begins, and how far it may reach
last_block : (block_size len : ℕ) → 0 < block_size → 0 < len →
    ((0 + (len - 1) / block_size) * block_size < len) × (len ≤ (0 + (len - 1) / block_size + 1) * block_size)
last_block block_size len positive some =
    let parts = div-add-mod' (len - 1) block_size in
    let below = mod_below (len - 1) block_size positive in
    (omega (arith, parts), omega (arith, parts, below))

pub plain-matches : (block_size : ℕ) (bytes : List ℕ) → 0 < block_size → Matches bytes (plain_blocks block_size bytes)
unfolding plain_blocks
plain-matches block_size [] positive = plain_blocks-nil block_size
plain-matches block_size (byte ∷ bytes) positive =
    let n = (length (byte ∷ bytes) - 1) / block_size in
    let last = last_block block_size (length (byte ∷ bytes)) positive (omega arith) in
    let zeroth : 0 ≡ 0 * block_size = omega arith in
    let whole = plain-from block_size (byte ∷ bytes) 0 n positive last.0 last.1 in
    rw add-one (MatchesRest-along _ _ _ _ (blocks_from block_size (byte ∷ bytes) 0 (suc n)) zeroth (ap (λ m. drop m (byte ∷ bytes)) zeroth) whole)
