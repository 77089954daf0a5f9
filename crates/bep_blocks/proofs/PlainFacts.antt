-- Plain block lists: one block more, no bytes, and how a plain list cuts its file.
use Rattle.std.proofs.Common.{◌≡◌, ℕ, zero, suc, ◌+◌, ◌-◌, ◌*◌, min, List, [], ◌∷◌, ◌++◌, length, take, drop, map, Result, Ok, Err, IfOk, refl, ap, ◌∙◌, arith}
use Rattle.std.specs.List.{range_with_len}
use Rattle.std.proofs.lemmas.List.{drop_all, length-drop, length-take, take_all}
use Rattle.std.proofs.lemmas.List.FromFn.{map-range_with_len_more}
use Rattle.std.proofs.Math.Nat.{zero-div}
use Rattle.bep_record.specs.Block.{block_count, cut_at, CutWhole}
use Rattle.bep_record.specs.declared.block.Block.{Block}
use Rattle.bep_blocks.specs.Plain.{block_of, blocks_from, piece_at, plain_block, plain_blocks}

-- pushing the next block
pub plain-more : (block_size : ℕ) (bytes : List ℕ) (first n k : ℕ) (list : List Block) (block : Block) → first + n ≡ k →
    list ≡ blocks_from block_size bytes first n → block ≡ plain_block block_size bytes k →
    list ++ block ∷ [] ≡ blocks_from block_size bytes first (n + 1)
plain-more block_size bytes first n k list block next before here =
    let more = map-range_with_len_more (λ j. plain_block block_size bytes j) first n k next in
    cc

plain_block-nil : (block_size : ℕ) → plain_block block_size [] 0 ≡ block_of 0 []
plain_block-nil block_size =
    let offset : 0 * block_size ≡ 0 = omega arith in
    let dropped = drop_all (0 * block_size) [] (omega arith) in
    let taken = take_all block_size [] (omega arith) in
    ap (λ place. block_of place (piece_at block_size [] 0)) offset ∙ ap (λ piece. block_of 0 piece) (ap (take block_size) dropped ∙ taken)

-- a file without bytes has one block
pub plain_blocks-nil : (block_size : ℕ) → plain_blocks block_size [] ≡ block_of 0 [] ∷ []
unfolding plain_blocks
plain_blocks-nil block_size = rw (zero-div block_size) (ap (λ block. block ∷ []) (plain_block-nil block_size))

pub length-piece_at : (block_size : ℕ) (bytes : List ℕ) (k : ℕ) → length (piece_at block_size bytes k) ≡ min block_size (length bytes - k * block_size)
length-piece_at block_size bytes k =
    length-take block_size (drop (k * block_size) bytes) ∙ ap (min block_size) (length-drop (k * block_size) bytes)

cuts_from : (block_size : ℕ) (bytes : List ℕ) (k n : ℕ) →
    map (λ (b : Block). (b.offset, b.size)) (blocks_from block_size bytes k n) ≡ map (λ j. cut_at block_size (length bytes) j) (range_with_len k n)
cuts_from block_size bytes k zero = refl
cuts_from block_size bytes k (suc n) =
    let here = length-piece_at block_size bytes k in
    let later = cuts_from block_size bytes (k + 1) n in
    cc

-- a plain list cuts its file whole
pub CutWhole-plain_blocks : (block_size : ℕ) (bytes : List ℕ) → CutWhole block_size (length bytes) (plain_blocks block_size bytes)
unfolding plain_blocks
CutWhole-plain_blocks block_size bytes = cuts_from block_size bytes 0 (block_count block_size (length bytes))

-- the blocks of all pieces are the plain list
pub is-plain : (size block_size n : ℕ) (bytes : List ℕ) (list : List Block) → block_size ≡ size → n ≡ block_count size (length bytes) →
    list ≡ blocks_from block_size bytes 0 n → list ≡ plain_blocks size bytes
unfolding plain_blocks
is-plain size block_size n bytes list same all is =
    is ∙ ap (λ m. blocks_from block_size bytes 0 m) all ∙ ap (λ s. blocks_from s bytes 0 (block_count size (length bytes))) same

pub IfOk-plain : {X E : Type 0} (made : Result X E) (items : X → List Block) (size block_size n : ℕ) (bytes : List ℕ) →
    block_size ≡ size → n ≡ block_count size (length bytes) →
    IfOk made (λ list. items list ≡ blocks_from block_size bytes 0 (n - 0)) → IfOk made (λ list. items list ≡ plain_blocks size bytes)
IfOk-plain (Ok list) items size block_size n bytes same all is = is-plain size block_size (n - 0) bytes (items list) same (omega (arith, all)) is
IfOk-plain (Err e) items size block_size n bytes same all is = is
