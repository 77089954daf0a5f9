-- Blocks that were received, all of them and with their hashes, are the file that the target tells.
use Rattle.std.proofs.Common.{◌≡◌, ◌≤◌, ◌+◌, ◌-◌, ◌*◌, ◌/◌, ◌++◌, ◌∙◌, ℕ, zero, suc, min, List, [], ◌∷◌, length, length-append, take, take_all, drop, map, Contains, Option, Some, None, unwrap_or, refl, sym, ap, append_assoc, arith}
use Rattle.std.specs.List.{concat, range_with_len}
use Rattle.std.proofs.lemmas.List.{append-nil}
use Rattle.std.proofs.Math.Seq.{drop-append_seam, take-append_seam}
use Rattle.bep_facts.specs.Members.{Contains-first, Contains-more}
use Rattle.bep_record.specs.declared.block.Block.{Block}
use Rattle.bep_record.specs.Block.{block_count, block_size_of, cut_at, CutWhole}
use Rattle.bep_record.proofs.BlockSizeFacts.{begins_within, blocks_cover, some_bytes}
use Rattle.bep_blocks.specs.Plain.{block_of, file_blocks, hash_of, plain_block, plain_blocks}
use Rattle.bep_machine.specs.Sound.{AreReceived}
use Rattle.bep_converge.specs.Received.{HaveHashes}

-- the bytes that were received
abbrev pub bytes_of : List (Option (List ℕ)) → List ℕ
bytes_of received = concat (map (λ bytes. unwrap_or bytes []) received)

-- What is known of the pieces from place k on, n of them: they are cut from a file of this length, came whole, and have their
-- hashes.
record AreAll (bs len n k : ℕ) (blocks : List Block) (received : List (Option (List ℕ))) : Type 0 where
  cut : map (λ (b : Block). (b.offset, b.size)) blocks ≡ map (λ j. cut_at bs len j) (range_with_len k n)
  sizes : AreReceived blocks received
  hashes : HaveHashes blocks received
  all : ¬ Contains received None
  -- all but the last are full, and the last ends the file
  full : k * bs + n * bs ≤ len + bs
  covered : len ≤ k * bs + n * bs

-- behind these bytes of the file the pieces are the rest of it, and their plain blocks are the blocks
record AreRest (bs len n k : ℕ) (before : List ℕ) (blocks : List Block) (received : List (Option (List ℕ))) : Type 0 where
  size : length (bytes_of received) + k * bs ≡ len
  plain : map (λ j. plain_block bs (before ++ bytes_of received) j) (range_with_len k n) ≡ blocks

-- the block of a piece that stands behind these bytes
piece_is_block : (bs k : ℕ) (before piece rest : List ℕ) (block : Block) → length before ≡ k * bs → take bs (piece ++ rest) ≡ piece →
    block.offset ≡ k * bs → length piece ≡ block.size → hash_of piece ≡ block.hash → plain_block bs (before ++ (piece ++ rest)) k ≡ block
piece_is_block bs k before piece rest block at taken offset size hash =
    ap (λ (bytes : List ℕ). block_of (k * bs) (take bs bytes)) (ap (λ (n : ℕ). drop n (before ++ (piece ++ rest))) (sym at) ∙ drop-append_seam before (piece ++ rest))
    ∙ ap (block_of (k * bs)) taken
    ∙ (λ i. record { offset = sym offset i; size = size i; hash = hash i })

pieces : (bs len n k : ℕ) (before : List ℕ) (blocks : List Block) (received : List (Option (List ℕ))) → length before ≡ k * bs → k * bs ≤ len → AreAll bs len n k blocks received → AreRest bs len n k before blocks received
pieces bs len zero k before [] [] at within are =
    let c = are.covered in
    record { size = omega arith; plain = refl }
pieces bs len zero k before [] (one ∷ more) at within are = absurd are.sizes
pieces bs len zero k before (block ∷ more) received at within are = let e = are.cut in absurd (cc)
pieces bs len (suc n) k before [] received at within are = let e = are.cut in absurd (cc)
pieces bs len (suc n) k before (block ∷ more) [] at within are = absurd are.sizes
pieces bs len (suc n) k before (block ∷ more) (None ∷ received) at within are = absurd (are.all (Contains-first None received))
pieces bs len (suc zero) k before (block ∷ []) (Some piece ∷ []) at within are =
    let e = are.cut in
    let first : (block.offset, block.size) ≡ cut_at bs len k = cc in
    let offset : block.offset ≡ k * bs = ap (λ (cut : ℕ × ℕ). cut.0) first in
    let cut : block.size ≡ min bs (len - k * bs) = ap (λ (cut : ℕ × ℕ). cut.1) first in
    let size = are.sizes.0 in
    let f = are.full in
    let c = are.covered in
    let ends = append-nil piece in
    let short : take bs (piece ++ []) ≡ piece = ap (take bs) ends ∙ take_all bs piece (omega arith) in
    record {
      size = let l = ap length ends in omega arith;
      plain = ap (λ (b : Block). b ∷ []) (piece_is_block bs k before piece [] block at short offset size are.hashes.0);
    }
pieces bs len (suc zero) k before (block ∷ []) (Some piece ∷ one ∷ received) at within are = absurd are.sizes.1
pieces bs len (suc zero) k before (block ∷ other ∷ more) (Some piece ∷ received) at within are = let e = are.cut in absurd (cc)
pieces bs len (suc (suc n)) k before (block ∷ more) (Some piece ∷ received) at within are =
    let e = are.cut in
    let first : (block.offset, block.size) ≡ cut_at bs len k = cc in
    let offset : block.offset ≡ k * bs = ap (λ (cut : ℕ × ℕ). cut.0) first in
    let cut : block.size ≡ min bs (len - k * bs) = ap (λ (cut : ℕ × ℕ). cut.1) first in
    let tail : map (λ (b : Block). (b.offset, b.size)) more ≡ map (λ j. cut_at bs len j) (range_with_len (k + 1) (suc n)) = cc in
    let size = are.sizes.0 in
    let f = are.full in
    let c = are.covered in
    let whole : length piece ≡ bs = omega arith in
    let both = length-append before piece in
    let later : AreRest bs len (suc n) (k + 1) (before ++ piece) more received =
    pieces bs len (suc n) (k + 1) (before ++ piece) more received (omega arith) (omega arith)
    (record {
      cut = tail;
      sizes = are.sizes.1;
      hashes = are.hashes.1;
      all = λ missing. are.all (Contains-more (Some piece) received None missing);
      full = omega arith;
      covered = omega arith;
    }) in
    let taken : take bs (piece ++ bytes_of received) ≡ piece = ap (λ (m : ℕ). take m (piece ++ bytes_of received)) (sym whole) ∙ take-append_seam piece (bytes_of received) in
    let rest = later.size in
    let joined = length-append piece (bytes_of received) in
    record {
      size = omega arith;
      plain = λ i.
          piece_is_block bs k before piece (bytes_of received) block at taken offset size are.hashes.0 i ∷
          (ap (λ (bytes : List ℕ). map (λ j. plain_block bs bytes j) (range_with_len (k + 1) (suc n))) (sym (append_assoc before piece (bytes_of received))) ∙ later.plain) i;
    }

pub received_file : (size : ℕ) (blocks : List Block) (received : List (Option (List ℕ))) → CutWhole (block_size_of size) size blocks → AreReceived blocks received → HaveHashes blocks received →
    ¬ Contains received None → (length (bytes_of received) ≡ size) × (file_blocks (bytes_of received) ≡ blocks)
unfolding plain_blocks
received_file size blocks received whole sizes hashes all =
    let bs = block_size_of size in
    let covered = blocks_cover bs size (some_bytes size) in
    let begins = begins_within bs size ((size - 1) / bs) (omega arith) in
    let rest = pieces bs size (block_count bs size) 0 [] blocks received (omega arith) (omega arith)
    (record { cut = whole; sizes = sizes; hashes = hashes; all = all; full = omega arith; covered = omega arith }) in
    let long : length (bytes_of received) ≡ size = let s = rest.size in omega arith in
    (long, ap (λ (n : ℕ). map (λ j. plain_block (block_size_of n) (bytes_of received) j) (range_with_len 0 (block_count (block_size_of n) n))) long ∙ rest.plain)
