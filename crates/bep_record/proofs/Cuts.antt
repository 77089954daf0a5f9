-- A walk over the blocks of a file, beside the cuts of its length.
use Rattle.std.proofs.Common.{◌≡◌, ℕ, ◌+◌, ◌<◌, ◌≤◌, List, [], ◌∷◌, ◌++◌, length, get_or, take, map, sym, ◌∙◌, ap, arith}
use Rattle.std.specs.List.{range_with_len}
use Rattle.std.proofs.lemmas.List.{length-map, get_or-map, map_more, take_all}
use Rattle.std.proofs.lemmas.List.FromFn.{get_or-map-range_with_len, length-map-range_with_len, map-range_with_len_more}
use Rattle.bep_record.specs.Block.{CutWhole, cut_at, block_count}
use Rattle.bep_record.specs.declared.block.Block.{Block}

abbrev place_of : Block → ℕ × ℕ
place_of b = (b.offset, b.size)

-- blocks that cut a file whole are as many as its cuts
pub count-CutWhole : (size len : ℕ) (blocks : List Block) → CutWhole size len blocks → length blocks ≡ block_count size len
count-CutWhole size len blocks whole =
    sym (length-map blocks place_of) ∙ ap length whole ∙ length-map-range_with_len (λ k. cut_at size len k) 0 (block_count size len)

-- and each stands where the cut at its place does
pub at-CutWhole : (size len : ℕ) (blocks : List Block) (i : ℕ) (d : Block) → CutWhole size len blocks → i < length blocks → place_of (get_or blocks i d) ≡ cut_at size len i
at-CutWhole size len blocks i d whole below =
    let counted = count-CutWhole size len blocks whole in
    sym (get_or-map place_of blocks i d (place_of d) below)
    ∙ ap (λ cuts. get_or cuts i (place_of d)) whole
    ∙ get_or-map-range_with_len (λ k. cut_at size len k) 0 (block_count size len) i i (place_of d) (omega arith) (omega arith)

-- one more block at its place
pub cuts_more : (size len : ℕ) (blocks : List Block) (i : ℕ) (d : Block) → i < length blocks
    → map place_of (take i blocks) ≡ map (λ k. cut_at size len k) (range_with_len 0 i)
    → place_of (get_or blocks i d) ≡ cut_at size len i
    → map place_of (take (i + 1) blocks) ≡ map (λ k. cut_at size len k) (range_with_len 0 (i + 1))
cuts_more size len blocks i d below so_far here =
    map_more place_of blocks i d below
    ∙ ap (λ front. front ++ place_of (get_or blocks i d) ∷ []) so_far
    ∙ ap (λ place. map (λ k. cut_at size len k) (range_with_len 0 i) ++ place ∷ []) here
    ∙ sym (map-range_with_len_more (λ k. cut_at size len k) 0 i i (omega arith))

-- the walk is over
pub cuts_all : (size len : ℕ) (blocks : List Block) (i : ℕ) → length blocks ≤ i → i ≡ block_count size len
    → map place_of (take i blocks) ≡ map (λ k. cut_at size len k) (range_with_len 0 i)
    → CutWhole size len blocks
cuts_all size len blocks i all counted so_far =
    ap (λ bs. map place_of bs) (sym (take_all i blocks all)) ∙ so_far ∙ ap (λ n. map (λ k. cut_at size len k) (range_with_len 0 n)) counted
