-- The blocks that cut a file whole tell its length, whatever their size.
use Rattle.std.proofs.Common.{◌≡◌, ℕ, ◌+◌, ◌-◌, ◌*◌, ◌/◌, ◌<◌, ◌≤◌, min, List, [], length, get_or, sym, ap, ◌∙◌, arith}
use Rattle.std.proofs.Math.Nat.{div-mul-le_self, lt-div-mul-add}
use Rattle.bep_record.specs.Block.{block_size_of, CutWhole}
use Rattle.bep_record.specs.Laws.{CutIsOfOneLength}
use Rattle.bep_record.specs.declared.block.Block.{Block}
use Rattle.bep_record.proofs.BlockSizeFacts.{some_bytes}
use Rattle.bep_record.proofs.Cuts.{count-CutWhole, at-CutWhole}

-- where the block at this place ends
abbrev end_at : List Block → ℕ → ℕ
end_at blocks i = (get_or blocks i (record { offset = 0; size = 0; hash = [] })).offset + (get_or blocks i (record { offset = 0; size = 0; hash = [] })).size

ends_there : (size start len offset bytes : ℕ) → start ≤ len → len ≤ start + size → offset ≡ start → bytes ≡ min size (len - start) → len ≡ offset + bytes
ends_there size start len offset bytes low high begins sized = omega arith

-- the file ends where the last of its blocks does
ends_with_last : (size len : ℕ) (blocks : List Block) → 0 < size → CutWhole size len blocks → len ≡ end_at blocks (length blocks - 1)
ends_with_last size len blocks some whole =
    let i = (len - 1) / size in
    let none : Block = record { offset = 0; size = 0; hash = [] } in
    let counted = count-CutWhole size len blocks whole in
    let last : (len - 1) / size ≡ length blocks - 1 = omega arith in
    let at = at-CutWhole size len blocks i none whole (omega arith) in
    let low = div-mul-le_self (len - 1) size in
    let high = lt-div-mul-add {a = len - 1} {b = size} some in
    ends_there size ((len - 1) / size * size) len (get_or blocks i none).offset (get_or blocks i none).size
    (omega arith) (omega arith) (ap (λ (cut : ℕ × ℕ). cut.0) at) (ap (λ (cut : ℕ × ℕ). cut.1) at)
    ∙ ap (end_at blocks) last

pub cut_is_of_one_length : CutIsOfOneLength
cut_is_of_one_length len other blocks whole also =
    ends_with_last (block_size_of len) len blocks (some_bytes len) whole
    ∙ sym (ends_with_last (block_size_of other) other blocks (some_bytes other) also)
