-- What a device writes when it ends a pull is clean against the target: the bytes that were received are as many as the
-- record says.
use Rattle.std.proofs.Common.{◌≡◌, ◌∙◌, ◌+◌, ◌-◌, ◌*◌, ◌<◌, ℕ, zero, suc, min, Bool, true, false, cond, List, [], ◌∷◌, length, length-append, map, Contains, Option, Some, None, refl, ap, arith}
use Rattle.std.specs.List.{range_with_len}
use Rattle.bep_facts.specs.Members.{Contains-first, Contains-more}
use Rattle.bep_record.specs.declared.block.Block.{Block}
use Rattle.bep_record.specs.declared.kind.Kind.{Kind}
use Rattle.bep_record.specs.declared.kind.Kind.TheVariants as kinds
use Rattle.bep_record.specs.Block.{block_count, block_size_of, cut_at, CutWhole}
use Rattle.bep_record.specs.Node.{IsClean, LooksSame}
use Rattle.bep_record.proofs.BlockSizeFacts.{blocks_cover, some_bytes}
use Rattle.bep_model.specs.Tables.{FileName}
use Rattle.bep_machine.specs.Replica.{Pull}
use Rattle.bep_machine.specs.Pull.{IsFile, IsMissingBlocks, written}
use Rattle.bep_machine.specs.Sound.{IsSoundPull, AreReceived}
use Rattle.bep_machine.proofs.ContentFacts.{has_blocks}
use Rattle.bep_machine.proofs.WrittenNode.{sizes, bytes_of, node_of}

-- so many cuts from place k on cover so many whole blocks, or all that is left of the file there
cuts_cover : (size len k n : ℕ) → sizes (map (λ j. cut_at size len j) (range_with_len k n)) ≡ min (n * size) (len - k * size)
unfolding sizes
cuts_cover size len k zero = omega arith
cuts_cover size len k (suc n) =
    let later = cuts_cover size len (k + 1) n in
    omega arith

-- all cuts cover the file
cuts_are_whole : (size len : ℕ) → 0 < size → sizes (map (λ j. cut_at size len j) (range_with_len 0 (block_count size len))) ≡ len
cuts_are_whole size len some =
    let covered = cuts_cover size len 0 (block_count size len) in
    let all = blocks_cover size len some in
    omega arith

-- where no block is missing, the bytes are as many as the blocks have
received_whole : (blocks : List Block) (received : List (Option (List ℕ))) → AreReceived blocks received → ¬ Contains received None →
    length (bytes_of received) ≡ sizes (map (λ (b : Block). (b.offset, b.size)) blocks)
unfolding sizes
received_whole [] [] are none_missing = refl
received_whole [] (one ∷ more) are none_missing = absurd are
received_whole (block ∷ blocks) [] are none_missing = absurd are
received_whole (block ∷ blocks) (None ∷ received) are none_missing = absurd (none_missing (Contains-first None received))
received_whole (block ∷ blocks) (Some bytes ∷ received) are none_missing =
    let later = received_whole blocks received are.1 (λ missing. none_missing (Contains-more (Some bytes) received None missing)) in
    let both = length-append bytes (bytes_of received) in
    let here = are.0 in
    omega arith

file_whole : (len : ℕ) (blocks : List Block) (received : List (Option (List ℕ))) → CutWhole (block_size_of len) len blocks → AreReceived blocks received → ¬ Contains received None →
    length (bytes_of received) ≡ len
file_whole len blocks received whole are none_missing = received_whole blocks received are none_missing ∙ ap sizes whole ∙ cuts_are_whole (block_size_of len) len (some_bytes len)

looks_written : (kind : Kind) (pull : Pull) → (kind ≡ kinds.File → length (bytes_of pull.received) ≡ pull.target.size) → LooksSame kind (node_of pull) pull.target
looks_written kinds.File pull whole = (whole refl, refl, refl)
looks_written kinds.Directory pull whole = tt
looks_written kinds.Symlink pull whole = refl

pub written_is_clean : (name : FileName) (pull : Pull) → IsSoundPull name pull → ¬ (IsFile pull.target × IsMissingBlocks pull) → IsClean (written pull) (Some pull.target)
written_is_clean name pull sound received = cases pull.target.deleted refl
  where
    cases : (deleted : Bool) → pull.target.deleted ≡ deleted → IsClean (cond deleted None (Some (node_of pull))) (Some pull.target)
    cases true deleted = deleted
    cases false there = (
      there,
      refl,
      looks_written pull.target.kind pull
          (λ file.
          file_whole pull.target.size pull.target.blocks pull.received (has_blocks pull.target sound.good.formed there file).blocks sound.received
          (λ missing. received ((there, file), missing))),
    )
