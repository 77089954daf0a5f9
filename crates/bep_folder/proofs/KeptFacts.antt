-- What follows of a pull from how its parts are kept.
use Rattle.std.proofs.Common.{◌≡◌, ◌⊎◌, ℕ, zero, suc, ◌+◌, ◌-◌, ◌*◌, ◌<◌, ◌≤◌, ◌==◌, min, Bool, true, false, cond, List, [], ◌∷◌, length, drop, set, replicate, map, Contains, Option, Some, slice_get, refl, ap, sym, ◌∙◌, inl, inr, ⊎_elim, subst, arith, eq-eqb, eqb-true}
use Rattle.std.specs.List.{range_with_len}
use Rattle.std.proofs.lemmas.List.{length-drop, length-map, length-replicate, length-take, length-set}
use Rattle.std.proofs.lemmas.List.Edits.{length-paste}
use Rattle.std.proofs.lemmas.List.FromFn.{length-map-range_with_len}
use Rattle.std.proofs.Math.Seq.{paste}
use Rattle.bep_facts.specs.Members.{Contains-first, Contains-more}
use Rattle.bep_record.specs.Block.{block_count, block_size_of, cut_at, CutWhole}
use Rattle.bep_record.proofs.BlockSizeFacts.{begins_within, blocks_cover, some_bytes}
use Rattle.bep_record.specs.Entry.{HasBlocks, HasBody, IsWellFormed}
use Rattle.bep_record.specs.declared.block.Block.{Block}
use Rattle.bep_record.specs.declared.entry.Entry.{Entry}
use Rattle.bep_record.specs.declared.kind.Kind.{Kind}
use Rattle.bep_record.specs.declared.kind.Kind.TheVariants.{File, Directory, Symlink}
use Rattle.bep_record.specs.declared.node.NodeParts.{NodeParts}
use Rattle.bep_record.specs.declared.limits.TheConstants.{MAX_FILE_SIZE}
use Rattle.bep_machine.specs.Pull.{written}
use Rattle.bep_machine.specs.Replica.{Pull}
use Rattle.bep_machine.specs.Sound.{AreReceived}
use Rattle.bep_folder.specs.PullNode.{node_of, bytes_in, with_file, sized}
use Rattle.bep_folder.specs.Pull.{AreOfBlockAt, IsKept, IsPull, received_of, received_with}
use Rattle.bep_folder.proofs.BlockFacts.{cut_block}
use Rattle.bep_folder.proofs.PullFacts.{received_paste, unflagged, whole_of}

-- ---- what a record says of its blocks

-- a record has the blocks of a file, or none
pub body_cases : (deleted : Bool) (kind : Kind) (entry : Entry) → HasBody deleted kind entry →
    ((entry.size ≡ 0) × (entry.blocks ≡ [])) ⊎ ((deleted ≡ false) × (kind ≡ File) × HasBlocks entry)
body_cases true kind entry has = inl (has.0.size, has.0.blocks)
body_cases false File entry has = inr (refl, refl, has.0)
body_cases false Directory entry has = inl (has.0.size, has.0.blocks)
body_cases false Symlink entry has = inl (has.0.size, has.0.blocks)

count_blocks : (size len : ℕ) (blocks : List Block) → CutWhole size len blocks → length blocks ≡ block_count size len
count_blocks size len blocks whole =
    sym (length-map blocks (λ (b : Block). (b.offset, b.size)))
    ∙ ap length whole
    ∙ length-map-range_with_len (λ k. cut_at size len k) 0 (block_count size len)

-- how many bytes each block of the record but the last has
abbrev pub block_bytes_of : Entry → ℕ
block_bytes_of target = block_size_of target.size

none_within : (size n : ℕ) → size ≡ 0 → size ≤ n
none_within size n none = omega arith

-- the blocks have room for all bytes
pub size_within : (target : Entry) → IsWellFormed target → target.size ≤ length target.blocks * block_bytes_of target
size_within target formed =
    ⊎_elim
    (λ none. none_within target.size (length target.blocks * block_bytes_of target) none.0)
    (λ file.
    let count = count_blocks (block_bytes_of target) target.size target.blocks file.2.blocks in
    subst (λ n. target.size ≤ n * block_bytes_of target) (sym count) (blocks_cover (block_bytes_of target) target.size (some_bytes target.size)))
    (body_cases target.deleted target.kind target formed.body)

-- a piece of a file stands within it, and has all that is left there, up to a whole block
pub record IsPiece (target : Entry) (place : ℕ) (piece : List ℕ) : Type 0 where
  pub there : target.deleted ≡ false
  pub file : target.kind ≡ File
  pub most : target.size ≤ MAX_FILE_SIZE
  pub within : place * block_bytes_of target + length piece ≤ target.size
  pub long : length piece ≡ min (block_bytes_of target) (target.size - place * block_bytes_of target)

piece_within : (size len place n : ℕ) → place < block_count size len → n ≡ min size (len - place * size) → place * size + n ≤ len
piece_within size len place n before long = let begins = begins_within size len place before in omega (arith, begins, long)

pub is_piece : (target : Entry) (place : ℕ) (piece : List ℕ) → IsWellFormed target → AreOfBlockAt target.blocks place piece → IsPiece target place piece
is_piece target place piece formed (block, found, are) =
    ⊎_elim
    (λ none. let same = none.1 in absurd (let gone : slice_get {X = Block} [] place ≡ Some block = ap (λ blocks. slice_get blocks place) (sym same) ∙ found in cc))
    (λ file.
    let cut = cut_block (block_bytes_of target) target.size place target.blocks block file.2.blocks found in
    let long : length piece ≡ min (block_bytes_of target) (target.size - place * block_bytes_of target) = are.size ∙ cut.1 in
    let within = piece_within (block_bytes_of target) target.size place (length piece) cut.0 long in
    record { there = file.0; file = file.1; most = file.2.size; within = within; long = long })
    (body_cases target.deleted target.kind target formed.body)

-- ---- the received blocks

received_fits : (size len first count : ℕ) (blocks : List Block) (flags : List Bool) (bytes : List ℕ) →
    map (λ (b : Block). (b.offset, b.size)) blocks ≡ map (λ k. cut_at size len k) (range_with_len first count) →
    length flags ≡ length blocks → length bytes ≡ len - first * size → AreReceived blocks (received_of size flags bytes)
received_fits size len first count [] [] bytes cuts same long = tt
received_fits size len first count [] (flag ∷ flags) bytes cuts same long = absurd (omega arith)
received_fits size len first count (block ∷ blocks) [] bytes cuts same long = absurd (omega arith)
received_fits size len first zero (block ∷ blocks) (flag ∷ flags) bytes cuts same long = absurd (cc)
received_fits size len first (suc count) (block ∷ blocks) (true ∷ flags) bytes cuts same long =
    let here : (block.offset, block.size) ≡ cut_at size len first = cc in
    let size_here = ap (λ (cut : ℕ × ℕ). cut.1) here in
    let later : map (λ (b : Block). (b.offset, b.size)) blocks ≡ map (λ k. cut_at size len k) (range_with_len (first + 1) count) = cc in
    let left = length-drop size bytes in
    let taken = length-take size bytes in
    (omega (arith, taken, size_here), received_fits size len (first + 1) count blocks flags (drop size bytes) later (omega arith) (omega (arith, left)))
received_fits size len first (suc count) (block ∷ blocks) (false ∷ flags) bytes cuts same long =
    let later : map (λ (b : Block). (b.offset, b.size)) blocks ≡ map (λ k. cut_at size len k) (range_with_len (first + 1) count) = cc in
    let left = length-drop size bytes in
    received_fits size len (first + 1) count blocks flags (drop size bytes) later (omega arith) (omega (arith, left))

none_fits : (size : ℕ) (blocks : List Block) (flags : List Bool) (bytes : List ℕ) → length flags ≡ length blocks → ¬ Contains flags true → AreReceived blocks (received_of size flags bytes)
none_fits size [] [] bytes same none = tt
none_fits size [] (flag ∷ flags) bytes same none = absurd (omega arith)
none_fits size (block ∷ blocks) [] bytes same none = absurd (omega arith)
none_fits size (block ∷ blocks) (true ∷ flags) bytes same none = absurd (none (Contains-first true flags))
none_fits size (block ∷ blocks) (false ∷ flags) bytes same none =
    none_fits size blocks flags (drop size bytes) (omega arith) (λ is. none (Contains-more false flags true is))

nothing_fits : (size : ℕ) (blocks : List Block) (flags : List Bool) (bytes : List ℕ) → length flags ≡ length blocks → blocks ≡ [] → AreReceived blocks (received_of size flags bytes)
nothing_fits size [] [] bytes same none = tt
nothing_fits size [] (flag ∷ flags) bytes same none = absurd (omega arith)
nothing_fits size (block ∷ blocks) flags bytes same none = absurd (cc)

-- ---- the whole

abbrev pub pull_of : Entry → Option NodeParts → List Bool → Pull
pull_of target node arrived = record { target = target; received = received_of (block_bytes_of target) arrived (bytes_in node) }

pub kept_is_pull : (target : Entry) (node : Option NodeParts) (arrived : List Bool) → IsKept target node arrived → IsPull (pull_of target node arrived)
kept_is_pull target node arrived kept = record {
  formed = kept.formed;
  valid = kept.valid;
  within = kept.within;
  received = ⊎_elim
      (λ full.
      ⊎_elim
      (λ none. nothing_fits (block_bytes_of target) target.blocks arrived (bytes_in node) kept.flags none.1)
      (λ file. received_fits (block_bytes_of target) target.size 0 (block_count (block_bytes_of target) target.size) target.blocks arrived (bytes_in node) file.2.blocks kept.flags (omega (arith, full)))
      (body_cases target.deleted target.kind target kept.formed.body))
      (λ new. none_fits (block_bytes_of target) target.blocks arrived (bytes_in node) kept.flags new.1)
      kept.filled;
}

pub kept_written : (target : Entry) (node : Option NodeParts) (arrived : List Bool) → IsKept target node arrived → ¬ Contains arrived false →
    node ≡ written (pull_of target node arrived)
kept_written target node arrived kept none =
    let room = size_within target kept.formed in
    let flags = kept.flags in
    let few : length (bytes_in node) ≤ length arrived * block_bytes_of target =
    ⊎_elim
    (λ (full : length (bytes_in node) ≡ target.size). rw flags (omega arith))
    (λ (new : (bytes_in node ≡ []) × (¬ Contains arrived true)). let empty = ap length new.0 in omega arith)
    kept.filled in
    kept.made ∙ ap (node_of target) (sym (whole_of (block_bytes_of target) arrived (bytes_in node) few none))

-- ---- one block more

node_with : (deleted : Bool) (target : Entry) (one other : List ℕ) → target.deleted ≡ deleted → with_file (node_of target one) other ≡ node_of target other
node_with true target one other is = rw is refl
node_with false target one other is = rw is refl

bytes_of_node : (target : Entry) (bytes : List ℕ) → target.deleted ≡ false → bytes_in (node_of target bytes) ≡ bytes
bytes_of_node target bytes there = rw there refl

sized_same : (size : ℕ) (bytes : List ℕ) → length bytes ≡ size → sized size bytes ≡ bytes
sized_same size bytes same = rw (eq-eqb (length bytes) size same) refl

length-sized : (size : ℕ) (bytes : List ℕ) → length (sized size bytes) ≡ size
length-sized size bytes = cases (length bytes == size) refl where
  cases : (b : Bool) → (length bytes == size) ≡ b → length (cond b bytes (replicate size 0)) ≡ size
  cases true is = eqb-true (length bytes) size is
  cases false is = length-replicate size 0

-- the node with the piece in its file
abbrev pub piece_in : Entry → Option NodeParts → ℕ → List ℕ → Option NodeParts
piece_in target node place piece = with_file node (paste (sized target.size (bytes_in node)) (place * block_bytes_of target) piece (length piece))

made_with : (target : Entry) (node : Option NodeParts) (bytes : List ℕ) → node ≡ node_of target (bytes_in node) → with_file node bytes ≡ node_of target bytes
made_with target node bytes made =
    ap (λ held. with_file held bytes) made ∙ node_with target.deleted target (bytes_in node) bytes refl

module _ (target : Entry) (node : Option NodeParts) (arrived : List Bool) (kept : IsKept target node arrived) (place : ℕ) (piece : List ℕ) (is : IsPiece target place piece) where
  held : List ℕ
  held = paste (sized target.size (bytes_in node)) (place * block_bytes_of target) piece (length piece)

  bytes_there : bytes_in (piece_in target node place piece) ≡ held
  unfolding held
  bytes_there = ap bytes_in (made_with target node held kept.made) ∙ bytes_of_node target held is.there

  pub kept_after : IsKept target (piece_in target node place piece) (set arrived place true)
  unfolding held
  kept_after = record {
    formed = kept.formed;
    valid = kept.valid;
    within = kept.within;
    flags = length-set arrived place true ∙ kept.flags;
    made = made_with target node held kept.made ∙ ap (node_of target) (sym bytes_there);
    filled = inl (
        ap length bytes_there
        ∙ length-paste (sized target.size (bytes_in node)) (place * block_bytes_of target) piece (length piece) (let all = length-sized target.size (bytes_in node) in let within = is.within in omega arith) (omega arith)
        ∙ length-sized target.size (bytes_in node));
  }

  -- what was received before is the same of the bytes that have their size
  received_sized : received_of (block_bytes_of target) arrived (bytes_in node) ≡ received_of (block_bytes_of target) arrived (sized target.size (bytes_in node))
  received_sized =
      ⊎_elim
      (λ full. ap (received_of (block_bytes_of target) arrived) (sym (sized_same target.size (bytes_in node) full)))
      (λ new. unflagged (block_bytes_of target) arrived (bytes_in node) (sized target.size (bytes_in node)) new.1)
      kept.filled

  pub received_after : slice_get arrived place ≡ Some false →
      received_of (block_bytes_of target) (set arrived place true) (bytes_in (piece_in target node place piece)) ≡ received_with (received_of (block_bytes_of target) arrived (bytes_in node)) place piece
  unfolding held
  received_after missing =
      let all = length-sized target.size (bytes_in node) in
      let within = is.within in
      let long = is.long in
      ap (received_of (block_bytes_of target) (set arrived place true)) bytes_there
      ∙ received_paste (block_bytes_of target) arrived (sized target.size (bytes_in node)) piece place (omega arith) (long ∙ ap (λ n. min (block_bytes_of target) (n - place * block_bytes_of target)) (sym all)) missing
      ∙ ap (λ received. received_with received place piece) (sym received_sized)
