-- Which block of a record a request is about, and what a pull then receives.
use Rattle.std.proofs.Common.{◌≡◌, ℕ, zero, suc, ◌+◌, ◌*◌, ◌/◌, ◌<◌, ◌&&◌, ◌==◌, Bool, true, false, cond, List, [], ◌∷◌, map, Option, Some, None, slice_get, refl, ap, sym, subst, ◌∙◌, ⊎_elim, arith, eqb-true}
use Rattle.std.specs.Cmp.Lexicographic.{nat_list_cmp_total}
use Rattle.std.specs.Cmp.{Equal-is}
use Rattle.std.specs.FinMap.{insert}
use Rattle.std.specs.Bool.{⊤}
use Rattle.std.specs.List.{range_with_len}
use Rattle.std.proofs.Math.Nat.{mul-div_cancel}
use Rattle.std.proofs.lemmas.Bool.{ne_eqb}
use Rattle.std.proofs.lemmas.Map.Lookups.{exact_bytes}
use Rattle.bep_facts.specs.Maps.{insert-what_is_there}
use Rattle.bep_record.specs.Block.{block_count, block_size_of, cut_at}
use Rattle.bep_record.specs.Entry.{IsWellFormed}
use Rattle.bep_record.proofs.BlockSizeFacts.{some_bytes}
use Rattle.bep_record.specs.declared.block.Block.{Block}
use Rattle.bep_record.specs.declared.entry.Entry.{Entry}
use Rattle.bep_map.specs.NameMap.{ByName}
use Rattle.bep_model.specs.Tables.{FileName}
use Rattle.bep_machine.specs.declared.message.Request.{Request}
use Rattle.bep_machine.specs.Exchange.{is_about, received_at, same_bytes, with_block}
use Rattle.bep_machine.specs.Replica.{Pull, Replica, pull_at, with_pull}
use Rattle.bep_folder.specs.Pull.{AreOf, received_with, with_bytes}
use Rattle.bep_folder.specs.Received.{AddsTo, AreAsked, AsksFor, IsAbout, IsAboutNone}
use Rattle.bep_folder.proofs.BlockFacts.{cut_of}
use Rattle.bep_folder.proofs.KeptFacts.{body_cases}

-- ---- where blocks begin

-- each block begins where those before it end, all of one size
abbrev pub BeginInOrder : ℕ → ℕ → List Block → Type 0
BeginInOrder size first [] = ⊤
BeginInOrder size first (block ∷ blocks) = (block.offset ≡ first * size) × BeginInOrder size (first + 1) blocks

begin_from : (size len first count : ℕ) (blocks : List Block) → map cut_of blocks ≡ map (λ k. cut_at size len k) (range_with_len first count) → BeginInOrder size first blocks
begin_from size len first count [] cuts = tt
begin_from size len first zero (block ∷ blocks) cuts = absurd (cc)
begin_from size len first (suc count) (block ∷ blocks) cuts =
    let here : cut_of block ≡ cut_at size len first = cc in
    let later : map cut_of blocks ≡ map (λ k. cut_at size len k) (range_with_len (first + 1) count) = cc in
    (ap (λ (cut : ℕ × ℕ). cut.0) here, begin_from size len (first + 1) count blocks later)

-- so do the blocks of a record
pub blocks_begin : (target : Entry) → IsWellFormed target → BeginInOrder (block_size_of target.size) 0 target.blocks
blocks_begin target formed =
    ⊎_elim
    (λ none. subst (BeginInOrder (block_size_of target.size) 0) (sym none.1) tt)
    (λ file. begin_from (block_size_of target.size) target.size 0 (block_count (block_size_of target.size) target.size) target.blocks file.2.blocks)
    (body_cases target.deleted target.kind target formed.body)

pub offset_at : (size first place : ℕ) (blocks : List Block) (block : Block) → BeginInOrder size first blocks → slice_get blocks place ≡ Some block → block.offset ≡ (first + place) * size
offset_at size first place [] block begin found = absurd (cc)
offset_at size first zero (other ∷ blocks) block begin found =
    let same : other ≡ block = cc in
    let at = begin.0 in
    ap (λ (b : Block). b.offset) (sym same) ∙ omega (arith, at)
offset_at size first (suc place) (other ∷ blocks) block begin found =
    offset_at size (first + 1) place blocks block begin.1 found ∙ ap (λ n. n * size) (omega arith)

-- ---- what a request is about

both_left : (one other : Bool) → (one && other) ≡ true → one ≡ true
both_left true other both = refl
both_left false other both = absurd (cc)

both_right : (one other : Bool) → (one && other) ≡ true → other ≡ true
both_right true other both = both
both_right false other both = absurd (cc)

-- a request is about a block at its offset
pub about_offset : (request : Request) (block : Block) → is_about request block ≡ true → request.offset ≡ block.offset
about_offset request block about = eqb-true request.offset block.offset (both_left (request.offset == block.offset) _ about)

not_about : (request : Request) (block : Block) → ¬ (request.offset ≡ block.offset) → is_about request block ≡ false
not_about request block other =
    ap (λ here. here && ((request.size == block.size) && same_bytes request.hash block.hash)) (ne_eqb request.offset block.offset other)

place_of_offset : (size place offset : ℕ) → 0 < size → offset ≡ (0 + place) * size → place ≡ offset / size
place_of_offset size place offset some at =
    let place_is : 0 + place ≡ place = omega arith in
    sym (ap (λ n. n / size) (at ∙ ap (λ n. n * size) place_is) ∙ mul-div_cancel place some)

-- It is about no block, unless about the one whose place its offset tells.
pub about_none : (request : Request) (target : Entry) → IsWellFormed target →
    ¬ IsAbout request target.blocks (request.offset / block_size_of target.size) → IsAboutNone request target.blocks
about_none request target formed none place block found = there (is_about request block) refl where
  there : (about : Bool) → is_about request block ≡ about → is_about request block ≡ false
  there false is = is
  there true is =
      let at = offset_at (block_size_of target.size) 0 place target.blocks block (blocks_begin target formed) found in
      let offset = about_offset request block is in
      let told : place ≡ request.offset / block_size_of target.size = place_of_offset (block_size_of target.size) place request.offset (some_bytes target.size) (offset ∙ at) in
      absurd (none (block, subst (λ n. slice_get target.blocks n ≡ Some block) told found, is))

-- ---- what is received

-- blocks that begin further on stay as they are
received_before : (request : Request) (bytes : List ℕ) (size first : ℕ) (blocks : List Block) (received : List (Option (List ℕ))) →
    0 < size → request.offset < first * size → BeginInOrder size first blocks → received_at request bytes blocks received ≡ received
received_before request bytes size first [] received some before begin = refl
received_before request bytes size first (block ∷ blocks) [] some before begin = refl
received_before request bytes size first (block ∷ blocks) (None ∷ received) some before begin =
    let at = begin.0 in
    let next : request.offset < (first + 1) * size = omega (arith, before) in
    ap (λ here. cond here (Some bytes) None ∷ received_at request bytes blocks received) (not_about request block (λ same. absurd (omega (arith, same, at, before))))
    ∙ ap (λ more. None ∷ more) (received_before request bytes size (first + 1) blocks received some next begin.1)
received_before request bytes size first (block ∷ blocks) (Some had ∷ received) some before begin =
    let next : request.offset < (first + 1) * size = omega (arith, before) in
    ap (λ more. Some had ∷ more) (received_before request bytes size (first + 1) blocks received some next begin.1)

further : (size first place : ℕ) → first * size ≡ (first + 1 + place) * size → ¬ (0 < size)
further size first place same some =
    let more : (first + 1 + place) * size ≡ first * size + (1 + place) * size = omega arith in
    omega (arith, same, more, some)

-- the block at the place that the request is about is received, and no other
pub received_there : (request : Request) (bytes : List ℕ) (size first place : ℕ) (blocks : List Block) (received : List (Option (List ℕ))) (block : Block) →
    0 < size → BeginInOrder size first blocks → slice_get blocks place ≡ Some block → is_about request block ≡ true →
    received_at request bytes blocks received ≡ received_with received place bytes
received_there request bytes size first place [] received block some begin found about = absurd (cc)
received_there request bytes size first zero (other ∷ blocks) [] block some begin found about = refl
received_there request bytes size first (suc place) (other ∷ blocks) [] block some begin found about = refl
received_there request bytes size first zero (other ∷ blocks) (None ∷ received) block some begin found about =
    let same : block ≡ other = cc in
    let here : is_about request other ≡ true = subst (λ (b : Block). is_about request b ≡ true) same about in
    let at = begin.0 in
    let offset = about_offset request other here in
    ap (λ (is : Bool). cond is (Some bytes) None ∷ received_at request bytes blocks received) here
    ∙ ap (λ more. Some bytes ∷ more) (received_before request bytes size (first + 1) blocks received some (omega (arith, at, offset)) begin.1)
received_there request bytes size first zero (other ∷ blocks) (Some had ∷ received) block some begin found about =
    let same : block ≡ other = cc in
    let at = begin.0 in
    let offset = about_offset request other (subst (λ (b : Block). is_about request b ≡ true) same about) in
    ap (λ more. Some had ∷ more) (received_before request bytes size (first + 1) blocks received some (omega (arith, at, offset)) begin.1)
received_there request bytes size first (suc place) (other ∷ blocks) (None ∷ received) block some begin found about =
    let at = begin.0 in
    let there = offset_at size (first + 1) place blocks block begin.1 found in
    let offset = about_offset request block about in
    ap (λ here. cond here (Some bytes) None ∷ received_at request bytes blocks received) (not_about request other (λ same. absurd (further size first place (sym at ∙ sym same ∙ offset ∙ there) some)))
    ∙ ap (λ more. None ∷ more) (received_there request bytes size (first + 1) place blocks received block some begin.1 found about)
received_there request bytes size first (suc place) (other ∷ blocks) (Some had ∷ received) block some begin found about =
    ap (λ more. Some had ∷ more) (received_there request bytes size (first + 1) place blocks received block some begin.1 found about)

-- a request about none of the blocks changes nothing
pub received_nowhere : (request : Request) (bytes : List ℕ) (blocks : List Block) (received : List (Option (List ℕ))) →
    IsAboutNone request blocks → received_at request bytes blocks received ≡ received
received_nowhere request bytes [] received none = refl
received_nowhere request bytes (block ∷ blocks) [] none = refl
received_nowhere request bytes (block ∷ blocks) (None ∷ received) none =
    ap (λ here. cond here (Some bytes) None ∷ received_at request bytes blocks received) (none zero block refl)
    ∙ ap (λ more. None ∷ more) (received_nowhere request bytes blocks received (λ place other found. none (suc place) other found))
received_nowhere request bytes (block ∷ blocks) (Some had ∷ received) none =
    ap (λ more. Some had ∷ more) (received_nowhere request bytes blocks received (λ place other found. none (suc place) other found))

-- ---- the tables

-- the answer to a request about the block at this place
pub with_block_there : (request : Request) (bytes : List ℕ) (tables : Replica) (name : FileName) (place : ℕ) (pull : Pull) →
    request.name ≡ name → pull_at tables name ≡ Some pull → IsWellFormed pull.target → IsAbout request pull.target.blocks place →
    with_block request bytes (pull_at tables name) tables ≡ with_pull tables name (with_bytes pull place bytes)
with_block_there request bytes tables name place pull named pulled formed (block, found, about) =
    ap (λ held. with_block request bytes held tables) pulled
    ∙ ap (λ (at : FileName). with_pull tables at (record pull { received = received_at request bytes pull.target.blocks pull.received })) named
    ∙ ap (λ received. with_pull tables name (record pull { received = received })) (received_there request bytes (block_size_of pull.target.size) 0 place pull.target.blocks pull.received block (some_bytes pull.target.size) (blocks_begin pull.target formed) found about)

-- the answer to one about none of them
pub with_block_nowhere : (request : Request) (bytes : List ℕ) (tables : Replica) (pull : Pull) →
    pull_at tables request.name ≡ Some pull → IsAboutNone request pull.target.blocks →
    with_block request bytes (pull_at tables request.name) tables ≡ tables
with_block_nowhere request bytes tables pull pulled none =
    ap (λ held. with_block request bytes held tables) pulled
    ∙ ap (λ received. with_pull tables request.name (record pull { received = received })) (received_nowhere request bytes pull.target.blocks pull.received none)
    ∙ ap (λ pulls. record tables { pulls = pulls }) (insert-what_is_there nat_list_cmp_total exact_bytes tables.pulls request.name pull pulled)

-- what is received of a block does what the answer to a request for it does
pub answered_as : (tables : Replica) (pulls : ByName Pull) (name : FileName) (place : ℕ) (bytes : List ℕ) (pull : Pull) → IsWellFormed pull.target → pull_at tables name ≡ Some pull →
    AddsTo name place bytes tables.pulls pulls → (request : Request) → AsksFor name place tables request →
    record tables { pulls = pulls } ≡ with_block request bytes (pull_at tables name) tables
answered_as tables pulls name place bytes pull formed pulled adds request asks =
    let one : Some adds.0 ≡ Some pull = sym adds.1 ∙ pulled in
    let other : Some asks.1.0 ≡ Some pull = sym asks.1.1 ∙ pulled in
    let received : adds.0 ≡ pull = cc in
    let asked : asks.1.0 ≡ pull = cc in
    ap (λ after. record tables { pulls = after }) (adds.2 ∙ ap (λ (p : Pull). insert tables.pulls name (with_bytes p place bytes)) received)
    ∙ sym (with_block_there request bytes tables name place pull asks.0 pulled formed (subst (λ (p : Pull). IsAbout request p.target.blocks place) asked asks.1.2))

-- the bytes that a request asks for are those of the block that it is about
pub are_of_asked : (request : Request) (block : Block) (bytes : List ℕ) → AreAsked request bytes → is_about request block ≡ true → AreOf block bytes
are_of_asked request block bytes are about =
    let more = both_right (request.offset == block.offset) ((request.size == block.size) && same_bytes request.hash block.hash) about in
    let size = eqb-true request.size block.size (both_left (request.size == block.size) (same_bytes request.hash block.hash) more) in
    let hash = both_right (request.size == block.size) (same_bytes request.hash block.hash) more in
    record { size = are.size ∙ size; hash = are.hash ∙ exact_bytes request.hash block.hash ((Equal-is _).0 hash) }
