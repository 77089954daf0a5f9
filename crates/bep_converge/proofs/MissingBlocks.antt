-- How many blocks of a pull are missing: one fewer at least with each block that comes.
use Rattle.std.proofs.Common.{◌≡◌, ◌∙◌, ◌+◌, ◌<◌, ◌≤◌, ◌==◌, ◌&&◌, ℕ, Bool, true, false, List, [], ◌∷◌, map, length, Option, Some, None, Contains, refl, sym, ap, subst, ⊎_elim, if◌then◌else◌, arith}
use Rattle.std.proofs.lemmas.Bool.{eq-eqb, and_from}
use Rattle.std.proofs.lemmas.Option.{same_Some}
use Rattle.std.proofs.lemmas.Cmp.{tied_itself, nat_list_cmp_total}
use Rattle.std.specs.List.{list_any}
use Rattle.std.specs.Ordering.{is_eq}
use Rattle.bep_facts.specs.Members.{not_in_none, Contains-cons_cases, Contains-first, Contains-more}
use Rattle.bep_record.specs.declared.block.Block.{Block}
use Rattle.bep_model.specs.Tables.{Folder, FileName}
use Rattle.bep_machine.specs.declared.message.Request.{Request}
use Rattle.bep_machine.specs.Peer.{Session}
use Rattle.bep_machine.specs.Exchange.{same_bytes, is_about, is_asked, next_block, received_at}
use Rattle.bep_machine.specs.LinkEffects.{AsksFor}
use Rattle.bep_machine.specs.Sound.{AreReceived}

-- how many of the blocks weren't received
abbrev pub missing : List (Option (List ℕ)) → ℕ
missing [] = 0
missing (None ∷ received) = missing received + 1
missing (Some bytes ∷ received) = missing received

pub none_received : (blocks : List Block) → missing (map (λ (block : Block). None) blocks) ≡ length blocks
none_received [] = refl
none_received (block ∷ blocks) = let rest = none_received blocks in omega arith

pub all_received : (received : List (Option (List ℕ))) → missing received ≡ 0 → ¬ Contains received None
all_received [] none stands = not_in_none _ stands
all_received (None ∷ received) none stands = absurd (omega arith)
all_received (Some bytes ∷ received) none stands =
    ⊎_elim (λ never. cc) (λ later. all_received received none later) (Contains-cons_cases (Some bytes) received None stands)

pub not_received : (received : List (Option (List ℕ))) → 1 ≤ missing received → Contains received None
not_received [] some = absurd (omega arith)
not_received (None ∷ received) some = Contains-first None received
not_received (Some bytes ∷ received) some = Contains-more (Some bytes) received None (not_received received some)

-- a block that was received for a request that is about it
pub about_it : (request : Request) (block : Block) → AsksFor block request → is_about request block ≡ true
about_it request block asks =
    and_from (request.offset == block.offset) ((request.size == block.size) && same_bytes request.hash block.hash) (eq-eqb request.offset block.offset asks.offset)
    (and_from (request.size == block.size) (same_bytes request.hash block.hash) (eq-eqb request.size block.size asks.size)
    (ap (λ (hash : List ℕ). same_bytes hash block.hash) asks.hash ∙ ap is_eq (tied_itself nat_list_cmp_total block.hash)))

-- no block that was received is missed again
none_lost : (request : Request) (bytes : List ℕ) (blocks : List Block) (received : List (Option (List ℕ))) → missing (received_at request bytes blocks received) ≤ missing received
none_lost request bytes [] [] = omega arith
none_lost request bytes [] (one ∷ received) = omega arith
none_lost request bytes (block ∷ blocks) [] = omega arith
none_lost request bytes (block ∷ blocks) (None ∷ received) = let rest = none_lost request bytes blocks received in by_test (is_about request block) rest
  where
    by_test : (b : Bool) → missing (received_at request bytes blocks received) ≤ missing received → missing ((if b then Some bytes else None) ∷ received_at request bytes blocks received) ≤ missing received + 1
    by_test true rest = omega arith
    by_test false rest = omega arith
none_lost request bytes (block ∷ blocks) (Some had ∷ received) = none_lost request bytes blocks received

module _ (session : Session) (folder : Folder) (name : FileName) (unasked : session.outstanding ≡ []) where
  nothing_asked : (block : Block) → is_asked session folder name block ≡ false
  nothing_asked block = ap (λ (requests : List Request). list_any (λ request. same_bytes request.folder folder && (same_bytes request.name name && is_about request block)) requests) unasked

  -- where one is missing, one is next
  pub some_next : (blocks : List Block) (received : List (Option (List ℕ))) → AreReceived blocks received → 1 ≤ missing received → (block : Block) × (next_block session folder name blocks received ≡ Some block)
  some_next [] [] are some = absurd (omega arith)
  some_next [] (one ∷ received) are some = absurd are
  some_next (block ∷ blocks) [] are some = absurd are
  some_next (block ∷ blocks) (None ∷ received) are some =
      (block, ap (λ (b : Bool). if b then next_block session folder name blocks received else Some block) (nothing_asked block))
  some_next (block ∷ blocks) (Some had ∷ received) are some = some_next blocks received are.1 some

  -- it is one of the blocks
  pub next_is_one : (blocks : List Block) (received : List (Option (List ℕ))) (block : Block) → next_block session folder name blocks received ≡ Some block → Contains blocks block
  next_is_one [] [] block is = absurd (cc)
  next_is_one [] (one ∷ received) block is = absurd (cc)
  next_is_one (first ∷ blocks) [] block is = absurd (cc)
  next_is_one (first ∷ blocks) (None ∷ received) block is =
      let same : first ≡ block = same_Some first block (sym (ap (λ (b : Bool). if b then next_block session folder name blocks received else Some first) (nothing_asked first)) ∙ is) in
      subst (Contains (first ∷ blocks)) same (Contains-first first blocks)
  next_is_one (first ∷ blocks) (Some had ∷ received) block is = Contains-more first blocks block (next_is_one blocks received block is)

  -- and once it came fewer are missing
  pub fewer_missing : (request : Request) (bytes : List ℕ) (blocks : List Block) (received : List (Option (List ℕ))) (block : Block) → next_block session folder name blocks received ≡ Some block → AsksFor block request →
      missing (received_at request bytes blocks received) < missing received
  fewer_missing request bytes [] [] block is asks = absurd (cc)
  fewer_missing request bytes [] (one ∷ received) block is asks = absurd (cc)
  fewer_missing request bytes (first ∷ blocks) [] block is asks = absurd (cc)
  fewer_missing request bytes (first ∷ blocks) (None ∷ received) block is asks =
      let same : first ≡ block = same_Some first block (sym (ap (λ (b : Bool). if b then next_block session folder name blocks received else Some first) (nothing_asked first)) ∙ is) in
      let about : is_about request first ≡ true = ap (λ (b : Block). is_about request b) same ∙ about_it request block asks in
      let rest = none_lost request bytes blocks received in
      subst (λ (b : Bool). missing ((if b then Some bytes else None) ∷ received_at request bytes blocks received) < missing received + 1) (sym about) (omega arith)
  fewer_missing request bytes (first ∷ blocks) (Some had ∷ received) block is asks = fewer_missing request bytes blocks received block is asks
