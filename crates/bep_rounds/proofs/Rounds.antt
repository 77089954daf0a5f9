-- What is left of a round, while batches are heard and while blocks are fetched.
use Rattle.std.proofs.Common.{◌≡◌, ◌∙◌, ◌≤◌, ◌↔◌, ℕ, zero, suc, Bool, true, false, IsTrue, List, [], ◌++◌, map, sym, subst, arith}
use Rattle.bep_model.specs.Tables.{Device, Folder, FileName}
use Rattle.bep_machine.specs.Cluster.{Cluster}
use Rattle.bep_machine.specs.Steps.{Event, IsRun}
use Rattle.bep_converge.specs.Bring.{done, hear, fetch}
use Rattle.bep_converge.specs.Watched.{HasHeardUpTo, LacksBlocks, FetchesTo, HearsTo}
use Rattle.bep_rounds.specs.Rounds.{IsQuietRun}
use Rattle.bep_rounds.proofs.QuietRuns.{no_step, both_runs}

module _ (device owner : Device) (folder : Folder) (name : FileName) (later : Cluster) where
  -- ---- batches

  module _ (sequence blocks : ℕ) where
    -- so many batches at most are still to come
    abbrev pub HearsWithin : ℕ → Cluster → Type 0
    HearsWithin most c = (batches : ℕ) × (batches ≤ most) × HearsTo device owner folder name sequence later blocks batches c

    none_to_come : (batches : ℕ) (c : Cluster) → HasHeardUpTo c device owner folder sequence → HearsTo device owner folder name sequence later blocks batches c → HearsTo device owner folder name sequence later blocks 0 c
    none_to_come zero c heard hears = hears
    none_to_come (suc batches) c heard hears = absurd (hears.0 heard)

    -- where the device has heard of the record, none is still to come
    pub all_heard : (most less : ℕ) (c : Cluster) → HasHeardUpTo c device owner folder sequence → HearsWithin most c → HearsWithin less c
    all_heard most less c heard within = (0, omega arith, none_to_come within.0 c heard within.2)

    pub record HearsNext (most : ℕ) (c : Cluster) : Type 0 where
      pub next : Cluster
      pub run : IsRun c (map done (hear device owner folder)) next
      pub within : HearsWithin most next

    -- and else the next one is
    pub one_to_come : (most : ℕ) (c : Cluster) → ¬ HasHeardUpTo c device owner folder sequence → HearsWithin (suc most) c → HearsNext most c
    one_to_come most c unheard within = by_batches within.0 within.1 within.2
      where
        by_batches : (batches : ℕ) → batches ≤ suc most → HearsTo device owner folder name sequence later blocks batches c → HearsNext most c
        by_batches zero few hears = absurd (unheard hears.0)
        by_batches (suc batches) few hears = record { next = hears.1; run = hears.2; within = (batches, omega arith, hears.3) }

    pub none_within : (c : Cluster) → HearsWithin 0 c → HearsTo device owner folder name sequence later blocks 0 c
    none_within c within = by_batches within.0 within.1 within.2
      where
        by_batches : (batches : ℕ) → batches ≤ 0 → HearsTo device owner folder name sequence later blocks batches c → HearsTo device owner folder name sequence later blocks 0 c
        by_batches zero few hears = hears
        by_batches (suc batches) few hears = absurd (omega arith)

  -- ---- blocks

  -- so many blocks at most are still missing
  abbrev pub FetchesWithin : ℕ → Cluster → Type 0
  FetchesWithin most c = (blocks : ℕ) × (blocks ≤ most) × FetchesTo device owner folder name later blocks c

  none_missing : (blocks : ℕ) (c : Cluster) → ¬ LacksBlocks c device folder name → FetchesTo device owner folder name later blocks c → FetchesTo device owner folder name later 0 c
  none_missing zero c whole fetches = fetches
  none_missing (suc blocks) c whole fetches = absurd (whole fetches.0)

  -- where the pull lacks none, none is still to be fetched
  pub all_fetched : (most less : ℕ) (c : Cluster) → ¬ LacksBlocks c device folder name → FetchesWithin most c → FetchesWithin less c
  all_fetched most less c whole within = (0, omega arith, none_missing within.0 c whole within.2)

  pub record FetchesNext (most : ℕ) (c : Cluster) : Type 0 where
    pub next : Cluster
    pub run : IsRun c (map done (fetch device owner folder name)) next
    pub within : FetchesWithin most next

  -- and else the next one is
  pub one_missing : (most : ℕ) (c : Cluster) → LacksBlocks c device folder name → FetchesWithin (suc most) c → FetchesNext most c
  one_missing most c lacks within = by_blocks within.0 within.1 within.2
    where
      by_blocks : (blocks : ℕ) → blocks ≤ suc most → FetchesTo device owner folder name later blocks c → FetchesNext most c
      by_blocks zero few fetches = absurd (fetches.0 lacks)
      by_blocks (suc blocks) few fetches = record { next = fetches.1; run = fetches.2; within = (blocks, omega arith, fetches.3) }

  pub no_more : (c : Cluster) → FetchesWithin 0 c → FetchesTo device owner folder name later 0 c
  no_more c within = by_blocks within.0 within.1 within.2
    where
      by_blocks : (blocks : ℕ) → blocks ≤ 0 → FetchesTo device owner folder name later blocks c → FetchesTo device owner folder name later 0 c
      by_blocks zero few fetches = fetches
      by_blocks (suc blocks) few fetches = absurd (omega arith)

-- ---- in the loops

-- what holds while batches are heard: so many rounds of the loop are left of so many
pub record StillHears (device owner : Device) (folder : Folder) (name : FileName) (sequence rounds left : ℕ) (old now : Cluster) : Type 0 where
  pub quiet : IsQuietRun old now
  pub within : (later : Cluster) (blocks batches : ℕ) → batches ≤ rounds → HearsTo device owner folder name sequence later blocks batches old → HearsWithin device owner folder name later sequence blocks left now

-- and while blocks are fetched
pub record StillFetches (device owner : Device) (folder : Folder) (name : FileName) (most left : ℕ) (old now : Cluster) : Type 0 where
  pub quiet : IsQuietRun old now
  pub within : (later : Cluster) (blocks : ℕ) → blocks ≤ most → FetchesTo device owner folder name later blocks old → FetchesWithin device owner folder name later left now

-- what a test tells
pub is_so : (so : Type 0) (tells : Bool) → (IsTrue tells ↔ so) → tells ≡ true → so
is_so so tells is told = is.0 told

pub is_not_so : (so : Type 0) (tells : Bool) → (IsTrue tells ↔ so) → tells ≡ false → ¬ so
is_not_so so tells is told holds = let never : false ≡ true = sym told ∙ is.1 holds in cc

-- what the next steps lead to, if they can be made
abbrev pub LeadsOn : List Event → Cluster → Cluster → Type 0
LeadsOn events now new = (more : List Event) (later : Cluster) → IsRun now (events ++ more) later → IsRun new more later

module _ (device owner : Device) (folder : Folder) (name : FileName) (sequence rounds : ℕ) (old : Cluster) where
  pub first_hears : (left : ℕ) → rounds ≤ left → StillHears device owner folder name sequence rounds left old old
  first_hears left all = record { quiet = no_step old; within = λ later blocks batches few hears. (batches, omega arith, hears) }

  -- the next batch can be heard
  pub hears_next : (most less : ℕ) (now : Cluster) → most ≡ suc less → ¬ HasHeardUpTo now device owner folder sequence → StillHears device owner folder name sequence rounds most old now →
      (later : Cluster) (blocks batches : ℕ) → batches ≤ rounds → HearsTo device owner folder name sequence later blocks batches old → HearsNext device owner folder name later sequence blocks less now
  hears_next most less now same unheard still later blocks batches few hears =
      one_to_come device owner folder name later sequence blocks less now unheard (subst (λ (n : ℕ). HearsWithin device owner folder name later sequence blocks n now) same (still.within later blocks batches few hears))

  pub heard_one_more : (most less : ℕ) (now new : Cluster) → most ≡ suc less → ¬ HasHeardUpTo now device owner folder sequence → IsQuietRun now new → LeadsOn (map done (hear device owner folder)) now new →
      StillHears device owner folder name sequence rounds most old now → StillHears device owner folder name sequence rounds less old new
  heard_one_more most less now new same unheard quiet leads still = record {
    quiet = both_runs old now new still.quiet quiet;
    within = λ later blocks batches few hears.
        let next = hears_next most less now same unheard still later blocks batches few hears in
        subst (λ (c : Cluster). HearsWithin device owner folder name later sequence blocks less c) (leads [] next.next next.run) next.within;
  }

  -- once the device has heard of it, or no round of the loop is left
  pub heard_to : (most : ℕ) (now : Cluster) → HasHeardUpTo now device owner folder sequence → StillHears device owner folder name sequence rounds most old now →
      (later : Cluster) (blocks batches : ℕ) → batches ≤ rounds → HearsTo device owner folder name sequence later blocks batches old → HearsTo device owner folder name sequence later blocks 0 now
  heard_to most now heard still later blocks batches few hears =
      none_within device owner folder name later sequence blocks now (all_heard device owner folder name later sequence blocks most 0 now heard (still.within later blocks batches few hears))

  pub heard_at_end : (left : ℕ) (now : Cluster) → StillHears device owner folder name sequence rounds left old now → left ≡ 0 →
      (later : Cluster) (blocks batches : ℕ) → batches ≤ rounds → HearsTo device owner folder name sequence later blocks batches old → HearsTo device owner folder name sequence later blocks 0 now
  heard_at_end left now still none later blocks batches few hears =
      none_within device owner folder name later sequence blocks now (subst (λ (n : ℕ). HearsWithin device owner folder name later sequence blocks n now) none (still.within later blocks batches few hears))

module _ (device owner : Device) (folder : Folder) (name : FileName) (rounds : ℕ) (old : Cluster) where
  pub first_fetches : (left : ℕ) → rounds ≤ left → StillFetches device owner folder name rounds left old old
  first_fetches left all = record { quiet = no_step old; within = λ later blocks few fetches. (blocks, omega arith, fetches) }

  -- the next block can be fetched
  pub fetches_next : (most less : ℕ) (now : Cluster) → most ≡ suc less → LacksBlocks now device folder name → StillFetches device owner folder name rounds most old now →
      (later : Cluster) (blocks : ℕ) → blocks ≤ rounds → FetchesTo device owner folder name later blocks old → FetchesNext device owner folder name later less now
  fetches_next most less now same lacks still later blocks few fetches =
      one_missing device owner folder name later less now lacks (subst (λ (n : ℕ). FetchesWithin device owner folder name later n now) same (still.within later blocks few fetches))

  pub fetched_one_more : (most less : ℕ) (now new : Cluster) → most ≡ suc less → LacksBlocks now device folder name → IsQuietRun now new → LeadsOn (map done (fetch device owner folder name)) now new →
      StillFetches device owner folder name rounds most old now → StillFetches device owner folder name rounds less old new
  fetched_one_more most less now new same lacks quiet leads still = record {
    quiet = both_runs old now new still.quiet quiet;
    within = λ later blocks few fetches.
        let next = fetches_next most less now same lacks still later blocks few fetches in
        subst (λ (c : Cluster). FetchesWithin device owner folder name later less c) (leads [] next.next next.run) next.within;
  }

  -- once the pull lacks none, or no round of the loop is left
  pub fetched_to : (most : ℕ) (now : Cluster) → ¬ LacksBlocks now device folder name → StillFetches device owner folder name rounds most old now →
      (later : Cluster) (blocks : ℕ) → blocks ≤ rounds → FetchesTo device owner folder name later blocks old → FetchesTo device owner folder name later 0 now
  fetched_to most now whole still later blocks few fetches =
      no_more device owner folder name later now (all_fetched device owner folder name later most 0 now whole (still.within later blocks few fetches))

  pub fetched_at_end : (left : ℕ) (now : Cluster) → StillFetches device owner folder name rounds left old now → left ≡ 0 →
      (later : Cluster) (blocks : ℕ) → blocks ≤ rounds → FetchesTo device owner folder name later blocks old → FetchesTo device owner folder name later 0 now
  fetched_at_end left now still none later blocks few fetches =
      no_more device owner folder name later now (subst (λ (n : ℕ). FetchesWithin device owner folder name later n now) none (still.within later blocks few fetches))
