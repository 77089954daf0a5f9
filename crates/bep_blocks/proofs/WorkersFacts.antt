-- Runs of blocks: where they start, and that they follow one another.
use Rattle.std.proofs.Common.{◌≡◌, ℕ, zero, suc, ◌+◌, ◌-◌, ◌*◌, ◌/◌, ◌<◌, ◌≤◌, List, ◌∷◌, ◌++◌, ◌∙◌, Result, Ok, Err, IfOk, MatchResult, refl, ap, arith}
use Rattle.std.proofs.Math.Nat.{div-le_of_le-mul, div-mul-le_self, mul-div_cancel_left, mul-le-mul_right, zero-div}
use Rattle.std.proofs.lemmas.Nat.{le-div}
use Rattle.bep_record.specs.declared.block.Block.{Block}
use Rattle.bep_blocks.specs.Plain.{blocks_from, plain_block}
use Rattle.bep_blocks.specs.Workers.{run_blocks, run_start}

-- ---- the runs' starts

pub run_start-first : (workers count : ℕ) → run_start workers count 0 ≡ 0
run_start-first workers count =
    let none : 0 * count ≡ 0 = omega arith in
    ap (λ n. n / workers) none ∙ zero-div workers

pub run_start-end : (workers count : ℕ) → 0 < workers → run_start workers count workers ≡ count
run_start-end workers count some = mul-div_cancel_left count some

pub run_start-rises : (workers count worker : ℕ) → 0 < workers →
    run_start workers count worker ≤ run_start workers count (worker + 1)
run_start-rises workers count worker some =
    let below = div-mul-le_self (worker * count) workers in
    let more : worker * count ≤ (worker + 1) * count = mul-le-mul_right count (omega arith) in
    le-div (run_start workers count worker) ((worker + 1) * count) workers some (omega (arith, below, more))

-- no run reaches past the last block
pub run_start-within : (workers count worker : ℕ) → worker ≤ workers → run_start workers count worker ≤ count
run_start-within workers count worker within = div-le_of_le-mul workers (mul-le-mul_right count within)

-- ---- one run more

blocks-append : (block_size : ℕ) (bytes : List ℕ) (k m n : ℕ) →
    blocks_from block_size bytes k m ++ blocks_from block_size bytes (k + m) n ≡ blocks_from block_size bytes k (m + n)
blocks-append block_size bytes k zero n =
    let same : k + 0 ≡ k = omega arith in
    let sum : 0 + n ≡ n = omega arith in
    rw (same, sum) refl
blocks-append block_size bytes k (suc m) n =
    let later = blocks-append block_size bytes (k + 1) m n in
    let place : k + suc m ≡ k + 1 + m = omega arith in
    let sum : suc m + n ≡ suc (m + n) = omega arith in
    rw (place, sum) (ap (λ more. plain_block block_size bytes k ∷ more) later)

-- what was added is the run, where there was memory for it
pub run-added : {X E : Type 0} (run : Result X E) (items : X → List Block) (before after blocks : List Block) →
    MatchResult run (λ v. after ≡ before ++ items v) (λ _. ⊥) → IfOk run (λ v. items v ≡ blocks) → after ≡ before ++ blocks
run-added (Ok v) items before after blocks added is = added ∙ ap (λ more. before ++ more) is
run-added (Err e) items before after blocks added is = absurd added

pub runs-more : (block_size : ℕ) (bytes : List ℕ) (workers count worker : ℕ) (list run : List Block) → 0 < workers →
    list ≡ blocks_from block_size bytes 0 (run_start workers count worker) →
    run ≡ run_blocks block_size bytes workers count worker →
    list ++ run ≡ blocks_from block_size bytes 0 (run_start workers count (worker + 1))
runs-more block_size bytes workers count worker list run some before here =
    let rises = run_start-rises workers count worker some in
    let start = run_start workers count worker in
    let next = run_start workers count (worker + 1) in
    let all = blocks-append block_size bytes 0 start (next - start) in
    let sum : start + (next - start) ≡ next = omega (arith, rises) in
    let place : 0 + start ≡ start = omega arith in
    cc
