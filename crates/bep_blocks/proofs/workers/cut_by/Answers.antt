use Rattle.std.proofs.Common.{◌≡◌, ◌<◌, ◌∙◌, refl, ap, arith, rules, IfOk}
use Rattle.bep_blocks.specs.Plain.{blocks_from}
use Rattle.bep_blocks.specs.Workers.{run_blocks, run_start}
use Rattle.bep_blocks.proofs.PlainFacts.{is-plain}
use Rattle.bep_blocks.proofs.WorkersFacts.{run-added, run_start-end, runs-more}
use Rattle.bep_blocks.proofs.workers.cut_by.Goals as goal

pub loop-worker-preserved : goal.loop-worker-preserved
loop-worker-preserved g c =
    let size = c.bytes_of-block_size.result in
    let bytes = c.args.bytes.now in
    let workers = c.min-workers.result in
    let count = c.block_count.result in
    let worker = c.loop-worker.worker in
    let list = c.loop-worker.list.items in
    let made = (c.in_ok-runs.ensures.each worker c.index.result.now (omega arith)).1.met in
    let run : IfOk c.index.result.now (λ v. v.items ≡ run_blocks size bytes workers count worker) = search rules in
    let added = run-added c.index.result.now (λ v. v.items) list c.add_run.new.list.items (run_blocks size bytes workers count worker) c.in_ok-add_run.ensures run in
    added ∙ runs-more size bytes workers count worker list (run_blocks size bytes workers count worker) (omega arith) c.loop-worker.invariant refl

pub returns : goal.returns
returns g c =
    let size = c.bytes_of-block_size.result in
    let bytes = c.args.bytes.now in
    let workers = c.min-workers.result in
    let count = c.block_count.result in
    let end : c.loop-worker.worker ≡ workers = omega arith in
    let some : 0 < workers = omega arith in
    let whole : run_start workers count c.loop-worker.worker ≡ count = ap (λ w. run_start workers count w) end ∙ run_start-end workers count some in
    is-plain c.args.size size count bytes c.loop-worker.list.items c.bytes_of-block_size.ensures.value (omega arith)
    (c.loop-worker.invariant ∙ ap (λ n. blocks_from size bytes 0 n) whole)
