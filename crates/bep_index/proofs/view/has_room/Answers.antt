use Rattle.std.proofs.Common.{◌≡◌, ◌+◌, ap, ◌∙◌, arith}
use Rattle.std.specs.FinMap.{len}
use Rattle.std.proofs.lemmas.Bool.Decides.{nat_tests}
use Rattle.bep_index.specs.Batch.{with_all}
use Rattle.bep_index.specs.inner.Count.{new_names}
use Rattle.bep_index.proofs.BatchFacts.{len-with_all}
use Rattle.bep_index.proofs.view.has_room.Goals as goal

pub returns : goal.returns
returns c =
    let new : c.count_new.result ≡ new_names c.args.records.now c.args.batch.now = c.count_new.ensures.value ∙ ap (new_names c.args.records.now) c.as_slice.ensures.value in
    let all : len (with_all c.args.records.now c.args.batch.now) ≡ len c.args.records.now + new_names c.args.records.now c.args.batch.now =
    len-with_all c.args.records.now c.args.batch.now c.as_slice.ensures.a_batch.names in
    grind (arith, nat_tests)
