use Rattle.std.proofs.Common.{◌≡◌, ◌∙◌, arith}
use Rattle.std.specs.FinMap.{empty}
use Rattle.std.proofs.lemmas.Result.{IfOk-weaker}
use Rattle.bep_map.specs.NameMap.{ByName}
use Rattle.bep_record.specs.declared.entry.Entry.{Entry}
use Rattle.bep_index.specs.Batch.{with_all}
use Rattle.bep_cut.proofs.RecordsFacts.{all_after}
use Rattle.bep_cut.proofs.records.own_records.Goals as goal

pub returns : goal.returns
returns c =
    let few = c.in_ok-found.found.small in
    let all = all_after c.batch_records_are_found.ensures.found c.args.index.now _ c.in_ok-found.found.items c.max_sequence.ensures.an_index c.in_ok-found.ensures.found (omega arith) in
    IfOk-weaker c.by_name.result (λ (made : ByName Entry). made ≡ with_all empty c.in_ok-found.found.items) (λ made. made ≡ c.args.index.now.records) (λ made is. is ∙ all) c.by_name.ensures
