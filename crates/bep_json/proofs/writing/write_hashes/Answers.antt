use Rattle.std.proofs.Common.{[], map, sym, ap, subst, arith}
use Rattle.std.specs.List.{AllByRecursion}
use Rattle.std.proofs.lemmas.List.{drop_all, drop_more}
use Rattle.bep_record.specs.declared.block.Block.{Block}
use Rattle.bep_json.specs.Texts.{is_text, read_hash}
use Rattle.bep_json.specs.Says.{Says}
use Rattle.bep_json.specs.Written.{hex_written}
use Rattle.bep_json.proofs.AddedFacts.{last_item, list_added, next_item}
use Rattle.bep_json.proofs.writing.write_hashes.Goals as goal

pub loop-block-preserved : goal.loop-block-preserved
loop-block-preserved c =
    let l = c.loop-block in
    let here = drop_more c.args.blocks.now l.block-index (record { offset = 0; size = 0; hash = [] }) (omega arith) in
    let one = c.in_ok-write_hash.ensures in
    record {
      written = λ end rest. l.invariant.written end (next_item hex_written (ap (map (λ (b : Block). b.hash)) here) one.value rest);
      back = λ rest. l.invariant.back (subst (AllByRecursion (λ (b : Block). Says is_text read_hash b.hash (hex_written b.hash))) (sym here) (one.back, rest));
    }

pub returns-clause-value : goal.returns-clause-value
returns-clause-value c =
    list_added c.in_ok-begin_array.ensures
    (c.loop-block.invariant.written _ (last_item hex_written (ap (map (λ (b : Block). b.hash)) (drop_all c.loop-block.block-index c.args.blocks.now (omega arith))) c.in_ok-end_array.ensures))
