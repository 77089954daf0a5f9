use Rattle.std.proofs.Common.{drop, map}
use Rattle.std.specs.List.{AllByRecursion}
use Rattle.json.specs.Written.{Written}
use Rattle.serde_json.specs.View.{items_of}
use Rattle.bep_json.specs.Added.{AddsItems}
use Rattle.bep_json.specs.Texts.{is_text, read_hash}
use Rattle.bep_json.specs.Says.{Says}
use Rattle.bep_json.specs.Written.{hex_written}
use Rattle.bep_json.proofs.writing.write_hashes.Given as goal

-- once the hashes of the blocks that are left are written too, all are; where those are read again, all are
abbrev pub invariant-loop-block : goal.invariant-loop-block
invariant-loop-block l = record {
  written : (end : Written) → AddsItems (items_of (map hex_written (map (λ b. b.hash) (drop l.block-index l.blocks)))) l.out end → AddsItems (items_of (map hex_written (map (λ b. b.hash) l.blocks))) l.initial.out end;
  back : AllByRecursion (λ b. Says is_text read_hash b.hash (hex_written b.hash)) (drop l.block-index l.blocks) → AllByRecursion (λ b. Says is_text read_hash b.hash (hex_written b.hash)) l.blocks;
}
