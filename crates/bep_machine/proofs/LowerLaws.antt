-- The laws of the crates below that the lemmas on sound replicas take; functions of those crates have them as contracts.
use Rattle.bep_record.specs.Laws.{MergeExists, MergeIsCounted, BumpIsCounted}
use Rattle.bep_blocks.specs.Laws.{NothingIsOneBlock, NothingHasItsHash, PlainIsCutWhole}
use Rattle.bep_index.specs.Laws.{FoundIsOfBatchOrBefore, PutsKeepAnIndex, ClearedIsView, ReplacedIsView, AmendedIsView}

-- merge_exists and bump_exists of bep_record, plain_blocks_match of bep_blocks, and puts_keep_an_index,
-- changes_keep_a_view and batch_records_are_found of bep_index
pub record LowerLaws : Type 0 where
  pub merge_exists : MergeExists
  pub merge_is_counted : MergeIsCounted
  pub bump_is_counted : BumpIsCounted
  pub nothing_is_one_block : NothingIsOneBlock
  pub nothing_has_its_hash : NothingHasItsHash
  pub plain_is_cut_whole : PlainIsCutWhole
  pub puts_keep_an_index : PutsKeepAnIndex
  pub cleared_is_view : ClearedIsView
  pub replaced_is_view : ReplacedIsView
  pub amended_is_view : AmendedIsView
  pub batch_found : FoundIsOfBatchOrBefore
