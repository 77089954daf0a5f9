use Rattle.bep_machine.proofs.StepsKept.{steps_keep_sound_lem}
use Rattle.bep_machine.proofs.sound.steps_keep_sound.Goals as goal

pub returns : goal.returns
returns c =
    steps_keep_sound_lem
    (record {
      merge_exists = c.merge_exists.ensures.exists;
      merge_is_counted = c.merge_exists.ensures.counted;
      bump_is_counted = c.bump_exists.ensures.counted;
      nothing_is_one_block = c.plain_blocks_match.ensures.nothing;
      nothing_has_its_hash = c.plain_blocks_match.ensures.nothing_hash;
      plain_is_cut_whole = c.plain_blocks_match.ensures.cut;
      puts_keep_an_index = c.puts_keep_an_index.ensures;
      cleared_is_view = c.changes_keep_a_view.ensures.cleared;
      replaced_is_view = c.changes_keep_a_view.ensures.replaced;
      amended_is_view = c.changes_keep_a_view.ensures.amended;
      batch_found = c.batch_records_are_found.ensures.found;
    })
