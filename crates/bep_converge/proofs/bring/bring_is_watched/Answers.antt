use Rattle.bep_converge.proofs.Brought.{bring_is_watched_lem}
use Rattle.bep_converge.proofs.bring.bring_is_watched.Goals as goal

pub returns : goal.returns
returns c =
    bring_is_watched_lem
    (record {
      keep_sound = c.steps_keep_sound.ensures;
      keep_hashes = c.steps_keep_hashes.ensures;
      gapless = c.runs_are_gapless.ensures.runs;
      goes_on = c.prevailing_goes_on.ensures;
    })
    c.begin_opens_session.ensures c.config_is_taken.ensures c.records_are_announced.ensures.whole c.records_are_announced.ensures.further c.batch_records_are_found.ensures.found c.choice_exists.ensures c.start_pull_begins.ensures
    c.request_is_answered.ensures c.finish_adopts.ensures.adopts c.merge_exists.ensures.counted
