use Rattle.bep_json.proofs.WrittenFacts.{version_says}
use Rattle.bep_json.proofs.writing.version_is_told.Goals as goal

pub returns : goal.returns
returns c = version_says c.args.version.now c.counters.ensures.well_formed c.counters.ensures.few
