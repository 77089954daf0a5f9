use Rattle.bep_cut.proofs.RecordsFacts.{all_values}
use Rattle.std.proofs.Common.{rules}
use Rattle.bep_cut.proofs.records.known_records.Goals as goal

pub returns : goal.returns
returns c = search (rules, all_values c.batch_records_are_found.ensures.found c.batch_records_are_found.ensures.among c.args.view.now c.point.ensures.a_view)
