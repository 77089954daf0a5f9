use Rattle.bep_folder.proofs.NamesFacts.{all_gathered}
use Rattle.bep_folder.proofs.reading.names.gathered.Goals as goal

pub returns : goal.returns
returns c =
    all_gathered c.args.stored.now c.args.index.now.records c.in_ok-names.names c.add_recorded.new.names c.in_ok-names.ensures c.in_ok-add_recorded.ensures
