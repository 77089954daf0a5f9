use Rattle.std.proofs.Common.{◌∙◌, sym}
use Rattle.std.proofs.lemmas.Iterator.Consumers.{YieldsList-from_rest, count_from_yields_List}
use Rattle.std.specs.FinMap.{entries}
use Rattle.bep_run_cut.proofs.Counted.{as_many}
use Rattle.bep_run_cut.proofs.whole.count_of.Goals as goal

pub returns : goal.returns
returns c =
    count_from_yields_List c.iter.result c.count.result c.count.ensures.ran (YieldsList-from_rest (entries c.args.names.now) c.iter.ensures)
    ∙ sym (as_many c.args.names.now)
