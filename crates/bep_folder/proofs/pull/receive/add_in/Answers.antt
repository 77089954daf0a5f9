use Rattle.std.proofs.Common.{sym}
use Rattle.bep_folder.proofs.HeldFacts.{unchanged_pulls}
use Rattle.bep_folder.proofs.pull.receive.add_in.Goals as goal

pub returns-clause-err : goal.returns-clause-err
returns-clause-err c =
    unchanged_pulls c.add.result c.args.pulls.now c.args.name.now c.in-Some.pull.now c.add.new.self (sym c.in-Some.ensures.value) c.add.ensures.err
