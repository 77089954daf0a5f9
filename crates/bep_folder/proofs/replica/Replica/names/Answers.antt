use Rattle.std.proofs.Common.{rules, ◌≡◌}
use Rattle.std.specs.FinMap.{keys}
use Rattle.bep_folder.specs.Names.{AreGathered}
use Rattle.bep_folder.proofs.NamesFacts.{names_here}
use Rattle.bep_folder.proofs.replica.Replica.names.Goals as goal

pub returns-clause-names : goal.returns-clause-names
returns-clause-names g c =
    let tables = c.args.self.now.tables in
    let list = c.in_ok-stored.stored.items in
    let all : list ≡ keys tables.store = search rules in
    let are : AreGathered list tables.index.records c.in_ok-gathered.field-0 = search rules in
    names_here tables list c.in_ok-gathered.field-0 all are
