use Rattle.bep_tables.specs.Cut.{tables_of}
use Rattle.bep_audit.proofs.winner.is_winner_in.Goals as goal

pub returns : goal.returns
returns c = c.holds_winner.ensures (tables_of c.args.cut.now) (c.winner_in.ensures c.args.row.now.entry.name c.requires)
