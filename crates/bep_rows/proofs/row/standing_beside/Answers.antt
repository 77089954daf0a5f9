use Rattle.std.proofs.Common.{subst}
use Rattle.bep_rows.proofs.row.standing_beside.Goals as goal
use Rattle.bep_rows.specs.Standing.{IsStanding}
use Rattle.bep_tables.specs.Cut.{tables_of}
use Rattle.bep_tables.specs.declared.cut.CutParts.{CutParts}

pub returns-then-is_plain : goal.returns-then-is_plain
returns-then-is_plain c =
    c.plain_rows_are_firm.ensures c.args.header.now c.args.row.now c.is_a_cut.ensures c.requires (c.is_plain.ensures c.if-is_plain.true) c.args.aim

pub returns : goal.returns
returns c = subst (λ (cut : CutParts). IsStanding c.args.aim (tables_of cut) c.in_ok-standing.standing) c.in_ok-cut.ensures c.in_ok-standing.ensures
