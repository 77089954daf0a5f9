use Rattle.std.proofs.Common.{subst}
use Rattle.bep_model.specs.Tables.{Tables}
use Rattle.bep_row.specs.Row.{cut_with}
use Rattle.bep_rows.specs.Names.{is_name}
use Rattle.bep_rows.specs.Standing.{IsStanding}
use Rattle.bep_rows.proofs.row.standing_of_row.Goals as goal

pub returns-clause-stands : goal.returns-clause-stands
returns-clause-stands c whole is =
    let row = c.args.row.now in
    subst (λ (t : Tables). IsStanding c.args.aim t c.in_ok-standing.standing)
    (c.documents_say_only.ensures (is_name (row.folder, row.name)) whole (cut_with c.args.header.now row) is)
    c.in_ok-standing.ensures
