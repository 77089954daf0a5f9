use Rattle.std.proofs.lemmas.Result.{IfOk-weaker}
use Rattle.bep_tables.specs.Cut.{tables_of}
use Rattle.bep_rows.proofs.Stands.{stands}
use Rattle.bep_rows.proofs.standing.standing_of.Goals as goal

pub returns-in-Ok : goal.returns-in-Ok
returns-in-Ok c =
    IfOk-weaker c.judged.result _ _
    (λ standing is. stands c.args.aim (tables_of c.args.cut.now) standing (record { rows = c.in-Ok.certificate; winners = c.in-Ok.ensures.winners; judged = is }))
    c.judged.ensures
