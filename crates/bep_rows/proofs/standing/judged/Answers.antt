use Rattle.std.proofs.Common.{IfOk, sym, subst}
use Rattle.bep_tables.specs.Cut.{tables_of}
use Rattle.bep_rows.specs.Standing.{IsJudged}
use Rattle.bep_rows.specs.declared.aim.Aim.{Aim}
use Rattle.bep_rows.proofs.standing.judged.Goals as goal

pub returns-in-Settled : goal.returns-in-Settled
returns-in-Settled c = subst (λ (aim : Aim). IfOk c.judged_settled.result (IsJudged aim (tables_of c.args.cut.now) c.args.certificate.now)) (sym c.in-Settled.is) c.judged_settled.ensures

pub returns-in-Firm : goal.returns-in-Firm
returns-in-Firm c = subst (λ (aim : Aim). IfOk c.judged_firm.result (IsJudged aim (tables_of c.args.cut.now) c.args.certificate.now)) (sym c.in-Firm.is) c.judged_firm.ensures
