use Rattle.std.proofs.Common.{sym, subst}
use Rattle.syncaudit.specs.Status.{IsExplainingRows}
use Rattle.syncaudit.proofs.rows.explain_rows.Goals as goal

pub returns-in-Settled-clause-told : goal.returns-in-Settled-clause-told
returns-in-Settled-clause-told g c =
    subst (λ goal. IsExplainingRows goal (g.R.Read.remaining c.args.reader.now) (g.R.Read.remaining c.explain_rows_and_tell.new.reader) (g.W.Write.contents c.args.writer.now) (g.W.Write.contents c.explain_rows_and_tell.new.writer) (g.H.Person.heard c.args.person.now) (g.H.Person.heard c.explain_rows_and_tell.new.person) c.explain_rows_and_tell.result) (sym c.in-Settled.is) (c.explain_rows_and_tell.ensures.told, c.explain_rows_and_tell.ensures.heard)

pub returns-in-Firm-clause-told : goal.returns-in-Firm-clause-told
returns-in-Firm-clause-told g c =
    subst (λ goal. IsExplainingRows goal (g.R.Read.remaining c.args.reader.now) (g.R.Read.remaining c.explain_firm_rows_and_tell.new.reader) (g.W.Write.contents c.args.writer.now) (g.W.Write.contents c.explain_firm_rows_and_tell.new.writer) (g.H.Person.heard c.args.person.now) (g.H.Person.heard c.explain_firm_rows_and_tell.new.person) c.explain_firm_rows_and_tell.result) (sym c.in-Firm.is) (c.explain_firm_rows_and_tell.ensures.told, c.explain_firm_rows_and_tell.ensures.heard)

pub returns-in-Converging-clause-told : goal.returns-in-Converging-clause-told
returns-in-Converging-clause-told g c =
    subst (λ goal. IsExplainingRows goal (g.R.Read.remaining c.args.reader.now) (g.R.Read.remaining c.explain_converge_rows_and_tell.new.reader) (g.W.Write.contents c.args.writer.now) (g.W.Write.contents c.explain_converge_rows_and_tell.new.writer) (g.H.Person.heard c.args.person.now) (g.H.Person.heard c.explain_converge_rows_and_tell.new.person) c.explain_converge_rows_and_tell.result) (sym c.in-Converging.is) (c.explain_converge_rows_and_tell.ensures.told, c.explain_converge_rows_and_tell.ensures.heard)
