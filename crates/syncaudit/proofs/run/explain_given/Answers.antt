use Rattle.std.proofs.Common.{sym, subst}
use Rattle.syncaudit.specs.Status.{IsExplainingGiven}
use Rattle.syncaudit.proofs.run.explain_given.Goals as goal

pub returns-in-Settled : goal.returns-in-Settled
returns-in-Settled g c =
    subst (λ one. IsExplainingGiven one c.args.form (g.R.Read.remaining c.args.reader.now) (g.R.Read.remaining c.explain_and_tell.new.reader) (g.W.Write.contents c.args.writer.now) (g.W.Write.contents c.explain_and_tell.new.writer) (g.H.Person.heard c.args.person.now) (g.H.Person.heard c.explain_and_tell.new.person) c.explain_and_tell.result) (sym c.in-Settled.is) (c.explain_and_tell.ensures.told, c.explain_and_tell.ensures.heard)

pub returns-in-Firm : goal.returns-in-Firm
returns-in-Firm g c =
    subst (λ one. IsExplainingGiven one c.args.form (g.R.Read.remaining c.args.reader.now) (g.R.Read.remaining c.explain_firm_and_tell.new.reader) (g.W.Write.contents c.args.writer.now) (g.W.Write.contents c.explain_firm_and_tell.new.writer) (g.H.Person.heard c.args.person.now) (g.H.Person.heard c.explain_firm_and_tell.new.person) c.explain_firm_and_tell.result) (sym c.in-Firm.is) (c.explain_firm_and_tell.ensures.told, c.explain_firm_and_tell.ensures.heard)

pub returns-in-Converging : goal.returns-in-Converging
returns-in-Converging g c =
    subst (λ one. IsExplainingGiven one c.args.form (g.R.Read.remaining c.args.reader.now) (g.R.Read.remaining c.explain_converge_and_tell.new.reader) (g.W.Write.contents c.args.writer.now) (g.W.Write.contents c.explain_converge_and_tell.new.writer) (g.H.Person.heard c.args.person.now) (g.H.Person.heard c.explain_converge_and_tell.new.person) c.explain_converge_and_tell.result) (sym c.in-Converging.is) (c.explain_converge_and_tell.ensures.told, c.explain_converge_and_tell.ensures.heard)
