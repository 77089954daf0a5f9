use Rattle.std.proofs.Common.{sym, subst}
use Rattle.syncaudit.specs.Status.{IsExplaining}
use Rattle.syncaudit.proofs.run.explain.Goals as goal

pub returns-in-Given : goal.returns-in-Given
returns-in-Given g c =
    subst (λ one. IsExplaining c.args.goal one c.args.form (g.R.Read.remaining c.args.reader.now) (g.R.Read.remaining c.explain_given.new.reader) (g.W.Write.contents c.args.writer.now) (g.W.Write.contents c.explain_given.new.writer) (g.H.Person.heard c.args.person.now) (g.H.Person.heard c.explain_given.new.person) c.explain_given.result) (sym c.in-Given.is) c.explain_given.ensures

pub returns-in-Winners : goal.returns-in-Winners
returns-in-Winners g c =
    subst (λ one. IsExplaining c.args.goal one c.args.form (g.R.Read.remaining c.args.reader.now) (g.R.Read.remaining c.explain_under_winners.new.reader) (g.W.Write.contents c.args.writer.now) (g.W.Write.contents c.explain_under_winners.new.writer) (g.H.Person.heard c.args.person.now) (g.H.Person.heard c.explain_under_winners.new.person) c.explain_under_winners.result) (sym c.in-Winners.is) c.explain_under_winners.ensures
