use Rattle.std.proofs.Common.{sym, subst}
use Rattle.syncaudit.specs.Status.{IsChecking}
use Rattle.syncaudit.proofs.run.check.Goals as goal

pub returns-in-Given-clause-told : goal.returns-in-Given-clause-told
returns-in-Given-clause-told g c =
    subst (λ under. IsChecking under (g.R.Read.remaining c.args.reader.now) (g.R.Read.remaining c.check_and_tell.new.reader) (g.W.Write.contents c.args.writer.now) (g.W.Write.contents c.check_and_tell.new.writer) (g.H.Person.heard c.args.person.now) (g.H.Person.heard c.check_and_tell.new.person) c.check_and_tell.result) (sym c.in-Given.is) (c.check_and_tell.ensures.told, c.check_and_tell.ensures.heard)

pub returns-in-Winners-clause-told : goal.returns-in-Winners-clause-told
returns-in-Winners-clause-told g c =
    subst (λ under. IsChecking under (g.R.Read.remaining c.args.reader.now) (g.R.Read.remaining c.check_under_winners_and_tell.new.reader) (g.W.Write.contents c.args.writer.now) (g.W.Write.contents c.check_under_winners_and_tell.new.writer) (g.H.Person.heard c.args.person.now) (g.H.Person.heard c.check_under_winners_and_tell.new.person) c.check_under_winners_and_tell.result) (sym c.in-Winners.is) (c.check_under_winners_and_tell.ensures.told, c.check_under_winners_and_tell.ensures.heard)
