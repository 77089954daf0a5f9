use Rattle.std.proofs.Common.{sym, subst}
use Rattle.syncaudit.specs.Status.{IsFirming}
use Rattle.syncaudit.proofs.run.firm.Goals as goal

pub returns-in-Given-clause-told : goal.returns-in-Given-clause-told
returns-in-Given-clause-told g c =
    subst (λ under. IsFirming under (g.R.Read.remaining c.args.reader.now) (g.R.Read.remaining c.firm_and_tell.new.reader) (g.W.Write.contents c.args.writer.now) (g.W.Write.contents c.firm_and_tell.new.writer) (g.H.Person.heard c.args.person.now) (g.H.Person.heard c.firm_and_tell.new.person) c.firm_and_tell.result) (sym c.in-Given.is) (c.firm_and_tell.ensures.told, c.firm_and_tell.ensures.heard)

pub returns-in-Winners-clause-told : goal.returns-in-Winners-clause-told
returns-in-Winners-clause-told g c =
    subst (λ under. IsFirming under (g.R.Read.remaining c.args.reader.now) (g.R.Read.remaining c.firm_under_winners_and_tell.new.reader) (g.W.Write.contents c.args.writer.now) (g.W.Write.contents c.firm_under_winners_and_tell.new.writer) (g.H.Person.heard c.args.person.now) (g.H.Person.heard c.firm_under_winners_and_tell.new.person) c.firm_under_winners_and_tell.result) (sym c.in-Winners.is) (c.firm_under_winners_and_tell.ensures.told, c.firm_under_winners_and_tell.ensures.heard)
