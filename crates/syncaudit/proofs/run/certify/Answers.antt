use Rattle.std.proofs.Common.{sym, subst}
use Rattle.syncaudit.specs.Status.{IsCertifying}
use Rattle.syncaudit.proofs.run.certify.Goals as goal

pub returns-in-All : goal.returns-in-All
returns-in-All g c =
    subst (λ one. IsCertifying one (g.R.Read.remaining c.args.reader.now) (g.R.Read.remaining c.certify_and_tell.new.reader) (g.W.Write.contents c.args.writer.now) (g.W.Write.contents c.certify_and_tell.new.writer) (g.H.Person.heard c.args.person.now) (g.H.Person.heard c.certify_and_tell.new.person) c.certify_and_tell.result) (sym c.in-All.is) (c.certify_and_tell.ensures.told, c.certify_and_tell.ensures.heard)

pub returns-in-Won : goal.returns-in-Won
returns-in-Won g c =
    subst (λ one. IsCertifying one (g.R.Read.remaining c.args.reader.now) (g.R.Read.remaining c.certify_partly_and_tell.new.reader) (g.W.Write.contents c.args.writer.now) (g.W.Write.contents c.certify_partly_and_tell.new.writer) (g.H.Person.heard c.args.person.now) (g.H.Person.heard c.certify_partly_and_tell.new.person) c.certify_partly_and_tell.result) (sym c.in-Won.is) (c.certify_partly_and_tell.ensures.told, c.certify_partly_and_tell.ensures.heard)
