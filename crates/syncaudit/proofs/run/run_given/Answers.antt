use Rattle.std.proofs.Common.{IfOk, map, sym, subst}
use Rattle.std.specs.String.{string_bytes}
use Rattle.std.specs.Vec.Iter.{into_iter_items}
use Rattle.syncaudit.specs.Status.{IsProgramRun}
use Rattle.syncaudit.proofs.run.run_given.Goals as goal

pub returns-in-Ok-clause-given : goal.returns-in-Ok-clause-given
returns-in-Ok-clause-given g c =
    subst (λ words. IfOk words (λ all. IsProgramRun (map string_bytes (into_iter_items all)) (g.R.Read.remaining c.args.reader.now) (g.R.Read.remaining c.run_all.new.reader) (g.W.Write.contents c.args.writer.now) (g.W.Write.contents c.run_all.new.writer) (g.H.Person.heard c.args.person.now) (g.H.Person.heard c.run_all.new.person) c.run_all.result)) (sym c.in-Ok.is) c.run_all.ensures
