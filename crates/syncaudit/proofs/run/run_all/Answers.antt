use Rattle.std.proofs.Common.{◌∙◌, map, subst}
use Rattle.std.specs.String.{string_bytes}
use Rattle.syncaudit.specs.Status.{IsProgramRun}
use Rattle.syncaudit.proofs.StatusFacts.{run_without_memory}
use Rattle.syncaudit.proofs.run.run_all.Goals as goal

pub returns-in-Ok : goal.returns-in-Ok
returns-in-Ok g c =
    subst (λ all. IsProgramRun (map string_bytes all) (g.R.Read.remaining c.args.reader.now) (g.R.Read.remaining c.run.new.reader) (g.W.Write.contents c.args.writer.now) (g.W.Write.contents c.run.new.writer) (g.H.Person.heard c.args.person.now) (g.H.Person.heard c.run.new.person) c.run.result)
    (c.as_slice.ensures.value ∙ c.in-Ok.ensures)
    (record {
      followed = c.run.ensures.followed;
      unfollowed = c.run.ensures.unfollowed;
      end = c.run.ensures.end;
      settled = c.run.ensures.settled;
      settled_under_winners = c.run.ensures.settled_under_winners;
      firm = c.run.ensures.firm;
      firm_under_winners = c.run.ensures.firm_under_winners;
      converging = c.run.ensures.converging;
      settled_rows = c.run.ensures.settled_rows;
      firm_rows = c.run.ensures.firm_rows;
      converging_rows = c.run.ensures.converging_rows;
      ends_settled = c.run.ensures.ends_settled;
      lives_settled = c.run.ensures.lives_settled;
    })

pub returns-in-Err : goal.returns-in-Err
returns-in-Err g c = run_without_memory _ _ c.end.ensures.heard c.faultless_words_ask.ensures _ _ _ _ c.end.ensures.status
