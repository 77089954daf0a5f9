use Rattle.std.proofs.Common.{◌∷◌, [], ◌++◌}
use Rattle.std.proofs.lemmas.Result.{IfOk-weaker}
use Rattle.bep_rows_answer.proofs.SoFar.{header_taken, row_taken}
use Rattle.bep_rows_answer.proofs.stream.take_line.Goals as goal

pub returns-in_ok-behind-in-None-clause-ok : goal.returns-in_ok-behind-in-None-clause-ok
returns-in_ok-behind-in-None-clause-ok g c = λ asked lines text given.
    header_taken g.A.Auditor.tells g.A.Auditor.knows asked c.args.auditor.now c.behind.new.auditor c.args.line.now c.in_ok-behind-in-None.field-0 c.in_ok-behind-in-None.ensures.ok c.in_ok-behind-in-None.ensures.begun lines text c.new.result.items c.new.ensures.items (rw c.in-None.is at given)

pub returns-in-Some-clause-ok : goal.returns-in-Some-clause-ok
returns-in-Some-clause-ok g c =
    IfOk-weaker c.take.result _ _
    (λ more taken asked lines text given.
    let so_far = rw c.in-Some.is at given in
    let told = taken.2 asked so_far.rows so_far.last so_far.known in
    row_taken g.A.Auditor.tells g.A.Auditor.knows asked c.args.auditor.now c.take.new.auditor c.args.line.now taken.0 more.items c.in-Some.rows c.take.new.self taken.1 lines text so_far told.0 told.1)
    c.take.ensures.ok
