use Rattle.std.proofs.Common.{◌∙◌, Err, refl, ap, subst}
use Rattle.std.proofs.lemmas.Result.{err_from_is_err_and}
use Rattle.bep_machine.specs.Pull.{StartPullRow}
use Rattle.bep_machine.specs.Replica.{with_pull}
use Rattle.bep_folder.specs.Held.{Held}
use Rattle.bep_folder.specs.Makes.{Makes}
use Rattle.bep_folder.specs.inner.Start.{MayPull}
use Rattle.bep_folder.specs.Views.{unchanged}
use Rattle.bep_folder.proofs.FinishFacts.{makes_from}
use Rattle.bep_folder.proofs.StartPullFacts.{begins, unrefused}
use Rattle.bep_folder.proofs.replica.Replica.start_pull.Goals as goal

pub returns-in_err-target-clause-started : goal.returns-in_err-target-clause-started
returns-in_err-target-clause-started g c =
    let old = c.args.self.now in
    let name = c.args.name.now in
    let error = err_from_is_err_and c.from_residual.result c.from_residual.ensures.1 in
    rw (error.1, error.2)
    (makes_from (StartPullRow old.device name) (StartPullRow old.device name) old (unchanged old) c.begin.new.self (Err c.in_err-target.field-0.0) refl (λ answer row. row)
    (subst (λ (h : Held). Makes (StartPullRow h.device name) h c.begin.new.self (Err c.in_err-target.field-0.0)) c.begin.ensures c.in_err-target.ensures.err))

pub returns-in_err-pull-clause-unhidden : goal.returns-in_err-pull-clause-unhidden
returns-in_err-pull-clause-unhidden g c = λ wants.
    let old = c.args.self.now in
    let name = c.args.name.now in
    unrefused old.device name old.tables c.in_ok-target.target.now (subst (λ (h : Held). MayPull h.device name h.tables c.in_ok-target.target.now) c.begin.ensures c.in_ok-target.ensures.ok)

pub returns-in_err-put_pull-clause-unhidden : goal.returns-in_err-put_pull-clause-unhidden
returns-in_err-put_pull-clause-unhidden g c = λ wants.
    let old = c.args.self.now in
    let name = c.args.name.now in
    unrefused old.device name old.tables c.in_ok-target.target.now (subst (λ (h : Held). MayPull h.device name h.tables c.in_ok-target.target.now) c.begin.ensures c.in_ok-target.ensures.ok)

pub returns-clause-started : goal.returns-clause-started
returns-clause-started g c =
    let old = c.args.self.now in
    let name = c.args.name.now in
    begins old.device name old.tables c.in_ok-target.target.now (subst (λ (h : Held). MayPull h.device name h.tables c.in_ok-target.target.now) c.begin.ensures c.in_ok-target.ensures.ok)
    c.put_pull-2.new.self.tables
    (ap (λ (h : Held). h.tables) c.in_ok-put_pull.ensures.ok
    ∙ ap (λ (h : Held). with_pull h.tables name c.in_ok-pull.pull) c.begin.ensures
    ∙ ap (with_pull old.tables name) c.in_ok-pull.ensures)
