use Rattle.std.proofs.Common.{◌≡◌, ◌∙◌, true, sym, ap, subst}
use Rattle.std.specs.Prelude.{IsSome}
use Rattle.bep_machine.specs.Replica.{Replica, pull_at, without_pull}
use Rattle.bep_machine.specs.Pull.{IsStillWanted}
use Rattle.bep_folder.specs.inner.Finish.{IfPulled}
use Rattle.bep_folder.specs.Held.{Held}
use Rattle.bep_folder.specs.Calls.{CallsInFinish}
use Rattle.bep_folder.proofs.FinishFacts.{ends_dropped, ends_wanted}
use Rattle.bep_folder.proofs.replica.Replica.finish.Goals as goal

pub returns-then-not-is_still_wanted-clause-finished : goal.returns-then-not-is_still_wanted-clause-finished
returns-then-not-is_still_wanted-clause-finished g c =
    let name = c.args.name.now in
    let begun = c.begin.ensures in
    let there : IsSome (pull_at c.begin.new.self.tables name) = subst (λ (h : Held). IsSome (pull_at h.tables name)) c.self.view_is (sym c.contains.ensures ∙ c.if-not-contains.false) in
    let pulled : IsSome (pull_at c.args.self.now.tables name) = subst (λ (h : Held). IsSome (pull_at h.tables name)) begun there in
    let unwanted : IfPulled name c.begin.new.self.tables (λ pull. ¬ IsStillWanted c.begin.new.self.device c.begin.new.self.tables name pull.target) =
    λ pull is wants. absurd (let yes : c.is_still_wanted.result ≡ true = (c.is_still_wanted.ensures pull is).1 wants in let no = c.if-not-is_still_wanted.true in cc) in
    ends_dropped name c.args.self.now c.drop_pull.new.self pulled
    (subst (λ (h : Held). IfPulled name h.tables (λ pull. ¬ IsStillWanted h.device h.tables name pull.target)) begun unwanted)
    (ap (λ (h : Held). h.tables) c.drop_pull.ensures ∙ ap (λ (h : Held). without_pull h.tables name) begun)

pub returns-clause-finished : goal.returns-clause-finished
returns-clause-finished g c =
    let name = c.args.name.now in
    let begun = c.begin.ensures in
    let there : IsSome (pull_at c.begin.new.self.tables name) = subst (λ (h : Held). IsSome (pull_at h.tables name)) c.self.view_is (sym c.contains.ensures ∙ c.if-not-contains.false) in
    let pulled : IsSome (pull_at c.args.self.now.tables name) = subst (λ (h : Held). IsSome (pull_at h.tables name)) begun there in
    let wanted : IfPulled name c.begin.new.self.tables (λ pull. IsStillWanted c.begin.new.self.device c.begin.new.self.tables name pull.target) =
    λ pull is. (c.is_still_wanted.ensures pull is).0 c.if-not-is_still_wanted.false in
    ends_wanted name c.args.self.now c.begin.new.self c.end_pull-2.new.self c.end_pull-2.result (ap (λ (h : Held). h.tables) begun) pulled
    (subst (λ (h : Held). IfPulled name h.tables (λ pull. IsStillWanted h.device h.tables name pull.target)) begun wanted)
    c.end_pull-2.ensures.made

pub returns-clause-called : goal.returns-clause-called
returns-clause-called g c =
    subst (λ (tables : Replica). CallsInFinish c.args.name.now tables c.end_pull-2.new.self c.end_pull-2.result) (ap (λ (h : Held). h.tables) c.begin.ensures) c.end_pull-2.ensures.called
