use Rattle.std.proofs.Common.{◌≡◌, true, inl, inr, refl, sym}
use Rattle.std.proofs.lemmas.Option.{same_Some}
use Rattle.bep_choice.specs.Need.{IsNeeded}
use Rattle.bep_machine.specs.Answer.{Refused}
use Rattle.bep_machine.specs.declared.refusal.Refusal.TheVariants.{KindForbids, NotNeeded, PullsFull}
use Rattle.bep_machine.specs.Pull.{IsNeededAnyway}
use Rattle.bep_machine.specs.Replica.{own_at}
use Rattle.bep_folder.proofs.StartPullFacts.{of_chosen}
use Rattle.bep_folder.proofs.replica.Replica.record_to_pull.Goals as goal

pub returns-then-needs_anyway-clause-err : goal.returns-then-needs_anyway-clause-err
returns-then-needs_anyway-clause-err g c =
    let tables = c.args.self.now.tables in
    let without : ¬ IsNeeded tables.kind (own_at tables c.args.name.now) c.in-Some.chosen.now = λ need. absurd (let yes : c.needs.result ≡ true = c.needs.ensures.1 need in let no = c.if-not-needs.true in cc) in
    of_chosen c.args.self.now.device c.args.name.now tables tables (Refused KindForbids) c.in-Some.chosen.now c.in-Some.ensures.chosen
    (inr ((λ both. both.1 (c.needs_anyway.ensures.0 c.if-needs_anyway.true)), inl (without, (refl, refl))))

pub returns-then-not-needs-clause-err : goal.returns-then-not-needs-clause-err
returns-then-not-needs-clause-err g c =
    let tables = c.args.self.now.tables in
    let without : ¬ IsNeeded tables.kind (own_at tables c.args.name.now) c.in-Some.chosen.now = λ need. absurd (let yes : c.needs.result ≡ true = c.needs.ensures.1 need in let no = c.if-not-needs.true in cc) in
    let never : ¬ IsNeededAnyway (own_at tables c.args.name.now) c.in-Some.chosen.now = λ need. absurd (let yes : c.needs_anyway.result ≡ true = c.needs_anyway.ensures.1 need in let no = c.if-needs_anyway.false in cc) in
    of_chosen c.args.self.now.device c.args.name.now tables tables (Refused NotNeeded) c.in-Some.chosen.now c.in-Some.ensures.chosen (inl ((without, never), (refl, refl)))

pub returns-then-are_pulls_full-clause-err : goal.returns-then-are_pulls_full-clause-err
returns-then-are_pulls_full-clause-err g c =
    let tables = c.args.self.now.tables in
    let need = c.needs.ensures.0 c.if-not-needs.false in
    of_chosen c.args.self.now.device c.args.name.now tables tables (Refused PullsFull) c.in-Some.chosen.now c.in-Some.ensures.chosen
    (inr ((λ both. both.0 need), inr ((λ without. without need), inl (c.are_pulls_full.ensures.0 c.if-are_pulls_full.true, (refl, refl)))))

pub returns-clause-ok : goal.returns-clause-ok
returns-clause-ok g c = record {
  chosen = c.in-Some.ensures.chosen;
  only = λ one chooses. let both = c.in-Some.ensures.only one chooses in sym (same_Some c.in-Some.chosen.now one both);
  needed = c.needs.ensures.0 c.if-not-needs.false;
  room = λ full. absurd (let yes : c.are_pulls_full.result ≡ true = c.are_pulls_full.ensures.1 full in let no = c.if-are_pulls_full.false in cc);
  valid = c.in-Some.ensures.chosen.1.left.valid.1;
  named = c.in-Some.ensures.named.0;
  within = c.in-Some.ensures.named.1;
}
