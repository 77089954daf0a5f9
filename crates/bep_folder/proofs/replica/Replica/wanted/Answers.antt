use Rattle.std.proofs.Common.{rules, ◌≡◌, subst, sym}
use Rattle.bep_record.specs.declared.entry.Entry.{Entry}
use Rattle.bep_choice.specs.Need.{IsNeeded}
use Rattle.bep_machine.specs.Replica.{own_at}
use Rattle.bep_folder.proofs.replica.Replica.wanted.Goals as goal

pub returns-then-not-needs-clause-none : goal.returns-then-not-needs-clause-none
returns-then-not-needs-clause-none g c = λ one wants.
    let same : c.in-Some.chosen.now ≡ one = let e = c.in-Some.ensures.only one wants.chosen in cc in
    let needed : IsNeeded c.args.self.now.tables.kind (own_at c.args.self.now.tables c.args.name.now) c.in-Some.chosen.now =
    subst (λ (e : Entry). IsNeeded c.args.self.now.tables.kind (own_at c.args.self.now.tables c.args.name.now) e) (sym same) wants.needed in
    absurd (search (rules, needed))

pub returns-then-not-needs-clause-only : goal.returns-then-not-needs-clause-only
returns-then-not-needs-clause-only g c = λ one wants. absurd (returns-then-not-needs-clause-none g c one wants)

pub returns-clause-only : goal.returns-clause-only
returns-clause-only g c = λ one wants. c.in-Some.ensures.only one wants.chosen

pub returns-in_default-clause-only : goal.returns-in_default-clause-only
returns-in_default-clause-only g c = λ one wants. c.in_default.ensures.only one wants.chosen

pub returns-in_default-clause-none : goal.returns-in_default-clause-none
returns-in_default-clause-none g c = λ one wants. c.in_default.ensures.none one wants.chosen
