use Rattle.std.proofs.Common.{◌≡◌, ◌∙◌, Some, sym, ap, subst, refl}
use Rattle.bep_record.specs.declared.entry.Entry.{Entry}
use Rattle.bep_machine.specs.Replica.{Replica, pull_at}
use Rattle.bep_folder.specs.Held.{Held}
use Rattle.bep_folder.specs.Received.{AddsTo, IsAbout, IsAboutNone}
use Rattle.bep_folder.specs.Views.{unchanged}
use Rattle.bep_folder.proofs.AskedFacts.{answered_as, are_of_asked, with_block_nowhere}
use Rattle.bep_folder.proofs.HeldFacts.{IsHeld-added}
use Rattle.bep_folder.proofs.replica.Replica.receive.Goals as goal

pub returns-in_default-place_asked-clause-ok : goal.returns-in_default-place_asked-clause-ok
returns-in_default-place_asked-clause-ok g c =
    let pulled : pull_at c.args.self.now.tables c.args.request.now.name ≡ Some c.in-Some.pull.now =
    ap (λ (h : Held). pull_at h.tables c.args.request.now.name) (sym c.begin.ensures) ∙ ap (λ (h : Held). pull_at h.tables c.args.request.now.name) (sym c.self.view_is) ∙ sym c.in-Some.ensures in
    let none = subst (λ (target : Entry). IsAboutNone c.args.request.now target.blocks) c.target.ensures.value c.in_default-place_asked.ensures.none in
    c.begin.ensures
    ∙ ap (λ (t : Replica). record (unchanged c.args.self.now) { tables = t }) (sym (with_block_nowhere c.args.request.now c.args.bytes.now c.args.self.now.tables c.in-Some.pull.now pulled none))

pub add_in-requires : goal.add_in-requires
add_in-requires g c =
    let about = subst (λ (target : Entry). IsAbout c.args.request.now target.blocks c.in-Some-place_asked.place) c.target.ensures.value c.in-Some-place_asked.ensures.some in
    (c.in-Some.pull.now, sym c.in-Some.ensures, (about.0, about.1, are_of_asked c.args.request.now about.0 c.args.bytes.now c.requires about.2))

pub invariant_of-self : goal.invariant_of-self
invariant_of-self g c =
    IsHeld-added c.add_in.result c.self.inside.device c.self.inside.others c.self.inside.views c.self.inside.pulls c.add_in.new.pulls c.args.request.now.name c.in-Some-place_asked.place c.args.bytes.now
    c.add_in.ensures.ok c.add_in.ensures.err c.self.invariant

pub invariant_of-self-2 : goal.invariant_of-self-2
invariant_of-self-2 g c =
    IsHeld-added c.add_in.result c.self.inside.device c.self.inside.others c.self.inside.views c.self.inside.pulls c.add_in.new.pulls c.args.request.now.name c.in-Some-place_asked.place c.args.bytes.now
    c.add_in.ensures.ok c.add_in.ensures.err c.self.invariant

pub returns-clause-ok : goal.returns-clause-ok
returns-clause-ok g c =
    let tables = c.args.self.now.tables in
    let name = c.args.request.now.name in
    let same = c.self.view_is ∙ c.begin.ensures in
    let pulled : pull_at tables name ≡ Some c.in-Some.pull.now =
    ap (λ (h : Held). pull_at h.tables name) (sym same) ∙ sym c.in-Some.ensures in
    let adds = subst (λ (h : Held). AddsTo name c.in-Some-place_asked.place c.args.bytes.now h.tables.pulls c.add_in.new.pulls) same c.in_ok-add_in.ensures.ok in
    let about = subst (λ (target : Entry). IsAbout c.args.request.now target.blocks c.in-Some-place_asked.place) c.target.ensures.value c.in-Some-place_asked.ensures.some in
    ap (λ (h : Held). record h { tables = record h.tables { pulls = c.add_in.new.pulls } }) same
    ∙ ap (λ (t : Replica). record (unchanged c.args.self.now) { tables = t })
    (answered_as tables c.add_in.new.pulls name c.in-Some-place_asked.place c.args.bytes.now c.in-Some.pull.now c.target.ensures.a_pull.formed pulled adds c.args.request.now (refl, (c.in-Some.pull.now, pulled, about)))
