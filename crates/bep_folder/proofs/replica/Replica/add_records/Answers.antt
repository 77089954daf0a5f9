use Rattle.std.proofs.Common.{◌≡◌, ◌∙◌, ◌∷◌, [], List, map, subst, sym}
use Rattle.std.specs.FinMap.{values}
use Rattle.std.specs.Map.Iter.{deref}
use Rattle.std.proofs.lemmas.List.{map-append}
use Rattle.std.proofs.lemmas.Map.Iter.{iter_end}
use Rattle.bep_record.specs.declared.entry.Entry.{Entry}
use Rattle.bep_folder.specs.inner.Wanted.{AddsWanted}
use Rattle.bep_folder.proofs.WantedFacts.{IsNameOf, adds_all, adds_next}
use Rattle.bep_folder.proofs.replica.Replica.add_records.Goals as goal

pub loop-entry-preserved : goal.loop-entry-preserved
loop-entry-preserved g c =
    let device = c.args.self.now.device in
    let tables = c.args.self.now.tables in
    let before = map deref c.loop-entry.yielded in
    let added = subst (λ (entry : Entry). AddsWanted device tables c.loop-entry.names c.add_wanted.new.names (λ other. other ≡ entry.name)) c.entry.ensures.value c.in_ok-add_wanted.ensures in
    subst (λ (done : List Entry). AddsWanted device tables c.args.names.now c.add_wanted.new.names (IsNameOf done))
    (sym (map-append deref c.loop-entry.yielded (c.in-Some.entry ∷ [])))
    (adds_next device tables c.args.names.now c.loop-entry.names c.add_wanted.new.names before c.in-Some.entry.now c.loop-entry.invariant added)

pub returns : goal.returns
returns g c =
    let whole : map deref c.loop-entry.yielded ≡ values c.args.view.now.records =
    (iter_end deref (values c.args.view.now.records) c.loop-entry.yielded c.into_iter-entry-iterator.result c.loop-entry.entry-iterator c.next.new.self c.next.result
    (c.into_iter-entry-iterator.ensures.into_iter_gives ∙ c.records-entry-items.ensures.value) c.loop-entry.yielded_by c.in-None.is c.next.ensures.steps).0 in
    adds_all c.args.self.now.device c.args.self.now.tables c.args.names.now c.loop-entry.names c.args.view.now (map deref c.loop-entry.yielded) c.records-entry-items.ensures.a_view whole c.loop-entry.invariant
