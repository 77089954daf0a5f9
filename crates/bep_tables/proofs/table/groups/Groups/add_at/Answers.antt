use Rattle.std.proofs.Common.{◌≡◌, ◌+◌, ◌∷◌, ◌∙◌, [], Some, ap, map, set, subst, sym, arith}
use Rattle.std.proofs.lemmas.List.{get_or_read}
use Rattle.bep_tables.specs.Listed.{listed}
use Rattle.bep_tables.specs.inner.Groups.{AreFull, Grouping, Spot, Took, grouping, key_in, place_of, rising, spot_at}
use Rattle.bep_tables.proofs.GroupFacts.{full_there, no_spot, took_there}
use Rattle.bep_tables.proofs.table.groups.Groups.add_at.Goals as goal

pub index-group-requires : goal.index-group-requires
index-group-requires c =
    let groups = c.self.inside.groups.items in
    let places = rising c.self.inside.places.entries in
    let entries = c.self.inside.entries.items in
    let entry = c.args.entry.now in
    let there : place_of places (key_in entry) ≡ Some c.args.place = ap (λ (all : Grouping). place_of all.places (key_in entry)) c.self.view_is ∙ c.requires in
    let here = (c.self.invariant.filled (key_in entry) c.args.place there).0 in
    omega (arith, here, c.self.inside.groups.ok)

pub index_mut-requires : goal.index_mut-requires
index_mut-requires c =
    let groups = c.self.inside.groups.items in
    let places = rising c.self.inside.places.entries in
    let entries = c.self.inside.entries.items in
    let entry = c.args.entry.now in
    let there : place_of places (key_in entry) ≡ Some c.args.place = ap (λ (all : Grouping). place_of all.places (key_in entry)) c.self.view_is ∙ c.requires in
    let here = (c.self.invariant.filled (key_in entry) c.args.place there).0 in
    omega (arith, here, c.self.inside.groups.ok)

pub overflow_add-self : goal.overflow_add-self
overflow_add-self c =
    let groups = c.self.inside.groups.items in
    let places = rising c.self.inside.places.entries in
    let entries = c.self.inside.entries.items in
    let entry = c.args.entry.now in
    let there : place_of places (key_in entry) ≡ Some c.args.place = ap (λ (all : Grouping). place_of all.places (key_in entry)) c.self.view_is ∙ c.requires in
    let here = (c.self.invariant.filled (key_in entry) c.args.place there).0 in
    omega (arith, here, c.self.inside.groups.ok, c.self.inside.groups.small)

pub with_key-entry-requires : goal.with_key-entry-requires
with_key-entry-requires c =
    let groups = c.self.inside.groups.items in
    let places = rising c.self.inside.places.entries in
    let entry = c.args.entry.now in
    let there : place_of places (key_in entry) ≡ Some c.args.place = ap (λ (all : Grouping). place_of all.places (key_in entry)) c.self.view_is ∙ c.requires in
    let here = c.self.invariant.filled (key_in entry) c.args.place there in
    let read : c.index-group.result.now ≡ spot_at groups c.args.place = get_or_read groups c.args.place c.index-group.result.now here.0 c.index-group.ensures no_spot in
    ap (λ (s : Spot). s.0) read ∙ here.1

pub invariant_of-self : goal.invariant_of-self
invariant_of-self c =
    let groups = c.self.inside.groups.items in
    let places = rising c.self.inside.places.entries in
    let entries = c.self.inside.entries.items in
    let entry = c.args.entry.now in
    let there : place_of places (key_in entry) ≡ Some c.args.place = ap (λ (all : Grouping). place_of all.places (key_in entry)) c.self.view_is ∙ c.requires in
    let here = (c.self.invariant.filled (key_in entry) c.args.place there).0 in
    let spot = spot_at groups c.args.place in
    let read : c.index-group.result.now ≡ spot = get_or_read groups c.args.place c.index-group.result.now here c.index-group.ensures no_spot in
    let write : c.index_mut.result.now ≡ spot = get_or_read groups c.args.place c.index_mut.result.now here c.index_mut.ensures.value no_spot in
    let at : c.number-at.result ≡ spot.1 = c.number-at.ensures ∙ ap (λ (s : Spot). s.1) read in
    let moved : c.renumber.new.self ≡ (spot.0, spot.1 + 1) =
    c.renumber.ensures
    ∙ ap (λ (s : Spot). (s.0, c.in_ok-next.next)) write
    ∙ ap (λ n. (spot.0, n)) (c.in_ok-next.ensures ∙ ap (λ n. n + 1) at) in
    subst (λ (s : Spot). AreFull (set groups c.args.place s) places) (sym moved) (full_there groups places entries entry c.self.invariant c.args.place there)

pub returns : goal.returns
returns c =
    let groups = c.self.inside.groups.items in
    let places = rising c.self.inside.places.entries in
    let entries = c.self.inside.entries.items in
    let entry = c.args.entry.now in
    let there : place_of places (key_in entry) ≡ Some c.args.place = ap (λ (all : Grouping). place_of all.places (key_in entry)) c.self.view_is ∙ c.requires in
    let here = (c.self.invariant.filled (key_in entry) c.args.place there).0 in
    let spot = spot_at groups c.args.place in
    let read : c.index-group.result.now ≡ spot = get_or_read groups c.args.place c.index-group.result.now here c.index-group.ensures no_spot in
    let write : c.index_mut.result.now ≡ spot = get_or_read groups c.args.place c.index_mut.result.now here c.index_mut.ensures.value no_spot in
    let at : c.number-at.result ≡ spot.1 = c.number-at.ensures ∙ ap (λ (s : Spot). s.1) read in
    let moved : c.renumber.new.self ≡ (spot.0, spot.1 + 1) =
    c.renumber.ensures
    ∙ ap (λ (s : Spot). (s.0, c.in_ok-next.next)) write
    ∙ ap (λ n. (spot.0, n)) (c.in_ok-next.ensures ∙ ap (λ n. n + 1) at) in
    let put : map listed c.put_at.new.list.items ≡ set (map listed entries) spot.1 (listed entry) =
    c.put_at.ensures
    ∙ ap (λ n. set (map listed entries) n (listed c.with_key-entry.result)) at
    ∙ ap (λ one. set (map listed entries) spot.1 one) c.with_key-entry.ensures in
    subst (λ (all : Grouping). Took (listed entry ∷ []) all (grouping (set groups c.args.place c.renumber.new.self) places c.put_at.new.list.items)) c.self.view_is
    (subst (λ (s : Spot). Took (listed entry ∷ []) (grouping groups places entries) (grouping (set groups c.args.place s) places c.put_at.new.list.items)) (sym moved)
    (took_there groups places entries entry c.self.invariant c.args.place there c.put_at.new.list.items put))
