use Rattle.std.proofs.Common.{◌≡◌, ◌∷◌, ◌++◌, ◌∙◌, [], List, None, Some, ap, cond, length, sym, subst, arith}
use Rattle.std.specs.Ordering.{is_eq}
use Rattle.bep_model.specs.Tables.{Folder, FileName}
use Rattle.bep_model.specs.Settled.{key_cmp}
use Rattle.bep_tables.specs.Listed.{Listed, key_at, listed}
use Rattle.bep_tables.specs.inner.Groups.{AreFull, Grouping, Spot, Took, grouping, key_in, place_of, rising}
use Rattle.bep_tables.proofs.GroupFacts.{full_new, took_new, with_key}
use Rattle.bep_tables.proofs.Rising.{place_in, put_rising}
use Rattle.bep_tables.proofs.table.groups.Groups.begin.Goals as goal

pub invariant_of-self-2 : goal.invariant_of-self-2
invariant_of-self-2 c =
    let groups = c.self.inside.groups.items in
    let places = rising c.self.inside.places.entries in
    let entries = c.self.inside.entries.items in
    let entry = c.args.entry.now in
    let missing : place_of places (key_in entry) ≡ None = ap (λ (all : Grouping). place_of all.places (key_in entry)) c.self.view_is ∙ c.requires in
    let end : c.len-place.result ≡ length groups = omega (arith, c.len-place.ensures, c.self.inside.groups.ok) in
    let put = put_rising c.self.inside.places.entries c.insert.new.self.entries entry (length groups) c.in-Ok.ensures.was_ordered c.in-Ok.ensures.ordered (λ key.
    c.in-Ok.ensures.updates.0 (record { entry = with_key entry key })
    ∙ ap (λ (k : Folder × FileName). cond (is_eq (key_cmp key k)) (Some c.len-place.result) (place_in c.self.inside.places.entries key)) (ap (λ (one : Listed). key_at one) c.of.ensures)
    ∙ ap (λ n. cond (is_eq (key_cmp key (key_in entry))) (Some n) (place_in c.self.inside.places.entries key)) end) in
    let longer : c.push_reserved.new.self.items ≡ groups ++ (key_in entry, 1) ∷ [] =
    c.push_reserved.ensures.items
    ∙ ap (λ (l : List Spot). l ++ c.of-group.result ∷ []) c.in_ok-reserve.ensures.items
    ∙ ap (λ (spot : Spot). groups ++ spot ∷ []) c.of-group.ensures in
    subst (λ (l : List Spot). AreFull l (rising c.insert.new.self.entries)) (sym longer) (full_new groups places entries entry c.self.invariant (rising c.insert.new.self.entries) missing put)

pub returns : goal.returns
returns c =
    let groups = c.self.inside.groups.items in
    let places = rising c.self.inside.places.entries in
    let entries = c.self.inside.entries.items in
    let entry = c.args.entry.now in
    let missing : place_of places (key_in entry) ≡ None = ap (λ (all : Grouping). place_of all.places (key_in entry)) c.self.view_is ∙ c.requires in
    let end : c.len-place.result ≡ length groups = omega (arith, c.len-place.ensures, c.self.inside.groups.ok) in
    let put = put_rising c.self.inside.places.entries c.insert.new.self.entries entry (length groups) c.in-Ok.ensures.was_ordered c.in-Ok.ensures.ordered (λ key.
    c.in-Ok.ensures.updates.0 (record { entry = with_key entry key })
    ∙ ap (λ (k : Folder × FileName). cond (is_eq (key_cmp key k)) (Some c.len-place.result) (place_in c.self.inside.places.entries key)) (ap (λ (one : Listed). key_at one) c.of.ensures)
    ∙ ap (λ n. cond (is_eq (key_cmp key (key_in entry))) (Some n) (place_in c.self.inside.places.entries key)) end) in
    let longer : c.push_reserved.new.self.items ≡ groups ++ (key_in entry, 1) ∷ [] =
    c.push_reserved.ensures.items
    ∙ ap (λ (l : List Spot). l ++ c.of-group.result ∷ []) c.in_ok-reserve.ensures.items
    ∙ ap (λ (spot : Spot). groups ++ spot ∷ []) c.of-group.ensures in
    subst (λ (all : Grouping). Took (listed entry ∷ []) all (grouping c.push_reserved.new.self.items (rising c.insert.new.self.entries) entries)) c.self.view_is
    (subst (λ (l : List Spot). Took (listed entry ∷ []) (grouping groups places entries) (grouping l (rising c.insert.new.self.entries) entries)) (sym longer)
    (took_new groups places entries entry c.self.invariant (rising c.insert.new.self.entries) missing put))
