-- What a device knows of the others' indexes, as a cut has it.
use Rattle.std.proofs.Common.{◌≡◌, ◌≢◌, ◌⊎◌, ◌==◌, ◌&&◌, ◌∙◌, true≢false, Bool, true, false, cond, List, [], ◌∷◌, map, Option, Some, None, IfSome, Contains, inl, inr, refl, ap, sym, subst}
use Rattle.std.specs.Ordering.{nat_cmp}
use Rattle.std.specs.FinMap.{get}
use Rattle.std.specs.List.{AllByRecursion}
use Rattle.std.specs.List.Sorted.{IsStrictlyIncreasing, IsStrictlySortedBy}
use Rattle.std.proofs.lemmas.List.{map-id}
use Rattle.std.proofs.lemmas.Map.Keys.{IsStrictlyIncreasing-from_sorted, sorted_from_strictly_increasing}
use Rattle.bep_facts.specs.Members.{Contains-from_flat_map, Contains-one, holds_of_member, not_in_none}
use Rattle.bep_index.specs.Index.{IsIndex}
use Rattle.bep_index.specs.Listing.{Listing}
use Rattle.bep_model.specs.Tables.{Device}
use Rattle.bep_machine.specs.Replica.{ByDevice}
use Rattle.bep_tables.specs.declared.share.PeerView.{PeerView}
use Rattle.bep_tables.specs.Cut.{AreViews, HasPoint, known_of}
use Rattle.bep_cut.specs.Share.{IsIndexIn, is_unknown, known_cut, views_cut}
use Rattle.bep_cut.proofs.Gathered.{all_each, from_one, gathered_rise}

-- the view of a device, of whose index this is known
abbrev pub shown : Device → Listing → PeerView
shown other view = record { of = other; index_id = view.id; max_sequence = view.sequence; records = view.records }

view_or_none : (other : Device) (known : Option Listing) → (known_cut other known ≡ []) ⊎ ((view : PeerView) × (known_cut other known ≡ view ∷ []) × (view.of ≡ other))
view_or_none other None = inl refl
view_or_none other (Some known) = cases (is_unknown known) where
  cases : (b : Bool) → (cond b [] (shown other known ∷ []) ≡ []) ⊎ ((view : PeerView) × (cond b [] (shown other known ∷ []) ≡ view ∷ []) × (view.of ≡ other))
  cases true = inl refl
  cases false = inr (shown other known, refl, refl)

-- a view is of something known
view_from : (other : Device) (known : Option Listing) (view : PeerView) → Contains (known_cut other known) view →
    (of : Listing) × (known ≡ Some of) × (is_unknown of ≡ false) × (shown other of ≡ view)
view_from other None view stands = absurd (not_in_none view stands)
view_from other (Some known) view stands = cases (is_unknown known) refl stands where
  cases : (b : Bool) → is_unknown known ≡ b → Contains (cond b [] (shown other known ∷ [])) view → (of : Listing) × (Some known ≡ Some of) × (is_unknown of ≡ false) × (shown other of ≡ view)
  cases true is here = absurd (not_in_none view here)
  cases false is here = (known, refl, is, Contains-one (shown other known) view here)

has_point : (other : Device) (of : Listing) (view : PeerView) → is_unknown of ≡ false → shown other of ≡ view → HasPoint view
has_point other of view known same both =
    let id : of.id ≡ 0 = ap (λ (one : PeerView). one.index_id) same ∙ both.0 in
    let sequence : of.sequence ≡ 0 = ap (λ (one : PeerView). one.max_sequence) same ∙ both.1 in
    let nothing : is_unknown of ≡ true = λ i. (id i == 0) && (sequence i == 0) in
    true≢false (sym nothing ∙ known)

known_at : ByDevice Listing → Device → List PeerView
known_at views other = known_cut other (get views other)

known_or_none : (views : ByDevice Listing) (other : Device) → (known_at views other ≡ []) ⊎ ((view : PeerView) × (known_at views other ≡ view ∷ []) × (view.of ≡ other))
unfolding known_at
known_or_none views other = view_or_none other (get views other)

pub are_views : (devices : List Device) (device : Device) (views : ByDevice Listing) (others : List Device) → IsStrictlyIncreasing others →
    ((other : Device) → Contains others other → (other ≢ device) × Contains devices other) → AllByRecursion (IsIndexIn views) others → AreViews devices device (views_cut views others)
unfolding known_at
are_views devices device views others rise within indexes = record {
  rise =
      IsStrictlyIncreasing-from_sorted (map (λ (view : PeerView). view.of) (views_cut views others))
      (gathered_rise (λ (other : Device). other) (λ (view : PeerView). view.of) (known_at views) (known_or_none views) others
      (subst (IsStrictlySortedBy nat_cmp) (sym (map-id others)) (sorted_from_strictly_increasing others rise)));
  others = all_each (λ (view : PeerView). (view.of ≢ device) × Contains devices view.of) (views_cut views others) (λ view stands.
      let from = from_one (λ (other : Device). other) (λ (view : PeerView). view.of) (known_at views) (known_or_none views) others view stands in
      let has = within from.0 from.1 in
      (λ same. has.0 (sym from.2 ∙ same), subst (Contains devices) (sym from.2) has.1));
  indexes = all_each (λ (view : PeerView). IsIndex (known_of view)) (views_cut views others) (λ view stands.
      let from = Contains-from_flat_map (known_at views) others view stands in
      let is = view_from from.0 (get views from.0) view from.2 in
      subst (λ (one : PeerView). IsIndex (known_of one)) is.3
      (subst (λ (o : Option Listing). IfSome o IsIndex) is.1 (holds_of_member (IsIndexIn views) others from.0 indexes from.1)));
  known = all_each HasPoint (views_cut views others) (λ view stands.
      let from = Contains-from_flat_map (known_at views) others view stands in
      let is = view_from from.0 (get views from.0) view from.2 in
      has_point from.0 is.0 view is.2 is.3);
}
