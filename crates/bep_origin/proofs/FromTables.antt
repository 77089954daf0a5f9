-- The cluster that a cut is of says what the cut does.
use Rattle.std.proofs.Common.{◌≡◌, ◌≤◌, ◌∙◌, suc, Bool, true, false, cond, List, [], ◌∷◌, map, length, Option, Some, None, option_and_then, option_map, unwrap_or, Contains, refl, ap, sym, subst, arith}
use Rattle.std.specs.declared.cmp.Ordering.{Ordering}
use Rattle.std.specs.declared.cmp.Ordering.TheVariants.{Less, Equal, Greater}
use Rattle.std.specs.Ordering.{nat_cmp, eq_by_cmp, is_eq, ordering_reverse}
use Rattle.std.specs.Cmp.{nat_cmp_total}
use Rattle.std.specs.Cmp.Lexicographic.{slice_cmp, nat_list_cmp_total}
use Rattle.std.specs.FinMap.{entries, from_entries, get, get-empty, get-entries, get-from_entries, get-insert, len, len-empty, nat_cmp-IsAntisymmetric}
use Rattle.std.specs.FinMap as finite
use Rattle.bep_facts.specs.Maps.{len-insert_le, same_key}
use Rattle.bep_facts.specs.Members.{Contains-first, Contains-more}
use Rattle.bep_map.specs.NameMap.{ByName}
use Rattle.bep_record.specs.declared.entry.Entry.{Entry}
use Rattle.bep_index.specs.Listing.{Listing}
use Rattle.bep_index.specs.View.{cleared}
use Rattle.bep_model.specs.Tables.{Device, Folder, FileName}
use Rattle.bep_machine.specs.Pull.{new_pull}
use Rattle.bep_machine.specs.Replica.{Pull, Replica, node_at, own_at, target_at, viewed_at}
use Rattle.bep_machine.specs.Said.{at_device, looked_up, replica_said, tables_of_cluster}
use Rattle.bep_tables.specs.declared.cut.CutParts.{CutParts}
use Rattle.bep_tables.specs.declared.share.PeerView.{PeerView}
use Rattle.bep_tables.specs.declared.share.Share.{Share}
use Rattle.bep_tables.specs.Cut.{IsCut, known_of, share_of, shares_of, tables_of, view_of}
use Rattle.bep_origin.specs.FromCut.{cluster_from, pulls_from, replica_from, view_from}
use Rattle.bep_origin.proofs.FromFlights.{flying_said}
use Rattle.bep_origin.proofs.FromReplicas.{said_replica}

-- ---- views

turned : (one other : Device) → is_eq (nat_cmp other one) ≡ is_eq (nat_cmp one other)
turned one other = ap is_eq (nat_cmp_total.antisymm other one) ∙ cases (nat_cmp one other) where
  cases : (o : Ordering) → is_eq (ordering_reverse o) ≡ is_eq o
  cases Less = refl
  cases Equal = refl
  cases Greater = refl

-- what is known of a device is in the first view of it
found_view : (views : List PeerView) (other : Device) → finite.find nat_cmp other (map view_from views) ≡ option_map known_of (view_of other views)
found_view [] other = refl
found_view (view ∷ views) other =
    ap (λ (b : Bool). cond b (Some (known_of view)) (finite.find nat_cmp other (map view_from views))) (turned view.of other) ∙ cases (is_eq (nat_cmp view.of other)) (found_view views other)
  where
    cases : (b : Bool) → finite.find nat_cmp other (map view_from views) ≡ option_map known_of (view_of other views) →
        cond b (Some (known_of view)) (finite.find nat_cmp other (map view_from views)) ≡ option_map known_of (cond b (Some view) (view_of other views))
    cases true rest = refl
    cases false rest = rest

views_found : (views : List PeerView) (other : Device) → get (from_entries {R = nat_cmp} (map view_from views)) other ≡ option_map known_of (view_of other views)
views_found views other = get-from_entries nat_cmp_total (map view_from views) other ∙ found_view views other

-- a view that is found is one of these, of the device
there : (views : List PeerView) (other : Device) (view : PeerView) → view_of other views ≡ Some view → Contains views view × (view.of ≡ other)
there [] other view is = absurd (cc)
there (first ∷ views) other view is = cases (is_eq (nat_cmp first.of other)) refl (there views other view) is where
  cases : (b : Bool) → is_eq (nat_cmp first.of other) ≡ b → (view_of other views ≡ Some view → Contains views view × (view.of ≡ other)) →
      cond b (Some first) (view_of other views) ≡ Some view → Contains (first ∷ views) view × (view.of ≡ other)
  cases true tied rest here =
      let same : first ≡ view = cc in
      (subst (Contains (first ∷ views)) same (Contains-first first views), ap (λ (one : PeerView). one.of) (sym same) ∙ same_key nat_cmp-IsAntisymmetric first.of other tied)
  cases false apart rest later = let at = rest later in (Contains-more first views view at.0, at.1)

pub view_found : (views : List PeerView) (other : Device) (known : Listing) → get (from_entries {R = nat_cmp} (map view_from views)) other ≡ Some known →
    (view : PeerView) × Contains views view × (view.of ≡ other) × (known_of view ≡ known)
view_found views other known is = cases (view_of other views) refl (sym (views_found views other) ∙ is) where
  cases : (o : Option PeerView) → view_of other views ≡ o → option_map known_of o ≡ Some known → (view : PeerView) × Contains views view × (view.of ≡ other) × (known_of view ≡ known)
  cases None none is = absurd (cc)
  cases (Some view) found is = let at = there views other view found in (view, at.0, at.1, cc)

-- ---- pulls

pull_listed : (targets : List (FileName × Entry)) (name : FileName) → get (pulls_from targets) name ≡ option_map new_pull (finite.find (slice_cmp nat_cmp) name targets)
pull_listed [] name = get-empty (slice_cmp nat_cmp) name
pull_listed (one ∷ more) name =
    get-insert nat_list_cmp_total (pulls_from more) one.0 (new_pull one.1) name ∙ cases (eq_by_cmp (slice_cmp nat_cmp) name one.0) (pull_listed more name)
  where
    cases : (b : Bool) → get (pulls_from more) name ≡ option_map new_pull (finite.find (slice_cmp nat_cmp) name more) →
        cond b (Some (new_pull one.1)) (get (pulls_from more) name) ≡ option_map new_pull (cond b (Some one.1) (finite.find (slice_cmp nat_cmp) name more))
    cases true rest = refl
    cases false rest = rest

-- each target has a pull under its name
pub pull_found : (targets : ByName Entry) (name : FileName) → get (pulls_from (entries targets)) name ≡ option_map new_pull (get targets name)
pull_found targets name = pull_listed (entries targets) name ∙ ap (option_map new_pull) (sym (get-entries targets name))

-- there are no more pulls than targets
pub few_listed : (targets : List (FileName × Entry)) → len (pulls_from targets) ≤ length targets
few_listed [] = let none = len-empty (slice_cmp nat_cmp) Pull in omega (arith, none)
few_listed (one ∷ more) =
    let rest = few_listed more in
    len-insert_le nat_list_cmp_total (pulls_from more) one.0 (new_pull one.1) (suc (length more)) (omega (arith, rest)) (λ none. omega (arith, rest))

-- ---- names

-- what is looked up in a device's replica is what its share has
looked : {X : Type 0} (shares : List Share) (look : Replica → FileName → Option X) (part : Share → Option X) (name : FileName) (found : Option Share) →
    ((share : Share) → look (replica_from shares share) name ≡ part share) → looked_up look name (option_map (replica_from shares) found) ≡ option_and_then part found
looked shares look part name None same = refl
looked shares look part name (Some share) same = same share

viewed_same : (views : List PeerView) (other : Device) (name : FileName) → get (unwrap_or (get (from_entries {R = nat_cmp} (map view_from views)) other) (cleared 0)).records name ≡ option_and_then (λ (view : PeerView). get view.records name) (view_of other views)
viewed_same views other name = ap (λ (o : Option Listing). get (unwrap_or o (cleared 0)).records name) (views_found views other) ∙ cases (view_of other views) where
  cases : (o : Option PeerView) → get (unwrap_or (option_map known_of o) (cleared 0)).records name ≡ option_and_then (λ (view : PeerView). get view.records name) o
  cases None = get-empty (slice_cmp nat_cmp) name
  cases (Some view) = refl

target_same : (targets : ByName Entry) (name : FileName) → option_map (λ (pull : Pull). pull.target) (get (pulls_from (entries targets)) name) ≡ get targets name
target_same targets name = ap (option_map (λ (pull : Pull). pull.target)) (pull_found targets name) ∙ cases (get targets name) where
  cases : (o : Option Entry) → option_map (λ (pull : Pull). pull.target) (option_map new_pull o) ≡ o
  cases None = refl
  cases (Some entry) = refl

module _ (cut : CutParts) (is : IsCut cut) where
  at : {X : Type 0} (look : Replica → FileName → Option X) (part : Share → Option X) (device : Device) (folder : Folder) (name : FileName) →
      ((share : Share) → look (replica_from (shares_of folder cut.folders) share) name ≡ part share) →
      at_device look (cluster_from cut) device folder name ≡ option_and_then part (share_of device (shares_of folder cut.folders))
  at look part device folder name same =
      ap (looked_up look name) (said_replica cut device folder is.rise) ∙ looked (shares_of folder cut.folders) look part name (share_of device (shares_of folder cut.folders)) same

  pub says_the_cut : tables_of_cluster (cluster_from cut) ≡ tables_of cut
  unfolding tables_of
  says_the_cut = λ i. record {
    sharing = (cluster_from cut).config.sharing;
    own = λ device folder name. at own_at (λ (share : Share). get share.own name) device folder name (λ share. refl) i;
    node = λ device folder name. at node_at (λ (share : Share). get share.store name) device folder name (λ share. refl) i;
    viewed = λ device other folder name.
        at (λ (replica : Replica) (name : FileName). viewed_at replica other name) (λ (share : Share). option_and_then (λ (view : PeerView). get view.records name) (view_of other share.views)) device folder name
        (λ share. viewed_same share.views other name) i;
    target = λ device folder name. at target_at (λ (share : Share). get share.pulls name) device folder name (λ share. target_same share.pulls name) i;
    flying = λ from to. flying_said cut is from to i;
  }
