-- The cut that is made of a cut's own lists is this cut.
use Rattle.std.proofs.Common.{◌≡◌, ◌==◌, ◌||◌, not, Bool, true, false, cond, List, [], ◌∷◌, map, refl, ap, ◌∙◌}
use Rattle.std.specs.Cmp.{nat_cmp_total}
use Rattle.std.specs.Cmp.Lexicographic.{nat_list_cmp_total}
use Rattle.std.specs.List.{AllByRecursion, filter}
use Rattle.std.proofs.lemmas.Bool.{eqb-true}
use Rattle.std.proofs.lemmas.List.Elements.{recursion_from_All}
use Rattle.std.proofs.lemmas.Map.Keys.{sorted_from_strictly_increasing}
use Rattle.bep_index.specs.Index.{IsIndex}
use Rattle.bep_model.specs.Tables.{Device}
use Rattle.bep_model.specs.declared.flight.Flight.{Flight}
use Rattle.bep_tables.specs.declared.share.Share.{Share}
use Rattle.bep_tables.specs.declared.share.PeerView.{PeerView}
use Rattle.bep_tables.specs.declared.share.SharedFolder.{SharedFolder}
use Rattle.bep_tables.specs.declared.link.LinkState.{LinkState}
use Rattle.bep_tables.specs.declared.cut.CutParts.{CutParts}
use Rattle.bep_tables.specs.Cut.{HasPoint, AreViews, ArePulls, AreShares, IsCut, devices_of, ends_of, index_of, known_of}
use Rattle.bep_cut_document.specs.Sorting.{in_order}
use Rattle.bep_cut_document.specs.inner.Told.{view_parts, share_parts, folder_parts, flight_parts, link_parts}
use Rattle.bep_cut_document.specs.Written.{by_viewed, by_device, by_folder, by_ends, has_point, view_written, share_written, folder_written, flight_written, link_written, cut_written}
use Rattle.bep_tables.proofs.Tables.{ends_total}
use Rattle.bep_cut_document.proofs.RangeTold.{all_three}
use Rattle.bep_cut_document.proofs.back.InOrder.{stays_in_order}
use Rattle.bep_cut_document.proofs.back.PutAgain.{records_again, nodes_again}

each_again : {A B : Type 0} (P : A → Type 0) (parts : A → B) (made : B → A) → ((x : A) → P x → made (parts x) ≡ x) → (xs : List A) → AllByRecursion P xs → map made (map parts xs) ≡ xs
each_again P parts made again [] all = refl
each_again P parts made again (x ∷ xs) all = λ i. again x all.0 i ∷ each_again P parts made again xs all.1 i

-- ---- views
view_again : (view : PeerView) → IsIndex (known_of view) → view_written (view_parts view) ≡ view
view_again view index = ap (λ records. record view { records = records }) (records_again view.records (λ name entry is. (index.numbered name entry is).0))

point_has : (view : PeerView) → HasPoint view → has_point (view_parts view) ≡ true
point_has view has = cases (view.index_id == 0) refl (view.max_sequence == 0) refl where
  cases : (a : Bool) → view.index_id == 0 ≡ a → (b : Bool) → view.max_sequence == 0 ≡ b → (not a || not b) ≡ true
  cases false id b max = refl
  cases true id false max = refl
  cases true id true max = absurd (has (eqb-true view.index_id 0 id, eqb-true view.max_sequence 0 max))

all_stay : (views : List PeerView) → AllByRecursion HasPoint views → filter has_point (map view_parts views) ≡ map view_parts views
all_stay [] all = refl
all_stay (view ∷ more) all =
    ap (λ b. cond b (view_parts view ∷ filter has_point (map view_parts more)) (filter has_point (map view_parts more))) (point_has view all.0)
    ∙ ap (λ l. view_parts view ∷ l) (all_stay more all.1)

views_again : (devices : List Device) (device : Device) (views : List PeerView) → AreViews devices device views → in_order by_viewed [] (map view_written (filter has_point (map view_parts views))) ≡ views
views_again devices device views are =
    ap (λ kept. in_order by_viewed [] (map view_written kept)) (all_stay views (recursion_from_All HasPoint views are.known))
    ∙ ap (in_order by_viewed []) (each_again (λ view. IsIndex (known_of view)) view_parts view_written view_again views (recursion_from_All (λ view. IsIndex (known_of view)) views are.indexes))
    ∙ stays_in_order nat_cmp_total (λ (view : PeerView). view.of) views (sorted_from_strictly_increasing (map (λ (view : PeerView). view.of) views) are.rise)

-- ---- devices and folders
record IsShareOf (devices : List Device) (share : Share) : Type 0 where
  index : IsIndex (index_of share)
  views : AreViews devices share.device share.views
  pulls : ArePulls share.pulls

share_again : (devices : List Device) (share : Share) → IsShareOf devices share → share_written (share_parts share) ≡ share
share_again devices share is = λ i. record share {
  own = records_again share.own (λ name entry found. (is.index.numbered name entry found).0) i;
  store = nodes_again share.store i;
  views = views_again devices share.device share.views is.views i;
  pulls = records_again share.pulls (λ name entry found. (is.pulls.named name entry found).0) i;
}

folder_again : (shared : SharedFolder) → AreShares shared.shares → folder_written (folder_parts shared) ≡ shared
folder_again shared are =
    let devices = devices_of shared.shares in
    let each = all_three (λ share. IsIndex (index_of share)) (λ share. AreViews devices share.device share.views) (λ share. ArePulls share.pulls) (IsShareOf devices)
    (λ share index views pulls. record { index = index; views = views; pulls = pulls }) shared.shares
    (recursion_from_All (λ share. IsIndex (index_of share)) shared.shares are.indexes)
    (recursion_from_All (λ share. AreViews devices share.device share.views) shared.shares are.views)
    (recursion_from_All (λ share. ArePulls share.pulls) shared.shares are.pulls)
    in
    ap (λ shares. record shared { shares = shares })
    (ap (in_order by_device []) (each_again (IsShareOf devices) share_parts share_written (share_again devices) shared.shares each)
    ∙ stays_in_order nat_cmp_total (λ (share : Share). share.device) shared.shares (sorted_from_strictly_increasing devices are.rise))

-- ---- links
flights_again : (flights : List Flight) → map flight_written (map flight_parts flights) ≡ flights
flights_again [] = refl
flights_again (flight ∷ more) = ap (λ l. flight ∷ l) (flights_again more)

links_again : (links : List LinkState) → map link_written (map link_parts links) ≡ links
links_again [] = refl
links_again (link ∷ more) = λ i. record link { to_a = flights_again link.to_a i; to_b = flights_again link.to_b i } ∷ links_again more i

-- ---- the whole
pub cut_again : (cut : CutParts) → IsCut cut → cut_written (map folder_parts cut.folders) (map link_parts cut.links) ≡ cut
cut_again cut is =
    let HasShares : SharedFolder → Type 0 = λ shared. AreShares shared.shares in
    let folders = ap (in_order by_folder []) (each_again HasShares folder_parts folder_written folder_again cut.folders (recursion_from_All HasShares cut.folders is.shares))
    ∙ stays_in_order nat_list_cmp_total (λ (shared : SharedFolder). shared.folder) cut.folders is.rise
    in
    let links = ap (in_order by_ends []) (links_again cut.links) ∙ stays_in_order ends_total ends_of cut.links is.links_rise in
    λ i. record { folders = folders i; links = links i }
