-- The cut of a cluster has its points and the states of its links.
use Rattle.std.proofs.Common.{◌≡◌, ◌==◌, ◌&&◌, ◌||◌, ◌∙◌, Bool, true, false, cond, List, [], ◌∷◌, map, Option, Some, None, is_some, option_map, unwrap_or, Contains, refl, ap, sym, eqb-true}
use Rattle.std.specs.List.{list_any}
use Rattle.std.specs.List.Sorted.{IsStrictlySortedBy}
use Rattle.std.specs.Ordering.{nat_cmp}
use Rattle.std.specs.FinMap.{get}
use Rattle.std.proofs.lemmas.Map.Keys.{sorted_from_strictly_increasing}
use Rattle.bep_index.specs.Listing.{Listing}
use Rattle.bep_index.specs.View.{cleared}
use Rattle.bep_model.specs.Tables.{Device, Folder}
use Rattle.bep_machine.specs.Replica.{ByDevice, Replica}
use Rattle.bep_machine.specs.Said.{replica_said}
use Rattle.bep_links.specs.Link.{LinkBetween}
use Rattle.bep_peer.specs.network.Network.{Network, IsNetwork, between_at, cluster_of, ends_of, is_between, link_of as link_there, numbers_of}
use Rattle.bep_tables.specs.Cut.{link_of, view_of}
use Rattle.bep_cut.specs.Cut.{cut_at, link_at, seen}
use Rattle.bep_cut.specs.Points.{HasPoints, link_said, point_in, point_known, point_of, point_of_share, share_in, state_in, state_of}
use Rattle.bep_cut.specs.Share.{is_unknown, known_cut, share_cut, views_cut}
use Rattle.bep_cut.proofs.SaidDevices.{said_share}
use Rattle.bep_cut.proofs.SaidFlights.{found_link}
use Rattle.bep_cut.proofs.SaidRecords.{known_there, unknown_there}
use Rattle.bep_cut.proofs.ViewsCut.{shown}

-- ---- views

both_zero : (view : Listing) → is_unknown view ≡ true → point_of view ≡ (0, 0)
both_zero view unknown = λ i. (eqb-true view.id 0 (first (view.id == 0) (view.sequence == 0) unknown) i, eqb-true view.sequence 0 (second (view.id == 0) (view.sequence == 0) unknown) i)
  where
    first : (b c : Bool) → (b && c) ≡ true → b ≡ true
    first true c e = refl
    first false c e = absurd (cc)

    second : (b c : Bool) → (b && c) ≡ true → c ≡ true
    second true c e = e
    second false c e = absurd (cc)

module _ (views : ByDevice Listing) (other : Device) (others : List Device) (stands : Contains others other) where
  view_point : point_in (view_of other (views_cut views others)) ≡ point_of (unwrap_or (get views other) (cleared 0))
  view_point = cases (get views other) refl
    where
      known : (view : Listing) → get views other ≡ Some view → (b : Bool) → is_unknown view ≡ b → point_in (view_of other (views_cut views others)) ≡ point_of view
      known view is true unknown =
          ap point_in (unknown_there views other (ap (known_cut other) is ∙ ap (λ b. cond b [] (shown other view ∷ [])) unknown) others) ∙ sym (both_zero view unknown)
      known view is false there =
          ap point_in (known_there views other (shown other view) (ap (known_cut other) is ∙ ap (λ b. cond b [] (shown other view ∷ [])) there) refl others stands)

      cases : (o : Option Listing) → get views other ≡ o → point_in (view_of other (views_cut views others)) ≡ point_of (unwrap_or o (cleared 0))
      cases None is = ap point_in (unknown_there views other (ap (known_cut other) is) others)
      cases (Some view) is = known view is (is_unknown view) refl

-- ---- links

any_link : (links : List LinkBetween) (lower upper : Device) → list_any (λ (ends : Device × Device). (ends.0 == lower) && (ends.1 == upper)) (ends_of links) ≡ is_some (between_at links lower upper)
any_link [] lower upper = refl
any_link (between ∷ links) lower upper = cases (is_between lower upper between) (any_link links lower upper)
  where
    cases : (b : Bool) → list_any (λ (ends : Device × Device). (ends.0 == lower) && (ends.1 == upper)) (ends_of links) ≡ is_some (between_at links lower upper) →
        (b || list_any (λ (ends : Device × Device). (ends.0 == lower) && (ends.1 == upper)) (ends_of links)) ≡ is_some (cond b (Some between) (between_at links lower upper))
    cases true rest = refl
    cases false rest = rest

-- ---- the whole

module _ (network : Network) (is : IsNetwork network) where
  rise : IsStrictlySortedBy nat_cmp (numbers_of network.members)
  rise = sorted_from_strictly_increasing (numbers_of network.members) is.devices

  own_point : (device : Device) (folder : Folder) →
      option_map point_of_share (share_in (cut_at network.members network.links) device folder) ≡ option_map (λ (replica : Replica). point_of replica.index) (replica_said (cluster_of network) device folder)
  unfolding cut_at
  own_point device folder = ap (option_map point_of_share) (said_share folder device network rise) ∙ cases (replica_said (cluster_of network) device folder)
    where
      cases : (o : Option Replica) → option_map point_of_share (option_map (share_cut device) o) ≡ option_map (λ (replica : Replica). point_of replica.index) o
      cases None = refl
      cases (Some replica) = refl

  known_point : (device other : Device) (folder : Folder) (replica : Replica) → replica_said (cluster_of network) device folder ≡ Some replica → Contains replica.others other →
      option_map (point_known other) (share_in (cut_at network.members network.links) device folder) ≡ Some (point_of (unwrap_or (get replica.views other) (cleared 0)))
  unfolding cut_at
  known_point device other folder replica said stands =
      ap (option_map (point_known other)) (said_share folder device network rise ∙ ap (option_map (share_cut device)) said)
      ∙ ap Some (view_point replica.views other replica.others stands)

  link_state : (lower upper : Device) →
      option_map state_in (link_of lower upper (cut_at network.members network.links).links) ≡ option_map state_of (link_said (cluster_of network) lower upper)
  unfolding cut_at
  link_state lower upper =
      ap (option_map state_in) (found_link (map seen network.members) network.links lower upper)
      ∙ cases (between_at network.links lower upper)
      ∙ ap (λ b. option_map state_of (cond b (Some ((cluster_of network).link lower upper)) None)) (sym (any_link network.links lower upper))
    where
      cases : (o : Option LinkBetween) → option_map state_in (option_map (link_at (map seen network.members)) o)
          ≡ option_map state_of (cond (is_some o) (Some (link_there o)) None)
      cases None = refl
      cases (Some between) = refl

  pub has_points : HasPoints (cut_at network.members network.links) (cluster_of network)
  has_points = record { own = own_point; known = known_point; links = link_state }
