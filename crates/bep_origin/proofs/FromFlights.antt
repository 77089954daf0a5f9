-- What is on its way in a cluster that a cut is of.
use Rattle.std.proofs.Common.{◌≡◌, ◌<◌, ◌==◌, ◌&&◌, ◌||◌, ◌++◌, ◌∙◌, Bool, true, false, cond, nat_lt, List, [], ◌∷◌, map, flat_map, Option, Some, None, is_some, option_map, unwrap_or, Contains, All, refl, ap, sym, subst, eqb-true, arith}
use Rattle.std.specs.declared.cmp.Ordering.{Ordering}
use Rattle.std.specs.declared.cmp.Ordering.TheVariants.{Less, Equal, Greater}
use Rattle.std.specs.Ordering.{nat_cmp, is_eq, ordering_then}
use Rattle.std.specs.List.{AllByRecursion, list_any}
use Rattle.std.proofs.lemmas.Bool.{le-ltb, lt-ltb}
use Rattle.std.proofs.lemmas.List.{append-nil}
use Rattle.std.proofs.lemmas.List.Elements.{All-contains, recursion_from_All}
use Rattle.bep_facts.specs.Members.{Contains-first, Contains-more}
use Rattle.bep_record.specs.declared.entry.Entry.{Entry}
use Rattle.bep_model.specs.declared.flight.Flight.{Flight}
use Rattle.bep_model.specs.Tables.{Device, Folder}
use Rattle.bep_machine.specs.Cluster.{Config}
use Rattle.bep_machine.specs.Link.{Lower, Upper, queue_to}
use Rattle.bep_machine.specs.Said as said
use Rattle.bep_tables.specs.declared.cut.CutParts.{CutParts}
use Rattle.bep_tables.specs.declared.link.LinkState.{LinkState}
use Rattle.bep_tables.specs.declared.share.SharedFolder.{SharedFolder}
use Rattle.bep_tables.specs.Cut.{IsCut, IsFlight, IsLink, devices_of, ends_cmp, ends_of, flights_of, link_of, shares_of}
use Rattle.bep_origin.specs.FromCut.{cluster_from, config_from, link_from, message_from, message_of}
use Rattle.bep_origin.proofs.FromReplicas.{among_found, share_of_one}
use Rattle.bep_origin.proofs.Ties.{tie_same}

-- ---- messages

told_back : (config : Config) (from to : Device) (full : Bool) (folder : Folder) (batch : List Entry) → said.both_share config from to folder ≡ true →
    said.flights_of config from to (message_of full folder batch) ≡ record { folder = folder; full = full; records = batch } ∷ []
told_back config from to true folder batch both = ap (λ (b : Bool). said.flight_when b folder true batch) both
told_back config from to false folder batch both = ap (λ (b : Bool). said.flight_when b folder false batch) both

-- the messages that were made of flights say these
all_told_back : (config : Config) (from to : Device) (flights : List Flight) → AllByRecursion (λ (flight : Flight). said.both_share config from to flight.folder ≡ true) flights →
    flat_map (said.flights_of config from to) (map message_from flights) ≡ flights
all_told_back config from to [] both = refl
all_told_back config from to (flight ∷ flights) both =
    λ i. told_back config from to flight.full flight.folder flight.records both.0 i ++ all_told_back config from to flights both.1 i

-- ---- which link

same_ends : (a b one other : Device) → is_eq (ends_cmp (a, b) (one, other)) ≡ ((a == one) && (b == other))
same_ends a b one other = cases (nat_cmp a one) ∙ (λ i. tie_same a one i && tie_same b other i) where
  cases : (o : Ordering) → is_eq (ordering_then o (nat_cmp b other)) ≡ (is_eq o && is_eq (nat_cmp b other))
  cases Less = refl
  cases Equal = refl
  cases Greater = refl

abbrev joins : Device → Device → Device × Device → Bool
joins from to ends = ((ends.0 == from) && (ends.1 == to)) || ((ends.0 == to) && (ends.1 == from))

are_either : (links : List LinkState) (from to : Device) → list_any (joins from to) (map ends_of links) ≡ (is_some (link_of from to links) || is_some (link_of to from links))
are_either [] from to = refl
are_either (link ∷ links) from to =
    (λ i. (sym (same_ends link.a link.b from to) i || sym (same_ends link.a link.b to from) i) || list_any (joins from to) (map ends_of links))
    ∙ cases (is_eq (ends_cmp (ends_of link) (from, to))) (is_eq (ends_cmp (ends_of link) (to, from))) (are_either links from to)
  where
    or_true : (b : Bool) → (b || true) ≡ true
    or_true true = refl
    or_true false = refl

    cases : (b c : Bool) → list_any (joins from to) (map ends_of links) ≡ (is_some (link_of from to links) || is_some (link_of to from links)) →
        ((b || c) || list_any (joins from to) (map ends_of links)) ≡ (is_some (cond b (Some link) (link_of from to links)) || is_some (cond c (Some link) (link_of to from links)))
    cases true c rest = refl
    cases false true rest = sym (or_true (is_some (link_of from to links)))
    cases false false rest = rest

-- a link that is found joins the two
pub joined : (links : List LinkState) (a b : Device) (link : LinkState) → link_of a b links ≡ Some link → Contains links link × (ends_of link ≡ (a, b))
joined [] a b link found = absurd (let e : None ≡ Some link = found in cc)
joined (first ∷ links) a b link found = cases (is_eq (ends_cmp (ends_of first) (a, b))) refl (joined links a b link) found where
  both : (c d : Bool) → (c && d) ≡ true → (c ≡ true) × (d ≡ true)
  both true d is = (refl, is)
  both false d is = absurd (cc)

  cases : (c : Bool) → is_eq (ends_cmp (ends_of first) (a, b)) ≡ c → (link_of a b links ≡ Some link → Contains links link × (ends_of link ≡ (a, b))) →
      cond c (Some first) (link_of a b links) ≡ Some link → Contains (first ∷ links) link × (ends_of link ≡ (a, b))
  cases true is rest here =
      let same : first ≡ link = cc in
      let parts = both (first.a == a) (first.b == b) (sym (same_ends first.a first.b a b) ∙ is) in
      let ends : ends_of first ≡ (a, b) = λ i. (eqb-true first.a a parts.0 i, eqb-true first.b b parts.1 i) in
      (subst (Contains (first ∷ links)) same (Contains-first first links), ap ends_of (sym same) ∙ ends)
  cases false is rest later = let from = rest later in (Contains-more first links link from.0, from.1)

-- ---- what is on its way

module _ (cut : CutParts) (is : IsCut cut) where
  is_link : (link : LinkState) → Contains cut.links link → IsLink cut.folders link
  is_link link stands = All-contains (IsLink cut.folders) cut.links link is.links stands

  -- who shares a folder is said to
  shares_it : (folder : Folder) (device : Device) → Contains (devices_of (shares_of folder cut.folders)) device → said.is_among device ((config_from cut).sharing folder) ≡ true
  shares_it folder device stands = among_found device (shares_of folder cut.folders) ∙ share_of_one device (shares_of folder cut.folders) stands

  both_up : (link : LinkState) (flight : Flight) → IsFlight cut.folders link.a link.b flight → said.both_share (config_from cut) link.a link.b flight.folder ≡ true
  both_up link flight of = λ i. shares_it flight.folder link.a of.shared_by_a i && shares_it flight.folder link.b of.shared_by_b i

  both_down : (link : LinkState) (flight : Flight) → IsFlight cut.folders link.a link.b flight → said.both_share (config_from cut) link.b link.a flight.folder ≡ true
  both_down link flight of = λ i. shares_it flight.folder link.b of.shared_by_b i && shares_it flight.folder link.a of.shared_by_a i

  each : (P Q : Flight → Type 0) (flights : List Flight) → ((flight : Flight) → P flight → Q flight) → AllByRecursion P flights → AllByRecursion Q flights
  each P Q [] step all = tt
  each P Q (flight ∷ flights) step all = (step flight all.0, each P Q flights step all.1)

  told_up : (link : LinkState) → Contains cut.links link → flat_map (said.flights_of (config_from cut) link.a link.b) (map message_from link.to_b) ≡ link.to_b
  told_up link stands =
      all_told_back (config_from cut) link.a link.b link.to_b
      (each (IsFlight cut.folders link.a link.b) (λ (flight : Flight). said.both_share (config_from cut) link.a link.b flight.folder ≡ true) link.to_b (both_up link)
      (recursion_from_All (IsFlight cut.folders link.a link.b) link.to_b (is_link link stands).to_b))

  told_down : (link : LinkState) → Contains cut.links link → flat_map (said.flights_of (config_from cut) link.b link.a) (map message_from link.to_a) ≡ link.to_a
  told_down link stands =
      all_told_back (config_from cut) link.b link.a link.to_a
      (each (IsFlight cut.folders link.a link.b) (λ (flight : Flight). said.both_share (config_from cut) link.b link.a flight.folder ≡ true) link.to_a (both_down link)
      (recursion_from_All (IsFlight cut.folders link.a link.b) link.to_a (is_link link stands).to_a))

  module _ (from to : Device) where
    -- what the cut has of it, by the links that are found
    abbrev cut_flights : Option LinkState → Option LinkState → List Flight
    cut_flights up down = unwrap_or (option_map (λ (link : LinkState). link.to_b) up) [] ++ unwrap_or (option_map (λ (link : LinkState). link.to_a) down) []

    -- and what the cluster says
    abbrev said_flights : Option LinkState → Option LinkState → List Flight
    said_flights up down =
        cond (is_some up || is_some down)
        (flat_map (said.flights_of (config_from cut) from to) (queue_to (cond (nat_lt to from) Lower Upper) (cond (nat_lt from to) (link_from up) (link_from down))))
        []

    same_flights : (up down : Option LinkState) → link_of from to cut.links ≡ up → link_of to from cut.links ≡ down → cut_flights up down ≡ said_flights up down
    same_flights None None above below = refl
    same_flights (Some link) (Some other) above below =
        let one = joined cut.links from to link above in
        let two = joined cut.links to from other below in
        let rising : from < to = subst (λ (ends : Device × Device). ends.0 < ends.1) one.1 (is_link link one.0).ends in
        let falling : to < from = subst (λ (ends : Device × Device). ends.0 < ends.1) two.1 (is_link other two.0).ends in
        absurd (omega (arith, rising, falling))
    same_flights (Some link) None above below =
        let one = joined cut.links from to link above in
        let rising : from < to = subst (λ (ends : Device × Device). ends.0 < ends.1) one.1 (is_link link one.0).ends in
        append-nil link.to_b
        ∙ sym (ap (λ (ends : Device × Device). flat_map (said.flights_of (config_from cut) ends.0 ends.1) (map message_from link.to_b)) (sym one.1) ∙ told_up link one.0)
        ∙ sym (λ i. flat_map (said.flights_of (config_from cut) from to) (queue_to (cond (le-ltb to from (omega (arith, rising)) i) Lower Upper) (cond (lt-ltb from to rising i) (link_from (Some link)) (link_from None))))
    same_flights None (Some link) above below =
        let one = joined cut.links to from link below in
        let falling : to < from = subst (λ (ends : Device × Device). ends.0 < ends.1) one.1 (is_link link one.0).ends in
        sym (ap (λ (ends : Device × Device). flat_map (said.flights_of (config_from cut) ends.1 ends.0) (map message_from link.to_a)) (sym one.1) ∙ told_down link one.0)
        ∙ sym (λ i. flat_map (said.flights_of (config_from cut) from to) (queue_to (cond (lt-ltb to from falling i) Lower Upper) (cond (le-ltb from to (omega (arith, falling)) i) (link_from None) (link_from (Some link)))))

    pub flying_said : said.on_its_way (cluster_from cut) from to ≡ flights_of from to cut.links
    flying_said =
        ap (λ (b : Bool). cond b (flat_map (said.flights_of (config_from cut) from to) (queue_to (cond (nat_lt to from) Lower Upper) (cond (nat_lt from to) (link_from (link_of from to cut.links)) (link_from (link_of to from cut.links))))) [])
        (are_either cut.links from to)
        ∙ sym (same_flights (link_of from to cut.links) (link_of to from cut.links) refl refl)
