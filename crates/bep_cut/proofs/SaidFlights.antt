-- What a cluster says of what is on its way, and what its cut has of it.
use Rattle.std.proofs.Common.{◌≡◌, ◌<◌, ◌==◌, ◌&&◌, ◌||◌, ◌∙◌, Bool, true, false, cond, nat_lt, List, [], ◌∷◌, ◌++◌, map, flat_map, Option, Some, None, is_some, option_map, unwrap_or, Contains, refl, ap, sym, subst, eqb-true, arith}
use Rattle.std.proofs.Math.Path.{fun_ext}
use Rattle.std.specs.declared.cmp.Ordering.{Ordering}
use Rattle.std.specs.declared.cmp.Ordering.TheVariants.{Less, Equal, Greater}
use Rattle.std.specs.Ordering.{nat_cmp, is_eq, ordering_then}
use Rattle.std.specs.FinMap.{get}
use Rattle.std.specs.List.{list_any}
use Rattle.std.specs.List.Sorted.{IsStrictlySortedBy}
use Rattle.std.proofs.lemmas.Bool.{le-ltb, lt-ltb}
use Rattle.std.proofs.lemmas.List.{append-nil}
use Rattle.bep_facts.specs.Members.{Contains-first, Contains-more}
use Rattle.bep_map.specs.NameMap.{ByName}
use Rattle.bep_record.specs.declared.folder_kind.FolderKind.{FolderKind}
use Rattle.bep_model.specs.declared.flight.Flight.{Flight}
use Rattle.bep_model.specs.Tables.{Device, Folder}
use Rattle.bep_machine.specs.declared.message.Message.{Message}
use Rattle.bep_machine.specs.declared.message.Message.TheVariants.{ClusterConfig, Index, IndexUpdate, Request, Response}
use Rattle.bep_machine.specs.Cluster.{Config}
use Rattle.bep_machine.specs.Link.{Lower, Upper, queue_to}
use Rattle.bep_machine.specs.Replica.{Replica}
use Rattle.bep_machine.specs.Said as said
use Rattle.bep_links.specs.Link.{LinkBetween}
use Rattle.bep_peer.specs.Member.{Member}
use Rattle.bep_peer.specs.network.Network as networks
use Rattle.bep_peer.specs.network.Agreed.{AreAgreed}
use Rattle.bep_peer.specs.network.Network.{Network, between_at, cluster_of, config_of, is_between, member_at, numbers_of, peer_of, sharing_of}
use Rattle.bep_tables.specs.declared.link.LinkState.{LinkState}
use Rattle.bep_tables.specs.Cut as tables
use Rattle.bep_cut.specs.LinkState.{both_have, carried}
use Rattle.bep_cut.specs.Cut.{Seen, seen, link_at, replicas_at, replicas_of}
use Rattle.bep_cut.proofs.LinkFacts.{seen_at}
use Rattle.bep_cut.proofs.SaidDevices.{among_there, tie_same}

-- ---- messages

said_message : (config : Config) (from to : Device) (message : Message) → carried (said.both_share config from to) message ≡ said.flights_of config from to message
said_message config from to (Index folder batch) = refl
said_message config from to (IndexUpdate folder batch) = refl
said_message config from to (ClusterConfig folders) = refl
said_message config from to (Request request) = refl
said_message config from to (Response response) = refl

either_way : (b c : Bool) → (b && c) ≡ (c && b)
either_way true true = refl
either_way true false = refl
either_way false true = refl
either_way false false = refl

module _ (members : List Member) (rise : IsStrictlySortedBy nat_cmp (numbers_of members)) where
  -- a device's folders are found alike
  has_there : (device : Device) (folder : Folder) → is_some (get (replicas_at (map seen members) device) folder) ≡ said.is_among device (sharing_of members folder)
  has_there device folder =
      ap (λ (replicas : ByName Replica). is_some (get replicas folder)) (ap replicas_of (seen_at members device) ∙ cases (member_at members device))
      ∙ sym (among_there folder device members rise)
    where
      cases : (o : Option Member) → replicas_of (option_map seen o) ≡ (peer_of o).replicas
      cases None = refl
      cases (Some member) = refl

  module _ (config : Config) (shares : config.sharing ≡ sharing_of members) (from to : Device) where
    both_there : both_have (replicas_at (map seen members) from) (replicas_at (map seen members) to) ≡ said.both_share config from to
    both_there =
        fun_ext (λ folder. λ i. has_there from folder i && has_there to folder i)
        ∙ ap (λ (sharing : Folder → List (Device × FolderKind)). λ (folder : Folder). said.is_among from (sharing folder) && said.is_among to (sharing folder)) (sym shares)

    swapped : both_have (replicas_at (map seen members) to) (replicas_at (map seen members) from) ≡ said.both_share config from to
    swapped = fun_ext (λ folder. either_way (is_some (get (replicas_at (map seen members) to) folder)) (is_some (get (replicas_at (map seen members) from) folder))) ∙ both_there

    said_queue : (both : Folder → Bool) (queue : List Message) → both ≡ said.both_share config from to → flat_map (carried both) queue ≡ flat_map (said.flights_of config from to) queue
    said_queue both queue is =
        ap (λ (both : Folder → Bool). flat_map (carried both) queue) is
        ∙ ap (λ (f : Message → List Flight). flat_map f queue) (fun_ext (said_message config from to))

-- ---- which link

same_ends : (a b one other : Device) → is_eq (tables.ends_cmp (a, b) (one, other)) ≡ ((a == one) && (b == other))
same_ends a b one other = cases (nat_cmp a one) ∙ (λ i. tie_same a one i && tie_same b other i) where
  cases : (o : Ordering) → is_eq (ordering_then o (nat_cmp b other)) ≡ (is_eq o && is_eq (nat_cmp b other))
  cases Less = refl
  cases Equal = refl
  cases Greater = refl

pub found_link : (all : List Seen) (links : List LinkBetween) (a b : Device) → tables.link_of a b (map (link_at all) links) ≡ option_map (link_at all) (between_at links a b)
found_link all [] a b = refl
found_link all (between ∷ links) a b = cases (is_between a b between) (found_link all links a b) (same_ends between.ends.0 between.ends.1 a b) where
  cases : (c : Bool) → tables.link_of a b (map (link_at all) links) ≡ option_map (link_at all) (between_at links a b) → is_eq (tables.ends_cmp between.ends (a, b)) ≡ c →
      tables.link_of a b (map (link_at all) (between ∷ links)) ≡ option_map (link_at all) (cond c (Some between) (between_at links a b))
  cases true rest is = ap (λ c. cond c (Some (link_at all between)) (tables.link_of a b (map (link_at all) links))) is
  cases false rest is = ap (λ c. cond c (Some (link_at all between)) (tables.link_of a b (map (link_at all) links))) is ∙ rest

are_either : (links : List LinkBetween) (from to : Device) →
    list_any (λ (link : Device × Device). ((link.0 == from) && (link.1 == to)) || ((link.0 == to) && (link.1 == from))) (networks.ends_of links) ≡ (is_some (between_at links from to) || is_some (between_at links to from))
are_either [] from to = refl
are_either (between ∷ links) from to = cases (is_between from to between) (is_between to from between) (are_either links from to) where
  cases : (b c : Bool) → list_any (λ (link : Device × Device). ((link.0 == from) && (link.1 == to)) || ((link.0 == to) && (link.1 == from))) (networks.ends_of links) ≡ (is_some (between_at links from to) || is_some (between_at links to from)) →
      ((b || c) || list_any (λ (link : Device × Device). ((link.0 == from) && (link.1 == to)) || ((link.0 == to) && (link.1 == from))) (networks.ends_of links))
      ≡ (is_some (cond b (Some between) (between_at links from to)) || is_some (cond c (Some between) (between_at links to from)))
  cases true c rest = refl
  cases false true rest = sym (or_true (is_some (between_at links from to)))
    where
      or_true : (b : Bool) → (b || true) ≡ true
      or_true true = refl
      or_true false = refl
  cases false false rest = rest

-- a link that is found joins the two
joins : (links : List LinkBetween) (a b : Device) (between : LinkBetween) → between_at links a b ≡ Some between → Contains (networks.ends_of links) (a, b) × (between.ends ≡ (a, b))
joins [] a b between found = absurd (let e : None ≡ Some between = found in cc)
joins (first ∷ links) a b between found = cases (is_between a b first) refl (joins links a b between) found where
  both : (c d : Bool) → (c && d) ≡ true → (c ≡ true) × (d ≡ true)
  both true d is = (refl, is)
  both false d is = absurd (cc)

  cases : (c : Bool) → is_between a b first ≡ c → (between_at links a b ≡ Some between → Contains (networks.ends_of links) (a, b) × (between.ends ≡ (a, b))) →
      cond c (Some first) (between_at links a b) ≡ Some between → Contains (networks.ends_of (first ∷ links)) (a, b) × (between.ends ≡ (a, b))
  cases true is rest here =
      let same : first ≡ between = cc in
      let parts = both (first.ends.0 == a) (first.ends.1 == b) is in
      let ends : first.ends ≡ (a, b) = λ i. (eqb-true first.ends.0 a parts.0 i, eqb-true first.ends.1 b parts.1 i) in
      (subst (Contains (networks.ends_of (first ∷ links))) ends (Contains-first first.ends (networks.ends_of links)), ap (λ (l : LinkBetween). l.ends) (sym same) ∙ ends)
  cases false is rest later = let from = rest later in (Contains-more first.ends (networks.ends_of links) (a, b) from.0, from.1)

-- ---- what is on its way

module _ (network : Network) (is : AreAgreed network) (rise : IsStrictlySortedBy nat_cmp (numbers_of network.members)) (from to : Device) where
  abbrev all : List Seen
  all = map seen network.members

  abbrev links : List LinkBetween
  links = network.links

  -- what the cut has of it, by the links that are found
  cut_flights : Option LinkBetween → Option LinkBetween → List Flight
  cut_flights up down =
      unwrap_or (option_map (λ (link : LinkState). link.to_b) (option_map (link_at all) up)) []
      ++ unwrap_or (option_map (λ (link : LinkState). link.to_a) (option_map (link_at all) down)) []

  -- and what the cluster says
  said_flights : Option LinkBetween → Option LinkBetween → List Flight
  said_flights up down =
      cond (is_some up || is_some down)
      (flat_map (said.flights_of (config_of network) from to)
      (queue_to (cond (nat_lt to from) Lower Upper) (cond (nat_lt from to) (networks.link_of up) (networks.link_of down))))
      []

  same_flights : (up down : Option LinkBetween) → between_at links from to ≡ up → between_at links to from ≡ down → cut_flights up down ≡ said_flights up down
  unfolding cut_flights said_flights
  same_flights None None above below = refl
  same_flights (Some between) (Some other) above below =
      let one = is.ends from to (joins links from to between above).0 in
      let two = is.ends to from (joins links to from other below).0 in
      let rising = one.0 in
      let falling = two.0 in
      absurd (omega (arith, rising, falling))
  same_flights (Some between) None above below =
      let joined = joins links from to between above in
      let rising : from < to = (is.ends from to joined.0).0 in
      append-nil (flat_map (carried (both_have (replicas_at all between.ends.0) (replicas_at all between.ends.1))) between.link.to_upper)
      ∙ said_queue network.members rise (config_of network) refl from to (both_have (replicas_at all between.ends.0) (replicas_at all between.ends.1)) between.link.to_upper
      (ap (λ (ends : Device × Device). both_have (replicas_at all ends.0) (replicas_at all ends.1)) joined.1 ∙ both_there network.members rise (config_of network) refl from to)
      ∙ sym ((λ i. flat_map (said.flights_of (config_of network) from to) (queue_to (cond (le-ltb to from (omega (arith, rising)) i) Lower Upper) (cond (lt-ltb from to rising i) between.link (networks.link_of None)))))
  same_flights None (Some between) above below =
      let joined = joins links to from between below in
      let falling : to < from = (is.ends to from joined.0).0 in
      said_queue network.members rise (config_of network) refl from to (both_have (replicas_at all between.ends.0) (replicas_at all between.ends.1)) between.link.to_lower
      (ap (λ (ends : Device × Device). both_have (replicas_at all ends.0) (replicas_at all ends.1)) joined.1 ∙ swapped network.members rise (config_of network) refl from to)
      ∙ sym ((λ i. flat_map (said.flights_of (config_of network) from to) (queue_to (cond (lt-ltb to from falling i) Lower Upper) (cond (le-ltb from to (omega (arith, falling)) i) (networks.link_of None) between.link))))

  pub said_flying : tables.flights_of from to (map (link_at all) links) ≡ said.on_its_way (cluster_of network) from to
  unfolding cut_flights said_flights
  said_flying =
      (λ i. unwrap_or (option_map (λ (link : LinkState). link.to_b) (found_link all links from to i)) [] ++ unwrap_or (option_map (λ (link : LinkState). link.to_a) (found_link all links to from i)) [])
      ∙ same_flights (between_at links from to) (between_at links to from) refl refl
      ∙ sym (ap (λ (b : Bool). cond b (flat_map (said.flights_of (config_of network) from to) (queue_to (cond (nat_lt to from) Lower Upper) (cond (nat_lt from to) (networks.link_of (between_at links from to)) (networks.link_of (between_at links to from))))) []) (are_either links from to))
