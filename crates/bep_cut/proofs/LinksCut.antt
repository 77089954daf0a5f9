-- The links of a cut.
use Rattle.std.proofs.Common.{◌≡◌, ◌≤◌, ◌==◌, ◌&&◌, ◌∙◌, Bool, true, false, cond, List, [], ◌∷◌, map, length, flat_map, Option, Some, None, is_some, Contains, refl, ap, sym, subst, eqb-true, arith}
use Rattle.std.specs.Ordering.{nat_cmp}
use Rattle.std.specs.Cmp.Lexicographic.{slice_cmp}
use Rattle.std.specs.FinMap.{get, get-empty}
use Rattle.std.specs.List.{AllByRecursion, find}
use Rattle.std.proofs.lemmas.List.{length-append}
use Rattle.bep_facts.specs.Members.{Contains-first, Contains-from_flat_map, Contains-image, Contains-more, Contains-one, holds_of_member, not_in_none}
use Rattle.bep_record.specs.declared.entry.Entry.{Entry}
use Rattle.bep_model.specs.declared.flight.Flight.{Flight}
use Rattle.bep_model.specs.Tables.{Device, Folder}
use Rattle.bep_machine.specs.declared.message.Message.{Message}
use Rattle.bep_machine.specs.declared.message.Message.TheVariants.{ClusterConfig, Index, IndexUpdate, Request, Response}
use Rattle.bep_machine.specs.Said.{flight_when}
use Rattle.bep_links.specs.Link.{LinkBetween}
use Rattle.bep_peer.specs.Laws.{TablesAreFound}
use Rattle.bep_peer.specs.Member.{Member}
use Rattle.bep_tables.specs.Cut.{HasDevice, IsFlight, IsLink, ends_of}
use Rattle.bep_cut.specs.LinkState.{HasBatch, both_have, carried}
use Rattle.bep_cut.specs.Cut.{IsSoundLink, Seen, seen, link_at, replicas_at, replicas_of}
use Rattle.bep_cut.specs.Parts.{AreParts, Knows}
use Rattle.bep_cut.proofs.Gathered.{all_each}
use Rattle.bep_cut.proofs.FoldersCut.{cuts, has_device, shares_found}
use Rattle.bep_cut.proofs.SharesCut.{Shows, shows_of}

-- ---- what is carried

flight_from : (both : Bool) (folder : Folder) (full : Bool) (batch : List Entry) (flight : Flight) → Contains (flight_when both folder full batch) flight → (both ≡ true) × (folder ≡ flight.folder)
flight_from true folder full batch flight stands = (refl, ap (λ (one : Flight). one.folder) (Contains-one (record { folder = folder; full = full; records = batch }) flight stands))
flight_from false folder full batch flight stands = absurd (not_in_none flight stands)

-- a message carries records only of folders that both have
both_of : (both : Folder → Bool) (message : Message) (flight : Flight) → Contains (carried both message) flight → both flight.folder ≡ true
both_of both (Index folder batch) flight stands = let from = flight_from (both folder) folder true batch flight stands in sym (ap both from.1) ∙ from.0
both_of both (IndexUpdate folder batch) flight stands = let from = flight_from (both folder) folder false batch flight stands in sym (ap both from.1) ∙ from.0
both_of both (ClusterConfig folders) flight stands = absurd (not_in_none flight stands)
both_of both (Request request) flight stands = absurd (not_in_none flight stands)
both_of both (Response response) flight stands = absurd (not_in_none flight stands)

one_flight : (both : Bool) (folder : Folder) (full : Bool) (batch : List Entry) → length (flight_when both folder full batch) ≤ 1
one_flight true folder full batch = omega arith
one_flight false folder full batch = omega arith

one_carried : (both : Folder → Bool) (message : Message) → length (carried both message) ≤ 1
one_carried both (Index folder batch) = one_flight (both folder) folder true batch
one_carried both (IndexUpdate folder batch) = one_flight (both folder) folder false batch
one_carried both (ClusterConfig folders) = omega arith
one_carried both (Request request) = omega arith
one_carried both (Response response) = omega arith

few_carried : (both : Folder → Bool) (queue : List Message) → length (flat_map (carried both) queue) ≤ length queue
few_carried both [] = omega arith
few_carried both (message ∷ queue) =
    let rest = few_carried both queue in
    let one = one_carried both message in
    let both_of_them = length-append (carried both message) (flat_map (carried both) queue) in
    omega (arith, rest, one, both_of_them)

-- ---- the devices

found_number : (all : List Seen) (device : Device) (one : Seen) → find (λ (s : Seen). s.0 == device) all ≡ Some one → Contains all one × (one.0 ≡ device)
found_number [] device one is = absurd (let e : None ≡ Some one = is in cc)
found_number (first ∷ all) device one is = cases (first.0 == device) refl (found_number all device one) is where
  cases : (b : Bool) → (first.0 == device) ≡ b → (find (λ (s : Seen). s.0 == device) all ≡ Some one → Contains all one × (one.0 ≡ device)) →
      cond b (Some first) (find (λ (s : Seen). s.0 == device) all) ≡ Some one → Contains (first ∷ all) one × (one.0 ≡ device)
  cases true tied rest here =
      let same : first ≡ one = cc in
      (subst (Contains (first ∷ all)) same (Contains-first first all), ap (λ (s : Seen). s.0) (sym same) ∙ eqb-true first.0 device tied)
  cases false apart rest later = let from = rest later in (Contains-more first all one from.0, from.1)

-- a device that is found to have the folder
shows_at : (all : List Seen) (device : Device) (folder : Folder) → is_some (get (replicas_at all device) folder) ≡ true → Shows all folder device
shows_at all device folder has = cases (find (λ (s : Seen). s.0 == device) all) refl has where
  cases : (o : Option Seen) → find (λ (s : Seen). s.0 == device) all ≡ o → is_some (get (replicas_of o) folder) ≡ true → Shows all folder device
  cases None none some = absurd (let e : false ≡ true = sym (ap is_some (get-empty (slice_cmp nat_cmp) folder)) ∙ some in cc)
  cases (Some one) is some = at (get one.1.replicas folder) refl some where
    at : (found : Option _) → get one.1.replicas folder ≡ found → is_some found ≡ true → Shows all folder device
    at None there has = absurd (cc)
    at (Some replica) there has = let from = found_number all device one is in record { one = one; there = from.0; number = from.1; replica = replica; found = there }

both_there : (b c : Bool) → (b && c) ≡ true → (b ≡ true) × (c ≡ true)
both_there true c is = (refl, is)
both_there false c is = absurd (cc)

module _ (all : List Seen) (a b : Device) where
  are_flights : (queue : List Message) → AllByRecursion HasBatch (flat_map (carried (both_have (replicas_at all a) (replicas_at all b))) queue) →
      (flight : Flight) → Contains (flat_map (carried (both_have (replicas_at all a) (replicas_at all b))) queue) flight → IsFlight (cuts all) a b flight
  are_flights queue batches flight stands =
      let both = both_have (replicas_at all a) (replicas_at all b) in
      let from = Contains-from_flat_map (carried both) queue flight stands in
      let have = both_there (is_some (get (replicas_at all a) flight.folder)) (is_some (get (replicas_at all b) flight.folder)) (both_of both from.0 flight from.2) in
      record {
        batch = holds_of_member HasBatch (flat_map (carried both) queue) flight batches stands;
        shared_by_a = shares_found all a flight.folder (shows_at all a flight.folder have.0);
        shared_by_b = shares_found all b flight.folder (shows_at all b flight.folder have.1);
      }

-- ---- a link

pub ends_cut : (all : List Seen) (links : List LinkBetween) → map ends_of (map (link_at all) links) ≡ map (λ (between : LinkBetween). between.ends) links
ends_cut all [] = refl
ends_cut all (between ∷ links) = ap (λ (rest : List (Device × Device)). between.ends ∷ rest) (ends_cut all links)

module _ (law : TablesAreFound) (members : List Member) (links : List LinkBetween) (parts : AreParts members links) where
  abbrev all : List Seen
  all = map seen members

  knowing_there : (device other : Device) → Knows members device other → HasDevice (cuts all) device
  knowing_there device other knows =
      let some = parts.some knows.member knows.there in
      has_device all device some.0
      (shows_of law members links parts device some.0 (record { member = knows.member; there = knows.there; number = knows.number; shares = some.1 }))

  pub is_link : (between : LinkBetween) → Contains links between → IsSoundLink (map seen members) between → IsLink (cuts (map seen members)) (link_at (map seen members) between)
  is_link between stands sound =
      let a = between.ends.0 in
      let b = between.ends.1 in
      let both = both_have (replicas_at all a) (replicas_at all b) in
      let known = (parts.linked a b).0 (Contains-image (λ (one : LinkBetween). one.ends) links between stands) in
      record {
        ends = sound.a_link.rising;
        a_device = knowing_there a b known.1;
        b_device = knowing_there b a known.2;
        epoch = sound.a_link.epoch;
        quiet = λ down. let none = sound.a_link.quiet down in (ap (flat_map (carried both)) none.0, ap (flat_map (carried both)) none.1);
        few_to_a = let few = few_carried both between.link.to_lower in let most = sound.a_link.few_to_lower in omega (arith, few, most);
        few_to_b = let few = few_carried both between.link.to_upper in let most = sound.a_link.few_to_upper in omega (arith, few, most);
        to_a = all_each (IsFlight (cuts all) a b) (flat_map (carried both) between.link.to_lower) (are_flights all a b between.link.to_lower sound.to_a);
        to_b = all_each (IsFlight (cuts all) a b) (flat_map (carried both) between.link.to_upper) (are_flights all a b between.link.to_upper sound.to_b);
      }
