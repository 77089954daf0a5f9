-- No device and no link of a cluster stands twice.
use Rattle.std.proofs.Common.{◌≡◌, ◌++◌, ℕ, List, [], ◌∷◌, map, Contains, refl, sym, ap, subst, ◌∙◌, ⊎_elim}
use Rattle.std.specs.declared.cmp.Ordering.{Ordering}
use Rattle.std.specs.declared.cmp.Ordering.TheVariants.{Less, Equal}
use Rattle.std.specs.Ordering.{nat_cmp}
use Rattle.std.specs.Cmp.{IsTotalOrder, nat_cmp_total}
use Rattle.std.specs.List.Sorted.{IsStrictlySortedBy}
use Rattle.std.proofs.lemmas.Cmp.{on_total, then_total, tied_itself}
use Rattle.std.proofs.lemmas.List.Elements.{Contains-append_cases}
use Rattle.std.proofs.lemmas.Map.Keys.{sorted_head, sorted_tail, sorted_from_strictly_increasing}
use Rattle.bep_facts.specs.Members.{Contains-first, Contains-from_image, Contains-more, holds_of_member}
use Rattle.bep_config.specs.Config.{by_ends}
use Rattle.bep_fit.specs.declared.object.Object.{Object}
use Rattle.bep_fit.specs.declared.object.Object.TheVariants as objects
use Rattle.bep_fit.specs.Replayed.{objects_of}
use Rattle.bep_history.specs.View.{AreDistinct}
use Rattle.bep_links.specs.Link.{LinkBetween}
use Rattle.bep_peer.specs.Member.{Member}
use Rattle.bep_peer.specs.network.Network.{IsNetwork, Network, cluster_of, ends_of, numbers_of}
use Rattle.bep_run.specs.inner.Kept.{objects_of_links, objects_of_peers}

total_ends : IsTotalOrder by_ends
total_ends = then_total (on_total (λ (ends : ℕ × ℕ). ends.0) nat_cmp_total) (on_total (λ (ends : ℕ × ℕ). ends.1) nat_cmp_total)

-- what rises stands once, also under other names
distinct_rising : {K : Type 0} (c : K → K → Ordering) → IsTotalOrder c → (named : K → Object) → ((one other : K) → named one ≡ named other → one ≡ other) → (keys : List K) → IsStrictlySortedBy c keys → AreDistinct (map named keys)
distinct_rising c total named apart [] rises = tt
distinct_rising {K} c total named apart (key ∷ more) rises = (once, distinct_rising c total named apart more (sorted_tail c key more rises))
  where
    once : ¬ Contains (map named more) (named key)
    once stands =
        let found = Contains-from_image named more (named key) stands in
        let same : found.0 ≡ key = apart found.0 key found.2 in
        let less : c key found.0 ≡ Less = holds_of_member (λ y. c key y ≡ Less) more found.0 (sorted_head c key more rises) found.1 in
        let both : Less ≡ Equal = sym less ∙ (ap (c key) same ∙ tied_itself total key) in
        absurd (cc)

distinct_both : (these others : List Object) → AreDistinct these → AreDistinct others → ((object : Object) → Contains these object → ¬ Contains others object) → AreDistinct (these ++ others)
distinct_both [] others distinct distinct' apart = distinct'
distinct_both (object ∷ more) others distinct distinct' apart = (
  λ stands. ⊎_elim distinct.0 (apart object (Contains-first object more)) (Contains-append_cases more others object stands),
  distinct_both more others distinct.1 distinct' (λ other stands. apart other (Contains-more object more other stands)),
)

same_device : (one other : ℕ) → objects.Device one ≡ objects.Device other → one ≡ other
same_device one other same = cc

same_ends : (one other : ℕ × ℕ) → objects.Link one.0 one.1 ≡ objects.Link other.0 other.1 → one ≡ other
same_ends one other same = λ i. ((let e : one.0 ≡ other.0 = cc in e) i, (let e : one.1 ≡ other.1 = cc in e) i)

map_map : {A B C : Type 0} (f : B → C) (g : A → B) (xs : List A) → map f (map g xs) ≡ map (λ x. f (g x)) xs
map_map f g [] = refl
map_map f g (x ∷ xs) = ap (λ ys. f (g x) ∷ ys) (map_map f g xs)

devices_are : (members : List Member) → map objects.Device (numbers_of members) ≡ objects_of_peers members
devices_are members = map_map objects.Device (λ (member : Member). member.number) members

links_are : (links : List LinkBetween) → map (λ (ends : ℕ × ℕ). objects.Link ends.0 ends.1) (ends_of links) ≡ objects_of_links links
links_are links = map_map (λ (ends : ℕ × ℕ). objects.Link ends.0 ends.1) (λ (link : LinkBetween). link.ends) links

-- the objects of a network, by its parts
pub objects_are : (network : Network) → objects_of (cluster_of network).config ≡ objects_of_peers network.members ++ objects_of_links network.links
objects_are network = λ i. devices_are network.members i ++ links_are network.links i

no_link_of : (members : List Member) (links : List LinkBetween) (object : Object) → Contains (objects_of_peers members) object → ¬ Contains (objects_of_links links) object
no_link_of members links object stands stands' =
    let device = Contains-from_image (λ (member : Member). objects.Device member.number) members object stands in
    let link = Contains-from_image (λ (one : LinkBetween). objects.Link one.ends.0 one.ends.1) links object stands' in
    let same : objects.Device device.0.number ≡ objects.Link link.0.ends.0 link.0.ends.1 = device.2 ∙ sym link.2 in
    absurd (cc)

pub distinct_objects : (network : Network) → IsNetwork network → AreDistinct (objects_of_peers network.members ++ objects_of_links network.links)
distinct_objects network is =
    distinct_both (objects_of_peers network.members) (objects_of_links network.links)
    (subst AreDistinct (devices_are network.members) (distinct_rising nat_cmp nat_cmp_total objects.Device same_device (numbers_of network.members) (sorted_from_strictly_increasing (numbers_of network.members) is.devices)))
    (subst AreDistinct (links_are network.links) (distinct_rising by_ends total_ends (λ (ends : ℕ × ℕ). objects.Link ends.0 ends.1) same_ends (ends_of network.links) is.links))
    (no_link_of network.members network.links)
