-- What the tables of a cluster are where one of its links was changed.
use Rattle.std.proofs.Common.{zero, suc, ◌≡◌, ◌≢◌, ◌<◌, ◌==◌, ◌&&◌, ℕ, Bool, true, false, cond, if◌then◌else◌, List, [], ◌∷◌, length, set, get_or, Some, None, Contains, refl, sym, ap, subst, ◌∙◌, ⊎_elim}
use Rattle.std.specs.List.{position_or_len}
use Rattle.std.specs.List.Sorted.{IsStrictlySortedBy}
use Rattle.std.proofs.Math.Path.{fun_ext}
use Rattle.std.proofs.Math.Seq.{map-set_same}
use Rattle.std.proofs.lemmas.List.Folds.{find-set, find_past}
use Rattle.bep_facts.specs.Members.{not_in_none, Contains-cons_cases, Contains-first, Contains-more}
use Rattle.bep_config.specs.Config.{by_ends}
use Rattle.bep_model.specs.Tables.{Device}
use Rattle.bep_machine.specs.Cluster.{Config, with_link}
use Rattle.bep_links.specs.Link.{LinkBetween}
use Rattle.bep_peer.specs.network.Network.{Network, IsNetwork, IsJoined, AreFew, ShareSome, is_between as joins, ends_of, between_at, link_of, member_at, peer_of, config_of, sharing_of, numbers_of, cluster_of}
use Rattle.bep_peer.proofs.Numbers.{itself, same_number}

pub both_true : (a b : Bool) → (a && b) ≡ true → (a ≡ true) × (b ≡ true)
both_true true true e = (refl, refl)
both_true true false e = absurd (cc)
both_true false b e = absurd (cc)

-- a link that joins the two has them for its ends
pub joins_ends : (lower upper : Device) (between : LinkBetween) → joins lower upper between ≡ true → between.ends ≡ (lower, upper)
joins_ends lower upper between e =
    let parts = both_true (between.ends.0 == lower) (between.ends.1 == upper) e in
    λ i. (same_number between.ends.0 lower parts.0 i, same_number between.ends.1 upper parts.1 i)

pub ends_join : (lower upper : Device) (between : LinkBetween) → between.ends ≡ (lower, upper) → joins lower upper between ≡ true
ends_join lower upper between e =
    ap (λ (ends : Device × Device). (ends.0 == lower) && (ends.1 == upper)) e ∙ (λ i. itself lower i && itself upper i)

-- what is found joins the two, and where there is such a link it is found
pub found_joins : (lower upper : Device) (links : List LinkBetween) (found : LinkBetween) → between_at links lower upper ≡ Some found → Contains (ends_of links) (lower, upper)
found_joins lower upper [] found e = absurd (cc)
found_joins lower upper (between ∷ links) found e = cases (found_joins lower upper links found) (joins lower upper between) refl e where
  cases : (between_at links lower upper ≡ Some found → Contains (ends_of links) (lower, upper)) → (b : Bool) → joins lower upper between ≡ b → cond b (Some between) (between_at links lower upper) ≡ Some found → Contains (ends_of (between ∷ links)) (lower, upper)
  cases rest true is e = subst (λ ends. Contains (ends_of (between ∷ links)) ends) (joins_ends lower upper between is) (Contains-first between.ends (ends_of links))
  cases rest false is e = Contains-more between.ends (ends_of links) (lower, upper) (rest e)

pub none_joins : (lower upper : Device) (links : List LinkBetween) → between_at links lower upper ≡ None → ¬ Contains (ends_of links) (lower, upper)
none_joins lower upper [] e stands = not_in_none _ stands
none_joins lower upper (between ∷ links) e stands = cases (none_joins lower upper links) (joins lower upper between) refl e where
  here : joins lower upper between ≡ false → between.ends ≢ (lower, upper)
  here is same = let both : true ≡ false = sym (ends_join lower upper between same) ∙ is in absurd (cc)

  cases : (between_at links lower upper ≡ None → ¬ Contains (ends_of links) (lower, upper)) → (b : Bool) → joins lower upper between ≡ b → cond b (Some between) (between_at links lower upper) ≡ None → ⊥
  cases rest true is e = absurd (cc)
  cases rest false is e = ⊎_elim (here is) (rest e) (Contains-cons_cases between.ends (ends_of links) (lower, upper) stands)

-- the link at this place, the first between the two, is replaced by another of the same ends
pub record ReplacesLink (links : List LinkBetween) (lower upper : Device) (place : ℕ) (was after : LinkBetween) : Type 0 where
  pub first : place ≡ position_or_len (joins lower upper) links
  pub there : place < length links
  pub is : get_or links place was ≡ was
  pub found : between_at links lower upper ≡ Some was
  pub ends : was.ends ≡ (lower, upper)
  pub same : after.ends ≡ was.ends

abbrev pub with_between : Network → ℕ → LinkBetween → Network
with_between network place after = record network { links = set network.links place after }

ends_same : (links : List LinkBetween) (lower upper : Device) (place : ℕ) (was after : LinkBetween) → ReplacesLink links lower upper place was after → ends_of (set links place after) ≡ ends_of links
ends_same links lower upper place was after l =
    map-set_same (λ (between : LinkBetween). between.ends) links place after was (l.same ∙ ap (λ (between : LinkBetween). between.ends) (sym l.is))

-- the configuration stays
links_config_same : (network : Network) (lower upper : Device) (place : ℕ) (was after : LinkBetween) → ReplacesLink network.links lower upper place was after → config_of (with_between network place after) ≡ config_of network
links_config_same network lower upper place was after l = λ i. record {
  devices = numbers_of network.members;
  sharing = sharing_of network.members;
  links = ends_same network.links lower upper place was after l i;
}

-- what holds of every network holds still, where the links have the same ends
pub network_after_links : (network : Network) (links : List LinkBetween) → ends_of links ≡ ends_of network.links → IsNetwork network → IsNetwork (record network { links = links })
network_after_links network links same rules = record {
  devices = rules.devices;
  few = rules.few;
  links = subst (IsStrictlySortedBy by_ends) (sym same) rules.links;
  ends = λ one other stands. rules.ends one other (subst (λ (all : List (Device × Device)). Contains all (one, other)) same stands);
  joined = λ device member is. subst (λ (config : Config). IsJoined config member) (sym config) (rules.joined device member is);
  folders = subst AreFew (sym config) rules.folders;
  some = subst ShareSome (sym config) rules.some;
}
  where
    config : config_of (record network { links = links }) ≡ config_of network
    config = λ i. record { devices = numbers_of network.members; sharing = sharing_of network.members; links = same i }

pub network_after_link : (network : Network) (lower upper : Device) (place : ℕ) (was after : LinkBetween) → ReplacesLink network.links lower upper place was after → IsNetwork network → IsNetwork (with_between network place after)
network_after_link network lower upper place was after l rules =
    network_after_links network (set network.links place after) (ends_same network.links lower upper place was after l) rules

-- the link alone is another one
pub one_link : (network : Network) (lower upper : Device) (place : ℕ) (was after : LinkBetween) → ReplacesLink network.links lower upper place was after →
    cluster_of (with_between network place after) ≡ with_link (cluster_of network) lower upper after.link
one_link network lower upper place was after l = λ i. record {
  config = links_config_same network lower upper place was after l i;
  peer = λ device. peer_of (member_at network.members device);
  link = fun_ext (λ a. fun_ext (λ b. at a b)) i;
}
  where
    apart : (a b : Device) → ((a == lower) && (b == upper)) ≡ false → (between : LinkBetween) → between.ends ≡ (lower, upper) → joins a b between ≡ false
    apart a b no_match between e = decide (joins a b between) refl
      where
        decide : (t : Bool) → joins a b between ≡ t → joins a b between ≡ false
        decide true is =
            let ends : (lower, upper) ≡ (a, b) = sym e ∙ joins_ends a b between is in
            let both : true ≡ false = sym (λ i. itself lower i && itself upper i) ∙ ap (λ (ends : Device × Device). (ends.0 == lower) && (ends.1 == upper)) ends ∙ no_match in
            absurd (cc)
        decide false is = is

    at : (a b : Device) → link_of (between_at (set network.links place after) a b) ≡ (if (a == lower) && (b == upper) then after.link else link_of (between_at network.links a b))
    at a b = cases ((a == lower) && (b == upper)) refl
      where
        cases : (t : Bool) → ((a == lower) && (b == upper)) ≡ t → link_of (between_at (set network.links place after) a b) ≡ (if t then after.link else link_of (between_at network.links a b))
        cases true e =
            let parts = both_true (a == lower) (b == upper) e in
            ap link_of (ap (λ (ends : Device × Device). between_at (set network.links place after) ends.0 ends.1) (λ i. (same_number a lower parts.0 i, same_number b upper parts.1 i))
            ∙ find-set (joins lower upper) network.links place after l.first l.there (ends_join lower upper after (l.same ∙ l.ends)))
        cases false e =
            ap link_of (find_past (joins a b) network.links place after was (ap (joins a b) l.is ∙ apart a b e was l.ends) (apart a b e after (l.same ∙ l.ends)))

-- a link that is put where it stands changes nothing
set_itself : {X : Type 0} (xs : List X) (place : ℕ) (x : X) → get_or xs place x ≡ x → set xs place x ≡ xs
set_itself [] place x is = refl
set_itself (y ∷ xs) zero x is = ap (λ (z : _). z ∷ xs) (sym is)
set_itself (y ∷ xs) (suc place) x is = ap (λ ys. y ∷ ys) (set_itself xs place x is)

pub same_link : (network : Network) (place : ℕ) (was after : LinkBetween) → get_or network.links place was ≡ was → after ≡ was → cluster_of (with_between network place after) ≡ cluster_of network
same_link network place was after is same =
    ap (λ (links : List LinkBetween). cluster_of (record network { links = links })) (ap (set network.links place) same ∙ set_itself network.links place was is)
