-- What is known of how a cluster began, of its devices and links behind their locks.
use Rattle.std.proofs.Common.{◌≡◌, ◌++◌, ◌+◌, ℕ, List, [], ◌∷◌, map, length, Option, Some, None, refl, sym, ap, subst, ◌∙◌}
use Rattle.std.proofs.lemmas.List.{length-map, map-append}
use Rattle.bep_peer.specs.Member.{Member, tables_of}
use Rattle.bep_peer.specs.network.Network.{Network, cluster_of}
use Rattle.bep_peer.proofs.CopyFacts.{copied_tables}
use Rattle.bep_log.specs.LoggedLink.{LoggedBetween}
use Rattle.bep_log.specs.Copies.{IsCopied}
use Rattle.bep_log.specs.LoggedPeer.{IsBegun, LoggedMember}
use Rattle.bep_cut.specs.Cut.{Seen, seen}
use Rattle.bep_cut.specs.Says.{cluster_at}
use Rattle.bep_run_cut.proofs.SameCluster.{same_cluster}
use Rattle.bep_run_cut.specs.RunCut.{AreTheSame, links_base, members_base}
use Rattle.bep_run.specs.Origin.{AreFirst, BeginsAs, IsAll, at_place, count_of, devices_in, links_in}
use Rattle.bep_run.specs.Based.{base_seen, began_as}
use Rattle.bep_run.proofs.Places.{AreLeft, fewer_left, first_are_all, first_with, next_stands, none_left}

-- ---- one device

-- what stands at a place stands there, however it is named
pub stands_as : {A : Type 0} (known : Option (List A)) (place : ℕ) (one other : A) → one ≡ other → at_place known place other ≡ Some other → at_place known place one ≡ Some one
stands_as known place one other same stands = subst (λ x. at_place known place x ≡ Some x) (sym same) stands

-- a device that was taken stands where it stood
pub new_stands : (known : Option (List Seen)) (place : ℕ) (was : Member) (made : LoggedMember) → IsBegun was made → at_place known place (seen was) ≡ Some (seen was) → at_place known place (began_as made) ≡ Some (began_as made)
new_stands known place was made begun = stands_as known place (began_as made) (seen was) (λ i. (begun.rest.number i, (ap tables_of begun.base ∙ copied_tables was) i))

-- a copy of it stands there too
pub copy_stands : (known : Option (List Seen)) (place : ℕ) (logged copy : LoggedMember) → logged.base.number ≡ logged.now.number → IsCopied logged copy → at_place known place (began_as logged) ≡ Some (began_as logged) → at_place known place (seen copy.base) ≡ Some (seen copy.base)
copy_stands known place logged copy number copied = stands_as known place (seen copy.base) (began_as logged) (λ i. ((ap (λ (m : Member). m.number) copied.base ∙ number) i, (ap tables_of copied.base ∙ copied_tables logged.base) i))

-- it still stands there once its stores were read
pub still_stands : (known : Option (List Seen)) (place : ℕ) (old new : LoggedMember) → new.now.number ≡ old.now.number → tables_of new.base ≡ tables_of old.base → at_place known place (began_as old) ≡ Some (began_as old) → at_place known place (began_as new) ≡ Some (began_as new)
still_stands known place old new number tables_same = stands_as known place (began_as new) (began_as old) (λ i. (number i, tables_same i))

-- those that aren't behind locks yet, one after the other
pub next_seen : (known : Option (List Seen)) (place : ℕ) (one : Member) (rest all : List Member) → all ≡ one ∷ rest → AreLeft known place (map seen all) → at_place known place (seen one) ≡ Some (seen one)
next_seen known place one rest all is left = next_stands known place (seen one) (map seen rest) (subst (λ these. AreLeft known place (map seen these)) is left)

pub fewer_seen : (known : Option (List Seen)) (place : ℕ) (one : Member) (rest all : List Member) → all ≡ one ∷ rest → AreLeft known place (map seen all) → AreLeft known (place + 1) (map seen rest)
fewer_seen known place one rest all is left = fewer_left known place (seen one) (map seen rest) (subst (λ these. AreLeft known place (map seen these)) is left)

pub none_seen : (known : Option (List Seen)) (place : ℕ) (all : List Member) → all ≡ [] → AreLeft known place (map seen all) → count_of known place ≡ place
none_seen known place all is left = none_left known place (subst (λ these. AreLeft known place (map seen these)) is left)

-- the same devices and links are the same cluster
pub same_cluster_of : (one other : Network) → AreTheSame one other.members other.links → cluster_of one ≡ cluster_of other
same_cluster_of one other same = same_cluster one.members other.members one.links same.devices_same ∙ ap (cluster_at other.members) same.links_same

-- ---- all of them

pub parts_known : (start : Option Network) (cluster : Network) → BeginsAs start cluster → IsAll (devices_in start) (map seen cluster.members) × IsAll (links_in start) cluster.links
parts_known None cluster begins = (tt, tt)
parts_known (Some origin) cluster begins = (begins.devices_same, begins.links_same)

all_seen : (copies : List LoggedMember) → map seen (members_base copies) ≡ map base_seen copies
all_seen [] = refl
all_seen (copy ∷ more) = ap (λ all. base_seen copy ∷ all) (all_seen more)

pub begins_so : (start : Option Network) (bases : Network) (copies : List LoggedMember) (links : List LoggedBetween) → AreTheSame bases (members_base copies) (links_base links) →
    IsAll (devices_in start) (map base_seen copies) → IsAll (links_in start) (links_base links) → BeginsAs start bases
begins_so None bases copies links same devices joined = tt
begins_so (Some origin) bases copies links same devices joined = record {
  devices_same = same.devices_same ∙ all_seen copies ∙ devices;
  links_same = same.links_same ∙ joined;
}

-- the copies of the first ones, with that of the next one
pub copied_with : {A B : Type 0} (f : A → B) (known : Option (List B)) (these : List A) (one : A) (place : ℕ) → place ≡ length these → AreFirst known (map f these) → at_place known place (f one) ≡ Some (f one) → AreFirst known (map f (these ++ one ∷ []))
copied_with f known these one place at first stands =
    subst (AreFirst known) (sym (map-append f these (one ∷ [])))
    (first_with known (map f these) (f one) first (subst (λ p. at_place known p (f one) ≡ Some (f one)) (at ∙ sym (length-map these f)) stands))

-- the copies of the first ones are those of all, if they are as many
pub copies_are_all : {A B : Type 0} (f : A → B) (known : Option (List B)) (these : List A) (count : ℕ) → AreFirst known (map f these) → count_of known count ≡ count → length these ≡ count → IsAll known (map f these)
copies_are_all f known these count first counted same = first_are_all known (map f these) count first counted (length-map these f ∙ same)
