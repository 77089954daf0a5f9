-- Devices of which a cut was taken, or none, are such that one can be taken of them again.
use Rattle.std.proofs.Common.{◌≡◌, ◌≢◌, ◌≤◌, List, [], ◌∷◌, length, map, Option, Some, None, IsSome, Contains, refl, sym, ap, subst, ◌∙◌, ⊎_elim, arith, option_map}
use Rattle.std.specs.List.Sorted.{IsStrictlyIncreasing}
use Rattle.std.specs.FinMap.{get}
use Rattle.std.proofs.lemmas.List.{length-map}
use Rattle.bep_facts.specs.Members.{Contains-cons_cases, Contains-first, Contains-more, not_in_none}
use Rattle.bep_record.specs.declared.limits.TheConstants.{MAX_FOLDERS}
use Rattle.bep_model.specs.Tables.{Device, Folder}
use Rattle.bep_machine.specs.Replica.{Replica}
use Rattle.bep_folder.specs.Held.{Held}
use Rattle.bep_links.specs.Link.{LinkBetween}
use Rattle.bep_peer.specs.Laws.{TablesAreFound}
use Rattle.bep_peer.specs.Member.{Member}
use Rattle.bep_cut.specs.Cut.{Seen, folders_of, seen}
use Rattle.bep_cut.specs.Parts.{AgreeOnLinks, AgreeOnSharing, AreParts, Has, Knows, ShareSome, links_of}

-- one of these devices is seen as this one is, and knows of the same links
record Twin (members : List Member) (member : Member) : Type 0 where
  pub one : Member
  pub there : Contains members one
  pub same : seen one ≡ seen member
  pub linked : one.linked ≡ member.linked

twin : (members others : List Member) → map seen members ≡ map seen others → links_of members ≡ links_of others → (member : Member) → Contains others member → Twin members member
twin members [] same linked member there = absurd (not_in_none member there)
twin [] (other ∷ others) same linked member there = absurd (cc)
twin (one ∷ members) (other ∷ others) same linked member there =
    ⊎_elim
    (λ here. record { one = one; there = Contains-first one members; same = first ∙ ap seen here; linked = known ∙ ap (λ (m : Member). m.linked) here })
    (λ later.
    let found = twin members others rest known_rest member later in
    record { one = found.one; there = Contains-more one members found.one found.there; same = found.same; linked = found.linked })
    (Contains-cons_cases other others member there)
  where
    first : seen one ≡ seen other
    first = cc

    rest : map seen members ≡ map seen others
    rest = cc

    known : one.linked ≡ other.linked
    known = cc

    known_rest : links_of members ≡ links_of others
    known_rest = cc

numbers : (members others : List Member) → map seen members ≡ map seen others → map (λ (m : Member). m.number) members ≡ map (λ (m : Member). m.number) others
numbers [] [] same = refl
numbers [] (other ∷ others) same = absurd (cc)
numbers (one ∷ members) [] same = absurd (cc)
numbers (one ∷ members) (other ∷ others) same =
    let first : seen one ≡ seen other = cc in
    let more : map seen members ≡ map seen others = cc in
    let number : one.number ≡ other.number = ap (λ (s : Seen). s.0) first in
    let rest = numbers members others more in
    cc

-- ---- what is found of a folder

some_of : {A B : Type 0} (f : A → B) (found : Option A) → IsSome (option_map f found) → IsSome found
some_of f None has = absurd (cc)
some_of f (Some one) has = refl

some_map : {A B : Type 0} (f : A → B) (found : Option A) → IsSome found → IsSome (option_map f found)
some_map f None has = absurd (cc)
some_map f (Some one) has = refl

held_of : (found : Option Held) (replica : Replica) → option_map (λ (one : Held). one.tables) found ≡ Some replica → (held : Held) × (found ≡ Some held) × (held.tables ≡ replica)
held_of None replica is = absurd (cc)
held_of (Some held) replica is = (held, refl, cc)

module _ (law : TablesAreFound) where
  shares : (one other : Member) → seen one ≡ seen other → (folder : Folder) → IsSome (get one.folders folder) → IsSome (get other.folders folder)
  shares one other same folder has =
      some_of (λ (held : Held). held.tables) (get other.folders folder)
      (subst (λ (o : Option Replica). IsSome o) (law other folder)
      (subst (λ (s : Seen). IsSome (get s.1.replicas folder)) same
      (subst (λ (o : Option Replica). IsSome o) (sym (law one folder)) (some_map (λ (held : Held). held.tables) (get one.folders folder) has))))

  module _ (members others : List Member) (same : map seen members ≡ map seen others) (linked : links_of members ≡ links_of others) where
    has : (device : Device) (folder : Folder) → Has others device folder → Has members device folder
    has device folder having =
        let found = twin members others same linked having.member having.there in
        record {
          member = found.one;
          there = found.there;
          number = ap (λ (s : Seen). s.0) found.same ∙ having.number;
          shares = shares having.member found.one (sym found.same) folder having.shares;
        }

    knows : (device other : Device) → Knows others device other → Knows members device other
    knows device other knowing =
        let found = twin members others same linked knowing.member knowing.there in
        record {
          member = found.one;
          there = found.there;
          number = ap (λ (s : Seen). s.0) found.same ∙ knowing.number;
          linked = subst (λ (devices : List Device). Contains devices other) (sym found.linked) knowing.linked;
        }

  -- ---- the whole

  module _ (members others : List Member) (links : List LinkBetween) (same : map seen others ≡ map seen members) (linked : links_of others ≡ links_of members) (parts : AreParts members links) where
    agree_on_sharing : AgreeOnSharing others
    agree_on_sharing member folder held device there is =
        let found = twin members others (sym same) (sym linked) member there in
        let number = ap (λ (s : Seen). s.0) found.same in
        let was = held_of (get found.one.folders folder) held.tables
        (sym (law found.one folder) ∙ ap (λ (s : Seen). get s.1.replicas folder) found.same ∙ law member folder ∙ ap (option_map (λ (one : Held). one.tables)) is) in
        let fits = parts.sharing found.one folder was.0 device found.there was.1 in (
          λ named.
              let apart = fits.0 (subst (λ (r : Replica). Contains r.others device) (sym was.2) named) in
              (subst (λ (n : Device). device ≢ n) number apart.0, has others members same linked device folder apart.1),
          λ having.
              subst (λ (r : Replica). Contains r.others device) was.2
              (fits.1 (subst (λ (n : Device). device ≢ n) (sym number) having.0, has members others (sym same) (sym linked) device folder having.1)),
        )

    agree_on_links : AgreeOnLinks others links
    agree_on_links lower upper =
        let fits = parts.linked lower upper in (
          λ stands. let both = fits.0 stands in (both.0, knows others members same linked lower upper both.1, knows others members same linked upper lower both.2),
          λ both. fits.1 (both.0, knows members others (sym same) (sym linked) lower upper both.1, knows members others (sym same) (sym linked) upper lower both.2),
        )

    share_some : ShareSome others
    share_some member there =
        let found = twin members others (sym same) (sym linked) member there in
        let shared = parts.some found.one found.there in
        (shared.0, shares found.one member found.same shared.0 shared.1)

    pub parts_again : AreParts others links
    parts_again = record {
      devices = subst IsStrictlyIncreasing (sym (numbers others members same)) parts.devices;
      rising = parts.rising;
      few_devices =
          let few = parts.few_devices in
          let one = length-map members seen in
          let other = length-map others seen in
          let equal = ap (λ (all : List Seen). length all) same in
          omega (arith, few, one, other, equal);
      few_folders = subst (λ (all : List Seen). length (folders_of all) ≤ MAX_FOLDERS) (sym same) parts.few_folders;
      sharing = agree_on_sharing;
      linked = agree_on_links;
      some = share_some;
    }
