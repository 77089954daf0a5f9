-- Which devices are there, and who shares a folder.
use Rattle.std.proofs.Common.{◌≡◌, ◌==◌, ℕ, Bool, true, false, cond, List, [], ◌∷◌, Option, Some, None, Contains, refl, sym, ap, subst, ◌∙◌, ⊎_elim}
use Rattle.std.specs.declared.cmp.Ordering.TheVariants.{Less, Equal}
use Rattle.std.specs.Ordering.{nat_cmp}
use Rattle.std.specs.Cmp.{nat_cmp_total}
use Rattle.std.specs.FinMap.{get}
use Rattle.std.specs.List.Sorted.{IsStrictlyIncreasing, IsStrictlySortedBy}
use Rattle.std.proofs.lemmas.Cmp.{tied_itself}
use Rattle.std.proofs.lemmas.Map.Keys.{sorted_head, sorted_tail, sorted_from_strictly_increasing}
use Rattle.bep_facts.specs.Members.{not_in_none, Contains-cons_cases, Contains-first, Contains-more, Contains-one, Contains-image, Contains-from_flat_map, holds_of_member}
use Rattle.bep_record.specs.declared.folder_kind.FolderKind.{FolderKind}
use Rattle.bep_model.specs.Tables.{Device, Folder}
use Rattle.bep_machine.specs.Replica.{Replica}
use Rattle.bep_machine.specs.Steps.{SharesFolder}
use Rattle.bep_peer.specs.Member.{Member, tables_of}
use Rattle.bep_peer.specs.network.Network.{Network, is_number, member_at, config_of, kind_of, numbers_of}
use Rattle.bep_peer.proofs.Numbers.{itself, same_number}

-- a device that is found has the number, and is one of them
pub has_number : (members : List Member) (device : Device) (member : Member) → member_at members device ≡ Some member → (member.number ≡ device) × Contains members member
has_number [] device member is = absurd (cc)
has_number (first ∷ members) device member is = cases (has_number members device member) (is_number device first) refl is where
  cases : (member_at members device ≡ Some member → (member.number ≡ device) × Contains members member) → (b : Bool) → is_number device first ≡ b → cond b (Some first) (member_at members device) ≡ Some member → (member.number ≡ device) × Contains (first ∷ members) member
  cases rest true tied is =
      let same : first ≡ member = cc in
      (ap (λ (m : Member). m.number) (sym same) ∙ same_number first.number device tied, subst (Contains (first ∷ members)) same (Contains-first first members))
  cases rest false apart is = let later = rest is in (later.0, Contains-more first members member later.1)

-- the number of a device that isn't there is none of theirs
pub not_listed : (members : List Member) (device : Device) → member_at members device ≡ None → ¬ Contains (numbers_of members) device
not_listed [] device is stands = not_in_none device stands
not_listed (first ∷ members) device is stands = cases (not_listed members device) (is_number device first) refl is where
  cases : (member_at members device ≡ None → ¬ Contains (numbers_of members) device) → (b : Bool) → is_number device first ≡ b → cond b (Some first) (member_at members device) ≡ None → ⊥
  cases rest true tied is = absurd (cc)
  cases rest false apart is =
      ⊎_elim
      (λ same. let both : true ≡ false = sym (itself device) ∙ ap (λ (n : Device). n == device) (sym same) ∙ apart in absurd (cc))
      (rest is)
      (Contains-cons_cases first.number (numbers_of members) device stands)

pub listed : (members : List Member) (device : Device) (member : Member) → member_at members device ≡ Some member → Contains (numbers_of members) device
listed members device member is =
    let found = has_number members device member is in
    subst (Contains (numbers_of members)) found.0 (Contains-image (λ (m : Member). m.number) members member found.1)

-- where the numbers rise, each device is the one that its number finds
found_itself : (members : List Member) (member : Member) → IsStrictlySortedBy nat_cmp (numbers_of members) → Contains members member → member_at members member.number ≡ Some member
found_itself [] member sorted stands = absurd (not_in_none member stands)
found_itself (first ∷ members) member sorted stands =
    ⊎_elim here (λ more. later more (found_itself members member (sorted_tail nat_cmp first.number (numbers_of members) sorted) more)) (Contains-cons_cases first members member stands)
  where
    here : first ≡ member → cond (is_number member.number first) (Some first) (member_at members member.number) ≡ Some member
    here same =
        subst (λ (one : Member). cond (is_number one.number first) (Some first) (member_at members one.number) ≡ Some one) same
        (ap (λ (b : Bool). cond b (Some first) (member_at members first.number)) (itself first.number))

    later : Contains members member → member_at members member.number ≡ Some member → cond (is_number member.number first) (Some first) (member_at members member.number) ≡ Some member
    later more rest = cases (is_number member.number first) refl
      where
        less : nat_cmp first.number member.number ≡ Less
        less =
            holds_of_member (λ (n : ℕ). nat_cmp first.number n ≡ Less) (numbers_of members) member.number
            (sorted_head nat_cmp first.number (numbers_of members) sorted) (Contains-image (λ (m : Member). m.number) members member more)

        cases : (b : Bool) → is_number member.number first ≡ b → cond b (Some first) (member_at members member.number) ≡ Some member
        cases true tied =
            let equal : nat_cmp first.number member.number ≡ Equal = ap (nat_cmp first.number) (sym (same_number first.number member.number tied)) ∙ tied_itself nat_cmp_total first.number in
            let both : Less ≡ Equal = sym less ∙ equal in
            absurd (cc)
        cases false apart = rest

pub found_by_number : (members : List Member) (member : Member) → IsStrictlyIncreasing (numbers_of members) → Contains members member → member_at members member.number ≡ Some member
found_by_number members member rising stands = found_itself members member (sorted_from_strictly_increasing (numbers_of members) rising) stands

-- who has a folder has it in the kind that is said
of_kind : (number device : Device) (kind : FolderKind) (found : Option Replica) → Contains (kind_of number found) (device, kind) → (replica : Replica) × (found ≡ Some replica) × (number ≡ device)
of_kind number device kind None stands = absurd (not_in_none _ stands)
of_kind number device kind (Some replica) stands = (replica, refl, ap (λ (one : Device × FolderKind). one.0) (Contains-one (number, replica.kind) (device, kind) stands))

-- a device that shares the folder is there, with the folder
pub sharing_there : (network : Network) (device : Device) (folder : Folder) → IsStrictlyIncreasing (numbers_of network.members) → SharesFolder (config_of network) device folder →
    (member : Member) × (replica : Replica) × (member_at network.members device ≡ Some member) × (get (tables_of member).replicas folder ≡ Some replica)
sharing_there network device folder rising shares =
    let from = Contains-from_flat_map (λ (member : Member). kind_of member.number (get (tables_of member).replicas folder)) network.members (device, shares.0) shares.1 in
    let here = of_kind from.0.number device shares.0 (get (tables_of from.0).replicas folder) from.2 in
    (from.0, here.0, subst (λ (n : Device). member_at network.members n ≡ Some from.0) here.2 (found_by_number network.members from.0 rising from.1), here.1)

-- so one that isn't there, or doesn't have the folder, doesn't share it
pub absent_shares_none : (network : Network) (device : Device) (folder : Folder) → IsStrictlyIncreasing (numbers_of network.members) → member_at network.members device ≡ None → ¬ SharesFolder (config_of network) device folder
absent_shares_none network device folder rising none shares =
    let there = sharing_there network device folder rising shares in
    let both : None ≡ Some there.0 = sym none ∙ there.2 in
    absurd (cc)

pub without_shares_none : (network : Network) (device : Device) (folder : Folder) (member : Member) → IsStrictlyIncreasing (numbers_of network.members) → member_at network.members device ≡ Some member → get (tables_of member).replicas folder ≡ None → ¬ SharesFolder (config_of network) device folder
without_shares_none network device folder member rising found none shares =
    let there = sharing_there network device folder rising shares in
    let same : there.0 ≡ member = let e : Some there.0 ≡ Some member = sym there.2 ∙ found in cc in
    let both : None ≡ Some there.1 = sym none ∙ ap (λ (m : Member). get (tables_of m).replicas folder) (sym same) ∙ there.3 in
    absurd (cc)
