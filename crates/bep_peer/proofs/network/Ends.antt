-- Each link of a cluster is the one that its ends find.
use Rattle.std.proofs.Common.{◌≡◌, ◌==◌, ◌&&◌, ◌∙◌, ℕ, Bool, true, false, cond, List, [], ◌∷◌, Option, Some, Contains, refl, sym, ap, subst, ⊎_elim}
use Rattle.std.specs.declared.cmp.Ordering.TheVariants.{Less, Equal}
use Rattle.std.specs.Cmp.{IsTotalOrder, nat_cmp_total}
use Rattle.std.specs.List.Sorted.{IsStrictlySortedBy}
use Rattle.std.proofs.lemmas.Cmp.{on_total, then_total, tied_itself}
use Rattle.std.proofs.lemmas.Map.Keys.{sorted_head, sorted_tail}
use Rattle.bep_facts.specs.Members.{not_in_none, Contains-cons_cases, Contains-image, holds_of_member}
use Rattle.bep_config.specs.Config.{by_ends}
use Rattle.bep_model.specs.Tables.{Device}
use Rattle.bep_links.specs.Link.{LinkBetween}
use Rattle.bep_peer.specs.network.Network.{between_at, ends_of, is_between}
use Rattle.bep_peer.specs.network.Sharing.{FoundByEnds}
use Rattle.bep_peer.proofs.Numbers.{itself, same_number}

total_ends : IsTotalOrder by_ends
total_ends = then_total (on_total (λ (ends : ℕ × ℕ). ends.0) nat_cmp_total) (on_total (λ (ends : ℕ × ℕ). ends.1) nat_cmp_total)

joins_its_ends : (between : LinkBetween) → is_between between.ends.0 between.ends.1 between ≡ true
joins_its_ends between = both (itself between.ends.0) (itself between.ends.1) where
  both : {a b : Bool} → a ≡ true → b ≡ true → (a && b) ≡ true
  both one other = λ i. one i && other i

same_ends : (lower upper : Device) (between : LinkBetween) → is_between lower upper between ≡ true → between.ends ≡ (lower, upper)
same_ends lower upper between is =
    let parts = both (between.ends.0 == lower) (between.ends.1 == upper) is in
    λ i. (same_number between.ends.0 lower parts.0 i, same_number between.ends.1 upper parts.1 i)
  where
    both : (c d : Bool) → (c && d) ≡ true → (c ≡ true) × (d ≡ true)
    both true d is = (refl, is)
    both false d is = absurd (cc)

-- where the ends rise, each link is the one that its ends find
found_by_ends : (links : List LinkBetween) (between : LinkBetween) → IsStrictlySortedBy by_ends (ends_of links) → Contains links between → between_at links between.ends.0 between.ends.1 ≡ Some between
found_by_ends [] between sorted stands = absurd (not_in_none between stands)
found_by_ends (first ∷ links) between sorted stands =
    ⊎_elim here (λ more. later more (found_by_ends links between (sorted_tail by_ends first.ends (ends_of links) sorted) more)) (Contains-cons_cases first links between stands)
  where
    found : LinkBetween → Option LinkBetween
    found one = between_at links one.ends.0 one.ends.1

    here : first ≡ between → cond (is_between between.ends.0 between.ends.1 first) (Some first) (found between) ≡ Some between
    here same =
        subst (λ (one : LinkBetween). cond (is_between one.ends.0 one.ends.1 first) (Some first) (found one) ≡ Some one) same
        (ap (λ (b : Bool). cond b (Some first) (found first)) (joins_its_ends first))

    later : Contains links between → found between ≡ Some between → cond (is_between between.ends.0 between.ends.1 first) (Some first) (found between) ≡ Some between
    later more rest = cases (is_between between.ends.0 between.ends.1 first) refl
      where
        less : by_ends first.ends between.ends ≡ Less
        less =
            holds_of_member (λ (ends : Device × Device). by_ends first.ends ends ≡ Less) (ends_of links) between.ends
            (sorted_head by_ends first.ends (ends_of links) sorted) (Contains-image (λ (one : LinkBetween). one.ends) links between more)

        cases : (b : Bool) → is_between between.ends.0 between.ends.1 first ≡ b → cond b (Some first) (found between) ≡ Some between
        cases true tied =
            let equal : by_ends first.ends between.ends ≡ Equal = ap (by_ends first.ends) (sym (same_ends between.ends.0 between.ends.1 first tied)) ∙ tied_itself total_ends first.ends in
            let both : Less ≡ Equal = sym less ∙ equal in
            absurd (cc)
        cases false apart = rest

pub found_by_their_ends : FoundByEnds
found_by_their_ends network between rules stands = found_by_ends network.links between rules.links stands
