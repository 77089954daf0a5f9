-- Adding those of which something doesn't hold, step by step.
use Rattle.std.proofs.Common.{◌≡◌, ◌↔◌, ◌<◌, ◌≤◌, ◌+◌, ℕ, zero, suc, Bool, true, false, true≢false, List, [], ◌∷◌, ◌++◌, Contains, IsTrue, length, get_or, take, refl, sym, subst, inl, inr, ⊎_elim, arith}
use Rattle.std.specs.Prelude.{if◌then◌else◌}
use Rattle.std.proofs.lemmas.List.{take_all}
use Rattle.std.proofs.lemmas.List.Elements.{Contains-append_left, Contains-append_right, Contains-append_cases}
use Rattle.bep_facts.specs.Decided.{OrNot}
use Rattle.bep_facts.specs.Members.{Contains-first, Contains-one, not_in_none}
use Rattle.bep_facts.specs.Places.{done_with}
use Rattle.bep_gather.specs.Adding.{AddsFailing, Each}

module _ {X : Type 0} where
  -- nothing comes where all holds
  pub adds_none : (Holds : X → Type 0) (old : List X) → ((one : X) → Holds one) → AddsFailing Holds old old
  adds_none Holds old all = record { keeps = λ one there. there; fails = λ one there. inl there; rest = λ one. inr (all one) }

  -- one addition after the other
  pub adds_both : (One Other : X → Type 0) (old middle new : List X) → AddsFailing One old middle → AddsFailing Other middle new → AddsFailing (λ one. One one × Other one) old new
  adds_both One Other old middle new first second = record {
    keeps = λ one there. second.keeps one (first.keeps one there);
    fails = λ one there.
        ⊎_elim
        (λ before. ⊎_elim (λ here. inl here) (λ unmet. inr (λ both. unmet both.0)) (first.fails one before))
        (λ unmet. inr (λ both. unmet both.1))
        (second.fails one there);
    rest = λ one.
        ⊎_elim
        (λ here. inl here)
        (λ other. ⊎_elim (λ before. inl (second.keeps one before)) (λ holds. inr (holds, other)) (first.rest one))
        (second.rest one);
  }

  -- the same in other words
  pub adds_as : (One Other : X → Type 0) (old new : List X) → ((one : X) → One one ↔ Other one) → AddsFailing One old new → AddsFailing Other old new
  adds_as One Other old new same adds = record {
    keeps = adds.keeps;
    fails = λ one there. ⊎_elim (λ here. inl here) (λ unmet. inr (λ holds. unmet ((same one).1 holds))) (adds.fails one there);
    rest = λ one. ⊎_elim (λ here. inl here) (λ holds. inr ((same one).0 holds)) (adds.rest one);
  }

  -- one comes, unless what is asked of it holds
  pub adds_unless : (first : X) (Asked : Type 0) (decide : (one : X) → OrNot (one ≡ first)) (holds : Bool) (old new : List X) → IsTrue holds ↔ Asked → new ≡ (if holds then old else old ++ first ∷ []) → AddsFailing (λ one. one ≡ first → Asked) old new
  adds_unless first Asked decide true old new exactly is =
      subst (AddsFailing (λ one. one ≡ first → Asked) old) (sym is) (adds_none (λ one. one ≡ first → Asked) old (λ one same. exactly.0 refl))
  adds_unless first Asked decide false old new exactly is = subst (AddsFailing (λ one. one ≡ first → Asked) old) (sym is) (record {
    keeps = λ one there. Contains-append_left old (first ∷ []) one there;
    fails = λ one there.
        ⊎_elim
        (λ here. inl here)
        (λ last. inr (λ asked. true≢false (sym (exactly.1 (asked (sym (Contains-one first one last)))))))
        (Contains-append_cases old (first ∷ []) one there);
    rest = λ one.
        ⊎_elim
        (λ same. inl (subst (Contains (old ++ first ∷ [])) (sym same) (Contains-append_right old (first ∷ []) first (Contains-first first []))))
        (λ differs. inr (λ same. absurd (differs same)))
        (decide one);
  })

  -- ---- a walk over a list, of which each adds its own

  module _ {Y : Type 0} (Says : Y → X → Type 0) (ys : List Y) where
    pub each_starts : (old : List X) → AddsFailing (Each Says (take 0 ys)) old old
    each_starts old = adds_none (Each Says (take 0 ys)) old (λ one y there. absurd (not_in_none y there))

    pub each_goes_on : (place : ℕ) (y : Y) (old middle new : List X) → place < length ys → y ≡ get_or ys place y → AddsFailing (Each Says (take place ys)) old middle → AddsFailing (Says y) middle new → AddsFailing (Each Says (take (place + 1) ys)) old new
    each_goes_on place y old middle new below is before here =
        adds_as (λ one. Each Says (take place ys) one × Says y one) (Each Says (take (place + 1) ys)) old new
        (λ one. subst (λ (all : List Y). (Each Says (take place ys) one × Says y one) ↔ Each Says all one) (sym (done_with ys place y below is)) (with_last one))
        (adds_both (Each Says (take place ys)) (Says y) old middle new before here)
      where
        with_last : (one : X) → (Each Says (take place ys) one × Says y one) ↔ Each Says (take place ys ++ y ∷ []) one
        with_last one = (
          λ both other there.
              ⊎_elim (λ earlier. both.0 other earlier) (λ last. subst (λ z. Says z one) (Contains-one y other last) both.1)
              (Contains-append_cases (take place ys) (y ∷ []) other there),
          λ each. (
            λ other there. each other (Contains-append_left (take place ys) (y ∷ []) other there),
            each y (Contains-append_right (take place ys) (y ∷ []) y (Contains-first y [])),
          ),
        )

    pub each_ends : (place : ℕ) (old new : List X) → length ys ≤ place → AddsFailing (Each Says (take place ys)) old new → AddsFailing (Each Says ys) old new
    each_ends place old new past adds = subst (λ (all : List Y). AddsFailing (Each Says all) old new) (take_all place ys past) adds

-- what stands at a place of a list, whatever would stand past its end
pub same_item : {X : Type 0} (xs : List X) (place : ℕ) (d e : X) → place < length xs → get_or xs place d ≡ get_or xs place e
same_item [] place d e below = absurd (omega (arith, below))
same_item (x ∷ xs) zero d e below = refl
same_item (x ∷ xs) (suc place) d e below = same_item xs place d e (omega (arith, below))
