-- Searches for the first of what doesn't hold: over a list, element by element, and over two things at once.
use Rattle.std.proofs.Common.{◌≡◌, ◌⊎◌, false, List, [], ◌∷◌, Contains, Option, Some, None, refl, sym, ap, subst, ◌∙◌, inl, inr, ⊎_elim}
use Rattle.std.proofs.lemmas.Bool.{cases_Bool, cond-true, cond-false}
use Rattle.std.specs.declared.cmp.Ordering.{Ordering}
use Rattle.std.specs.declared.cmp.Ordering.TheVariants.{Less, Equal, Greater}
use Rattle.std.specs.Ordering.{is_lt, ordering_reverse}
use Rattle.std.specs.Cmp.{IsTotalOrder}
use Rattle.std.proofs.lemmas.Cmp.{alike_right}
use Rattle.bep_facts.specs.Orders.{Less_from_is_lt}
use Rattle.bep_facts.specs.Members.{Contains-cons_cases, Contains-first, Contains-more, not_in_none}
use Rattle.bep_audit.specs.inner.Search.{FailsFirst, FindsFirst, lesser}

-- a search for the same
pub finds_as : {X : Type 0} (cmp : X → X → Ordering) (One Other : X → Type 0) → ((x : X) → One x → Other x) → ((x : X) → Other x → One x) → (found : Option X) → FindsFirst cmp One found → FindsFirst cmp Other found
finds_as cmp One Other to from None none = λ x. to x (none x)
finds_as cmp One Other to from (Some here) first = record {
  fails = λ holds. first.fails (from here holds);
  before = λ earlier less. to earlier (first.before earlier less);
}

-- ---- a walk over a list, of which each element says what is to hold

module _ {X Y : Type 0} (cmp : X → X → Ordering) (Says : Y → X → Type 0) where
  -- what all elements say
  abbrev pub AllSay : List Y → X → Type 0
  AllSay ys x = (y : Y) → Contains ys y → Says y x

  all_say : (y : Y) (ys : List Y) (x : X) → Says y x → AllSay ys x → AllSay (y ∷ ys) x
  all_say y ys x here rest other member =
      ⊎_elim (λ same. subst (λ z. Says z x) same here) (λ more. rest other more) (Contains-cons_cases y ys other member)

  -- it goes on
  pub goes_on : (y : Y) (ys : List Y) → ((x : X) → Says y x) → (found : Option X) → FindsFirst cmp (AllSay ys) found → FindsFirst cmp (AllSay (y ∷ ys)) found
  goes_on y ys here = finds_as cmp (AllSay ys) (AllSay (y ∷ ys)) (λ x rest. all_say y ys x (here x) rest) (λ x all other member. all other (Contains-more y ys other member))

  -- it fails here, and what comes before is as the rest says
  pub fails_here : (y : Y) (ys : List Y) (first : X) → FindsFirst cmp (Says y) (Some first) → ((x : X) → cmp x first ≡ Less → AllSay ys x) → FindsFirst cmp (AllSay (y ∷ ys)) (Some first)
  fails_here y ys first here rest = record {
    fails = λ all. here.fails (all y (Contains-first y ys));
    before = λ x less. all_say y ys x (here.before x less) (rest x less);
  }

  -- it ends
  pub ends : FindsFirst cmp (AllSay []) None
  ends x y member = absurd (not_in_none y member)

-- ---- two searches

not_less : (o : Ordering) → is_lt o ≡ false → (o ≡ Equal) ⊎ (o ≡ Greater)
not_less Less e = absurd (cc)
not_less Equal e = inl refl
not_less Greater e = inr refl

module _ {X : Type 0} (cmp : X → X → Ordering) (total : IsTotalOrder cmp) (One Other : X → Type 0) where
  first_is_other : (one other : X) → FailsFirst cmp One one → FailsFirst cmp Other other → cmp other one ≡ Less → FailsFirst cmp (λ x. One x × Other x) other
  first_is_other one other first second less = record {
    fails = λ both. second.fails both.1;
    before = λ x before. (first.before x (total.trans x other one before less), second.before x before);
  }

  first_is_one : (one other : X) → FailsFirst cmp One one → FailsFirst cmp Other other → (cmp other one ≡ Equal) ⊎ (cmp other one ≡ Greater) → FailsFirst cmp (λ x. One x × Other x) one
  first_is_one one other first second not_below = record {
    fails = λ both. first.fails both.0;
    before = λ x before. (first.before x before, second.before x (below x before));
  }
    where
      below : (x : X) → cmp x one ≡ Less → cmp x other ≡ Less
      below x before =
          ⊎_elim
          (λ tied. alike_right total other one x tied ∙ before)
          (λ above. total.trans x one other before (total.antisymm one other ∙ ap ordering_reverse above))
          not_below

  -- the lesser of what two searches find is what a search for both finds
  pub lesser_finds : (one other : Option X) → FindsFirst cmp One one → FindsFirst cmp Other other → FindsFirst cmp (λ x. One x × Other x) (lesser cmp one other)
  lesser_finds None other first second = finds_as cmp Other (λ x. One x × Other x) (λ x holds. (first x, holds)) (λ x both. both.1) other second
  lesser_finds (Some one) None first second = finds_as cmp One (λ x. One x × Other x) (λ x holds. (holds, second x)) (λ x both. both.0) (Some one) first
  lesser_finds (Some one) (Some other) first second =
      ⊎_elim
      (λ less. subst (FindsFirst cmp (λ x. One x × Other x)) (sym (cond-true _ _ _ less)) (first_is_other one other first second (Less_from_is_lt _ less)))
      (λ not. subst (FindsFirst cmp (λ x. One x × Other x)) (sym (cond-false _ _ _ not)) (first_is_one one other first second (not_less _ not)))
      (cases_Bool (is_lt (cmp other one)))
