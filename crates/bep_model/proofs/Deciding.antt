-- Finite sets, and what can be decided of all their members.
use Rattle.std.proofs.Common.{◌≡◌, ◌⊎◌, List, [], ◌∷◌, ◌++◌, Contains, Option, Some, None, refl, sym, ap, subst, inl, inr, ⊎_elim}
use Rattle.std.proofs.lemmas.List.Elements.{Contains-append_left, Contains-append_right, Contains-append_cases}
use Rattle.bep_facts.specs.Decided.{OrNot, not_or_not}
use Rattle.bep_facts.specs.Members.{not_in_none, Contains-first, Contains-more, Contains-one, Contains-cons_cases, each_or_one}

-- the members of a set are those of a list
pub record Finite {X : Type 0} (P : X → Type 0) : Type 0 where
  pub members : List X
  pub there : (x : X) → P x → Contains members x
  pub only : (x : X) → Contains members x → P x

pub each_in : {X : Type 0} (P Q : X → Type 0) → Finite P → ((x : X) → OrNot (Q x)) → OrNot ((x : X) → P x → Q x)
each_in P Q finite decide =
    ⊎_elim
    (λ each. inl (λ x p. each x (finite.there x p)))
    (λ one. inr (λ all. one.1.1 (all one.0 (finite.only one.0 one.1.0))))
    (each_or_one Q decide finite.members)

pub some_in : {X : Type 0} (P Q : X → Type 0) → Finite P → ((x : X) → OrNot (Q x)) → OrNot ((x : X) × (P x × Q x))
some_in P Q finite decide =
    ⊎_elim
    (λ none. inr (λ some. none some.0 (finite.there some.0 some.1.0) some.1.1))
    (λ one. inl (one.0, (finite.only one.0 one.1.0, holds one.0 one.1.1)))
    (each_or_one (λ x. ¬ Q x) (λ x. not_or_not (decide x)) finite.members)
  where
    holds : (x : _) → ¬ (¬ Q x) → Q x
    holds x twice = ⊎_elim (λ q. q) (λ no. absurd (twice no)) (decide x)

pub finite_as : {X : Type 0} (P Q : X → Type 0) → ((x : X) → P x → Q x) → ((x : X) → Q x → P x) → Finite P → Finite Q
finite_as P Q f g finite = record {
  members = finite.members;
  there = λ x q. finite.there x (g x q);
  only = λ x h. f x (finite.only x h);
}

pub finite_list : {X : Type 0} (xs : List X) → Finite (Contains xs)
finite_list xs = record { members = xs; there = λ x h. h; only = λ x h. h }

pub finite_one : {X : Type 0} (y : X) → Finite (λ x. y ≡ x)
finite_one y = record {
  members = y ∷ [];
  there = λ x e. subst (λ z. Contains (y ∷ []) z) e (Contains-first y []);
  only = Contains-one y;
}

pub finite_option : {X : Type 0} (o : Option X) → Finite (λ x. o ≡ Some x)
finite_option None = record { members = []; there = λ x e. absurd (cc); only = λ x h. absurd (not_in_none x h) }
finite_option (Some y) = finite_as (λ x. y ≡ x) (λ x. Some y ≡ Some x) (λ x e. ap Some e) (λ x e. cc) (finite_one y)

pub finite_or : {X : Type 0} (P Q : X → Type 0) → Finite P → Finite Q → Finite (λ x. P x ⊎ Q x)
finite_or P Q p q = record {
  members = p.members ++ q.members;
  there = λ x h.
      ⊎_elim
      (λ of_p. Contains-append_left p.members q.members x (p.there x of_p))
      (λ of_q. Contains-append_right p.members q.members x (q.there x of_q))
      h;
  only = λ x h.
      ⊎_elim (λ of_p. inl (p.only x of_p)) (λ of_q. inr (q.only x of_q)) (Contains-append_cases p.members q.members x h);
}

-- where a fact holds
pub finite_where : {X : Type 0} (A : Type 0) (P : X → Type 0) → OrNot A → Finite P → Finite (λ x. A × P x)
finite_where A P a p =
    ⊎_elim
    (λ holds. finite_as P (λ x. A × P x) (λ x h. (holds, h)) (λ x h. h.1) p)
    (λ fails. record { members = []; there = λ x h. absurd (fails h.0); only = λ x h. absurd (not_in_none x h) })
    a

-- the union over the members of a list
pub finite_union : {X Y : Type 0} (P : Y → X → Type 0) → ((y : Y) → Finite (P y)) → (ys : List Y) → Finite (λ x. (y : Y) × (Contains ys y × P y x))
finite_union P each [] = record { members = []; there = λ x h. absurd (not_in_none h.0 h.1.0); only = λ x h. absurd (not_in_none x h) }
finite_union P each (y ∷ ys) =
    finite_as _ _
    (λ x h. ⊎_elim (λ first. (y, (Contains-first y ys, first))) (λ rest. (rest.0, (Contains-more y ys rest.0 rest.1.0, rest.1.1))) h)
    (λ x h. ⊎_elim (λ same. inl (subst (λ z. P z x) (sym same) h.1.1)) (λ more. inr (h.0, (more, h.1.1))) (Contains-cons_cases y ys h.0 h.1.0))
    (finite_or (P y) (λ x. (y : _) × (Contains ys y × P y x)) (each y) (finite_union P each ys))

-- those members of a list for which a fact holds
pub finite_filter : {X : Type 0} (Q : X → Type 0) → ((x : X) → OrNot (Q x)) → (xs : List X) → Finite (λ x. Contains xs x × Q x)
finite_filter Q decide xs =
    finite_as _ _
    (λ x h. let member = subst (λ z. Contains xs z × Q z) h.1.1.1 (h.1.0, h.1.1.0) in member)
    (λ x h. (x, (h.0, (h.1, refl))))
    (finite_union (λ y x. Q y × (y ≡ x)) (λ y. finite_where (Q y) (λ x. y ≡ x) (decide y) (finite_one y)) xs)
