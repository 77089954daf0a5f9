-- The first request of a number among others.
use Rattle.std.proofs.Common.{◌≡◌, ℕ, suc, zero, ◌+◌, ◌<◌, List, [], ◌∷◌, length, drop, get_or, slice_get, sym, ap, ◌∙◌, arith}
use Rattle.std.proofs.lemmas.Bool.{eq-eqb, cond-true}
use Rattle.bep_machine.specs.declared.message.Request.{Request}
use Rattle.bep_machine.specs.Exchange.{asked_for, without}

-- the request at a place, where it has the number, is the first of those from there on
pub asked_at : (id : ℕ) (requests : List Request) (place : ℕ) (one : Request) → place < length requests → one ≡ get_or requests place one → one.id ≡ id → asked_for id (drop place requests) ≡ slice_get requests place
asked_at id [] place one within is number = absurd (omega arith)
asked_at id (first ∷ more) zero one within is number =
    cond-true _ _ _ (eq-eqb first.id id (ap (λ r. r.id) (sym is) ∙ number))
asked_at id (first ∷ more) (suc place) one within is number =
    asked_at id more place one (omega arith) is number

one_more : (n : ℕ) → suc (n + 1) ≡ suc n + 1
one_more n = omega arith

-- and without it those after it are left
pub without_at : (id : ℕ) (requests : List Request) (place : ℕ) (one : Request) → place < length requests → one ≡ get_or requests place one → one.id ≡ id → without id (drop place requests) ≡ drop (place + 1) requests
without_at id [] place one within is number = absurd (omega arith)
without_at id (first ∷ more) zero one within is number =
    cond-true _ _ _ (eq-eqb first.id id (ap (λ r. r.id) (sym is) ∙ number))
without_at id (first ∷ more) (suc place) one within is number =
    without_at id more place one (omega arith) is number ∙ ap (λ n. drop n (first ∷ more)) (one_more place)
