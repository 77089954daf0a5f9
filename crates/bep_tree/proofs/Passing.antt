-- Passing over a value, a turn at a time.
use Rattle.std.proofs.Common.{◌≡◌, ◌∙◌, ℕ, zero, suc, ◌-◌, ◌<◌, ◌⊎◌, inl, inr, List, Bool, true, false, ◌&&◌, cond, Option, Some, None, refl, ap, arith}
use Rattle.json.specs.Json as json
use Rattle.json.specs.Json.{items, members}
use Rattle.json.specs.Token.{Token}
use Rattle.json.proofs.Grammar.{items_more, items_fail, members_more, members_fail}
use Rattle.bep_tree.specs.inner.InRange.{is_in_range, items_in_range, members_in_range}
use Rattle.bep_tree.specs.inner.Passed.{after}

pub after-mapped : {A B : Type 0} (test : A → Bool) (other : B → Bool) (f : A → B) → ((a : A) → other (f a) ≡ test a) → (o : Option (A × List Token)) → after other (json.parse_map f o) ≡ after test o
after-mapped test other f same None = refl
after-mapped test other f same (Some p) = ap (λ b. cond b (Some p.1) None) (same p.0)

none_after : {A B : Type 0} (other : B → Bool) (f : A → B) → ((a : A) → other (f a) ≡ false) → (o : Option (A × List Token)) → after other (json.parse_map f o) ≡ None
none_after other f fails None = refl
none_after other f fails (Some p) = ap (λ b. cond b (Some p.1) None) (fails p.0)

-- the value that was passed
pub passed : (o : Option (json.Json × List Token)) (rest : List Token) → after is_in_range o ≡ Some rest → (j : json.Json) × (o ≡ Some (j, rest)) × (is_in_range j ≡ true)
passed None rest e = absurd (cc)
passed (Some p) rest e = by_test (is_in_range p.0) refl e
  where
    by_test : (b : Bool) → is_in_range p.0 ≡ b → cond b (Some p.1) None ≡ Some rest → (j : json.Json) × (◌≡◌ {A = Option (json.Json × List Token)} (Some p) (Some (j, rest))) × (is_in_range j ≡ true)
    by_test true f g = (p.0, (let same : p.1 ≡ rest = cc in ap (λ x. Some (p.0, x)) same), f)
    by_test false f g = absurd (cc)

-- there is no value, or one with a number out of range
pub not_passed : (o : Option (json.Json × List Token)) → after is_in_range o ≡ None → (o ≡ None) ⊎ ((j : json.Json) × (rest : List Token) × (o ≡ Some (j, rest)) × (is_in_range j ≡ false))
not_passed None e = inl refl
not_passed (Some p) e = by_test (is_in_range p.0) refl e
  where
    by_test : (b : Bool) → is_in_range p.0 ≡ b → cond b (Some p.1) None ≡ None
        → (Some p ≡ None) ⊎ ((j : json.Json) × (rest : List Token) × (◌≡◌ {A = Option (json.Json × List Token)} (Some p) (Some (j, rest))) × (is_in_range j ≡ false))
    by_test true f g = absurd (cc)
    by_test false f g = inr (p.0, p.1, refl, f)

module _ (p : json.Parse json.Json) where
  pub pass_item : (n : ℕ) (ts rest : List Token) → 0 < n → json.after_end_array ts ≡ None → after is_in_range (p ts) ≡ Some rest
      → after items_in_range (items p n ts) ≡ after items_in_range (items p (n - 1) rest)
  pass_item n ts rest some e f =
      let j = passed (p ts) rest f in
      ap (after items_in_range) (items_more p n ts rest j.0 some e j.1)
      ∙ after-mapped items_in_range items_in_range (json.item j.0) (λ js. ap (λ b. b && items_in_range js) j.2) _

  pub no_item : (n : ℕ) (ts : List Token) → json.after_end_array ts ≡ None → after is_in_range (p ts) ≡ None → after items_in_range (items p n ts) ≡ None
  unfolding items
  no_item zero ts e f = refl
  no_item (suc n) ts e f =
      elim (not_passed (p ts) f) [
        | inl none ↦ ap (after items_in_range) (items_fail p (suc n) ts e none)
        | inr j ↦ ap (after items_in_range) (items_more p (suc n) ts j.1 j.0 (omega arith) e j.2) ∙ none_after items_in_range (json.item j.0) (λ js. ap (λ b. b && items_in_range js) j.3) _
      ]

  pub pass_member : (n : ℕ) (ts s rest : List Token) (k : List ℕ) → 0 < n → json.read_key ts ≡ Some (Some k, s) → after is_in_range (p s) ≡ Some rest
      → after members_in_range (members p n ts) ≡ after members_in_range (members p (n - 1) rest)
  pass_member n ts s rest k some e f =
      let j = passed (p s) rest f in
      ap (after members_in_range) (members_more p n k ts s rest j.0 some e j.1)
      ∙ after-mapped members_in_range members_in_range (json.member k j.0) (λ ms. ap (λ b. b && members_in_range ms) j.2) _

  pub no_member : (n : ℕ) (ts s : List Token) (k : List ℕ) → json.read_key ts ≡ Some (Some k, s) → after is_in_range (p s) ≡ None → after members_in_range (members p n ts) ≡ None
  unfolding members
  no_member zero ts s k e f = refl
  no_member (suc n) ts s k e f =
      elim (not_passed (p s) f) [
        | inl none ↦ ap (after members_in_range) (members_fail p (suc n) k ts s e none)
        | inr j ↦ ap (after members_in_range) (members_more p (suc n) k ts s j.1 j.0 (omega arith) e j.2) ∙ none_after members_in_range (json.member k j.0) (λ ms. ap (λ b. b && members_in_range ms) j.3) _
      ]
