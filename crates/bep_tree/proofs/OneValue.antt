-- What a document's bytes hold is the value of the one tree that their tokens are.
use Rattle.std.proofs.Common.{◌≡◌, ◌∙◌, ℕ, List, [], ◌∷◌, Bool, true, false, cond, inl, inr, Option, Some, None, is_some, option_and_then, refl, sym, ap}
use Rattle.std.specs.Prelude.{if◌then◌else◌}
use Rattle.std.specs.Str.{is_utf8}
use Rattle.json.specs.Json as json
use Rattle.json.specs.Lex.{tokens}
use Rattle.json.specs.Token.{Token}
use Rattle.serde_json.specs.Data.{Data}
use Rattle.serde_json.specs.Read.{max_depth, of_json, read}
use Rattle.bep_tree.specs.Read.{tree_of}
use Rattle.bep_tree.specs.View.{data_of}
use Rattle.bep_tree.specs.inner.InRange.{is_in_range}
use Rattle.bep_tree.specs.inner.Passed.{after_value}
use Rattle.bep_tree.specs.inner.Text.{json_of, one_value}
use Rattle.bep_tree.proofs.Passing.{passed, not_passed}
use Rattle.bep_tree.proofs.Same.{read_is}

-- the one value that tokens are takes all of them
pub all_of_tokens : (ts : List Token) (j : json.Json) → one_value ts ≡ Some j → json.value max_depth ts ≡ Some (j, [])
all_of_tokens ts j e = by_value (json.value max_depth ts) refl
  where
    by_rest : (i : json.Json) (rest : List Token) → json.if_last i rest ≡ Some j → ◌≡◌ {A = Option (json.Json × List Token)} (Some (i, rest)) (Some (j, []))
    by_rest i [] f = cc
    by_rest i (t ∷ rest) f = absurd (cc)

    by_value : (v : Option (json.Json × List Token)) → json.value max_depth ts ≡ v → json.value max_depth ts ≡ Some (j, [])
    by_value None f = absurd (let never : None ≡ Some j = sym (ap (option_and_then (λ p. json.if_last p.0 p.1)) f) ∙ e in cc)
    by_value (Some p) f = f ∙ by_rest p.0 p.1 (sym (ap (option_and_then (λ p. json.if_last p.0 p.1)) f) ∙ e)

in_range_read : (j : json.Json) (b : Bool) → is_in_range j ≡ b → is_some (of_json j) ≡ b
in_range_read j true e = ap is_some (read_is j ∙ ap (λ b. cond b (Some (data_of j)) None) e)
in_range_read j false e = ap is_some (read_is j ∙ ap (λ b. cond b (Some (data_of j)) None) e)

abbrev pub is_last : List Token → Bool
is_last [] = true
is_last (t ∷ ts) = false

-- a value that was passed is read if it is the last
pub read_if_last : (ts rest : List Token) → after_value max_depth ts ≡ Some rest → is_some (option_and_then of_json (one_value ts)) ≡ is_last rest
read_if_last ts rest e =
    let j = passed (json.value max_depth ts) rest e in
    ap (λ v. is_some (option_and_then of_json (option_and_then (λ p. json.if_last p.0 p.1) v))) j.1 ∙ by_rest j.0 rest j.2
  where
    by_rest : (j : json.Json) (rest : List Token) → is_in_range j ≡ true → is_some (option_and_then of_json (json.if_last j rest)) ≡ is_last rest
    by_rest j [] f = in_range_read j true f
    by_rest j (t ∷ rest) f = refl

pub not_read : (ts : List Token) → after_value max_depth ts ≡ None → is_some (option_and_then of_json (one_value ts)) ≡ false
not_read ts e =
    elim (not_passed (json.value max_depth ts) e) [
      | inl none ↦ ap (λ v. is_some (option_and_then of_json (option_and_then (λ p. json.if_last p.0 p.1) v))) none
      | inr j ↦ ap (λ v. is_some (option_and_then of_json (option_and_then (λ p. json.if_last p.0 p.1) v))) j.2 ∙ by_rest j.0 j.1 j.3
    ]
  where
    by_rest : (j : json.Json) (rest : List Token) → is_in_range j ≡ false → is_some (option_and_then of_json (json.if_last j rest)) ≡ false
    by_rest j [] f = in_range_read j false f
    by_rest j (t ∷ rest) f = refl

-- What a walk along the tokens of a document needs: they are one value, and what the document holds is the view of that.
pub record Holds (bytes : List ℕ) (d : Data) : Type 0 where
  pub tree : json.Json
  pub read_whole : json.value max_depth (tokens bytes) ≡ Some (tree, [])
  pub viewed : d ≡ data_of tree
  pub in_range : is_in_range tree ≡ true

pub value_of_document : (bytes : List ℕ) (d : Data) → tree_of bytes ≡ Some d → Holds bytes d
value_of_document bytes d e = by_text (is_utf8 bytes) refl
  where
    by_range : (j : json.Json) (b : Bool) → is_in_range j ≡ b → cond b (Some (data_of j)) None ≡ Some d → (d ≡ data_of j) × (is_in_range j ≡ true)
    by_range j true f g = (cc, f)
    by_range j false f g = absurd (cc)

    by_json : (o : Option json.Json) → json_of bytes ≡ o → option_and_then of_json o ≡ Some d → Holds bytes d
    by_json None f g = absurd (cc)
    by_json (Some j) f g =
        let fits = by_range j (is_in_range j) refl (sym (read_is j) ∙ g) in
        record { tree = j; read_whole = all_of_tokens (tokens bytes) j f; viewed = fits.0; in_range = fits.1 }

    by_text : (b : Bool) → is_utf8 bytes ≡ b → Holds bytes d
    by_text true f = by_json (json_of bytes) refl (sym (ap (λ b. if b then read bytes else None) f) ∙ e)
    by_text false f = absurd (let never : None ≡ Some d = sym (ap (λ b. if b then read bytes else None) f) ∙ e in cc)
