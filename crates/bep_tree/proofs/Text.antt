-- What bytes have as their tree, by the value of `json` in them.
use Rattle.std.proofs.Common.{◌≡◌, ◌∙◌, ℕ, List, Bool, true, false, cond, Some, None, option_and_then, IsUtf8, refl, ap}
use Rattle.std.specs.Prelude.{if◌then◌else◌}
use Rattle.std.specs.Str.{is_utf8}
use Rattle.std.proofs.lemmas.Str.{IsUtf8-from_is_utf8, is_utf8-from_IsUtf8}
use Rattle.json.specs.Json as json
use Rattle.serde_json.specs.Read.{of_json, read}
use Rattle.bep_tree.specs.Read.{tree_of}
use Rattle.bep_tree.specs.View.{data_of}
use Rattle.bep_tree.specs.inner.InRange.{is_in_range}
use Rattle.bep_tree.specs.inner.Text.{json_of}
use Rattle.bep_tree.proofs.Same.{read_is}

pub of_no_text : (bytes : List ℕ) → ¬ IsUtf8 bytes → tree_of bytes ≡ None
of_no_text bytes broken = by_test (is_utf8 bytes) refl
  where
    by_test : (b : Bool) → is_utf8 bytes ≡ b → (if b then read bytes else None) ≡ None
    by_test true e = absurd (broken (IsUtf8-from_is_utf8 bytes e))
    by_test false e = refl

pub of_text : (text : List ℕ) → IsUtf8 text → tree_of text ≡ option_and_then of_json (json_of text)
of_text text utf8 = ap (λ b. if b then read text else None) (is_utf8-from_IsUtf8 text utf8)

pub of_no_json : (text : List ℕ) → IsUtf8 text → json_of text ≡ None → tree_of text ≡ None
of_no_json text utf8 none = of_text text utf8 ∙ ap (option_and_then of_json) none

pub of_good_json : (text : List ℕ) (j : json.Json) → IsUtf8 text → json_of text ≡ Some j → is_in_range j ≡ true → tree_of text ≡ Some (data_of j)
of_good_json text j utf8 is fits = of_text text utf8 ∙ ap (option_and_then of_json) is ∙ read_is j ∙ ap (λ b. cond b (Some (data_of j)) None) fits

pub of_bad_json : (text : List ℕ) (j : json.Json) → IsUtf8 text → json_of text ≡ Some j → is_in_range j ≡ false → tree_of text ≡ None
of_bad_json text j utf8 is fits = of_text text utf8 ∙ ap (option_and_then of_json) is ∙ read_is j ∙ ap (λ b. cond b (Some (data_of j)) None) fits
