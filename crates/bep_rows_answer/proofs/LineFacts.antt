-- Where a stream's lines end.
use Rattle.std.proofs.Common.{◌≡◌, ◌∙◌, ◌+◌, ◌<◌, ℕ, List, [], ◌∷◌, ◌++◌, length, take, drop, get_or, Option, Some, None, false, refl, sym, ap, subst, arith, length-take}
use Rattle.std.specs.Prelude.{◌==◌}
use Rattle.std.specs.List.{AllByRecursion, flat_map}
use Rattle.std.proofs.lemmas.Bool.{eqb-true}
use Rattle.std.proofs.lemmas.Grind.{flat_map-append}
use Rattle.std.proofs.lemmas.List.{append-nil, append_assoc, drop_more, get_or-take, take-append-drop}
use Rattle.std.proofs.lemmas.List.Quantifiers.{position-Some}
use Rattle.bep_lines.specs.Lines.{newline}
use Rattle.bep_rows_answer.specs.Input.{newline_at}
use Rattle.bep_rows_answer.specs.Stream.{AreLines, IsPlain, joined}

module _ (xs : List ℕ) (len : ℕ) (is : newline_at xs ≡ Some len) where
  pub within : len < length xs
  within = (position-Some (λ byte. byte == 10) xs len 0 is).0

  split : xs ≡ take len xs ++ (10 ∷ drop (len + 1) xs)
  split =
      let here = eqb-true (get_or xs len 0) 10 (position-Some (λ byte. byte == 10) xs len 0 is).1 in
      sym (take-append-drop len xs) ∙ ap (λ rest. take len xs ++ rest) (drop_more xs len 0 within ∙ ap (λ byte. byte ∷ drop (len + 1) xs) here)

  plain_front : IsPlain (take len xs)
  plain_front i below =
      let short : length (take len xs) ≡ len = let l = length-take len xs in let w = within in omega (arith, l, w) in
      let under : i < len = subst (λ n. i < n) short below in
      ap (λ byte. byte == 10) (get_or-take len xs i 0 under) ∙ (position-Some (λ byte. byte == 10) xs len 0 is).2 i under

all_push : {X : Type 0} (P : X → Type 0) (xs : List X) (x : X) → AllByRecursion P xs → P x → AllByRecursion P (xs ++ x ∷ [])
all_push P [] x all here = (here, tt)
all_push P (first ∷ xs) x all here = (all.0, all_push P xs x all.1 here)

pub joined_more : (lines : List (List ℕ)) (line rest : List ℕ) → joined lines ++ (line ++ (10 ∷ rest)) ≡ joined (lines ++ line ∷ []) ++ rest
joined_more lines line rest =
    ap (λ more. joined lines ++ more) (sym (append_assoc line newline rest))
    ∙ sym (append_assoc (joined lines) (line ++ newline) rest)
    ∙ ap (λ more. more ++ rest) (ap (λ more. joined lines ++ more) (sym (append-nil (line ++ newline))) ∙ sym (flat_map-append (λ one. one ++ newline) lines (line ∷ [])))

-- no line is there before anything was read
pub no_lines : AreLines [] [] []
no_lines = record { joined = refl; whole = tt }

-- what was read is the rest, too
pub more_rest : (bytes : List ℕ) (lines : List (List ℕ)) (rest more : List ℕ) → AreLines bytes lines rest → AreLines (bytes ++ more) lines (rest ++ more)
more_rest bytes lines rest more are = record {
  joined = ap (λ b. b ++ more) are.joined ∙ append_assoc (joined lines) rest more;
  whole = are.whole;
}

-- one more line
pub one_more_line : (bytes : List ℕ) (lines : List (List ℕ)) (rest : List ℕ) (len : ℕ) → newline_at rest ≡ Some len → AreLines bytes lines rest → AreLines bytes (lines ++ take len rest ∷ []) (drop (len + 1) rest)
one_more_line bytes lines rest len is are = record {
  joined = are.joined ∙ ap (λ more. joined lines ++ more) (split rest len is) ∙ joined_more lines (take len rest) (drop (len + 1) rest);
  whole = all_push IsPlain lines (take len rest) are.whole (plain_front rest len is);
}
