-- What was received of a pull, by its flags and its file's bytes.
use Rattle.std.proofs.Common.{◌≡◌, ℕ, zero, suc, ◌+◌, ◌-◌, ◌*◌, ◌<◌, ◌≤◌, min, Bool, true, false, List, [], ◌∷◌, ◌++◌, length, take, drop, set, replicate, map, Contains, Some, None, slice_get, unwrap_or, refl, ap, sym, ◌∙◌, ⊎_elim, arith}
use Rattle.std.specs.List.{concat}
use Rattle.std.proofs.lemmas.List.{length-drop, length-take, drop-drop, drop-take, take-take, take-append-drop, take-append-le, drop-append-le, append-nil, nil_from_length}
use Rattle.std.proofs.lemmas.Slice.{drop-append-drop}
use Rattle.std.proofs.lemmas.List.Edits.{paste_all}
use Rattle.std.proofs.Math.Seq.{paste, take-append-add}
use Rattle.bep_facts.specs.Members.{not_in_none, Contains-first, Contains-more, Contains-cons_cases}
use Rattle.bep_folder.specs.Pull.{received_of, received_with, IsReceivedAt}

-- ---- which blocks are missing

pub missing_to : (size : ℕ) (flags : List Bool) (bytes : List ℕ) → Contains (received_of size flags bytes) None → Contains flags false
missing_to size [] bytes missing = absurd (not_in_none None missing)
missing_to size (true ∷ flags) bytes missing =
    ⊎_elim
    (λ same. absurd (cc))
    (λ more. Contains-more true flags false (missing_to size flags (drop size bytes) more))
    (Contains-cons_cases (Some (take size bytes)) (received_of size flags (drop size bytes)) None missing)
missing_to size (false ∷ flags) bytes missing = Contains-first false flags

pub missing_from : (size : ℕ) (flags : List Bool) (bytes : List ℕ) → Contains flags false → Contains (received_of size flags bytes) None
missing_from size [] bytes missing = absurd (not_in_none false missing)
missing_from size (true ∷ flags) bytes missing =
    ⊎_elim
    (λ same. absurd (cc))
    (λ more. Contains-more (Some (take size bytes)) (received_of size flags (drop size bytes)) None (missing_from size flags (drop size bytes) more))
    (Contains-cons_cases true flags false missing)
missing_from size (false ∷ flags) bytes missing = Contains-first None (received_of size flags (drop size bytes))

-- ---- the block at a place

pub received_at_flag : (size : ℕ) (flags : List Bool) (bytes : List ℕ) (place : ℕ) → slice_get flags place ≡ Some true → IsReceivedAt (received_of size flags bytes) place
received_at_flag size [] bytes place is = absurd (cc)
received_at_flag size (true ∷ flags) bytes zero is = (take size bytes, refl)
received_at_flag size (false ∷ flags) bytes zero is = absurd (cc)
received_at_flag size (true ∷ flags) bytes (suc place) is = received_at_flag size flags (drop size bytes) place is
received_at_flag size (false ∷ flags) bytes (suc place) is = received_at_flag size flags (drop size bytes) place is

pub flag_of_received : (size : ℕ) (flags : List Bool) (bytes : List ℕ) (place : ℕ) → IsReceivedAt (received_of size flags bytes) place → slice_get flags place ≡ Some true
flag_of_received size [] bytes place is = absurd (let e = is.1 in cc)
flag_of_received size (true ∷ flags) bytes zero is = refl
flag_of_received size (false ∷ flags) bytes zero is = absurd (let e = is.1 in cc)
flag_of_received size (true ∷ flags) bytes (suc place) is = flag_of_received size flags (drop size bytes) place is
flag_of_received size (false ∷ flags) bytes (suc place) is = flag_of_received size flags (drop size bytes) place is

pub flag_missing : (flags : List Bool) (place : ℕ) → place < length flags → ¬ (slice_get flags place ≡ Some true) → slice_get flags place ≡ Some false
flag_missing [] place within unset = absurd (omega arith)
flag_missing (true ∷ flags) zero within unset = absurd (unset refl)
flag_missing (false ∷ flags) zero within unset = refl
flag_missing (flag ∷ flags) (suc place) within unset = flag_missing flags place (omega arith) unset

-- ---- a pull without blocks

pub none_received : {A : Type 0} (size : ℕ) (xs : List A) (bytes : List ℕ) → received_of size (replicate (length xs) false) bytes ≡ map (λ x. None) xs
none_received size [] bytes = refl
none_received size (x ∷ xs) bytes = ap (λ more. None ∷ more) (none_received size xs (drop size bytes))

pub no_flag : (n : ℕ) → ¬ Contains (replicate n false) true
no_flag zero is = not_in_none true is
no_flag (suc n) is =
    ⊎_elim (λ same. absurd (cc)) (λ more. no_flag n more) (Contains-cons_cases false (replicate n false) true is)

-- where nothing was received, the bytes don't matter
pub unflagged : (size : ℕ) (flags : List Bool) (one other : List ℕ) → ¬ Contains flags true → received_of size flags one ≡ received_of size flags other
unflagged size [] one other none = refl
unflagged size (true ∷ flags) one other none = absurd (none (Contains-first true flags))
unflagged size (false ∷ flags) one other none =
    ap (λ more. None ∷ more) (unflagged size flags (drop size one) (drop size other) (λ is. none (Contains-more false flags true is)))

-- ---- a pull with all of them

pub whole_of : (size : ℕ) (flags : List Bool) (bytes : List ℕ) → length bytes ≤ length flags * size → ¬ Contains flags false →
    concat (map (λ b. unwrap_or b []) (received_of size flags bytes)) ≡ bytes
whole_of size [] [] few none = refl
whole_of size [] (byte ∷ bytes) few none = absurd (omega arith)
whole_of size (true ∷ flags) bytes few none =
    let left = length-drop size bytes in
    let later = whole_of size flags (drop size bytes) (omega (arith, left)) (λ missing. none (Contains-more true flags false missing)) in
    ap (λ more. take size bytes ++ more) later ∙ take-append-drop size bytes
whole_of size (false ∷ flags) bytes few none = absurd (none (Contains-first false flags))

-- ---- one block more

pub received_again : (size : ℕ) (flags : List Bool) (bytes piece : List ℕ) (place : ℕ) → slice_get flags place ≡ Some true →
    received_with (received_of size flags bytes) place piece ≡ received_of size flags bytes
received_again size [] bytes piece place is = refl
received_again size (true ∷ flags) bytes piece zero is = refl
received_again size (false ∷ flags) bytes piece zero is = absurd (cc)
received_again size (true ∷ flags) bytes piece (suc place) is =
    ap (λ more. Some (take size bytes) ∷ more) (received_again size flags (drop size bytes) piece place is)
received_again size (false ∷ flags) bytes piece (suc place) is =
    ap (λ more. None ∷ more) (received_again size flags (drop size bytes) piece place is)

-- the bytes with the piece at their front
front : List ℕ → List ℕ → List ℕ
front piece bytes = piece ++ drop (length piece) bytes

nothing_left : (size : ℕ) (piece bytes : List ℕ) → length piece ≡ min size (length bytes) → take (size - length piece) (drop (length piece) bytes) ≡ []
nothing_left size piece bytes long =
    let few = length-take (size - length piece) (drop (length piece) bytes) in
    let left = length-drop (length piece) bytes in
    nil_from_length (take (size - length piece) (drop (length piece) bytes)) (omega (arith, few, left))

take-front : (size : ℕ) (piece bytes : List ℕ) → length piece ≡ min size (length bytes) → take size (front piece bytes) ≡ piece
unfolding front
take-front size piece bytes long =
    let more : size ≡ length piece + (size - length piece) = omega arith in
    ap (λ n. take n (piece ++ drop (length piece) bytes)) more
    ∙ take-append-add piece (drop (length piece) bytes) (size - length piece)
    ∙ ap (λ rest. piece ++ rest) (nothing_left size piece bytes long)
    ∙ append-nil piece

drop-front : (size : ℕ) (piece bytes : List ℕ) → length piece ≡ min size (length bytes) → drop size (front piece bytes) ≡ drop size bytes
unfolding front
drop-front size piece bytes long = drop-append-drop (length piece) bytes piece size (omega arith) refl

-- the bytes with the piece at this place
with_piece : ℕ → List ℕ → List ℕ → List ℕ
with_piece at piece bytes = take at bytes ++ (piece ++ drop (at + length piece) bytes)

take-with_piece : (size at : ℕ) (piece bytes : List ℕ) → size ≤ at → at ≤ length bytes → take size (with_piece at piece bytes) ≡ take size bytes
unfolding with_piece
take-with_piece size at piece bytes before within =
    let long = length-take at bytes in
    take-append-le size (take at bytes) (piece ++ drop (at + length piece) bytes) (omega (arith, long)) ∙ take-take size at bytes before

drop-with_piece : (size more at : ℕ) (piece bytes : List ℕ) → at ≡ size + more → at ≤ length bytes → drop size (with_piece at piece bytes) ≡ with_piece more piece (drop size bytes)
unfolding with_piece
drop-with_piece size more at piece bytes parts within =
    let long = length-take at bytes in
    let behind : size + (more + length piece) ≡ at + length piece = omega arith in
    drop-append-le size (take at bytes) (piece ++ drop (at + length piece) bytes) (omega (arith, long))
    ∙ ap (λ n. drop size (take n bytes) ++ (piece ++ drop (at + length piece) bytes)) parts
    ∙ ap (λ xs. xs ++ (piece ++ drop (at + length piece) bytes)) (drop-take size more bytes)
    ∙ ap (λ n. take more (drop size bytes) ++ (piece ++ drop n bytes)) (sym behind)
    ∙ ap (λ xs. take more (drop size bytes) ++ (piece ++ xs)) (sym (drop-drop (more + length piece) size bytes))

with_piece-front : (at : ℕ) (piece bytes : List ℕ) → at ≡ 0 → with_piece at piece bytes ≡ front piece bytes
unfolding with_piece front
with_piece-front at piece bytes none = ap (λ n. take n bytes ++ (piece ++ drop (n + length piece) bytes)) none ∙ ap (λ n. piece ++ drop n bytes) (omega arith)

received_set : (size : ℕ) (flags : List Bool) (bytes piece : List ℕ) (place at : ℕ) → at ≡ place * size → at ≤ length bytes → length piece ≡ min size (length bytes - at) → slice_get flags place ≡ Some false →
    received_of size (set flags place true) (with_piece at piece bytes) ≡ received_with (received_of size flags bytes) place piece
received_set size [] bytes piece place at is within long missing = absurd (cc)
received_set size (true ∷ flags) bytes piece zero at is within long missing = absurd (cc)
received_set size (false ∷ flags) bytes piece zero at is within long missing =
    let none : at ≡ 0 = omega arith in
    let here = with_piece-front at piece bytes none in
    let short : length piece ≡ min size (length bytes) = omega arith in
    let first = ap (take size) here ∙ take-front size piece bytes short in
    let rest = ap (drop size) here ∙ drop-front size piece bytes short in
    ap (λ xs. Some xs ∷ received_of size flags (drop size (with_piece at piece bytes))) first
    ∙ ap (λ xs. Some piece ∷ received_of size flags xs) rest
received_set size (true ∷ flags) bytes piece (suc place) at is within long missing =
    let left = length-drop size bytes in
    let first = take-with_piece size at piece bytes (omega arith) within in
    let rest = drop-with_piece size (place * size) at piece bytes (omega arith) within in
    let later = received_set size flags (drop size bytes) piece place (place * size) refl (omega (arith, left)) (omega (arith, left)) missing in
    ap (λ xs. Some xs ∷ received_of size (set flags place true) (drop size (with_piece at piece bytes))) first
    ∙ ap (λ xs. Some (take size bytes) ∷ received_of size (set flags place true) xs) rest
    ∙ ap (λ more. Some (take size bytes) ∷ more) later
received_set size (false ∷ flags) bytes piece (suc place) at is within long missing =
    let left = length-drop size bytes in
    let rest = drop-with_piece size (place * size) at piece bytes (omega arith) within in
    let later = received_set size flags (drop size bytes) piece place (place * size) refl (omega (arith, left)) (omega (arith, left)) missing in
    ap (λ xs. None ∷ received_of size (set flags place true) xs) rest ∙ ap (λ more. None ∷ more) later

-- the same, where the piece was written over the bytes
pub received_paste : (size : ℕ) (flags : List Bool) (bytes piece : List ℕ) (place : ℕ) → place * size ≤ length bytes → length piece ≡ min size (length bytes - place * size) → slice_get flags place ≡ Some false →
    received_of size (set flags place true) (paste bytes (place * size) piece (length piece)) ≡ received_with (received_of size flags bytes) place piece
unfolding with_piece
received_paste size flags bytes piece place within long missing =
    ap (received_of size (set flags place true)) (paste_all bytes (place * size) piece (length piece) refl)
    ∙ received_set size flags bytes piece place (place * size) refl within long missing
