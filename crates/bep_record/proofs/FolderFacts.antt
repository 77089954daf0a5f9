-- A folder's name is a name.
use Rattle.std.proofs.Common.{◌≡◌, ◌≢◌, ⊎_elim, ℕ, ◌==◌, ◌<◌, ◌≤◌, false, List, [], ◌∷◌, zero, suc, All, length, get_or, sym, subst, arith}
use Rattle.std.proofs.lemmas.Str.{IsUtf8-from_ascii}
use Rattle.std.proofs.lemmas.List.Splits.{slice_split_none}
use Rattle.std.proofs.lemmas.List.{get_or_past}
use Rattle.std.proofs.lemmas.List.Elements.{All-weaker}
use Rattle.std.proofs.lemmas.Bool.{cases_lt}
use Rattle.std.proofs.lemmas.Bool.Decides.{nat_tests}
use Rattle.bep_record.specs.FolderName.{IsFolderByte, IsFolderName}
use Rattle.bep_record.specs.Name.{IsName, IsPart, parts_of}

-- such a byte is ASCII, and neither NUL, a slash nor a dot
pub record IsOrdinary (b : ℕ) : Type 0 where
  pub ascii : b < 128
  pub not_nul : b ≢ 0
  pub not_slash : (b == 47) ≡ false
  pub not_dot : b ≢ 46

ordinary : (b : ℕ) → IsFolderByte b → IsOrdinary b
ordinary b is = record { ascii = omega arith; not_nul = λ e. omega arith; not_slash = grind (arith, nat_tests); not_dot = λ e. omega arith }

-- a list with nothing past its end but 0
ascii_at : (bytes : List ℕ) → All IsOrdinary bytes → (i : ℕ) → get_or bytes i 0 < 128
ascii_at bytes plain i = ⊎_elim (λ below. (plain i 0 below).ascii) (λ past. rw (get_or_past bytes i 0 past) (omega arith)) (cases_lt i (length bytes))

part-from_folder : (bytes : List ℕ) → 1 ≤ length bytes → All IsOrdinary bytes → IsPart bytes
part-from_folder [] some plain = absurd (omega arith)
part-from_folder (b ∷ bs) some plain =
    let head = plain 0 0 (omega arith) in
    record { not_empty = λ e. cc; not_here = λ e. head.not_dot cc; not_above = λ e. head.not_dot cc }

pub name-from_folder : (bytes : List ℕ) → IsFolderName bytes → IsName bytes
name-from_folder bytes folder =
    let plain : All IsOrdinary bytes = All-weaker IsFolderByte IsOrdinary ordinary bytes folder.plain in
    let one : parts_of bytes ≡ bytes ∷ [] = slice_split_none (λ b. b == 47) bytes (λ k d below. (plain k d below).not_slash) in
    record {
      not_empty = folder.not_empty;
      not_long = omega (arith, folder.not_long);
      text = record { utf8 = IsUtf8-from_ascii bytes (ascii_at bytes plain); no_nul = λ k d below. (plain k d below).not_nul };
      parts = subst (λ (parts : List (List ℕ)). All IsPart parts) (sym one) (λ k d below. one_part k d below);
    }
  where
    one_part : (k : ℕ) (d : List ℕ) → k < 1 → IsPart (get_or (bytes ∷ []) k d)
    one_part zero d below = part-from_folder bytes folder.not_empty (All-weaker IsFolderByte IsOrdinary ordinary bytes folder.plain)
    one_part (suc k) d below = absurd (omega arith)
