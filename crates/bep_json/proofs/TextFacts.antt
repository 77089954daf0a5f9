-- The tests of texts tell what bep_record's definitions say.
use Rattle.std.proofs.Common.{◌≢◌, ◌≤◌, ℕ, ◌==◌, ◌&&◌, not, Bool, List, [], All, Decides, length, leb, codes, refl, arith}
use Rattle.std.specs.List.{list_all}
use Rattle.std.specs.Cmp.Lexicographic.{bytes_decides}
use Rattle.std.proofs.lemmas.Bool.Decides.{Decides-and, Decides-or, Decides-not, Decides-eqb, Decides-by_and, nat_tests}
use Rattle.std.proofs.lemmas.Str.{IsUtf8-from_is_utf8, is_utf8-from_IsUtf8}
use Rattle.bep_record.specs.declared.limits.TheConstants.{MAX_NAME_LEN, MAX_TARGET_LEN, MAX_FOLDER_NAME_LEN}
use Rattle.bep_record.specs.Text.{IsPlainText}
use Rattle.bep_record.specs.Name.{IsName, IsPart, parts_of}
use Rattle.bep_record.specs.Target.{IsTarget}
use Rattle.bep_record.specs.FolderName.{IsFolderName, IsFolderByte}
use Rattle.bep_json.specs.Texts.{is_plain_text, is_part, is_name, is_target, is_folder_byte, is_folder_name}

leb_decides : (a b : ℕ) → Decides (leb a b) (a ≤ b)
leb_decides a b = (λ e. grind (arith, nat_tests), λ h. grind (arith, nat_tests))

all_decides : {X : Type 0} (p : X → Bool) (P : X → Type 0) → ((x : X) → Decides (p x) (P x)) → (xs : List X) → Decides (list_all p xs) (All P xs)
all_decides p P each xs = Decides-by_and p P (list_all p) each refl (λ _ _. refl) xs

plain_text_decides : (bytes : List ℕ) → Decides (is_plain_text bytes) (IsPlainText bytes)
plain_text_decides bytes =
    let parts = Decides-and _ _ (IsUtf8-from_is_utf8 bytes, is_utf8-from_IsUtf8 bytes) (all_decides (λ b. not (b == 0)) (λ b. b ≢ 0) (λ b. Decides-not _ (Decides-eqb b 0)) bytes) in
    (λ e. let both = parts.0 e in record { utf8 = both.0; no_nul = both.1 }, λ h. parts.1 (h.utf8, h.no_nul))

part_decides : (part : List ℕ) → Decides (is_part part) (IsPart part)
part_decides part =
    let parts = Decides-and _ _ (Decides-not _ (bytes_decides part [])) (Decides-and _ _ (Decides-not _ (bytes_decides part (codes "."))) (Decides-not _ (bytes_decides part (codes "..")))) in
    (λ e. let all = parts.0 e in record { not_empty = all.0; not_here = all.1.0; not_above = all.1.1 }, λ h. parts.1 (h.not_empty, (h.not_here, h.not_above)))

pub name_decides : (bytes : List ℕ) → Decides (is_name bytes) (IsName bytes)
unfolding is_name
name_decides bytes =
    let parts = Decides-and _ _ (Decides-and _ _ (leb_decides 1 (length bytes)) (leb_decides (length bytes) MAX_NAME_LEN)) (Decides-and _ _ (plain_text_decides bytes) (all_decides is_part IsPart part_decides (parts_of bytes))) in (
      λ e. let all = parts.0 e in record { not_empty = all.0.0; not_long = all.0.1; text = all.1.0; parts = all.1.1 },
      λ h. parts.1 ((h.not_empty, h.not_long), (h.text, h.parts)),
    )

pub target_decides : (bytes : List ℕ) → Decides (is_target bytes) (IsTarget bytes)
unfolding is_target
target_decides bytes =
    let parts = Decides-and _ _ (leb_decides (length bytes) MAX_TARGET_LEN) (plain_text_decides bytes) in
    (λ e. let all = parts.0 e in record { not_long = all.0; text = all.1 }, λ h. parts.1 (h.not_long, h.text))

between_decides : (low high b : ℕ) → Decides (leb low b && leb b high) ((low ≤ b) × (b ≤ high))
between_decides low high b = Decides-and _ _ (leb_decides low b) (leb_decides b high)

folder_byte_decides : (b : ℕ) → Decides (is_folder_byte b) (IsFolderByte b)
folder_byte_decides b =
    Decides-or _ _ (between_decides 48 57 b) (Decides-or _ _ (between_decides 65 90 b) (Decides-or _ _ (between_decides 97 122 b) (Decides-or _ _ (Decides-eqb b 45) (Decides-eqb b 95))))

pub folder_name_decides : (bytes : List ℕ) → Decides (is_folder_name bytes) (IsFolderName bytes)
unfolding is_folder_name
folder_name_decides bytes =
    let parts = Decides-and _ _ (Decides-and _ _ (leb_decides 1 (length bytes)) (leb_decides (length bytes) MAX_FOLDER_NAME_LEN)) (all_decides is_folder_byte IsFolderByte folder_byte_decides bytes) in (
      λ e. let all = parts.0 e in record { not_empty = all.0.0; not_long = all.0.1; plain = all.1 },
      λ h. parts.1 ((h.not_empty, h.not_long), h.plain),
    )
