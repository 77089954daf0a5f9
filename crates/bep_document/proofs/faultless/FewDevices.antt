-- The different devices of the folders are no more than any devices among which they all are.
use Rattle.std.proofs.Common.{◌≡◌, ◌≢◌, ◌≤◌, ℕ, ◌++◌, ◌==◌, Bool, true, false, if◌then◌else◌, List, [], ◌∷◌, length, map, Contains, leb, refl, sym, ◌∙◌, arith}
use Rattle.std.specs.List.{AllByRecursion}
use Rattle.std.proofs.lemmas.Bool.Decides.{Decides-eqb, nat_tests}
use Rattle.std.proofs.lemmas.List.Folds.{list_any_at}
use Rattle.bep_record.specs.declared.limits.TheConstants.{MAX_DEVICES}
use Rattle.bep_document.specs.read.Devices.{is_one_of, with_others, with_devices, has_few_devices}
use Rattle.bep_document.specs.Faultless.{HasNoKey, KeysDiffer, AreOf, IsFaultless}
use Rattle.bep_document.specs.declared.parts.ShareParts.{ShareParts}
use Rattle.bep_document.specs.declared.parts.FolderParts.{FolderParts}
use Rattle.bep_document.specs.declared.parts.CheckParts.{CheckParts}
use Rattle.bep_document.proofs.BoolFacts.{both_false}
use Rattle.bep_document.proofs.faults.NoFault.{all_map}
use Rattle.bep_document.proofs.read.DevicesKnown.{no_more}

-- ---- numbers of which none stands twice, each among these
one_of_these : (numbers : List ℕ) (n : ℕ) → Contains numbers n → is_one_of numbers n ≡ true
one_of_these numbers n h = list_any_at (λ m. m == n) numbers h.0 n h.1 ((Decides-eqb _ n).1 h.2)

record AreOnce (devices known : List ℕ) : Type 0 where
  differ : KeysDiffer (λ n. n) known
  among : AllByRecursion (λ n. is_one_of devices n ≡ true) known

not_first : (m n : ℕ) → m == n ≡ false → n ≢ m
not_first m n apart same = different (sym ((Decides-eqb m n).1 (sym same)) ∙ apart) where
  different : true ≡ false → ⊥
  different d = cc

no_key_behind : (m n : ℕ) (known : List ℕ) → n ≢ m → HasNoKey (λ k. k) m known → HasNoKey (λ k. k) m (known ++ n ∷ [])
no_key_behind m n [] apart none = (apart, tt)
no_key_behind m n (k ∷ known) apart none = (none.0, no_key_behind m n known apart none.1)

differ_more : (known : List ℕ) (n : ℕ) → is_one_of known n ≡ false → KeysDiffer (λ k. k) known → KeysDiffer (λ k. k) (known ++ n ∷ [])
differ_more [] n new differ = (tt, tt)
differ_more (k ∷ known) n new differ =
    let apart = both_false (k == n) (is_one_of known n) new in
    (no_key_behind k n known (not_first k n apart.0) differ.0, differ_more known n apart.1 differ.1)

all_more : (P : ℕ → Type 0) (known : List ℕ) (n : ℕ) → P n → AllByRecursion P known → AllByRecursion P (known ++ n ∷ [])
all_more P [] n here all = (here, tt)
all_more P (k ∷ known) n here all = (all.0, all_more P known n here all.1)

once_more : (devices known : List ℕ) (n : ℕ) → is_one_of known n ≡ false → is_one_of devices n ≡ true → AreOnce devices known → AreOnce devices (known ++ n ∷ [])
once_more devices known n new here once = record {
  differ = differ_more known n new once.differ;
  among = all_more (λ k. is_one_of devices k ≡ true) known n here once.among;
}

-- ---- the known devices are so
once_with_others : (devices known : List ℕ) (shares : List ShareParts) → AllByRecursion (λ share. is_one_of devices share.device ≡ true) shares → AreOnce devices known → AreOnce devices (with_others known (map (λ s. s.device) shares))
once_with_others devices known [] all once = once
once_with_others devices known (share ∷ more) all once =
    step (is_one_of known share.device) refl (once_with_others devices known more all.1 once) (once_with_others devices (known ++ share.device ∷ []) more all.1)
  where
    rest : List ℕ
    rest = map (λ s. s.device) more

    step : (b : Bool) → is_one_of known share.device ≡ b → AreOnce devices (with_others known rest) → (AreOnce devices (known ++ share.device ∷ []) → AreOnce devices (with_others (known ++ share.device ∷ []) rest)) → AreOnce devices (if b then with_others known rest else with_others (known ++ share.device ∷ []) rest)
    step true is stays grows = stays
    step false is stays grows = grows (once_more devices known share.device is all.0 once)

once_with_devices : (devices known : List ℕ) (folders : List FolderParts) → AreOf devices folders → AreOnce devices known → AreOnce devices (with_devices known folders)
once_with_devices devices known [] all once = once
once_with_devices devices known (folder ∷ more) all once =
    let here = all_map (λ (share : ShareParts) h. one_of_these devices share.device h) folder.devices all.0 in
    once_with_devices devices (with_others known (map (λ (s : ShareParts). s.device) folder.devices)) more all.1 (once_with_others devices known folder.devices here once)

few_told : (n most : ℕ) → n ≤ most → leb n most ≡ true
few_told n most few = grind (arith, nat_tests)

pub few_devices : (parts : CheckParts) → IsFaultless parts → has_few_devices parts.folders ≡ true
few_devices parts faultless =
    let devices = faultless.few_devices.0 in
    let once = once_with_devices devices [] parts.folders faultless.few_devices.2 (record { differ = tt; among = tt }) in
    let most = no_more (λ n. n) devices (with_devices [] parts.folders) once.differ once.among in
    let few = faultless.few_devices.1 in
    few_told (length (with_devices [] parts.folders)) MAX_DEVICES (omega arith)
