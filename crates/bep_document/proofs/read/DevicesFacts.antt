-- The known devices grow, and so do not become few again.
use Rattle.std.proofs.Common.{◌≡◌, ◌≤◌, ◌<◌, ℕ, ◌++◌, Bool, true, false, leb, if◌then◌else◌, List, [], ◌∷◌, length, map, ap, sym, arith, length-append}
use Rattle.std.proofs.lemmas.Bool.Decides.{nat_tests}
use Rattle.bep_document.specs.read.Devices.{is_one_of, with_others, with_devices}
use Rattle.bep_document.specs.declared.parts.FolderParts.{FolderParts}

-- one more number, whether it is known or not
step : (b : Bool) (known more : List ℕ) (n : ℕ) → length known ≤ length (with_others known more) → length known ≤ length (with_others (known ++ n ∷ []) more) → length known ≤ length (if b then with_others known more else with_others (known ++ n ∷ []) more)
step true known more n stays grows = stays
step false known more n stays grows = grows

pub others_grow : (known numbers : List ℕ) → length known ≤ length (with_others known numbers)
others_grow known [] = omega arith
others_grow known (n ∷ more) = step (is_one_of known n) known more n (others_grow known more) (omega (arith, others_grow (known ++ n ∷ []) more, length-append known (n ∷ [])))

pub devices_grow : (known : List ℕ) (folders : List FolderParts) → length known ≤ length (with_devices known folders)
devices_grow known [] = omega arith
devices_grow known (folder ∷ more) =
    let others = with_others known (map (λ share. share.device) folder.devices) in
    omega (arith, others_grow known (map (λ share. share.device) folder.devices), devices_grow others more)

-- a new number makes them more
pub others_more : (known : List ℕ) (n : ℕ) (more : List ℕ) → is_one_of known n ≡ false → length known < length (with_others known (n ∷ more))
others_more known n more new =
    let next : with_others known (n ∷ more) ≡ with_others (known ++ n ∷ []) more = ap (λ b. if b then with_others known more else with_others (known ++ n ∷ []) more) new in
    omega (arith, others_grow (known ++ n ∷ []) more, length-append known (n ∷ []), ap length next)

pub not_few : (n most : ℕ) → most < n → false ≡ leb n most
not_few n most many = sym (grind (arith, nat_tests))

pub many : (n most : ℕ) → leb n most ≡ false → most < n
many n most told = grind (arith, nat_tests)
