-- How many different devices share the folders of a cut (this project's profile).
use Rattle.std.specs.Prelude.{ℕ, ◌==◌, nat_le, Bool, List, [], ◌∷◌, ◌++◌, length, map, if◌then◌else◌}
use Rattle.std.specs.List.{list_any}
use Rattle.bep_record.specs.declared.limits.TheConstants.{MAX_DEVICES}
use Rattle.bep_document.specs.declared.parts.FolderParts.{FolderParts}

-- the number is one of these
abbrev pub is_one_of : List ℕ → ℕ → Bool
is_one_of numbers n = list_any (λ m. m == n) numbers

-- the known numbers, and after them the others among these, each once
abbrev pub with_others : List ℕ → List ℕ → List ℕ
with_others known [] = known
with_others known (n ∷ more) = if is_one_of known n then with_others known more else with_others (known ++ n ∷ []) more

-- the known devices, and after them the others that share a folder, each once
abbrev pub with_devices : List ℕ → List FolderParts → List ℕ
with_devices known [] = known
with_devices known (folder ∷ more) = with_devices (with_others known (map (λ share. share.device) folder.devices)) more

-- not too many different devices share the folders
abbrev pub has_few_devices : List FolderParts → Bool
has_few_devices folders = nat_le (length (with_devices [] folders)) MAX_DEVICES
