-- The folders of a device are its own, each under its own name.
use Rattle.std.proofs.Common.{◌≡◌, ◌↔◌, List, [], ◌∷◌, Contains, sym, subst}
use Rattle.std.specs.List.{AllByRecursion}
use Rattle.std.specs.Cmp.Lexicographic.{nat_list_cmp_total}
use Rattle.std.specs.FinMap.{entries}
use Rattle.std.proofs.lemmas.Map.Lookups.{exact_bytes}
use Rattle.bep_facts.specs.Entries.{entry_stands}
use Rattle.bep_facts.specs.Members.{Contains-first, Contains-more, holds_of_member}
use Rattle.bep_map.specs.NameMap.{ByName}
use Rattle.bep_model.specs.Tables.{Device, Folder}
use Rattle.bep_folder.specs.Held.{Held}
use Rattle.bep_peer.specs.Member.{AreOwn}

-- the folder is the device's, under its own name
abbrev pub IsOwnAt : Device → Folder × Held → Type 0
IsOwnAt device one = (one.1.device ≡ device) × (one.1.folder ≡ one.0)

all_of : {X : Type 0} (P : X → Type 0) (xs : List X) → ((x : X) → Contains xs x → P x) → AllByRecursion P xs
all_of P [] each = tt
all_of P (x ∷ xs) each = (each x (Contains-first x xs), all_of P xs (λ y there. each y (Contains-more x xs y there)))

-- each entry is
pub each_is_own : (device : Device) (folders : ByName Held) → AllByRecursion (IsOwnAt device) (entries folders) ↔ AreOwn device folders
each_is_own device folders = (
  λ all folder held is. holds_of_member (IsOwnAt device) (entries folders) (folder, held) all ((entry_stands nat_list_cmp_total exact_bytes folders folder held).0 is),
  λ own. all_of (IsOwnAt device) (entries folders) (λ one there. own one.0 one.1 ((entry_stands nat_list_cmp_total exact_bytes folders one.0 one.1).1 there)),
)

-- ---- those that are left in a walk

abbrev AreLeft : Device → ByName Held → List (Folder × Held) → Type 0
AreLeft device folders rest = AllByRecursion (IsOwnAt device) rest ↔ AreOwn device folders

pub all_are_left : (device : Device) (folders : ByName Held) (rest : List (Folder × Held)) → rest ≡ entries folders → AreLeft device folders rest
all_are_left device folders rest is = subst (AreLeft device folders) (sym is) (each_is_own device folders)

pub next_is_left : (device : Device) (folders : ByName Held) (rest more : List (Folder × Held)) (one : Folder × Held) → rest ≡ one ∷ more → IsOwnAt device one → AreLeft device folders rest → AreLeft device folders more
next_is_left device folders rest more one is own left =
    let here : AreLeft device folders (one ∷ more) = subst (AreLeft device folders) is left in
    (λ all. here.0 (own, all), λ all. (here.1 all).1)

pub one_is_own : (device : Device) (folders : ByName Held) (rest more : List (Folder × Held)) (one : Folder × Held) → rest ≡ one ∷ more → AreLeft device folders rest → AreOwn device folders → IsOwnAt device one
one_is_own device folders rest more one is left all = ((subst (AreLeft device folders) is left).1 all).0

pub none_is_left : (device : Device) (folders : ByName Held) (rest : List (Folder × Held)) → rest ≡ [] → AreLeft device folders rest → AreOwn device folders
none_is_left device folders rest is left = (subst (AreLeft device folders) is left).0 tt
