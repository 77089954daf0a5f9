-- What a cluster was when it came behind its locks, where that is known (this project's profile).
use Rattle.std.specs.Prelude.{◌≡◌, ◌++◌, ⊤, ℕ, List, map, length, Option, Some, None, option_map, slice_get}
use Rattle.bep_links.specs.Link.{LinkBetween}
use Rattle.bep_peer.specs.network.Network.{Network}
use Rattle.bep_cut.specs.Cut.{Seen, seen}
use Rattle.bep_run_cut.specs.RunCut.{AreTheSame}

-- what each device was, where it is known
abbrev pub devices_in : Option Network → Option (List Seen)
devices_in = option_map (λ network. map seen network.members)

-- what each link was, where it is known
abbrev pub links_in : Option Network → Option (List LinkBetween)
links_in = option_map (λ network. network.links)

-- the one of these that stands at this place; where nothing is known, whichever it is
abbrev pub at_place : {A : Type 0} → Option (List A) → ℕ → A → Option A
at_place None place one = Some one
at_place (Some all) place one = slice_get all place

-- how many these are; where nothing is known, however many there are
abbrev pub count_of : {A : Type 0} → Option (List A) → ℕ → ℕ
count_of None count = count
count_of (Some all) count = length all

-- these are the first of those; where nothing is known, whichever they are
abbrev pub AreFirst : {A : Type 0} → Option (List A) → List A → Type 0
AreFirst None these = ⊤
AreFirst {A} (Some all) these = (rest : List A) × (all ≡ these ++ rest)

-- these are all of those; where nothing is known, whichever they are
abbrev pub IsAll : {A : Type 0} → Option (List A) → List A → Type 0
IsAll None these = ⊤
IsAll (Some all) these = these ≡ all

-- these are the devices and links of that cluster, but for what their last actions told; where nothing is known, whichever
-- they are
abbrev pub BeginsAs : Option Network → Network → Type 0
BeginsAs None network = ⊤
BeginsAs (Some origin) network = AreTheSame network origin.members origin.links
