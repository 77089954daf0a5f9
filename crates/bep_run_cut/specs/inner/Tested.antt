-- The same, as it is tested (this project's profile).
use Rattle.std.specs.Prelude.{◌==◌, ◌&&◌, ◌||◌, Bool, true, false, not, List, [], ◌∷◌, is_some, nat_lt}
use Rattle.std.specs.Ordering.{is_lt}
use Rattle.std.specs.List.{list_all, list_any}
use Rattle.std.specs.FinMap.{entries, get}
use Rattle.bep_model.specs.Tables.{Device, Folder}
use Rattle.bep_folder.specs.Held.{Held}
use Rattle.bep_links.specs.Link.{LinkBetween}
use Rattle.bep_peer.specs.Member.{Member}
use Rattle.bep_peer.specs.network.Network.{in_order, is_between}
use Rattle.bep_tables.specs.Cut.{ends_cmp}

-- ---- in order

abbrev pub rise_after : Device → List Member → Bool
rise_after low [] = true
rise_after low (member ∷ more) = nat_lt low member.number && rise_after member.number more

abbrev pub devices_rise : List Member → Bool
devices_rise [] = true
devices_rise (member ∷ more) = rise_after member.number more

abbrev pub ends_after : Device × Device → List LinkBetween → Bool
ends_after low [] = true
ends_after low (between ∷ more) = is_lt (ends_cmp low between.ends) && ends_after between.ends more

abbrev pub links_rise : List LinkBetween → Bool
links_rise [] = true
links_rise (between ∷ more) = ends_after between.ends more

-- ---- who shares a folder

abbrev pub is_one_of : List Device → Device → Bool
is_one_of devices device = list_any (λ (one : Device). one == device) devices

-- the device has the number, and the folder
abbrev pub has_folder : Device → Folder → Member → Bool
has_folder device folder member = (member.number == device) && is_some (get member.folders folder)

abbrev pub has : List Member → Device → Folder → Bool
has members device folder = list_any (has_folder device folder) members

-- the device, if it is another one and has the folder, is among those others
abbrev pub is_named : Device → Folder → List Device → Member → Bool
is_named number folder others member = ((member.number == number) || not (is_some (get member.folders folder))) || is_one_of others member.number

-- those others have the folder, and no more devices than the one itself, which isn't among them, and these do
abbrev pub folder_agrees : List Member → Device → Folder → List Device → Bool
folder_agrees members number folder others =
    (not (is_one_of others number) && list_all (λ (other : Device). has members other folder) others) && list_all (is_named number folder others) members

abbrev pub sharing_agrees : List Member → Member → Bool
sharing_agrees members member = list_all (λ (one : Folder × Held). folder_agrees members member.number one.0 one.1.tables.others) (entries member.folders)

-- ---- who knows of a link

abbrev pub knows_link : Device → Device → Member → Bool
knows_link device other member = (member.number == device) && is_one_of member.linked other

abbrev pub knows : List Member → Device → Device → Bool
knows members device other = list_any (knows_link device other) members

-- its smaller device stands first, and both know the link
abbrev pub is_known : List Member → LinkBetween → Bool
is_known members between =
    (nat_lt between.ends.0 between.ends.1 && knows members between.ends.0 between.ends.1) && knows members between.ends.1 between.ends.0

abbrev pub is_there : List LinkBetween → Device × Device → Bool
is_there links ends = list_any (is_between ends.0 ends.1) links

-- each link that the device knows is there
abbrev pub are_there : List LinkBetween → Member → Bool
are_there links member = list_all (λ (other : Device). is_there links (in_order member.number other)) member.linked

-- ---- all of it

abbrev pub has_some : {X : Type 0} → List X → Bool
has_some [] = false
has_some (one ∷ more) = true

-- the device shares some folder
abbrev pub shares_some : Member → Bool
shares_some member = has_some (entries member.folders)

abbrev pub device_agrees : List Member → List LinkBetween → Member → Bool
device_agrees members links member = (shares_some member && sharing_agrees members member) && are_there links member

abbrev pub all_agree : List Member → List LinkBetween → Bool
all_agree members links = list_all (device_agrees members links) members && list_all (is_known members) links
