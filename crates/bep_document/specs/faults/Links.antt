-- Links that can't be (this project's profile).
use Rattle.std.specs.Prelude.{ℕ, nat_lt, ◌&&◌, ◌||◌, Bool, List, [], Option, Some, None, if◌then◌else◌}
use Rattle.std.specs.List.{list_any}
use Rattle.bep_document.specs.declared.fault.DocFault.{DocFault}
use Rattle.bep_document.specs.declared.fault.Fault.TheVariants.{LinkBad}
use Rattle.bep_document.specs.declared.parts.FolderParts.{FolderParts}
use Rattle.bep_document.specs.declared.parts.LinkParts.{LinkParts}
use Rattle.bep_document.specs.declared.parts.CheckParts.{CheckParts}
use Rattle.bep_document.specs.Fault.{at_link}
use Rattle.bep_document.specs.faults.Judge.{first_in}
use Rattle.bep_document.specs.faults.Records.{is_empty}
use Rattle.bep_document.specs.faults.Unshared.{has_device}

-- the device shares some folder
abbrev pub is_device : List FolderParts → ℕ → Bool
is_device folders device = list_any (λ folder. has_device device folder.devices) folders

-- nothing is on its way over the link
abbrev pub is_quiet : LinkParts → Bool
is_quiet link = is_empty link.to_a && is_empty link.to_b

-- two devices of the cut are its ends, the smaller one first, and nothing is on its way while it is down
abbrev pub is_link_of : List FolderParts → LinkParts → Bool
is_link_of folders link =
    nat_lt link.a link.b && (is_device folders link.a && (is_device folders link.b && (link.up || is_quiet link)))

-- the link isn't such a one
abbrev pub bad_link : List FolderParts → List LinkParts → LinkParts → Option DocFault
bad_link folders earlier link = if is_link_of folders link then None else Some (at_link LinkBad link.a)

-- such a link
unfoldable pub first_bad_link : CheckParts → Option DocFault
first_bad_link parts = first_in (bad_link parts.folders) [] parts.links
