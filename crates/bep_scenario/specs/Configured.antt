-- The configuration that a scenario's folders and links make, its stores empty (this project's profile).
use Rattle.std.specs.Prelude.{ℕ, ⊤, List, [], ◌∷◌}
use Rattle.std.specs.FinMap.{empty}
use Rattle.bep_map.specs.NameMap.{ByName}
use Rattle.bep_record.specs.declared.node.NodeParts.{NodeParts}
use Rattle.bep_config.specs.declared.sharing.Sharing.{Sharing}
use Rattle.bep_config.specs.Config.{Configuration, nothing, IsNewFolder, with_folder, IsNewShare, with_share, IsNewLink, with_link}
use Rattle.bep_document.specs.declared.parts.ShareParts.{ShareParts}
use Rattle.bep_document.specs.declared.parts.FolderParts.{FolderParts}
use Rattle.bep_document.specs.declared.parts.LinkParts.{LinkParts}
use Rattle.bep_document.specs.declared.parts.CheckParts.{CheckParts}

-- a configuration, seen with what its stores hold
abbrev pub Start : Type 0
Start = Configuration (ByName NodeParts)

-- what a device has of a folder at the start: nothing in its store
abbrev pub sharing_of : ShareParts → Sharing (ByName NodeParts)
sharing_of share = record { kind = share.kind; index_id = share.index_id; store = empty }

-- ---- with all of these, one after the other

abbrev pub with_shares : Start → List ℕ → List ShareParts → Start
with_shares config folder [] = config
with_shares config folder (share ∷ more) = with_shares (with_share config folder share.device (sharing_of share)) folder more

abbrev pub with_shared : Start → FolderParts → Start
with_shared config folder = with_shares (with_folder config folder.folder) folder.folder folder.devices

abbrev pub with_folders : Start → List FolderParts → Start
with_folders config [] = config
with_folders config (folder ∷ more) = with_folders (with_shared config folder) more

abbrev pub with_links : Start → List LinkParts → Start
with_links config [] = config
with_links config (link ∷ more) = with_links (with_link config link.a link.b) more

-- the whole
abbrev pub start_of : CheckParts → Start
start_of cluster = with_links (with_folders nothing cluster.folders) cluster.links

-- ---- each may be added in its turn

abbrev pub MayShare : Start → List ℕ → List ShareParts → Type 0
MayShare config folder [] = ⊤
MayShare config folder (share ∷ more) =
    IsNewShare config folder share.device share.index_id × MayShare (with_share config folder share.device (sharing_of share)) folder more

abbrev pub MayBeShared : Start → FolderParts → Type 0
MayBeShared config folder =
    IsNewFolder config folder.folder × MayShare (with_folder config folder.folder) folder.folder folder.devices

abbrev pub MayFolders : Start → List FolderParts → Type 0
MayFolders config [] = ⊤
MayFolders config (folder ∷ more) = MayBeShared config folder × MayFolders (with_shared config folder) more

abbrev pub MayLink : Start → List LinkParts → Type 0
MayLink config [] = ⊤
MayLink config (link ∷ more) = IsNewLink config link.a link.b × MayLink (with_link config link.a link.b) more

-- the whole
abbrev pub MayStart : CheckParts → Type 0
MayStart cluster = MayFolders nothing cluster.folders × MayLink (with_folders nothing cluster.folders) cluster.links
