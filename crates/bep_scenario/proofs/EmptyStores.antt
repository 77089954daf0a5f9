-- The stores with which a scenario begins hold nothing.
use Rattle.std.proofs.Common.{◌≡◌, ℕ, List, [], ◌∷◌, refl, subst}
use Rattle.std.specs.FinMap.{empty}
use Rattle.std.proofs.lemmas.List.Elements.{All-nil}
use Rattle.std.proofs.lemmas.Map.Views.{All-values-insert_entry}
use Rattle.bep_map.specs.NameMap.{ByName}
use Rattle.bep_record.specs.declared.node.NodeParts.{NodeParts}
use Rattle.bep_config.specs.declared.sharing.Sharing.{Sharing}
use Rattle.bep_config.specs.Config.{by_share, nothing, with_folder, with_link, with_share}
use Rattle.bep_document.specs.declared.parts.ShareParts.{ShareParts}
use Rattle.bep_document.specs.declared.parts.FolderParts.{FolderParts}
use Rattle.bep_document.specs.declared.parts.LinkParts.{LinkParts}
use Rattle.bep_document.specs.declared.parts.CheckParts.{CheckParts}
use Rattle.bep_document.specs.Reading.{Reading, Read, Refused, ◌>>=◌}
use Rattle.bep_scenario.specs.declared.parts.ScenarioParts.{ScenarioParts}
use Rattle.bep_scenario.specs.Configured.{Start, sharing_of, start_of, with_folders, with_links, with_shared, with_shares}
use Rattle.bep_scenario.specs.Reading.{reading_of}
use Rattle.bep_scenario.specs.Scenario.{BeginsEmpty, Said, ScenariosBeginEmpty, made_of}

with_empty_shares : (config : Start) (folder : List ℕ) (shares : List ShareParts) → BeginsEmpty config → BeginsEmpty (with_shares config folder shares)
with_empty_shares config folder [] is = is
with_empty_shares config folder (share ∷ more) is =
    with_empty_shares (with_share config folder share.device (sharing_of share)) folder more
    (All-values-insert_entry by_share (folder, share.device) (sharing_of share) (λ (one : Sharing (ByName NodeParts)). one.store ≡ empty) config.shares is refl)

with_empty_folders : (config : Start) (folders : List FolderParts) → BeginsEmpty config → BeginsEmpty (with_folders config folders)
with_empty_folders config [] is = is
with_empty_folders config (folder ∷ more) is =
    with_empty_folders (with_shared config folder) more (with_empty_shares (with_folder config folder.folder) folder.folder folder.devices is)

links_keep_empty : (config : Start) (links : List LinkParts) → BeginsEmpty config → BeginsEmpty (with_links config links)
links_keep_empty config [] is = is
links_keep_empty config (link ∷ more) is = links_keep_empty (with_link config link.a link.b) more is

starts_empty : (cluster : CheckParts) → BeginsEmpty (start_of cluster)
starts_empty cluster =
    links_keep_empty (with_folders nothing cluster.folders) cluster.links
    (with_empty_folders nothing cluster.folders (All-nil (λ (one : Sharing (ByName NodeParts)). one.store ≡ empty)))

reads_empty : (reading : Reading ScenarioParts) (scenario : Said) → (reading >>= λ (parts : ScenarioParts). Read (made_of parts)) ≡ Read scenario → BeginsEmpty scenario.config
reads_empty (Read parts) scenario is = let same : made_of parts ≡ scenario = cc in subst (λ (one : Said). BeginsEmpty one.config) same (starts_empty parts.cluster)
reads_empty (Refused fault) scenario is = absurd (cc)

pub scenarios_begin_empty : ScenariosBeginEmpty
scenarios_begin_empty bytes = reads_empty (reading_of bytes)
