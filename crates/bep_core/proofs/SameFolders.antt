-- What no step changes of a device's folders: which ones there are, of which kind, and who shares them.
use Rattle.std.proofs.Common.{◌≡◌, Bool, true, false, cond, List, [], ◌∷◌, ◌≢◌, Option, Some, None, option_map, Contains, ◌↔◌, refl, sym, ap, subst, ◌∙◌}
use Rattle.std.specs.Ordering.{nat_cmp, eq_by_cmp}
use Rattle.std.specs.Cmp.Lexicographic.{slice_cmp, nat_list_cmp_total}
use Rattle.std.specs.FinMap.{get, insert, get-insert, slice_cmp-IsAntisymmetric, nat_cmp-IsAntisymmetric}
use Rattle.bep_facts.specs.Maps.{same_key}
use Rattle.bep_map.specs.NameMap.{ByName}
use Rattle.bep_record.specs.declared.folder_kind.FolderKind.{FolderKind}
use Rattle.bep_model.specs.Tables.{Device, Folder}
use Rattle.bep_machine.specs.Cluster.{Config}
use Rattle.bep_machine.specs.Replica.{Replica}
use Rattle.bep_machine.specs.Sound.{FitsFolder}
use Rattle.bep_machine.specs.Steps.{SharesFolder}
use Rattle.bep_peer.proofs.RowsKeep.{outline}
use Rattle.bep_peer.specs.network.Network.{kind_of}

-- the same folders, each in the same kind and shared by the same devices
abbrev pub SameFolders : ByName Replica → ByName Replica → Type 0
SameFolders old new = (folder : Folder) → option_map outline (get new folder) ≡ option_map outline (get old folder)

pub equal_folders : (old new : ByName Replica) → new ≡ old → SameFolders old new
equal_folders old new same folder = ap (λ (m : ByName Replica). option_map outline (get m folder)) same

-- a folder that is there changes within its outline
pub folder_changed : (old : ByName Replica) (folder : Folder) (before after : Replica) → get old folder ≡ Some before → outline after ≡ outline before → SameFolders old (insert old folder after)
folder_changed old folder before after there same name =
    ap (option_map outline) (get-insert nat_list_cmp_total old folder after name)
    ∙ cases (eq_by_cmp (slice_cmp nat_cmp) name folder) refl
  where
    cases : (b : Bool) → eq_by_cmp (slice_cmp nat_cmp) name folder ≡ b → option_map outline (cond b (Some after) (get old name)) ≡ option_map outline (get old name)
    cases true tied =
        ap Some same
        ∙ ap (option_map outline) (sym there ∙ ap (get old) (sym (same_key (slice_cmp-IsAntisymmetric nat_cmp-IsAntisymmetric) name folder tied)))
    cases false apart = refl

-- who has a folder, by its outline
abbrev kinds : Device → Option (FolderKind × List Device) → List (Device × FolderKind)
kinds device None = []
kinds device (Some line) = (device, line.0) ∷ []

kinds_are : (device : Device) (found : Option Replica) → kind_of device found ≡ kinds device (option_map outline found)
kinds_are device None = refl
kinds_are device (Some replica) = refl

pub same_kinds : (device : Device) (old new : Option Replica) → option_map outline new ≡ option_map outline old → kind_of device new ≡ kind_of device old
same_kinds device old new same = kinds_are device new ∙ ap (kinds device) same ∙ sym (kinds_are device old)

-- a replica of the same outline fits the folder too
pub same_fit : (config : Config) (device : Device) (folder : Folder) (old new : Replica) → outline new ≡ outline old → FitsFolder config device folder old → FitsFolder config device folder new
same_fit config device folder old new same fit = record {
  kind = subst (λ (kind : FolderKind). Contains (config.sharing folder) (device, kind)) (sym (ap (λ (line : FolderKind × List Device). line.0) same)) fit.kind;
  others = λ other. subst (λ (line : FolderKind × List Device). Contains line.1 other ↔ ((other ≢ device) × SharesFolder config other folder)) (sym same) (fit.others other);
}

-- a folder that is there afterwards was there before
pub was_there : (old new : Option Replica) (later : Replica) → option_map outline new ≡ option_map outline old → new ≡ Some later → (earlier : Replica) × (old ≡ Some earlier) × (outline later ≡ outline earlier)
was_there None new later same there = let e = sym same ∙ ap (option_map outline) there in absurd (cc)
was_there (Some earlier) new later same there =
    let e : Some (outline later) ≡ Some (outline earlier) = sym (ap (option_map outline) there) ∙ same in
    (earlier, refl, cc)
