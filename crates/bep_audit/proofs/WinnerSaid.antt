-- The winner of a name in a cut is the choice over the shares of its folder.
use Rattle.std.proofs.Common.{◌≡◌, ◌≤◌, ℕ, List, [], ◌∷◌, ◌++◌, Contains, length, refl, sym, ap, subst, ◌∙◌, arith}
use Rattle.std.specs.Prelude.{map}
use Rattle.std.specs.FinMap.{get}
use Rattle.std.specs.List.Sorted.{IsStrictlyIncreasing}
use Rattle.std.proofs.lemmas.List.{length-map}
use Rattle.std.proofs.lemmas.List.Elements.{All-contains, All-contains_itself}
use Rattle.bep_facts.specs.Members.{Contains-first, Contains-from_image, Contains-more}
use Rattle.bep_choice.specs.Choice.{Candidate}
use Rattle.bep_record.specs.declared.folder_kind.FolderKind.{FolderKind}
use Rattle.bep_index.specs.Index.{IsIndex}
use Rattle.bep_tables.specs.Cut.{AreShares, IsCut, HasDevice, index_of, devices_of, shares_of, tables_of}
use Rattle.bep_tables.specs.Laws.{FolderIsFound, ShareHasFolder, OwnIsSaid}
use Rattle.bep_tables.specs.declared.cut.CutParts.{CutParts}
use Rattle.bep_record.specs.declared.limits.TheConstants.{MAX_DEVICES}
use Rattle.bep_tables.specs.declared.share.Share.{Share}
use Rattle.bep_tables.specs.declared.share.SharedFolder.{SharedFolder}
use Rattle.bep_model.specs.Tables.{Tables, Device, Folder, FileName}
use Rattle.bep_model.specs.Winner.{beside, owned, own_candidates, smallest, IsWinner}
use Rattle.bep_audit.specs.Candidates.{owned_in, chooser_of}
use Rattle.bep_audit.proofs.CandidateFacts.{owned_from}

-- a device that shares a folder, with its kind
abbrev kind_of : Share → Device × FolderKind
kind_of share = (share.device, share.kind)

-- ---- the shares of a folder

share_with : (shares : List Share) (device : Device) → Contains (devices_of shares) device → (share : Share) × Contains shares share
share_with shares device member = let found = Contains-from_image (λ (share : Share). share.device) shares device member in (found.0, found.1)

none_are_shares : AreShares []
none_are_shares = record { rise = λ k within. absurd (omega arith); indexes = λ k default within. absurd (omega arith); views = λ k default within. absurd (omega arith); pulls = λ k default within. absurd (omega arith) }

module _ (found : FolderIsFound) (has_folder : ShareHasFolder) (cut : CutParts) (is_cut : IsCut cut) where
  -- where some device shares a folder, the cut has the folder with these shares
  held_with : (folder : Folder) (share : Share) → Contains (shares_of folder cut.folders) share → (held : SharedFolder) × Contains cut.folders held × (shares_of folder cut.folders ≡ held.shares)
  held_with folder share member =
      let held = has_folder cut folder share member in
      (held.0, held.1, ap (λ name. shares_of name cut.folders) (sym held.2) ∙ found cut held.0 is_cut held.1)

  pub are_shares : (folder : Folder) → AreShares (shares_of folder cut.folders)
  are_shares folder = cases (shares_of folder cut.folders) (held_with folder)
    where
      cases : (shares : List Share) → ((share : Share) → Contains shares share → (held : SharedFolder) × Contains cut.folders held × (shares ≡ held.shares)) → AreShares shares
      cases [] held = none_are_shares
      cases (share ∷ more) held =
          let one = held share (Contains-first share more) in
          subst AreShares (sym one.2) (All-contains (λ (h : SharedFolder). AreShares h.shares) cut.folders one.0 is_cut.shares one.1)

  has_device : (folder : Folder) (device : Device) → Contains (devices_of (shares_of folder cut.folders)) device → HasDevice cut.folders device
  has_device folder device member =
      let share = share_with (shares_of folder cut.folders) device member in
      let held = held_with folder share.0 share.1 in
      (held.0, held.1, subst (λ (shares : List Share). Contains (devices_of shares) device) held.2 member)

  few_shares : (folder : Folder) → length (shares_of folder cut.folders) ≤ MAX_DEVICES
  few_shares folder =
      let shares = shares_of folder cut.folders in
      let devices = devices_of shares in
      let few = is_cut.few_devices devices (are_shares folder).rise (λ k default within. has_device folder _ (All-contains_itself devices k default within)) in
      omega (arith, few, length-map shares (λ (one : Share). one.device))

  -- they are few, and their devices rise
  pub few_rise : (folder : Folder) (shares : List Share) → shares ≡ shares_of folder cut.folders → (length shares ≤ MAX_DEVICES) × IsStrictlyIncreasing (devices_of shares)
  few_rise folder shares is =
      subst (λ all. (length all ≤ MAX_DEVICES) × IsStrictlyIncreasing (devices_of all)) (sym is) (few_shares folder, (are_shares folder).rise)

-- ---- their own records

owned_said : (t : Tables) (folder : Folder) (name : FileName) (shares : List Share) → ((share : Share) → Contains shares share → t.own share.device folder name ≡ get share.own name) → owned t folder name (map kind_of shares) ≡ owned_in name shares
owned_said t folder name [] said = refl
owned_said t folder name (share ∷ more) said =
    let rest = owned_said t folder name more (λ other member. said other (Contains-more share more other member)) in
    λ i. beside share.device (said share (Contains-first share more) i) ++ rest i

sharing_said : (cut : CutParts) (folder : Folder) → (tables_of cut).sharing folder ≡ map kind_of (shares_of folder cut.folders)
unfolding tables_of
sharing_said cut folder = refl

candidates_said : OwnIsSaid → (cut : CutParts) (folder : Folder) (name : FileName) → IsCut cut → own_candidates (tables_of cut) folder name ≡ owned_in name (shares_of folder cut.folders)
candidates_said said cut folder name is_cut =
    ap (owned (tables_of cut) folder name) (sharing_said cut folder)
    ∙ owned_said (tables_of cut) folder name (shares_of folder cut.folders) (λ share member. said cut folder name share is_cut member)

-- by whom the choice over the shares is made, and of what, is as for the winner
pub winner_said : OwnIsSaid → (cut : CutParts) (folder : Folder) (name : FileName) (shares : List Share) → IsCut cut → shares ≡ shares_of folder cut.folders → ◌≡◌ {A = ℕ × List Candidate} (chooser_of shares, owned_in name shares) (smallest ((tables_of cut).sharing folder), own_candidates (tables_of cut) folder name)
winner_said said cut folder name shares is_cut value =
    let chooser : chooser_of shares ≡ smallest ((tables_of cut).sharing folder) = ap chooser_of value ∙ ap smallest (sym (sharing_said cut folder)) in
    let candidates : owned_in name shares ≡ own_candidates (tables_of cut) folder name = ap (owned_in name) value ∙ sym (candidates_said said cut folder name is_cut) in
    λ i. (chooser i, candidates i)

-- the winner's record has the name
pub winner_is_named : FolderIsFound → ShareHasFolder → OwnIsSaid → (cut : CutParts) (folder : Folder) (name : FileName) → IsCut cut → (one : Candidate) → IsWinner (tables_of cut) folder name one → one.1.name ≡ name
winner_is_named found has_folder said cut folder name is_cut one wins =
    let shares = shares_of folder cut.folders in
    let among = subst (λ (candidates : List Candidate). Contains candidates one) (candidates_said said cut folder name is_cut) wins.left.valid.0 in
    let share = owned_from (λ s. get s.own name) shares one among in
    let index = All-contains (λ (s : Share). IsIndex (index_of s)) shares share.0 (are_shares found has_folder cut is_cut folder).indexes share.1 in
    (index.numbered name one.1 share.2).0
