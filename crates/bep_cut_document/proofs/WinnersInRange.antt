-- The records of winners are own records of a cut, so their sequences can be written.
use Rattle.std.proofs.Common.{◌≡◌, ◌≤◌, List, [], ◌∷◌, Option, Some, None, Contains, option_and_then, refl, ap, subst, ⊎_elim, arith}
use Rattle.std.specs.FinMap.{get}
use Rattle.std.proofs.lemmas.List.Elements.{All-contains, Contains-append_cases}
use Rattle.bep_facts.specs.Members.{not_in_none, Contains-first, Contains-more, Contains-one}
use Rattle.bep_record.specs.declared.entry.Entry.{Entry}
use Rattle.bep_record.specs.declared.folder_kind.FolderKind.{FolderKind}
use Rattle.bep_index.specs.declared.limits.TheConstants.{MAX_SEQUENCE}
use Rattle.bep_index.specs.Index.{IsIndex}
use Rattle.bep_model.specs.declared.row.Row.{Row}
use Rattle.bep_model.specs.Tables.{Tables, Device, Folder, FileName}
use Rattle.bep_model.specs.Winner.{beside, owned}
use Rattle.bep_tables.specs.declared.cut.CutParts.{CutParts}
use Rattle.bep_tables.specs.declared.share.Share.{Share}
use Rattle.bep_tables.specs.Cut.{IsCut, index_of, is_device, share_of, shares_of, tables_of}
use Rattle.bep_cut_document.specs.Told.{AreRowsInRange, WinnersAreInRange}
use Rattle.bep_tables.proofs.Found.{find_gives}
use Rattle.bep_tables.proofs.Tables.{are_shares}

-- a candidate is its device's own record
beside_says : (device : Device) (own : Option Entry) (one : Device × Entry) → Contains (beside device own) one → (device ≡ one.0) × (own ≡ Some one.1)
beside_says device None one there = absurd (not_in_none one there)
beside_says device (Some entry) one there =
    let same = Contains-one (device, entry) one there in
    (ap (λ (c : Device × Entry). c.0) same, ap (λ (c : Device × Entry). Some c.1) same)

pub owned_says : (t : Tables) (folder : Folder) (name : FileName) (shares : List (Device × FolderKind)) (one : Device × Entry) → Contains (owned t folder name shares) one → t.own one.0 folder name ≡ Some one.1
owned_says t folder name [] one there = absurd (not_in_none one there)
owned_says t folder name (share ∷ more) one there =
    ⊎_elim
    (λ here. let says = beside_says share.0 (t.own share.0 folder name) one here in subst (λ (device : Device). t.own device folder name ≡ Some one.1) says.0 says.1)
    (λ later. owned_says t folder name more one later)
    (Contains-append_cases (beside share.0 (t.own share.0 folder name)) (owned t folder name more) one there)

-- an own record has a sequence of its index
own_in_range : (cut : CutParts) (device : Device) (folder : Folder) (name : FileName) (entry : Entry) → IsCut cut → (tables_of cut).own device folder name ≡ Some entry → entry.sequence ≤ MAX_SEQUENCE
unfolding tables_of
own_in_range cut device folder name entry is_cut own = cases (share_of device (shares_of folder cut.folders)) refl own
  where
    cases : (found : Option Share) → share_of device (shares_of folder cut.folders) ≡ found → option_and_then (λ (share : Share). get share.own name) found ≡ Some entry → entry.sequence ≤ MAX_SEQUENCE
    cases None at has = absurd (cc)
    cases (Some share) at has =
        let there = (find_gives (is_device device) (shares_of folder cut.folders) share at).0 in
        let index = All-contains (λ (one : Share). IsIndex (index_of one)) (shares_of folder cut.folders) share (are_shares cut folder share is_cut there).indexes there in
        let greatest = index.sequence in
        let numbered = (index.numbered name entry has).2 in
        omega (arith, greatest, numbered)

rows_in_range : (rows : List Row) → ((row : Row) → Contains rows row → row.entry.sequence ≤ MAX_SEQUENCE) → AreRowsInRange rows
rows_in_range [] each = tt
rows_in_range (row ∷ more) each = (each row (Contains-first row more), rows_in_range more (λ other there. each other (Contains-more row more other there)))

pub winners_are_in_range : (cut : CutParts) → IsCut cut → WinnersAreInRange cut
winners_are_in_range cut is_cut rows winners = rows_in_range rows (λ row there.
    own_in_range cut row.device row.folder row.entry.name row.entry is_cut
    (owned_says (tables_of cut) row.folder row.entry.name ((tables_of cut).sharing row.folder) (row.device, row.entry) (winners row there).left.valid.0))
