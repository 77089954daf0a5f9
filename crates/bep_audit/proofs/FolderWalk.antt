-- A walk over the folders of a cut, which rise, for the first known name without a row.
use Rattle.std.proofs.Common.{◌≡◌, ◌↔◌, List, Contains, Option, Some, None, refl, sym, ap, subst, ◌∙◌, ⊎_elim}
use Rattle.std.specs.declared.cmp.Ordering.{Ordering}
use Rattle.std.specs.declared.cmp.Ordering.TheVariants.{Less, Equal, Greater}
use Rattle.std.specs.Ordering.{nat_cmp, ordering_then, ordering_reverse}
use Rattle.std.specs.Cmp.Lexicographic.{slice_cmp, nat_list_cmp_total}
use Rattle.std.proofs.lemmas.Cmp.{tied_itself}
use Rattle.std.proofs.lemmas.Map.Lookups.{exact_bytes}
use Rattle.bep_facts.specs.Orders.{order_cases}
use Rattle.bep_model.specs.declared.row.Row.{Row}
use Rattle.bep_model.specs.declared.reason.Reason.TheVariants.{NameMissing}
use Rattle.bep_model.specs.Tables.{Device, Folder, FileName}
use Rattle.bep_model.specs.Foreign.{IsKnown}
use Rattle.bep_model.specs.Settled.{HasRow}
use Rattle.bep_model.specs.Reasons.{Place, place_cmp, Asks, AsksAt}
use Rattle.bep_tables.specs.declared.share.Share.{Share}
use Rattle.bep_tables.specs.declared.share.SharedFolder.{SharedFolder}
use Rattle.bep_tables.specs.declared.link.LinkState.{LinkState}
use Rattle.bep_tables.specs.declared.cut.CutParts.{CutParts}
use Rattle.bep_tables.specs.Cut.{IsCut, tables_of}
use Rattle.bep_audit.specs.inner.Known.{IsKnownFrom}
use Rattle.bep_audit.specs.inner.Missing.{FindsMissing}
use Rattle.bep_audit.specs.inner.Search.{FindsFirst, FindsFailing}
use Rattle.bep_audit.proofs.SearchFacts.{AllSay, finds_as}
use Rattle.bep_audit.proofs.WalkFacts.{IsBefore, AreInOrder, in_order_by_key}
use Rattle.bep_tables.specs.Laws.{CutSays}
use Rattle.bep_audit.proofs.CutFacts.{share_of_device, known_exactly}

-- the folder decides, and then the name
not_greater : (by_folder rest : Ordering) → ordering_then by_folder rest ≡ Less → by_folder ≡ Greater → ⊥
not_greater Less rest less greater = cc
not_greater Equal rest less greater = cc
not_greater Greater rest less greater = cc

name_decides : (by_folder by_name : Ordering) → by_folder ≡ Equal → ordering_then by_folder (ordering_then by_name Equal) ≡ Less → by_name ≡ Less
name_decides Less by_name same less = absurd (cc)
name_decides Equal Less same less = refl
name_decides Equal Equal same less = absurd (cc)
name_decides Equal Greater same less = absurd (cc)
name_decides Greater by_name same less = absurd (cc)

folder_not_above : (earlier later : Place) → place_cmp earlier later ≡ Less → ¬ (slice_cmp nat_cmp earlier.folder later.folder ≡ Greater)
folder_not_above earlier later less = not_greater (slice_cmp nat_cmp earlier.folder later.folder) _ less

-- of names as a whole, in one folder, the name decides
name_before : (folder other : Folder) (earlier later : FileName) → folder ≡ other → place_cmp (record { folder = other; name = earlier; device = None }) (record { folder = folder; name = later; device = None }) ≡ Less → slice_cmp nat_cmp earlier later ≡ Less
name_before folder other earlier later same less =
    name_decides (slice_cmp nat_cmp other folder) (slice_cmp nat_cmp earlier later) (ap (slice_cmp nat_cmp other) same ∙ tied_itself nat_list_cmp_total other) less

-- what is asked of a place in the folder
abbrev pub AsksFolder : CutParts → List Row → SharedFolder → Place → Type 0
AsksFolder cut rows held place = held.folder ≡ place.folder → Asks (tables_of cut) rows NameMissing place

module _ (said : CutSays) (cut : CutParts) (is_cut : IsCut cut) (rows : List Row) where
  folder_is_before : (one other : SharedFolder) → slice_cmp nat_cmp one.folder other.folder ≡ Less → IsBefore place_cmp (AsksFolder cut rows) one other
  folder_is_before one other less first x unmet before same =
      ⊎_elim
      (λ below. absurd (unmet (λ is. let e : Less ≡ Equal = sym below ∙ tied is in absurd (cc))))
      (⊎_elim
      (λ equal.
      let there = exact_bytes one.folder first.folder equal in
      let below : slice_cmp nat_cmp first.folder x.folder ≡ Less = ap (λ (f : Folder). slice_cmp nat_cmp f x.folder) (sym there) ∙ ap (slice_cmp nat_cmp one.folder) (sym same) ∙ less in
      absurd (folder_not_above x first before (nat_list_cmp_total.antisymm x.folder first.folder ∙ ap ordering_reverse below)))
      (λ above. absurd (unmet (λ is. let e : Greater ≡ Equal = sym above ∙ tied is in absurd (cc)))))
      (order_cases (slice_cmp nat_cmp one.folder first.folder))
    where
      tied : one.folder ≡ first.folder → slice_cmp nat_cmp one.folder first.folder ≡ Equal
      tied is = ap (slice_cmp nat_cmp one.folder) (sym is) ∙ tied_itself nat_list_cmp_total one.folder

  pub folders_in_order : (folders : List SharedFolder) → folders ≡ cut.folders → AreInOrder place_cmp (AsksFolder cut rows) folders
  folders_in_order folders is =
      subst (AreInOrder place_cmp (AsksFolder cut rows)) (sym is)
      (in_order_by_key place_cmp (AsksFolder cut rows) (slice_cmp nat_cmp) (λ (held : SharedFolder). held.folder) folder_is_before cut.folders is_cut.rise)

  -- a name is known in one of the cut's folders where its devices have it, or it is on its way
  known_there : (held : SharedFolder) → Contains cut.folders held → (name : FileName) → IsKnown (tables_of cut) held.folder name ↔ IsKnownFrom held.folder held.shares cut.links name
  known_there held member name =
      subst (λ (shares : List Share). IsKnown (tables_of cut) held.folder name ↔ IsKnownFrom held.folder shares cut.links name)
      (said.found cut held is_cut member) (known_exactly said cut is_cut held.folder name)

  -- nothing is asked of a device
  at_name : (folder : Folder) (name : FileName) (device : Option Device) → (device ≡ None → IsKnown (tables_of cut) folder name → HasRow rows folder name) → AsksAt (tables_of cut) rows NameMissing folder name device
  at_name folder name None has = has refl
  at_name folder name (Some device) has = λ row member key shares. tt

  in_folder : (held : SharedFolder) (place : Place) → (place.device ≡ None → IsKnown (tables_of cut) held.folder place.name → HasRow rows held.folder place.name) → AsksFolder cut rows held place
  in_folder held place has same =
      subst (λ (folder : Folder). AsksAt (tables_of cut) rows NameMissing folder place.name place.device) same (at_name held.folder place.name place.device has)

  module _ (held : SharedFolder) (member : Contains cut.folders held) (links : List LinkState) (all : links ≡ cut.links) where
    -- what is said of the names that are known there
    of_known : (found : Option FileName) → FindsMissing rows held.folder (IsKnownFrom held.folder held.shares links) found → FindsMissing rows held.folder (IsKnown (tables_of cut) held.folder) found
    of_known found finds =
        finds_as (slice_cmp nat_cmp) (λ name. IsKnownFrom held.folder held.shares cut.links name → HasRow rows held.folder name) (λ name. IsKnown (tables_of cut) held.folder name → HasRow rows held.folder name)
        (λ name has_row known. has_row ((known_there held member name).0 known))
        (λ name has_row known. has_row ((known_there held member name).1 known))
        found (subst (λ (over : List LinkState). FindsMissing rows held.folder (IsKnownFrom held.folder held.shares over) found) all finds)

    -- each name of the folder has a row
    pub folder_has_rows : FindsMissing rows held.folder (IsKnownFrom held.folder held.shares links) None → (place : Place) → AsksFolder cut rows held place
    folder_has_rows each place = in_folder held place (λ _ known. of_known None each place.name known)

    -- this name is the first of the folder without a row
    pub folder_lacks_row : (name : FileName) → FindsMissing rows held.folder (IsKnownFrom held.folder held.shares links) (Some name) → FindsFirst place_cmp (AsksFolder cut rows held) (Some (record { folder = held.folder; name = name; device = None }))
    folder_lacks_row name finds = let first = of_known (Some name) finds in record {
      fails = λ asked. first.fails (λ known. asked refl known);
      before = λ place less same.
          in_folder held place (λ no_device known.
          let less_name = name_before held.folder place.folder place.name name same (subst (λ (device : Option Device). place_cmp (record { folder = place.folder; name = place.name; device = device }) (record { folder = held.folder; name = name; device = None }) ≡ Less) no_device less) in
          first.before place.name less_name known)
          same;
    }

  at_each : (folder : Folder) (name : FileName) (device : Option Device) → ((held : SharedFolder) → Contains cut.folders held → held.folder ≡ folder → AsksAt (tables_of cut) rows NameMissing folder name device) → AsksAt (tables_of cut) rows NameMissing folder name device
  at_each folder name None each = λ known.
      let share = share_of_device said cut is_cut folder known.0 known.1 in
      let held = said.has_folder cut folder share.0 share.1 in
      each held.0 held.1 held.2 known
  at_each folder name (Some device) each = λ row member key shares. tt

  -- what is found in the folders is what is found
  pub found_in_folders : (folders : List SharedFolder) → folders ≡ cut.folders → (found : Option Place) → FindsFirst place_cmp (AllSay place_cmp (AsksFolder cut rows) folders) found → FindsFailing (tables_of cut) rows NameMissing found
  found_in_folders folders is found finds =
      finds_as place_cmp (AllSay place_cmp (AsksFolder cut rows) cut.folders) (Asks (tables_of cut) rows NameMissing)
      (λ place each. at_each place.folder place.name place.device (λ held member same. each held member same))
      (λ place asked held member same. asked)
      found (subst (λ (all : List SharedFolder). FindsFirst place_cmp (AllSay place_cmp (AsksFolder cut rows) all) found) is finds)
