-- All of a cut is in range, so that what is written of it is read again.
use Rattle.std.proofs.Common.{◌≡◌, ◌≤◌, ℕ, List, [], ◌∷◌, map, length, Some, Contains, arith}
use Rattle.std.specs.Cmp.Lexicographic.{nat_list_cmp_total}
use Rattle.std.specs.FinMap.{get, len, len-entries, entries, values}
use Rattle.std.specs.List.{AllByRecursion}
use Rattle.std.proofs.lemmas.List.{length-map}
use Rattle.std.proofs.lemmas.List.Elements.{recursion_from_All}
use Rattle.std.proofs.lemmas.Map.Lookups.{exact_bytes}
use Rattle.bep_facts.specs.Values.{key_of_value}
use Rattle.bep_map.specs.NameMap.{ByName}
use Rattle.bep_record.specs.declared.entry.Entry.{Entry}
use Rattle.bep_record.specs.declared.limits.TheConstants.{MAX_FOLDERS, MAX_PULLS}
use Rattle.bep_index.specs.Batch.{Rises}
use Rattle.bep_index.specs.Index.{IsIndex}
use Rattle.bep_index.specs.declared.limits.TheConstants.{MAX_NAMES, MAX_SEQUENCE}
use Rattle.bep_model.specs.Tables.{Device}
use Rattle.bep_model.specs.declared.flight.Flight.{Flight}
use Rattle.bep_document.specs.read.Few.{read_few}
use Rattle.bep_document.specs.read.Folders.{is_folder, read_folder}
use Rattle.bep_document.specs.read.Links.{is_link, read_link}
use Rattle.bep_json.specs.Lists.{is_list, read_list}
use Rattle.bep_json.specs.Says.{Says, list_says}
use Rattle.bep_json.specs.Written.{list_of}
use Rattle.bep_tables.specs.declared.share.Share.{Share}
use Rattle.bep_tables.specs.declared.share.SharedFolder.{SharedFolder}
use Rattle.bep_tables.specs.declared.link.LinkState.{LinkState}
use Rattle.bep_tables.specs.declared.cut.CutParts.{CutParts}
use Rattle.bep_tables.specs.Cut.{AreViews, ArePulls, AreShares, IsFlight, IsLink, IsCut, devices_of, index_of, known_of}
use Rattle.bep_cut_document.specs.Trees.{folder_tree, link_tree}
use Rattle.bep_cut_document.specs.inner.Told.{folder_parts, link_parts, AreInRange, IsIndexInRange, IsViewInRange, IsShareInRange, IsFlightInRange, IsLinkInRange, IsFolderTold, IsLinkTold}
use Rattle.bep_tables.proofs.Found.{all_from_each}
use Rattle.bep_json.specs.declared.version.DocVersion.{DocVersion}
use Rattle.bep_cut_document.specs.Room.{IsFolderShort, IsLinkShort, IsCutShort}
use Rattle.bep_cut_document.proofs.ToldFacts.{each_told, few_read}

-- ---- lists
pub each_of : {A : Type 0} (P : A → Type 0) (xs : List A) → ((x : A) → Contains xs x → P x) → AllByRecursion P xs
each_of P xs each = recursion_from_All P xs (all_from_each P xs each)

pub all_map : {A : Type 0} (P Q : A → Type 0) → ((x : A) → P x → Q x) → (xs : List A) → AllByRecursion P xs → AllByRecursion Q xs
all_map P Q each [] all = tt
all_map P Q each (x ∷ more) all = (each x all.0, all_map P Q each more all.1)

pub all_three : {A : Type 0} (P Q R S : A → Type 0) → ((x : A) → P x → Q x → R x → S x) → (xs : List A) → AllByRecursion P xs → AllByRecursion Q xs → AllByRecursion R xs → AllByRecursion S xs
all_three P Q R S each [] p q r = tt
all_three P Q R S each (x ∷ more) p q r = (each x p.0 q.0 r.0, all_three P Q R S each more p.1 q.1 r.1)

-- ---- tables
-- each record of a table is in range, where each that is found is
values_in_range : (records : ByName Entry) → ((name : List ℕ) (entry : Entry) → get records name ≡ Some entry → entry.sequence ≤ MAX_SEQUENCE) → AreInRange (values records)
values_in_range records within =
    each_of (λ entry. entry.sequence ≤ MAX_SEQUENCE) (values records) (λ entry h.
    let found = key_of_value nat_list_cmp_total exact_bytes records entry h in within found.0 entry found.1)

pub few_values : (most : ℕ) (records : ByName Entry) → len records ≤ most → length (values records) ≤ most
few_values most records few =
    let same = length-map (entries records) (λ e. e.1) in
    let all = len-entries records in
    omega arith

index_in_range : (id greatest : ℕ) (records : ByName Entry) → IsIndex (record { id = id; sequence = greatest; records = records }) → IsIndexInRange greatest records
index_in_range id greatest records index = record {
  within = index.sequence;
  few = few_values MAX_NAMES records index.few;
  sequences = values_in_range records (λ name entry is. let numbered = (index.numbered name entry is).2 in let most = index.sequence in omega arith);
}

-- ---- devices
share_in_range : (devices : List Device) (share : Share) → IsIndex (index_of share) → AreViews devices share.device share.views → ArePulls share.pulls → IsShareInRange share
share_in_range devices share index views pulls = record {
  own = index_in_range share.index_id share.max_sequence share.own index;
  views = all_map (λ view. IsIndex (known_of view)) IsViewInRange (λ view known. index_in_range view.index_id view.max_sequence view.records known) share.views (recursion_from_All (λ view. IsIndex (known_of view)) share.views views.indexes);
  few_pulls = few_values MAX_PULLS share.pulls pulls.few;
  pulls = values_in_range share.pulls pulls.within;
}

shares_in_range : (shared : SharedFolder) → AreShares shared.shares → AllByRecursion IsShareInRange shared.shares
shares_in_range shared are =
    let devices = devices_of shared.shares in
    let HasIndex : Share → Type 0 = λ share. IsIndex (index_of share) in
    let HasViews : Share → Type 0 = λ share. AreViews devices share.device share.views in
    let HasPulls : Share → Type 0 = λ share. ArePulls share.pulls in
    all_three HasIndex HasViews HasPulls IsShareInRange (share_in_range devices) shared.shares
    (recursion_from_All HasIndex shared.shares are.indexes)
    (recursion_from_All HasViews shared.shares are.views)
    (recursion_from_All HasPulls shared.shares are.pulls)

-- ---- links
rising_in_range : (low : ℕ) (records : List Entry) → Rises low records → AreInRange records
rising_in_range low [] rises = tt
rising_in_range low (entry ∷ more) rises = (rises.1, rising_in_range entry.sequence more rises.2)

flight_in_range : (folders : List SharedFolder) (a b : Device) (flight : Flight) → IsFlight folders a b flight → IsFlightInRange flight
flight_in_range folders a b flight is = record { few = is.batch.few; sequences = rising_in_range 0 flight.records is.batch.rises }

link_in_range : (folders : List SharedFolder) (link : LinkState) → IsLink folders link → IsLinkInRange link
link_in_range folders link is =
    let IsOfBoth : Flight → Type 0 = IsFlight folders link.a link.b in
    record {
      epoch = is.epoch;
      few_to_a = is.few_to_a;
      few_to_b = is.few_to_b;
      to_a = all_map IsOfBoth IsFlightInRange (flight_in_range folders link.a link.b) link.to_a (recursion_from_All IsOfBoth link.to_a is.to_a);
      to_b = all_map IsOfBoth IsFlightInRange (flight_in_range folders link.a link.b) link.to_b (recursion_from_All IsOfBoth link.to_b is.to_b);
    }

-- ---- the whole
-- the folders and the links that are written of a cut have their shape in a version, and are read again as the cut's, within
-- all ranges
pub record IsReadAgain (version : DocVersion) (cut : CutParts) : Type 0 where
  pub folders : Says (is_list (is_folder version)) (read_few MAX_FOLDERS (read_folder version)) (map folder_parts cut.folders) (list_of (map folder_tree cut.folders))
  pub links : Says (is_list (is_link version)) (read_list (read_link version)) (map link_parts cut.links) (list_of (map link_tree cut.links))

pub cut_says : (version : DocVersion) (cut : CutParts) → IsCut cut → IsCutShort version cut → AllByRecursion IsFolderTold cut.folders → AllByRecursion IsLinkTold cut.links → IsReadAgain version cut
cut_says version cut is short folders_told links_told =
    let HasShares : SharedFolder → Type 0 = λ shared. AreShares shared.shares in
    let AreWithin : SharedFolder → Type 0 = λ shared. AllByRecursion IsShareInRange shared.shares in
    let folders_range = all_map HasShares AreWithin shares_in_range cut.folders (recursion_from_All HasShares cut.folders is.shares) in
    let folders = list_says (is_folder version) (read_folder version) folder_parts folder_tree cut.folders
    (each_told IsFolderShort AreWithin (λ (v : DocVersion) (f : SharedFolder). Says (is_folder v) (read_folder v) (folder_parts f) (folder_tree f)) version cut.folders folders_told short.folders folders_range) in
    let links_range = all_map (IsLink cut.folders) IsLinkInRange (link_in_range cut.folders) cut.links (recursion_from_All (IsLink cut.folders) cut.links is.links) in
    let links = list_says (is_link version) (read_link version) link_parts link_tree cut.links
    (each_told IsLinkShort IsLinkInRange (λ (v : DocVersion) (l : LinkState). Says (is_link v) (read_link v) (link_parts l) (link_tree l)) version cut.links links_told short.links links_range) in
    let few : length (map folder_parts cut.folders) ≤ MAX_FOLDERS = let same = length-map cut.folders folder_parts in let most = is.few_folders in omega arith in
    record {
      folders = (folders.0, few_read (read_folder version) MAX_FOLDERS (list_of (map folder_tree cut.folders)) (map folder_parts cut.folders) folders.1 few);
      links = links;
    }
