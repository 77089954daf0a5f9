-- An index stays an index when it is made, when a record is put, and when that is taken back.
use Rattle.std.proofs.Common.{◌≡◌, ◌≢◌, ℕ, ◌+◌, ◌-◌, ◌≤◌, List, Option, Some, None, refl, sym, subst, ◌∙◌, arith}
use Rattle.std.specs.Ordering.{nat_cmp}
use Rattle.std.specs.Cmp.Lexicographic.{slice_cmp, nat_list_cmp_total}
use Rattle.std.specs.FinMap.{get, insert, empty, len, len-empty}
use Rattle.std.proofs.lemmas.Map.Lookups.{exact_bytes}
use Rattle.bep_facts.specs.Maps.{get-insert_here, nothing_in_empty, insert-what_is_there, insert-twice, remove-insert}
use Rattle.bep_map.specs.NameMap.{ByName}
use Rattle.bep_record.specs.declared.entry.Entry.{Entry}
use Rattle.bep_index.specs.Listing.{Listing}
use Rattle.bep_index.specs.Index.{IsIndex, numbered, after_put}
use Rattle.bep_index.specs.Change.{Change, given_back, taken_back, IsLastChange}
use Rattle.bep_index.specs.Laws.{EarlierChangesDontFit, LastChangesAgree, PutsKeepAnIndex}
use Rattle.bep_index.specs.declared.limits.TheConstants.{MAX_NAMES, MAX_SEQUENCE}
use Rattle.bep_index.proofs.RecordsFacts.{AreNumbered-insert, HaveOwnNumbers-insert, len-insert_le}

pub IsIndex-empty : (id : ℕ) → IsIndex (record { id = id; sequence = 0; records = empty })
IsIndex-empty id = record {
  sequence = omega arith;
  few = let none = len-empty (slice_cmp nat_cmp) Entry in omega arith;
  numbered = λ name entry found. nothing_in_empty (slice_cmp nat_cmp) name entry found;
  distinct = λ name other entry more found. nothing_in_empty (slice_cmp nat_cmp) name entry found;
}

pub IsIndex-after_put : (index : Listing) (entry : Entry) → IsIndex index → index.sequence ≢ MAX_SEQUENCE → (get index.records entry.name ≡ None → len index.records + 1 ≤ MAX_NAMES) → IsIndex (after_put index entry)
IsIndex-after_put index entry is not_full room = record {
  sequence = let most = is.sequence in omega arith;
  few = len-insert_le index.records entry.name _ MAX_NAMES is.few room;
  numbered = AreNumbered-insert index.records index.sequence (index.sequence + 1) (numbered entry (index.sequence + 1)) is.numbered (omega arith) (omega arith) (omega arith);
  distinct = HaveOwnNumbers-insert index.records index.sequence (numbered entry (index.sequence + 1)) is.numbered is.distinct (omega arith);
}

pub given_back-insert : (records : ByName Entry) (name : List ℕ) (entry : Entry) (before : Option Entry) → get records name ≡ before → given_back (insert records name entry) name before ≡ records
given_back-insert records name entry None was = remove-insert nat_list_cmp_total exact_bytes records name entry was
given_back-insert records name entry (Some e) was =
    insert-twice nat_list_cmp_total exact_bytes records name entry e ∙ insert-what_is_there nat_list_cmp_total exact_bytes records name e was

less_one : (n : ℕ) → (n + 1) - 1 ≡ n
less_one n = omega arith

-- what `put_undo` answers
abbrev pub change_of : Listing → Entry → Change
change_of index entry =
    record { id = index.id; sequence = index.sequence + 1; name = entry.name; before = get index.records entry.name }

-- taking back what was put gives the index as it was
pub taken_back-after_put : (index : Listing) (entry : Entry) → taken_back (change_of index entry) (after_put index entry) ≡ index
taken_back-after_put index entry = λ i. record {
  id = index.id;
  sequence = less_one index.sequence i;
  records = given_back-insert index.records entry.name (numbered entry (index.sequence + 1)) (get index.records entry.name) refl i;
}

pub IsLastChange-after_put : (index : Listing) (entry : Entry) → IsIndex index → IsLastChange (change_of index entry) (after_put index entry)
IsLastChange-after_put index entry is = record {
  same_index = refl;
  last = refl;
  given = (
    numbered entry (index.sequence + 1),
    (get-insert_here nat_list_cmp_total exact_bytes index.records entry.name (numbered entry (index.sequence + 1)), refl),
  );
  before = subst IsIndex (sym (taken_back-after_put index entry)) is;
}

-- ---- which changes fit

pub earlier_changes_dont_fit : EarlierChangesDontFit
earlier_changes_dont_fit change index entry fits later =
    let last = fits.last in
    let also = later.last in
    omega arith

pub last_changes_agree : LastChangesAgree
last_changes_agree one other index is fits also =
    let same : one.sequence ≡ other.sequence = fits.last ∙ sym also.last in
    let numbers = fits.given.1.1 ∙ same ∙ sym also.given.1.1 in
    (is.distinct one.name other.name fits.given.0 also.given.0 fits.given.1.0 also.given.1.0 numbers, same)

-- ---- puts

-- a put that is not refused has room
pub puts_keep_an_index : PutsKeepAnIndex
puts_keep_an_index index entry is left room =
    IsIndex-after_put index entry is left
    (λ none.
    let few = is.few in
    let apart : ¬ (len index.records ≡ MAX_NAMES) = λ full. room (full, none) in
    omega arith)
