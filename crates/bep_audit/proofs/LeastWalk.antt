-- The least failure of the names that a walk has come past.
use Rattle.std.proofs.Common.{◌≡◌, ◌↔◌, ◌+◌, ℕ, Bool, true, false, cond, List, [], ◌∷◌, take, drop, Contains, Option, Some, None, refl, sym, ap, subst, ◌∙◌, inr, ⊎_elim}
use Rattle.std.specs.Prelude.{⊤, nat_lt, ◌==◌}
use Rattle.std.specs.declared.cmp.Ordering.{Ordering}
use Rattle.std.specs.declared.cmp.Ordering.TheVariants.{Less, Equal, Greater}
use Rattle.std.specs.Ordering.{nat_cmp, is_lt, is_eq, ordering_then, ordering_reverse}
use Rattle.std.specs.Cmp.Lexicographic.{slice_cmp}
use Rattle.std.proofs.lemmas.Cmp.{nat_cmp_total, tied_itself}
use Rattle.bep_facts.specs.Members.{not_in_none}
use Rattle.bep_facts.specs.Orders.{texts_total}
use Rattle.bep_model.specs.declared.row.Row.{Row}
use Rattle.bep_model.specs.declared.reason.Reason.{Reason}
use Rattle.bep_model.specs.declared.reason.Reason.TheVariants.{CertificateOrder, NameMissing, NameUnknown, NotWinner}
use Rattle.bep_model.specs.Tables.{Tables, Device, Folder, FileName}
use Rattle.bep_model.specs.Settled.{key_of, key_cmp, Rise, IsSettled}
use Rattle.bep_model.specs.Reasons.{Place, place_cmp, device_rank, Asks, AsksAt, first_disordered}
use Rattle.bep_model.specs.Verdict.{number_of, IsFirstFault}
use Rattle.bep_model.specs.Laws.{RowsRiseInOrder, SettledIsFaultless}
use Rattle.bep_tables.specs.declared.cut.CutParts.{CutParts}
use Rattle.bep_tables.specs.declared.table.entry.TableEntry.{TableEntry}
use Rattle.bep_tables.specs.Cut.{IsCut, tables_of}
use Rattle.bep_tables.specs.Listed.{IsGrouped, cut_listed}
use Rattle.bep_tables.specs.Said.{EntriesAreHeld, HoldersShare}
use Rattle.bep_audit.specs.FailureOrder.{failure_total}
use Rattle.bep_audit.specs.inner.Search.{lesser}
use Rattle.bep_audit.specs.Walk.{Failure, failure_cmp}
use Rattle.bep_audit.specs.inner.Walk.{key_in, FindsLeast, replaces, next_key, count_at, rows_about}
use Rattle.bep_audit.proofs.SearchFacts.{finds_as, lesser_finds}
use Rattle.bep_audit.proofs.FailingRow.{less_by_order}
use Rattle.bep_audit.proofs.GroupRow.{unknown_holds}
use Rattle.bep_audit.proofs.GroupWalk as groups
use Rattle.bep_audit.proofs.GroupWalk.{Stands, same_or_not, stands_at_first, unlisted_is_unknown, stands_afterwards, rows_are, table_left, rows_left_at}
use Rattle.bep_audit.proofs.NameWalk.{Key, IsUnder, IsNext, Remains, none_left, was_left, left_above, not_left, left_or_here}

-- ---- the order of failures

-- of two at names in order the later one is less where its reason is
greater_first : (a b c : Ordering) → ordering_then a b ≡ Greater → ordering_then a (ordering_then b c) ≡ Greater
greater_first Less b c e = absurd (cc)
greater_first Equal Less c e = absurd (cc)
greater_first Equal Equal c e = absurd (cc)
greater_first Equal Greater c e = refl
greater_first Greater b c e = refl

less_with_greater : (o p : Ordering) → p ≡ Greater → is_lt (ordering_then o p) ≡ is_lt o
less_with_greater Less p e = refl
less_with_greater Equal p e = ap is_lt e
less_with_greater Greater p e = refl

by_test : (a b : Bool) → is_lt (cond a Less (cond b Equal Greater)) ≡ a
by_test true b = refl
by_test false true = refl
by_test false false = refl

later_is_less : (one other : Failure) → IsUnder (key_in one.place) (key_in other.place) → is_lt (failure_cmp other one) ≡ nat_lt (number_of other.reason) (number_of one.reason)
later_is_less one other under =
    let turned : key_cmp (key_in other.place) (key_in one.place) ≡ Greater = texts_total.antisymm (key_in other.place) (key_in one.place) ∙ ap ordering_reverse under in
    let place : place_cmp other.place one.place ≡ Greater =
    greater_first (slice_cmp nat_cmp other.place.folder one.place.folder) (slice_cmp nat_cmp other.place.name one.place.name) (nat_cmp (device_rank other.place.device) (device_rank one.place.device)) turned in
    less_with_greater (nat_cmp (number_of other.reason) (number_of one.reason)) (place_cmp other.place one.place) place
    ∙ by_test (nat_lt (number_of other.reason) (number_of one.reason)) (number_of other.reason == number_of one.reason)

replaced_is_lesser : (here least : Option Failure) → ((one other : Failure) → least ≡ Some one → here ≡ Some other → IsUnder (key_in one.place) (key_in other.place)) → cond (replaces here least) here least ≡ lesser failure_cmp least here
replaced_is_lesser None None under = refl
replaced_is_lesser None (Some one) under = refl
replaced_is_lesser (Some other) None under = refl
replaced_is_lesser (Some other) (Some one) under =
    ap (λ b. cond b (Some other) (Some one)) (sym (later_is_less one other (under one other refl refl)))

-- ---- rows that are the same at a name
module _ (t : Tables) (one other : List Row) (in_order : first_disordered other ≡ None) (key : Key) (same : (row : Row) → key_of row ≡ key → Contains one row ↔ Contains other row) where
  at_alike : (reason : Reason) (folder : Folder) (name : FileName) (device : Option Device) → (folder, name) ≡ key → AsksAt t one reason folder name device → AsksAt t other reason folder name device
  at_alike CertificateOrder folder name None is asked = λ disordered. let e : ◌≡◌ {A = Option Key} None (Some (folder, name)) = sym in_order ∙ disordered in absurd (cc)
  at_alike NameMissing folder name None is asked = λ known. let has = asked known in (has.0, (same has.0 (has.2 ∙ is)).0 has.1, has.2)
  at_alike NameUnknown folder name None is asked = λ has. asked (has.0, (same has.0 (has.2 ∙ is)).1 has.1, has.2)
  at_alike NotWinner folder name None is asked = λ row member here. asked row ((same row (here ∙ is)).1 member) here
  at_alike _ folder name None is asked = tt
  at_alike reason folder name (Some device) is asked = λ row member here shares. asked row ((same row (here ∙ is)).1 member) here shares

  pub asked_alike : (reason : Reason) (place : Place) → key_in place ≡ key → Asks t one reason place → Asks t other reason place
  asked_alike reason place is asked = at_alike reason place.folder place.name place.device is asked

-- what is found at a name is found there among all rows
found_among : (t : Tables) (one other : List Row) → first_disordered one ≡ None → first_disordered other ≡ None → (key : Key) → ((row : Row) → key_of row ≡ key → Contains one row ↔ Contains other row) → (found : Option Failure) → FindsLeast t one (λ k. k ≡ key) found → FindsLeast t other (λ k. k ≡ key) found
found_among t one other one_order other_order key same =
    finds_as failure_cmp (λ failure. key_in failure.place ≡ key → Asks t one failure.reason failure.place) (λ failure. key_in failure.place ≡ key → Asks t other failure.reason failure.place)
    (λ failure asked is. asked_alike t one other other_order key same failure.reason failure.place is (asked is))
    (λ failure asked is. asked_alike t other one one_order key (λ row here. ((same row here).1, (same row here).0)) failure.reason failure.place is (asked is))

-- what fails at a name is there
fails_there : (t : Tables) (rows : List Row) (key : Key) (failure : Failure) → FindsLeast t rows (λ k. k ≡ key) (Some failure) → key_in failure.place ≡ key
fails_there t rows key failure first =
    ⊎_elim (λ same. same) (λ apart. absurd (first.fails (λ same. absurd (apart same)))) (same_or_not (key_in failure.place) key)

-- ---- the walk
module _ (cut : CutParts) (rows : List Row) where
  -- these entries and rows are left, and this is the least failure at the other names
  pub record Walked (entries : List TableEntry) (rest : List Row) (least : Option Failure) : Type 0 where
    pub stands : Stands cut rows entries rest
    pub finds : FindsLeast (tables_of cut) rows (λ key. ¬ Remains entries rest key) least
    pub below : (found : Failure) → least ≡ Some found → (key : Key) → Remains entries rest key → IsUnder (key_in found.place) key

  -- it starts
  pub least_starts : EntriesAreHeld → HoldersShare → RowsRiseInOrder → IsCut cut → Rise rows → (table : List TableEntry) → IsGrouped (cut_listed cut) table → Walked table rows None
  least_starts held share in_order is_cut rise table grouped = record {
    stands = stands_at_first cut rows table grouped rise;
    finds = nothing;
    below = λ found e. absurd (cc);
  }
    where
      nothing : (failure : Failure) → ¬ Remains table rows (key_in failure.place) → Asks (tables_of cut) rows failure.reason failure.place
      nothing failure none =
          asked_alike (tables_of cut) [] rows ((in_order rows).1 rise) (key_in failure.place)
          (λ row here. (λ member. absurd (not_in_none row member), λ member. absurd (none (inr (row, member, here)))))
          failure.reason failure.place refl
          (unknown_holds (tables_of cut) (key_in failure.place) (unlisted_is_unknown cut rows table grouped held share is_cut (key_in failure.place) none) failure refl)

  -- it ends
  pub least_ends : (entries : List TableEntry) (rest : List Row) (least : Option Failure) → Walked entries rest least → next_key entries rest ≡ None → FindsLeast (tables_of cut) rows (λ _. ⊤) least
  least_ends entries rest least walked none =
      finds_as failure_cmp (λ failure. (¬ Remains entries rest (key_in failure.place)) → Asks (tables_of cut) rows failure.reason failure.place) (λ failure. ⊤ → Asks (tables_of cut) rows failure.reason failure.place)
      (λ failure asked _. asked (none_left entries rest none (key_in failure.place)))
      (λ failure asked _. asked tt)
      least walked.finds

  module _ (entries : List TableEntry) (rest : List Row) (least : Option Failure) (walked : Walked entries rest least) (key : Key) (is : next_key entries rest ≡ Some key) where
    next : IsNext entries rest key
    next = groups.next cut rows entries rest walked.stands key is

    one_in_order : first_disordered (take (rows_about key rest) rest) ≡ None
    one_in_order = of_few rest where
      of_few : (all : List Row) → first_disordered (take (rows_about key all) all) ≡ None
      of_few [] = refl
      of_few (row ∷ more) = cases (is_eq (key_cmp (key_of row) key)) where
        cases : (b : Bool) → first_disordered (take (cond b 1 0) (row ∷ more)) ≡ None
        cases true = refl
        cases false = refl

    abbrev Left : Key → Type 0
    Left other = Remains (drop (count_at key entries) entries) (drop (rows_about key rest) rest) other

    module _ (in_order : first_disordered rows ≡ None) (here : Option Failure) (found : FindsLeast (tables_of cut) (take (rows_about key rest) rest) (λ k. k ≡ key) here) where
      Asked : Failure → Type 0
      Asked failure = Asks (tables_of cut) rows failure.reason failure.place

      here_among : FindsLeast (tables_of cut) rows (λ k. k ≡ key) here
      here_among = found_among (tables_of cut) (take (rows_about key rest) rest) rows one_in_order in_order key (rows_are cut rows entries rest walked.stands key is) here found

      is_there : (failure : Failure) → here ≡ Some failure → key_in failure.place ≡ key
      is_there failure some = fails_there (tables_of cut) rows key failure (subst (FindsLeast (tables_of cut) rows (λ k. k ≡ key)) some here_among)

      both_found : FindsLeast (tables_of cut) rows (λ other. ¬ Left other) (lesser failure_cmp least here)
      unfolding Asked
      both_found =
          finds_as failure_cmp
          (λ failure. ((¬ Remains entries rest (key_in failure.place)) → Asked failure) × (key_in failure.place ≡ key → Asked failure))
          (λ failure. (¬ Left (key_in failure.place)) → Asked failure)
          (λ failure both not.
          ⊎_elim
          (λ same. both.1 same)
          (λ apart. both.0 (λ remains. ⊎_elim (λ left. not left) (λ same. apart same) (left_or_here entries rest key walked.stands.order walked.stands.rise next (key_in failure.place) remains)))
          (same_or_not (key_in failure.place) key))
          (λ failure asked. (
            λ gone. asked (λ left. gone (was_left entries rest key walked.stands.order walked.stands.rise next (key_in failure.place) left)),
            λ same. asked (λ left. not_left entries rest key walked.stands.order walked.stands.rise next (subst Left same left)),
          ))
          (lesser failure_cmp least here)
          (lesser_finds failure_cmp failure_total
          (λ failure. (¬ Remains entries rest (key_in failure.place)) → Asked failure)
          (λ failure. key_in failure.place ≡ key → Asked failure)
          least here walked.finds here_among)

      under_here : (one other : Failure) → least ≡ Some one → here ≡ Some other → IsUnder (key_in one.place) (key_in other.place)
      under_here one other was now = subst (IsUnder (key_in one.place)) (sym (is_there other now)) (walked.below one was key next.remains)

      below_left : (b : Bool) (failure : Failure) → cond b here least ≡ Some failure → (other : Key) → Left other → IsUnder (key_in failure.place) other
      below_left true failure some other left = subst (λ k. IsUnder k other) (sym (is_there failure some)) (left_above entries rest key walked.stands.order walked.stands.rise next other left)
      below_left false failure some other left = walked.below failure some other (was_left entries rest key walked.stands.order walked.stands.rise next other left)

      -- it goes on
      pub least_goes_on : Walked (drop (count_at key entries) entries) (drop (rows_about key rest) rest) (cond (replaces here least) here least)
      least_goes_on = record {
        stands = stands_afterwards cut rows entries rest walked.stands key is;
        finds = subst (FindsLeast (tables_of cut) rows (λ other. ¬ Left other)) (sym (replaced_is_lesser here least under_here)) both_found;
        below = below_left (replaces here least);
      }

-- ---- the verdict
module _ (t : Tables) (rows : List Row) where
  pub least_is_first : (failure : Failure) → FindsLeast t rows (λ _. ⊤) (Some failure) → IsFirstFault t rows failure.reason failure.place
  least_is_first failure first = record {
    fails = λ asked. first.fails (λ _. asked);
    least = λ reason any less. first.before (record { reason = reason; place = any }) (ap (λ o. ordering_then o (place_cmp any failure.place)) (less_by_order (number_of reason) (number_of failure.reason) less)) tt;
    first = λ earlier less.
        first.before (record { reason = failure.reason; place = earlier })
        (ap (λ o. ordering_then o (place_cmp earlier failure.place)) (tied_itself nat_cmp_total (number_of failure.reason)) ∙ less) tt;
  }

  pub none_is_settled : SettledIsFaultless → FindsLeast t rows (λ _. ⊤) None → IsSettled t rows
  none_is_settled faultless none = (faultless t rows).1 (λ reason place. none (record { reason = reason; place = place }) tt)

-- ---- the walk by its places
module _ (cut : CutParts) (rows : List Row) (table : List TableEntry) (at place : ℕ) (least : Option Failure) (walked : Walked cut rows (drop at table) (drop place rows) least) (key : Key) (is : next_key (drop at table) (drop place rows) ≡ Some key) where
  module _ (n m : ℕ) (held : n ≡ count_at key (drop at table)) (about : m ≡ rows_about key (drop place rows)) where
    pub goes_on_at : first_disordered rows ≡ None → (lines : List Row) → lines ≡ take (rows_about key (drop place rows)) (drop place rows) → (here : Option Failure) → FindsLeast (tables_of cut) lines (λ k. k ≡ key) here → (now : Option Failure) → now ≡ cond (replaces here least) here least → Walked cut rows (drop (at + n) table) (drop (place + m) rows) now
    goes_on_at in_order lines front here found now chosen =
        subst (λ (entries : List TableEntry). Walked cut rows entries (drop (place + m) rows) now) (sym (table_left cut rows table at place walked.stands key is n m held about))
        (subst (λ (rest : List Row). Walked cut rows (drop (count_at key (drop at table)) (drop at table)) rest now) (sym (rows_left_at cut rows table at place walked.stands key is n m held about))
        (subst (Walked cut rows (drop (count_at key (drop at table)) (drop at table)) (drop (rows_about key (drop place rows)) (drop place rows))) (sym chosen)
        (least_goes_on cut rows (drop at table) (drop place rows) least walked key is in_order here
        (subst (λ (all : List Row). FindsLeast (tables_of cut) all (λ k. k ≡ key) here) front found))))
