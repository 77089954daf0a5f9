-- What is known once the first rows of a list were read.
use Rattle.std.proofs.Common.{◌≡◌, ◌≢◌, Bool, true, false, List, [], ◌∷◌, ◌++◌, map, Contains, Option, Some, refl, sym, ap, subst, inl, inr, ⊎_elim}
use Rattle.std.specs.Prelude.{if◌then◌else◌}
use Rattle.std.specs.Ordering.{is_eq}
use Rattle.std.specs.Cmp.{Equal-is}
use Rattle.std.specs.declared.cmp.Ordering.TheVariants.{Less}
use Rattle.std.proofs.lemmas.Cmp.{tied_itself}
use Rattle.std.proofs.lemmas.List.Elements.{Contains-append_left, Contains-push, Contains-push_cases}
use Rattle.bep_facts.specs.Members.{not_in_none, Contains-first, Contains-more}
use Rattle.bep_facts.specs.Orders.{texts_total, texts_exact, not_less_itself}
use Rattle.bep_model.specs.Settled.{key_cmp}
use Rattle.bep_model.specs.Tables.{Tables, Folder, FileName}
use Rattle.bep_row.specs.Fits.{AreQuiet}
use Rattle.bep_row.specs.declared.row.NameRow.{NameRow}
use Rattle.bep_tables.specs.Cut.{tables_of}
use Rattle.bep_tables.specs.declared.cut.CutParts.{CutParts}
use Rattle.bep_rows.specs.declared.aim.Aim.{Aim}
use Rattle.bep_rows.specs.declared.stream.Stream.{Stream}
use Rattle.bep_rows.specs.AllRows.{NamesAreOfRows, NamesDiffer, RowsAreOfTheirCut, cut_by, key_of_row}
use Rattle.bep_rows.specs.Names.{IsAbove, IsUpTo, Key, among, is_name}
use Rattle.bep_rows.specs.Row.{IsRowOf}
use Rattle.bep_rows.specs.Standing.{IsStanding}
use Rattle.bep_rows.specs.Stream.{IsReadTo}
use Rattle.bep_rows.specs.ListRead.{IsListRead}
use Rattle.bep_rows.proofs.Reading.{all_read, in_first, up_to_below}
use Rattle.bep_rows.proofs.ThreeParts.{ByParts}

-- one more, of another name than all
pub differ_more : (rows : List NameRow) (row : NameRow) → NamesDiffer rows → ((one : NameRow) → Contains rows one → key_of_row one ≢ key_of_row row) → NamesDiffer (rows ++ row ∷ [])
differ_more [] row differ apart = (λ other member. absurd (not_in_none other member), tt)
differ_more (first ∷ rows) row differ apart = (
  λ other member.
      ⊎_elim
      (differ.0 other)
      (λ same. subst (λ (one : NameRow). key_of_row first ≢ key_of_row one) same (apart first (Contains-first first rows)))
      (Contains-push_cases rows row other member),
  differ_more rows row differ.1 (λ one member. apart one (Contains-more first rows one member)),
)

module _ (aim : Aim) (header : CutParts) where
  pub none_is_read : (stream : Stream) → ((t : Tables) → IsReadTo aim t [] stream) → IsListRead aim header [] stream
  none_is_read stream read = record {
    differ = tt;
    up_to = λ row member. absurd (not_in_none row member);
    read = λ whole of. ([], (λ row member. absurd (not_in_none row member)), read (tables_of whole));
  }

  -- what a stream that takes the answer to a row promises
  abbrev Takes : NameRow → Stream → Stream → Type 0
  Takes row old new = (whole : CutParts) → IsRowOf whole header row → (keys : List Key) → IsReadTo aim (tables_of whole) keys old → IsReadTo aim (tables_of whole) (key_of_row row ∷ keys) new

  pub one_more_is_read : (rows : List NameRow) (row : NameRow) (old new : Stream) → IsListRead aim header rows old → IsAbove (key_of_row row) old.last → new.last ≡ Some (key_of_row row) → Takes row old new → IsListRead aim header (rows ++ row ∷ []) new
  one_more_is_read rows row old new so_far above last takes =
      let below = λ (one : NameRow) (member : Contains rows one). up_to_below old.last (key_of_row row) (key_of_row one) above (so_far.up_to one member) in
      record {
        differ = differ_more rows row so_far.differ (λ one member same. not_less_itself texts_total (key_of_row row) (subst (λ (k : Key). key_cmp k (key_of_row row) ≡ Less) same (below one member)));
        up_to = λ one member.
            subst (λ (l : Option Key). IsUpTo l (key_of_row one)) (sym last)
            (⊎_elim (λ before. inr (below one before)) (λ same. inl (ap key_of_row same)) (Contains-push_cases rows row one member));
        read = λ whole of.
            let before = so_far.read whole (λ one member. of one (Contains-append_left rows (row ∷ []) one member)) in (
              key_of_row row ∷ before.0,
              λ one member.
                  ⊎_elim
                  (λ earlier. in_first (among before.0 one.folder one.name) (is_name (key_of_row row) one.folder one.name) (before.1 one earlier))
                  (λ same. subst (λ (r : NameRow). among (key_of_row row ∷ before.0) r.folder r.name ≡ true) same (its_own before.0))
                  (Contains-push_cases rows row one member),
              takes whole (of row (Contains-push rows row)) before.0 before.2,
            );
      }
    where
      its_own : (keys : List Key) → among (key_of_row row ∷ keys) row.folder row.name ≡ true
      its_own keys = in_second_too (among keys row.folder row.name) (ap is_eq (tied_itself texts_total (key_of_row row)))
        where
          in_second_too : (b : Bool) → is_name (key_of_row row) row.folder row.name ≡ true → (if b then true else is_name (key_of_row row) row.folder row.name) ≡ true
          in_second_too true is = refl
          in_second_too false is = is

  -- a name among those of rows is some row's
  of_some_row : (rows : List NameRow) (folder : Folder) (name : FileName) → among (map key_of_row rows) folder name ≡ true → (row : NameRow) × Contains rows row × (key_of_row row ≡ (folder, name))
  of_some_row [] folder name is = absurd (cc)
  of_some_row (first ∷ rows) folder name is = cases (among (map key_of_row rows) folder name) refl is (of_some_row rows folder name)
    where
      cases : (b : Bool) → among (map key_of_row rows) folder name ≡ b → (if b then true else is_name (key_of_row first) folder name) ≡ true → (among (map key_of_row rows) folder name ≡ true → (row : NameRow) × Contains rows row × (key_of_row row ≡ (folder, name))) →
          (row : NameRow) × Contains (first ∷ rows) row × (key_of_row row ≡ (folder, name))
      cases true later is rest = let found = rest later in (found.0, Contains-more first rows found.0 found.1, found.2)
      cases false not is rest = (first, Contains-first first rows, texts_exact (key_of_row first) (folder, name) ((Equal-is _).0 is))

  pub whole_list_is_read : ByParts → RowsAreOfTheirCut → NamesAreOfRows → AreQuiet header.links → (rows : List NameRow) (stream : Stream) → IsListRead aim header rows stream → IsStanding aim (tables_of (cut_by header rows)) stream.standing
  whole_list_is_read by_parts of_cut names quiet rows stream read =
      let found = read.read (cut_by header rows) (λ row member. of_cut header rows row quiet read.differ member) in
      all_read aim (tables_of (cut_by header rows)) by_parts found.0 stream found.2
      (λ folder name known.
      let from = of_some_row rows folder name (names header rows quiet folder name known) in
      subst (λ (k : Key). among found.0 k.0 k.1 ≡ true) from.2 (found.1 from.0 from.1))
