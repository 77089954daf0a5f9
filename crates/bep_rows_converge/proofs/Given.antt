-- What is known of rows once one more was given, and after all.
use Rattle.std.proofs.Common.{◌≡◌, ◌≢◌, ◌⊎◌, ◌∙◌, Bool, true, false, List, [], ◌∷◌, ◌++◌, map, Contains, Option, None, Some, refl, sym, ap, subst, inl, inr, ⊎_elim}
use Rattle.std.specs.Prelude.{if◌then◌else◌}
use Rattle.std.specs.List.{AllZip}
use Rattle.std.specs.declared.cmp.Ordering.TheVariants.{Less}
use Rattle.std.proofs.lemmas.List.Elements.{Contains-append_left, Contains-push, Contains-push_cases}
use Rattle.bep_converge.specs.ConvergeVerdict as verdicts
use Rattle.bep_converge_check.specs.Progress.{IsProgress, Progress}
use Rattle.bep_converge_parts.specs.FirstVerdict.{ConvergeComesUpTo, ConvergeJudged, IsFirstConvergeVerdict}
use Rattle.bep_converge_parts.specs.Laws.{ConvergeVerdictByParts}
use Rattle.bep_facts.specs.Members.{not_in_none, Contains-cons_cases, Contains-first, Contains-more}
use Rattle.bep_facts.specs.Orders.{texts_total, not_less_itself}
use Rattle.bep_model.specs.Foreign.{IsKnown}
use Rattle.bep_model.specs.Settled.{key_cmp}
use Rattle.bep_model.specs.Tables.{Tables, Folder, FileName}
use Rattle.bep_parts.specs.Parts.{IsInSome, Keeps, only}
use Rattle.bep_parts.proofs.OnlyFacts.{known_kept}
use Rattle.bep_row.specs.Fits.{AreQuiet}
use Rattle.bep_row.specs.declared.row.NameRow.{NameRow}
use Rattle.bep_rows.specs.AllRows.{NamesAreOfRows, RowsAreOfTheirCut, cut_by, key_of_row}
use Rattle.bep_rows.specs.Names.{IsUpTo, Key, among, is_name, nowhere}
use Rattle.bep_rows.specs.Row.{IsRowOf}
use Rattle.bep_rows.proofs.ListRead.{differ_more}
use Rattle.bep_rows.proofs.Reading.{up_to_below}
use Rattle.bep_rows_answer.specs.Auditor.{IsNextRow, last_of}
use Rattle.bep_rows_answer.proofs.MoreRows.{last_more, zip_more}
use Rattle.bep_tables.specs.Cut.{tables_of}
use Rattle.bep_tables.specs.declared.cut.CutParts.{CutParts}
use Rattle.bep_rows_converge.specs.Converging.{ComesUpToThat, IsAmong, IsProgressOf, IsVerdictOn, KnowsHindrances}
use Rattle.bep_rows_converge.specs.Pairs.{no_pairs, pairs_after, with_more}
use Rattle.bep_rows_converge.specs.Standing.{joined, verdict_of}
use Rattle.bep_rows_converge.specs.declared.converging.Converging.{Converging}
use Rattle.bep_rows_converge.specs.declared.pairs.FolderPairs.{FolderPairs}
use Rattle.bep_rows_converge.specs.declared.standing.ConvergeStanding.{ConvergeStanding}
use Rattle.bep_rows_converge.proofs.Order.{itself, joined_is, joined_up_to, verdicts_up_to}

pairs_more : (progress : List Progress) (here : Progress) (all : List FolderPairs) → pairs_after (progress ++ here ∷ []) all ≡ map (with_more here) (pairs_after progress all)
pairs_more [] here all = refl
pairs_more (first ∷ progress) here all = pairs_more progress here (map (with_more first) all)

-- ---- one more

module _ (header : CutParts) (rows : List NameRow) (row : NameRow) (next : IsNextRow rows row) (old new : Converging) (known : KnowsHindrances header rows old) where
  below : (one : NameRow) → Contains rows one → key_cmp (key_of_row one) (key_of_row row) ≡ Less
  below one member = up_to_below (last_of None rows) (key_of_row row) (key_of_row one) next (known.up_to one member)

  up_to_more : (one : NameRow) → Contains (rows ++ row ∷ []) one → IsUpTo (last_of None (rows ++ row ∷ [])) (key_of_row one)
  up_to_more one member =
      subst (λ (l : Option Key). IsUpTo l (key_of_row one)) (sym (last_more None rows row))
      (⊎_elim (λ before. inr (below one before)) (λ same. inl (ap key_of_row same)) (Contains-push_cases rows row one member))

  module _ (here : ConvergeStanding) (judged : IsVerdictOn header row (verdict_of here)) (is : new.standing ≡ joined old.standing here) where
    among_more : IsAmong header (rows ++ row ∷ []) (verdict_of (joined old.standing here))
    among_more =
        ⊎_elim
        (λ same.
        subst (λ (s : ConvergeStanding). IsAmong header (rows ++ row ∷ []) (verdict_of s)) (sym same)
        (⊎_elim (λ none. inl none) (λ some. inr (some.0, earlier some.0 some.1, some.2)) known.among))
        (λ same. subst (λ (s : ConvergeStanding). IsAmong header (rows ++ row ∷ []) (verdict_of s)) (sym same) (inr (row, Contains-push rows row, judged)))
        (joined_is old.standing here)
      where
        earlier : (one : NameRow) → Contains rows one → Contains (rows ++ row ∷ []) one
        earlier one member = Contains-append_left rows (row ∷ []) one member

    first_more : (one : NameRow) → Contains (rows ++ row ∷ []) one → ComesUpToThat header one (verdict_of (joined old.standing here))
    first_more one member =
        ⊎_elim
        (λ before.
        let that = known.first one before in
        (that.0, that.1, verdicts_up_to (verdict_of (joined old.standing here)) (verdict_of old.standing) that.0 (joined_up_to old.standing here).0 that.2))
        (λ same. subst (λ (r : NameRow). ComesUpToThat header r (verdict_of (joined old.standing here))) same (verdict_of here, judged, (joined_up_to old.standing here).1))
        (Contains-push_cases rows row one member)

    pub one_more_known : (progress : Progress) → IsProgressOf header row progress → new.pairs ≡ map (with_more progress) old.pairs → KnowsHindrances header (rows ++ row ∷ []) new
    one_more_known progress has_come pairs = record {
      differ =
          differ_more rows row known.differ
          (λ one member same. not_less_itself texts_total (key_of_row row) (subst (λ (k : Key). key_cmp k (key_of_row row) ≡ Less) same (below one member)));
      up_to = up_to_more;
      among = subst (λ (s : ConvergeStanding). IsAmong header (rows ++ row ∷ []) (verdict_of s)) (sym is) among_more;
      first = λ one member. subst (λ (s : ConvergeStanding). ComesUpToThat header one (verdict_of s)) (sym is) (first_more one member);
      progress = known.progress ++ progress ∷ [];
      counted = zip_more (IsProgressOf header) rows known.progress row progress known.counted has_come;
      pairs = pairs ∙ ap (map (with_more progress)) known.pairs ∙ sym (pairs_more known.progress progress (map no_pairs header.folders));
    }

-- ---- all

module _ (header : CutParts) (verdict : verdicts.ConvergeVerdict) where
  abbrev First : List NameRow → Type 0
  First rows = (row : NameRow) → Contains rows row → ComesUpToThat header row verdict

  later : (row : NameRow) (rows : List NameRow) → First (row ∷ rows) → First rows
  later row rows first one member = first one (Contains-more row rows one member)

  -- a part for each row, with the verdict on it
  parts : (rows : List NameRow) → First rows → List ConvergeJudged
  parts [] first = []
  parts (row ∷ rows) first = record { keeps = is_name (key_of_row row); verdict = (first row (Contains-first row rows)).0 } ∷ parts rows (later row rows first)

  -- of which row a part is
  record IsPartOf (rows : List NameRow) (part : ConvergeJudged) : Type 0 where
    row : NameRow
    member : Contains rows row
    keeps : part.keeps ≡ is_name (key_of_row row)
    judged : IsVerdictOn header row part.verdict
    up_to : ConvergeComesUpTo verdict part.verdict

  part_is : (rows : List NameRow) (first : First rows) (part : ConvergeJudged) → Contains (parts rows first) part → IsPartOf rows part
  unfolding parts
  part_is [] first part member = absurd (not_in_none part member)
  part_is (row ∷ rows) first part member =
      ⊎_elim
      (λ same.
      subst (IsPartOf (row ∷ rows)) same
      (record {
        row = row;
        member = Contains-first row rows;
        keeps = refl;
        judged = (first row (Contains-first row rows)).1;
        up_to = (first row (Contains-first row rows)).2;
      }))
      (λ more.
      let rest = part_is rows (later row rows first) part more in
      record { row = rest.row; member = Contains-more row rows rest.row rest.member; keeps = rest.keeps; judged = rest.judged; up_to = rest.up_to })
      (Contains-cons_cases (record { keeps = is_name (key_of_row row); verdict = (first row (Contains-first row rows)).0 }) (parts rows (later row rows first)) part member)

  abbrev keeps_of : List ConvergeJudged → List Keeps
  keeps_of = map (λ part. part.keeps)

  -- a name among those of the rows is in some part
  in_some : (rows : List NameRow) (first : First rows) (folder : Folder) (name : FileName) → among (map key_of_row rows) folder name ≡ true → IsInSome (keeps_of (parts rows first)) folder name
  unfolding parts
  in_some [] first folder name is = absurd (cc)
  in_some (row ∷ rows) first folder name is = cases (among (map key_of_row rows) folder name) refl is (in_some rows (later row rows first) folder name)
    where
      here : Keeps
      here = is_name (key_of_row row)

      cases : (b : Bool) → among (map key_of_row rows) folder name ≡ b → (if b then true else is_name (key_of_row row) folder name) ≡ true → (among (map key_of_row rows) folder name ≡ true → IsInSome (keeps_of (parts rows (later row rows first))) folder name) →
          IsInSome (is_name (key_of_row row) ∷ keeps_of (parts rows (later row rows first))) folder name
      cases true before some rest =
          let found = rest before in
          (found.0, Contains-more (is_name (key_of_row row)) (keeps_of (parts rows (later row rows first))) found.0 found.1, found.2)
      cases false not now rest = (is_name (key_of_row row), Contains-first (is_name (key_of_row row)) (keeps_of (parts rows (later row rows first))), now)

  -- the part that has the verdict: that of some row, or one without names
  lead : (rows : List NameRow) → IsAmong header rows verdict → ConvergeJudged
  lead rows (inl none) = record { keeps = nowhere; verdict = verdicts.Converging }
  lead rows (inr some) = record { keeps = is_name (key_of_row some.0); verdict = verdict }

  lead_is : (rows : List NameRow) (some : IsAmong header rows verdict) → (lead rows some).verdict ≡ verdict
  unfolding lead
  lead_is rows (inl none) = sym none
  lead_is rows (inr some) = refl

  module _ (rows : List NameRow) (of_rows : (row : NameRow) → Contains rows row → IsRowOf (cut_by header rows) header row) where
    abbrev whole : Tables
    whole = tables_of (cut_by header rows)

    lead_judged : (some : IsAmong header rows verdict) → verdicts.IsConvergeVerdict (only (lead rows some).keeps whole) (lead rows some).verdict
    unfolding lead
    lead_judged (inl none) = λ folder name known. let e = known_kept nowhere whole folder name known in absurd (cc)
    lead_judged (inr some) = some.2 (cut_by header rows) (of_rows some.0 some.1)

    part_judged : (part : ConvergeJudged) → IsPartOf rows part → verdicts.IsConvergeVerdict (only part.keeps whole) part.verdict
    part_judged part is =
        subst (λ (k : Keeps). verdicts.IsConvergeVerdict (only k whole) part.verdict) (sym is.keeps)
        (is.judged (cut_by header rows) (of_rows is.row is.member))

    all_judged : ConvergeVerdictByParts → ((folder : Folder) (name : FileName) → IsKnown whole folder name → among (map key_of_row rows) folder name ≡ true) → IsAmong header rows verdict → First rows → verdicts.IsConvergeVerdict whole verdict
    all_judged by_parts names some first =
        by_parts whole (lead rows some ∷ parts rows first) verdict
        (λ folder name known.
        let found = in_some rows first folder name (names folder name known) in
        (found.0, Contains-more (lead rows some).keeps (keeps_of (parts rows first)) found.0 found.1, found.2))
        (λ part member.
        ⊎_elim
        (λ same. subst (λ (p : ConvergeJudged). verdicts.IsConvergeVerdict (only p.keeps whole) p.verdict) same (lead_judged some))
        (λ more. part_judged part (part_is rows first part more))
        (Contains-cons_cases (lead rows some) (parts rows first) part member))
        (record {
          among = (lead rows some, Contains-first (lead rows some) (parts rows first), lead_is rows some);
          first = λ part member.
              ⊎_elim
              (λ same. subst (λ (p : ConvergeJudged). ConvergeComesUpTo verdict p.verdict) same (subst (ConvergeComesUpTo verdict) (sym (lead_is rows some)) (itself verdict)))
              (λ more. (part_is rows first part more).up_to)
              (Contains-cons_cases (lead rows some) (parts rows first) part member);
        })

pub whole_verdict : ConvergeVerdictByParts → RowsAreOfTheirCut → NamesAreOfRows → (header : CutParts) (rows : List NameRow) (now : Converging) → AreQuiet header.links → KnowsHindrances header rows now → verdicts.IsConvergeVerdict (tables_of (cut_by header rows)) (verdict_of now.standing)
whole_verdict by_parts of_cut names header rows now quiet known =
    all_judged header (verdict_of now.standing) rows (λ row member. of_cut header rows row quiet known.differ member) by_parts (names header rows quiet) known.among known.first
