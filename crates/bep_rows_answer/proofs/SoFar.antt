-- What is known once one more line was taken, and after all.
use Rattle.std.proofs.Common.{◌≡◌, ◌∙◌, ◌||◌, ℕ, List, [], ◌∷◌, ◌++◌, Option, Some, None, Bool, true, false, Contains, refl, sym, ap, subst, ⊎_elim}
use Rattle.std.specs.Prelude.{◌==◌, ◌&&◌, not, if◌then◌else◌, length, is_some}
use Rattle.std.specs.List.{concat, list_any}
use Rattle.std.proofs.lemmas.Bool.{eqb-true}
use Rattle.std.proofs.lemmas.List.{append-nil, nil_from_length}
use Rattle.std.proofs.lemmas.List.Concat.{concat_is}
use Rattle.std.proofs.lemmas.List.Folds.{concat-append}
use Rattle.bep_document.proofs.BoolFacts.{both_true}
use Rattle.bep_cut_document.specs.Written.{cut_of_document}
use Rattle.bep_document.specs.Fault.{nowhere}
use Rattle.bep_document.specs.Reading.{Reading, Read, Refused, ◌>>=◌}
use Rattle.bep_document.specs.declared.fault.Fault.TheVariants.{Shape}
use Rattle.bep_facts.specs.Members.{not_in_none, Contains-cons_cases}
use Rattle.bep_json.specs.declared.version.DocVersion.{DocVersion}
use Rattle.bep_row.specs.Fits.{AreQuiet, Fits, IsQuiet}
use Rattle.bep_row.specs.declared.row.NameRow.{NameRow}
use Rattle.bep_row_document.specs.Faults.{Last}
use Rattle.bep_row_document.specs.Reading.{reading_of_row}
use Rattle.bep_rows.specs.AllRows.{key_of_row}
use Rattle.bep_tables.specs.declared.cut.CutParts.{CutParts}
use Rattle.bep_tables.specs.declared.link.LinkState.{LinkState}
use Rattle.bep_rows_answer.specs.Auditor.{last_of}
use Rattle.bep_rows_answer.specs.Header.{bare, has_names, reading_of_header, share_has_names}
use Rattle.bep_rows_answer.specs.Rows.{IsHeading, IsTaken}
use Rattle.bep_rows_answer.specs.Stream.{AreAnswered, AreRead, IsSoFar, IsWholeAnswer, all_lines}
use Rattle.bep_rows_answer.specs.inner.Answered.{AreGiven, AreGivenRows, EndsOf, KnowsOf, TellsOf}
use Rattle.bep_rows_answer.specs.declared.outcome.RowsOutcome.{RowsOutcome}
use Rattle.bep_rows_answer.specs.declared.rows.Rows.{Rows}
use Rattle.bep_rows_answer.proofs.MoreRows.{last_more, zip_more}

first_false : (a b : Bool) → (a || b) ≡ false → a ≡ false
first_false true b e = e
first_false false b e = refl

second_false : (a b : Bool) → (a || b) ≡ false → b ≡ false
second_false true b e = absurd (cc)
second_false false b e = e

-- ---- lists with one more

read_more : (version : DocVersion) (header : CutParts) (last : Last) (lines : List (List ℕ)) (rows : List NameRow) (line : List ℕ) (row : NameRow) → AreRead version header last lines rows
    → reading_of_row version header (last_of last rows) line ≡ Read row → Fits header row → AreRead version header last (lines ++ line ∷ []) (rows ++ row ∷ [])
read_more version header last [] [] line row are is fits = (is, fits, tt)
read_more version header last [] (first ∷ rows) line row are is fits = absurd are
read_more version header last (front ∷ lines) [] line row are is fits = absurd are
read_more version header last (front ∷ lines) (first ∷ rows) line row are is fits = (are.0, are.1, read_more version header (Some (key_of_row first)) lines rows line row are.2 is fits)

concat_more : (answers : List (List ℕ)) (answer : List ℕ) → concat answers ++ answer ≡ concat (answers ++ answer ∷ [])
concat_more answers answer = sym (concat-append answers (answer ∷ []) ∙ ap (λ rest. concat answers ++ rest) (concat_is (answer ∷ []) ∙ append-nil answer))

-- ---- one more line

module _ {A : Type 0} (Tells : TellsOf A) (Knows : KnowsOf A) where
  pub header_taken : (asked before after : A) (line : List ℕ) (rows : Rows) → IsHeading line rows → Knows before rows.header [] after →
      (lines : List (List ℕ)) (text more : List ℕ) → more ≡ [] → AreGiven Tells Knows asked lines text None before → AreGiven Tells Knows asked (lines ++ line ∷ []) (text ++ more) (Some rows) after
  header_taken asked before after line rows heading knows lines text more nothing (none, empty, same) = record {
    rows = [];
    answered = record {
      heading = line;
      row_lines = [];
      are = ap (λ front. front ++ line ∷ []) none;
      says = heading.says;
      read = tt;
      answers = [];
      told = tt;
      written = ap (λ front. front ++ more) empty ∙ nothing;
    };
    last = heading.no_last;
    known = subst (λ (a : A). Knows a rows.header [] after) same knows;
  }

  module _ (asked before after : A) (line : List ℕ) (row : NameRow) (more : List ℕ) (old new : Rows) (taken : IsTaken line row old new) (lines : List (List ℕ)) (text : List ℕ) (given : AreGivenRows Tells Knows asked lines text old before) (tells : Tells asked old.header row more) (knows : Knows asked old.header (given.rows ++ row ∷ []) after) where
    abbrev rows : List NameRow
    rows = given.rows ++ row ∷ []

    answered_more : AreAnswered (Tells asked) (lines ++ line ∷ []) (text ++ more) old.version old.header rows
    answered_more = record {
      heading = given.answered.heading;
      row_lines = given.answered.row_lines ++ line ∷ [];
      are = ap (λ front. front ++ line ∷ []) given.answered.are;
      says = given.answered.says;
      read =
          read_more old.version old.header None given.answered.row_lines given.rows line row given.answered.read
          (subst (λ (last : Last). reading_of_row old.version old.header last line ≡ Read row) given.last taken.read) taken.fits;
      answers = given.answered.answers ++ more ∷ [];
      told = zip_more (Tells asked old.header) given.rows given.answered.answers row more given.answered.told tells;
      written = ap (λ front. front ++ more) given.answered.written ∙ concat_more given.answered.answers more;
    }

    pub row_taken : AreGivenRows Tells Knows asked (lines ++ line ∷ []) (text ++ more) new after
    row_taken = record {
      rows = rows;
      answered =
          subst (λ (version : DocVersion). AreAnswered (Tells asked) (lines ++ line ∷ []) (text ++ more) version new.header rows) (sym taken.version)
          (subst (λ (header : CutParts). AreAnswered (Tells asked) (lines ++ line ∷ []) (text ++ more) old.version header rows) (sym taken.header) answered_more);
      last = taken.last ∙ sym (last_more None given.rows row);
      known = subst (λ (header : CutParts). Knows asked header rows after) (sym taken.header) knows;
    }

  -- ---- the end

  -- all lines, where the last has no end
  pub all_is_more : (asked auditor : A) (lines : List (List ℕ)) (line : List ℕ) (text : List ℕ) (state : Option Rows) → AreGiven Tells Knows asked lines text state auditor → ((length line == 0) && is_some state) ≡ false → all_lines lines line ≡ lines ++ line ∷ []
  all_is_more asked auditor [] line text state given more = refl
  all_is_more asked auditor (first ∷ lines) [] text None given more = absurd (let e : ◌≡◌ {A = List (List ℕ)} (first ∷ lines) [] = given.0 in cc)
  all_is_more asked auditor (first ∷ lines) [] text (Some rows) given more = absurd (cc)
  all_is_more asked auditor (first ∷ lines) (byte ∷ line) text state given more = refl

  -- all lines, where nothing comes behind the last
  pub all_are_there : (asked auditor : A) (lines : List (List ℕ)) (text : List ℕ) (rows : Rows) → AreGivenRows Tells Knows asked lines text rows auditor → all_lines lines [] ≡ lines
  all_are_there asked auditor [] text rows given = absurd (let e : ◌≡◌ {A = List (List ℕ)} [] (given.answered.heading ∷ given.answered.row_lines) = given.answered.are in cc)
  all_are_there asked auditor (first ∷ lines) text rows given = refl

  -- what was answered so far, whatever the auditor knows
  pub so_far : (asked auditor : A) (lines : List (List ℕ)) (text : List ℕ) (state : Option Rows) → AreGiven Tells Knows asked lines text state auditor → IsSoFar (Tells asked) lines text state
  so_far asked auditor lines text None given = (given.0, given.1)
  so_far asked auditor lines text (Some state) given = record { rows = given.rows; answered = given.answered; last = given.last }

-- a header that is read has no messages on their way
quiet_links : (links : List LinkState) → list_any (λ link. not ((length link.to_a == 0) && (length link.to_b == 0))) links ≡ false → AreQuiet links
quiet_links [] none link member = absurd (not_in_none link member)
quiet_links (first ∷ links) none link member =
    ⊎_elim
    (λ same. subst IsQuiet same (both_empty first.to_a first.to_b (first_false _ _ none)))
    (λ later. quiet_links links (second_false (not ((length first.to_a == 0) && (length first.to_b == 0))) _ none) link later)
    (Contains-cons_cases first links link member)
  where
    is_true : (b : Bool) → not b ≡ false → b ≡ true
    is_true true e = refl
    is_true false e = absurd (cc)

    both_empty : {X : Type 0} (xs ys : List X) → not ((length xs == 0) && (length ys == 0)) ≡ false → (xs ≡ []) × (ys ≡ [])
    both_empty xs ys e =
        let both = both_true (length xs == 0) (length ys == 0) (is_true _ e) in
        (nil_from_length xs (eqb-true (length xs) 0 both.0), nil_from_length ys (eqb-true (length ys) 0 both.1))

pub header_is_quiet : (line : List ℕ) (version : DocVersion) (header : CutParts) → reading_of_header line ≡ Read (version, header) → AreQuiet header.links
unfolding reading_of_header
header_is_quiet line version header is = cases (cut_of_document line) is
  where
    bare_quiet : (said : DocVersion × CutParts) (b : Bool) → has_names said.1 ≡ b → (if b then Refused (nowhere Shape) else Read said) ≡ Read (version, header) → AreQuiet header.links
    bare_quiet said true has e = absurd (cc)
    bare_quiet said false has e =
        let same : said ≡ (version, header) = cc in
        subst (λ (one : DocVersion × CutParts). AreQuiet one.1.links) same (quiet_links said.1.links (second_false (list_any (λ shared. list_any share_has_names shared.shares) said.1.folders) _ has))

    cases : (reading : Reading (DocVersion × CutParts)) → (reading >>= bare) ≡ Read (version, header) → AreQuiet header.links
    cases (Read said) e = bare_quiet said (has_names said.1) refl e
    cases (Refused fault) e = absurd (cc)

-- ---- the end of all

pub whole_answer : {A : Type 0} (Tells : TellsOf A) (Ends : EndsOf A) (Knows : KnowsOf A) (asked auditor : A) (state : Rows) (lines : List (List ℕ)) (text more : List ℕ) (outcome : RowsOutcome) → AreGivenRows Tells Knows asked lines text state auditor
    → ((header : CutParts) (rows : List NameRow) → AreQuiet header.links → Knows asked header rows auditor → Ends asked header rows outcome more) → IsWholeAnswer (Tells asked) (Ends asked) lines outcome (text ++ more)
whole_answer Tells Ends Knows asked auditor state lines text more outcome given ends = record {
  version = state.version;
  header = state.header;
  rows = given.rows;
  so_far = text;
  answered = given.answered;
  last = more;
  ends = ends state.header given.rows (header_is_quiet given.answered.heading state.version state.header given.answered.says) given.known;
  written = refl;
}
