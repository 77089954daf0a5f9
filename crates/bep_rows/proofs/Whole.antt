-- The answer to a cut is that to two parts of it, of which one is above the other, if no other name is known.
use Rattle.std.proofs.Common.{◌≡◌, ◌⊎◌, Bool, true, false, not, List, [], ◌∷◌, ◌++◌, Contains, Option, refl, sym, ap, subst, ◌∙◌, inl, inr, ⊎_elim}
use Rattle.std.specs.Prelude.{if◌then◌else◌}
use Rattle.std.specs.Ordering.{is_lt}
use Rattle.std.specs.declared.cmp.Ordering.TheVariants.{Less}
use Rattle.std.proofs.lemmas.Bool.{cases_Bool}
use Rattle.std.proofs.lemmas.List.{append-nil}
use Rattle.std.proofs.lemmas.List.Elements.{Contains-append_left, Contains-append_right, Contains-append_cases}
use Rattle.bep_facts.specs.Members.{Contains-first, Contains-more}
use Rattle.bep_facts.specs.Orders.{texts_total, not_less_itself}
use Rattle.bep_audit.specs.Loose.{loose_cmp}
use Rattle.bep_audit.specs.Walk.{failure_cmp}
use Rattle.bep_choice.specs.Choice.{Candidate}
use Rattle.bep_model.specs.declared.firm_reason.FirmReason.{FirmReason}
use Rattle.bep_model.specs.declared.reason.Reason.{Reason}
use Rattle.bep_model.specs.declared.row.Row.{Row}
use Rattle.bep_model.specs.Tables.{Tables, Device, Folder, FileName}
use Rattle.bep_model.specs.Foreign.{IsKnown}
use Rattle.bep_model.specs.Winner.{IsWinner}
use Rattle.bep_model.specs.FirmVerdict as firm_verdicts
use Rattle.bep_model.specs.Settled.{IsListOfWinners, key_of, key_cmp}
use Rattle.bep_model.specs.Verdict as verdicts
use Rattle.bep_model.specs.WithoutWinner.{HasWinner, IsFirstWithoutWinner, IsWithoutWinner}
use Rattle.bep_parts.specs.FirstVerdict.{ComesUpTo, FirmComesUpTo}
use Rattle.bep_parts.specs.Parts.{IsInSome, Keeps, all_but, only, rows_of}
use Rattle.bep_parts.proofs.Alike.{known_there, turned, winner_there}
use Rattle.bep_parts.proofs.OnlyFacts.{known_kept, only_alike}
use Rattle.bep_rows.specs.declared.aim.Aim.{Aim}
use Rattle.bep_rows.specs.declared.aim.Aim.TheVariants as aims
use Rattle.bep_rows.specs.declared.standing.Standing.{Standing}
use Rattle.bep_rows.specs.declared.standing.Standing.TheVariants.{Met, Not, Loose, Unwon}
use Rattle.bep_rows.specs.Names.{either}
use Rattle.bep_rows.specs.Standing.{IsJudged, IsStanding, IsUnderWinners, failing, joined, loosening}
use Rattle.bep_rows.proofs.Kept.{firm_where_unknown, rise_both, rows_all_kept, rows_none_kept, rows_of_both, settled_where_unknown}
use Rattle.bep_rows.proofs.Stands.{stands}
use Rattle.bep_rows.proofs.Order.{earlier_is_up_to, itself_is_up_to, later_is_up_to, loose_rank, rank}
use Rattle.bep_rows.proofs.ThreeParts.{ByParts, ByThree, firm_by_three, settled_by_three, up_to_firm, up_to_settled}

-- all names of one part are below all of the other
abbrev pub IsBelow : Keeps → Keeps → Type 0
IsBelow lower upper = (folder : Folder) (name : FileName) (in_folder : Folder) (at_name : FileName) →
    lower folder name ≡ true → upper in_folder at_name ≡ true → key_cmp (folder, name) (in_folder, at_name) ≡ Less

-- each known name is in one of the parts
abbrev pub IsKnownIn : Tables → Keeps → Keeps → Type 0
IsKnownIn t lower upper = (folder : Folder) (name : FileName) → IsKnown t folder name → (lower folder name ≡ true) ⊎ (upper folder name ≡ true)

-- ---- a name of a part

module _ (t : Tables) (keeps : Keeps) (folder : Folder) (name : FileName) where
  kept_known : keeps folder name ≡ true → IsKnown t folder name → IsKnown (only keeps t) folder name
  kept_known kept = known_there t (only keeps t) folder name (turned (only keeps t) t folder name (only_alike keeps t folder name kept))

  was_known : IsKnown (only keeps t) folder name → IsKnown t folder name
  was_known known = known_there (only keeps t) t folder name (only_alike keeps t folder name (known_kept keeps t folder name known)) known

  won_there : keeps folder name ≡ true → (one : Candidate) → IsWinner (only keeps t) folder name one → IsWinner t folder name one
  won_there kept = winner_there (only keeps t) t folder name (only_alike keeps t folder name kept)

  won_here : keeps folder name ≡ true → (one : Candidate) → IsWinner t folder name one → IsWinner (only keeps t) folder name one
  won_here kept = winner_there t (only keeps t) folder name (turned (only keeps t) t folder name (only_alike keeps t folder name kept))

  -- a name of a part that has its list of winners has one
  has_winner : (rows : List Row) → IsListOfWinners (only keeps t) rows → keeps folder name ≡ true → IsKnown t folder name → HasWinner t folder name
  has_winner rows winners kept known =
      let has = (winners.names folder name).0 (kept_known kept known) in
      ((has.0.device, has.0.entry), won_there kept (has.0.device, has.0.entry) (subst (λ (key : Folder × FileName). IsWinner (only keeps t) key.0 key.1 (has.0.device, has.0.entry)) has.2 (winners.winners has.0 has.1)))

-- the rows of a part are of its names
rows_kept : (t : Tables) (keeps : Keeps) (rows : List Row) → IsListOfWinners (only keeps t) rows → (row : Row) → Contains rows row → keeps row.folder row.entry.name ≡ true
rows_kept t keeps rows winners row member = known_kept keeps t row.folder row.entry.name ((winners.names row.folder row.entry.name).1 (row, member, refl))

-- what isn't in one test isn't in the one before or in the one after
neither_one : (one other : Bool) → (if one then true else other) ≡ false → one ≡ false
neither_one true other e = absurd (cc)
neither_one false other e = refl

module _ (by_parts : ByParts) (t : Tables) (lower upper : Keeps) (order : IsBelow lower upper) (known_in : IsKnownIn t lower upper) where
  -- no name is in both
  not_in_both : (folder : Folder) (name : FileName) → lower folder name ≡ true → upper folder name ≡ true → ⊥
  not_in_both folder name in_lower in_upper = not_less_itself texts_total (folder, name) (order folder name folder name in_lower in_upper)

  rest : Keeps
  rest = all_but (either lower upper)

  rest_is_unknown : (folder : Folder) (name : FileName) → ¬ IsKnown (only rest t) folder name
  unfolding rest
  rest_is_unknown folder name known =
      cases (lower folder name) refl (upper folder name) refl (known_kept (all_but (either lower upper)) t folder name known)
      (known_in folder name (was_known t (all_but (either lower upper)) folder name known))
    where
      cases : (a : Bool) → lower folder name ≡ a → (b : Bool) → upper folder name ≡ b → not (if a then true else b) ≡ true → (lower folder name ≡ true) ⊎ (upper folder name ≡ true) → ⊥
      cases true is_a b is_b out some = cc
      cases false is_a true is_b out some = cc
      cases false is_a false is_b out some = ⊎_elim (λ e. cc) (λ e. cc) some

  -- ---- both have their lists of winners

  module _ (rows others : List Row) (won : IsListOfWinners (only lower t) rows) (also : IsListOfWinners (only upper t) others) where
    rows_below : (row later : Row) → Contains rows row → Contains others later → key_cmp (key_of row) (key_of later) ≡ Less
    rows_below row later member after =
        order row.folder row.entry.name later.folder later.entry.name (rows_kept t lower rows won row member) (rows_kept t upper others also later after)

    all_winners : IsListOfWinners t (rows ++ others)
    all_winners = record {
      rise = rise_both rows others won.rise also.rise rows_below;
      names = λ folder name. (
        λ known.
            ⊎_elim
            (λ kept.
            let has = (won.names folder name).0 (kept_known t lower folder name kept known) in
            (has.0, Contains-append_left rows others has.0 has.1, has.2))
            (λ kept.
            let has = (also.names folder name).0 (kept_known t upper folder name kept known) in
            (has.0, Contains-append_right rows others has.0 has.1, has.2))
            (known_in folder name known),
        λ has.
            ⊎_elim
            (λ member. was_known t lower folder name ((won.names folder name).1 (has.0, member, has.2)))
            (λ member. was_known t upper folder name ((also.names folder name).1 (has.0, member, has.2)))
            (Contains-append_cases rows others has.0 has.1),
      );
      winners = λ row member.
          ⊎_elim
          (λ here. won_there t lower row.folder row.entry.name (rows_kept t lower rows won row here) (row.device, row.entry) (won.winners row here))
          (λ here. won_there t upper row.folder row.entry.name (rows_kept t upper others also row here) (row.device, row.entry) (also.winners row here))
          (Contains-append_cases rows others row member);
    }

    -- each part has its own of these rows
    not_upper : (folder : Folder) (name : FileName) → lower folder name ≡ true → upper folder name ≡ false
    not_upper folder name kept = ⊎_elim (λ in_upper. absurd (not_in_both folder name kept in_upper)) (λ out. out) (cases_Bool (upper folder name))

    not_lower : (folder : Folder) (name : FileName) → upper folder name ≡ true → lower folder name ≡ false
    not_lower folder name kept = ⊎_elim (λ in_lower. absurd (not_in_both folder name in_lower kept)) (λ out. out) (cases_Bool (lower folder name))

    rows_of_lower : rows_of lower (rows ++ others) ≡ rows
    rows_of_lower =
        rows_of_both lower rows others
        ∙ (λ i. rows_all_kept lower rows (rows_kept t lower rows won) i ++ rows_none_kept lower others (λ row member. not_lower row.folder row.entry.name (rows_kept t upper others also row member)) i)
        ∙ append-nil rows

    rows_of_upper : rows_of upper (rows ++ others) ≡ others
    rows_of_upper =
        rows_of_both upper rows others
        ∙ (λ i. rows_none_kept upper rows (λ row member. not_upper row.folder row.entry.name (rows_kept t lower rows won row member)) i ++ rows_all_kept upper others (rows_kept t upper others also) i)

    rows_of_rest : rows_of rest (rows ++ others) ≡ []
    unfolding rest
    rows_of_rest =
        rows_none_kept (all_but (either lower upper)) (rows ++ others)
        (λ row member.
        ⊎_elim
        (λ here. ap (λ (b : Bool). not (if b then true else upper row.folder row.entry.name)) (rows_kept t lower rows won row here))
        (λ here. λ i. not (if not_lower row.folder row.entry.name (rows_kept t upper others also row here) i then true else rows_kept t upper others also row here i))
        (Contains-append_cases rows others row member))

    each : (folder : Folder) (name : FileName) → IsInSome (lower ∷ upper ∷ rest ∷ []) folder name
    unfolding rest
    each folder name = cases (lower folder name) refl (upper folder name) refl
      where
        cases : (a : Bool) → lower folder name ≡ a → (b : Bool) → upper folder name ≡ b → IsInSome (lower ∷ upper ∷ rest ∷ []) folder name
        cases true is_a b is_b = (lower, Contains-first lower (upper ∷ rest ∷ []), is_a)
        cases false is_a true is_b = (upper, Contains-more lower (upper ∷ rest ∷ []) upper (Contains-first upper (rest ∷ [])), is_b)
        cases false is_a false is_b = (
          rest,
          Contains-more lower (upper ∷ rest ∷ []) rest (Contains-more upper (rest ∷ []) rest (Contains-first rest [])),
          λ i. not (if is_a i then true else is_b i),
        )

    -- of verdicts of one kind that which comes first is the verdict on the whole; the last of all is that on nothing
    module _ (V : Type 0) (Is : Tables → List Row → V → Type 0) (UpTo : V → V → Type 0) (by_three : ByThree V Is UpTo) (last : V) (up_to_last : (v : V) → UpTo v last)
        (of_none : (u : Tables) → ((folder : Folder) (name : FileName) → ¬ IsKnown u folder name) → Is u [] last) (one other : V) (of_lower : Is (only lower t) rows one) (of_upper : Is (only upper t) others other) where
      judged_by : (verdict : V) → (verdict ≡ one) ⊎ (verdict ≡ other) → UpTo verdict one → UpTo verdict other → Is t (rows ++ others) verdict
      judged_by verdict among up_to_one up_to_other =
          by_three t lower upper rest one other last verdict (rows ++ others) all_winners.rise each
          (subst (λ (all : List Row). Is (only lower t) all one) (sym rows_of_lower) of_lower)
          (subst (λ (all : List Row). Is (only upper t) all other) (sym rows_of_upper) of_upper)
          (subst (λ (all : List Row). Is (only rest t) all last) (sym rows_of_rest) (of_none (only rest t) rest_is_unknown))
          among up_to_one up_to_other (up_to_last verdict)

      first_comes : UpTo one one → UpTo one other → Is t (rows ++ others) one
      first_comes = judged_by one (inl refl)

      second_comes : UpTo other one → UpTo other other → Is t (rows ++ others) other
      second_comes = judged_by other (inr refl)

    -- ---- where settled is asked for

    module _ (one other : verdicts.Verdict) where
      first_settled : verdicts.IsVerdict (only lower t) rows one → verdicts.IsVerdict (only upper t) others other → ComesUpTo one one → ComesUpTo one other → verdicts.IsVerdict t (rows ++ others) one
      first_settled = first_comes verdicts.Verdict verdicts.IsVerdict ComesUpTo (settled_by_three by_parts.settled) verdicts.Settled up_to_settled settled_where_unknown one other

      second_settled : verdicts.IsVerdict (only lower t) rows one → verdicts.IsVerdict (only upper t) others other → ComesUpTo other one → ComesUpTo other other → verdicts.IsVerdict t (rows ++ others) other
      second_settled = second_comes verdicts.Verdict verdicts.IsVerdict ComesUpTo (settled_by_three by_parts.settled) verdicts.Settled up_to_settled settled_where_unknown one other

    both_at_fault : (reason other : Reason) (folder in_folder : Folder) (name at_name : FileName) (device of : Option Device) →
        IsJudged aims.Settled (only lower t) rows (Not reason folder name device) → IsJudged aims.Settled (only upper t) others (Not other in_folder at_name of) →
        IsJudged aims.Settled t (rows ++ others) (joined (Not reason folder name device) (Not other in_folder at_name of))
    both_at_fault reason other folder in_folder name at_name device of is with_it = cases (is_lt (failure_cmp (failing other in_folder at_name of) (failing reason folder name device))) refl
      where
        cases : (b : Bool) → is_lt (failure_cmp (failing other in_folder at_name of) (failing reason folder name device)) ≡ b → IsJudged aims.Settled t (rows ++ others) (if b then Not other in_folder at_name of else Not reason folder name device)
        cases true less =
            second_settled (verdicts.Not reason folder name device) (verdicts.Not other in_folder at_name of) is with_it
            (later_is_up_to (rank (failing other in_folder at_name of)) (rank (failing reason folder name device)) less)
            (itself_is_up_to (rank (failing other in_folder at_name of)))
        cases false not_less =
            first_settled (verdicts.Not reason folder name device) (verdicts.Not other in_folder at_name of) is with_it
            (itself_is_up_to (rank (failing reason folder name device)))
            (earlier_is_up_to (rank (failing other in_folder at_name of)) (rank (failing reason folder name device)) not_less)

    both_settled : (earlier later : Standing) → IsJudged aims.Settled (only lower t) rows earlier → IsJudged aims.Settled (only upper t) others later → IsJudged aims.Settled t (rows ++ others) (joined earlier later)
    both_settled Met Met is with_it = first_settled verdicts.Settled verdicts.Settled is with_it tt tt
    both_settled Met (Not other in_folder at_name of) is with_it =
        second_settled verdicts.Settled (verdicts.Not other in_folder at_name of) is with_it tt (itself_is_up_to (rank (failing other in_folder at_name of)))
    both_settled (Not reason folder name device) Met is with_it =
        first_settled (verdicts.Not reason folder name device) verdicts.Settled is with_it (itself_is_up_to (rank (failing reason folder name device))) tt
    both_settled (Not reason folder name device) (Not other in_folder at_name of) is with_it = both_at_fault reason other folder in_folder name at_name device of is with_it
    both_settled Met (Loose other in_folder at_name of) is with_it = absurd with_it
    both_settled (Not reason folder name device) (Loose other in_folder at_name of) is with_it = absurd with_it
    both_settled Met (Unwon in_folder at_name) is with_it = absurd with_it
    both_settled (Not reason folder name device) (Unwon in_folder at_name) is with_it = absurd with_it
    both_settled (Loose reason folder name device) later is with_it = absurd is
    both_settled (Unwon folder name) later is with_it = absurd is

    -- ---- where firm is asked for

    module _ (one other : firm_verdicts.FirmVerdict) where
      first_firm : firm_verdicts.IsFirmVerdict (only lower t) rows one → firm_verdicts.IsFirmVerdict (only upper t) others other → FirmComesUpTo one one → FirmComesUpTo one other → firm_verdicts.IsFirmVerdict t (rows ++ others) one
      first_firm = first_comes firm_verdicts.FirmVerdict firm_verdicts.IsFirmVerdict FirmComesUpTo (firm_by_three by_parts.firm) firm_verdicts.Firm up_to_firm firm_where_unknown one other

      second_firm : firm_verdicts.IsFirmVerdict (only lower t) rows one → firm_verdicts.IsFirmVerdict (only upper t) others other → FirmComesUpTo other one → FirmComesUpTo other other → firm_verdicts.IsFirmVerdict t (rows ++ others) other
      second_firm = second_comes firm_verdicts.FirmVerdict firm_verdicts.IsFirmVerdict FirmComesUpTo (firm_by_three by_parts.firm) firm_verdicts.Firm up_to_firm firm_where_unknown one other

    both_unsettled : (reason other : Reason) (folder in_folder : Folder) (name at_name : FileName) (device of : Option Device) →
        IsJudged aims.Firm (only lower t) rows (Not reason folder name device) → IsJudged aims.Firm (only upper t) others (Not other in_folder at_name of) →
        IsJudged aims.Firm t (rows ++ others) (joined (Not reason folder name device) (Not other in_folder at_name of))
    both_unsettled reason other folder in_folder name at_name device of is with_it = cases (is_lt (failure_cmp (failing other in_folder at_name of) (failing reason folder name device))) refl
      where
        cases : (b : Bool) → is_lt (failure_cmp (failing other in_folder at_name of) (failing reason folder name device)) ≡ b → IsJudged aims.Firm t (rows ++ others) (if b then Not other in_folder at_name of else Not reason folder name device)
        cases true less =
            second_firm (firm_verdicts.Unsettled reason folder name device) (firm_verdicts.Unsettled other in_folder at_name of) is with_it
            (later_is_up_to (rank (failing other in_folder at_name of)) (rank (failing reason folder name device)) less)
            (itself_is_up_to (rank (failing other in_folder at_name of)))
        cases false not_less =
            first_firm (firm_verdicts.Unsettled reason folder name device) (firm_verdicts.Unsettled other in_folder at_name of) is with_it
            (itself_is_up_to (rank (failing reason folder name device)))
            (earlier_is_up_to (rank (failing other in_folder at_name of)) (rank (failing reason folder name device)) not_less)

    both_loose : (reason other : FirmReason) (folder in_folder : Folder) (name at_name : FileName) (device of : Device) →
        IsJudged aims.Firm (only lower t) rows (Loose reason folder name device) → IsJudged aims.Firm (only upper t) others (Loose other in_folder at_name of) →
        IsJudged aims.Firm t (rows ++ others) (joined (Loose reason folder name device) (Loose other in_folder at_name of))
    both_loose reason other folder in_folder name at_name device of is with_it = cases (is_lt (loose_cmp (loosening other in_folder at_name of) (loosening reason folder name device))) refl
      where
        cases : (b : Bool) → is_lt (loose_cmp (loosening other in_folder at_name of) (loosening reason folder name device)) ≡ b → IsJudged aims.Firm t (rows ++ others) (if b then Loose other in_folder at_name of else Loose reason folder name device)
        cases true less =
            second_firm (firm_verdicts.Loose reason folder name device) (firm_verdicts.Loose other in_folder at_name of) is with_it
            (later_is_up_to (loose_rank (loosening other in_folder at_name of)) (loose_rank (loosening reason folder name device)) less)
            (itself_is_up_to (loose_rank (loosening other in_folder at_name of)))
        cases false not_less =
            first_firm (firm_verdicts.Loose reason folder name device) (firm_verdicts.Loose other in_folder at_name of) is with_it
            (itself_is_up_to (loose_rank (loosening reason folder name device)))
            (earlier_is_up_to (loose_rank (loosening other in_folder at_name of)) (loose_rank (loosening reason folder name device)) not_less)

    both_firm : (earlier later : Standing) → IsJudged aims.Firm (only lower t) rows earlier → IsJudged aims.Firm (only upper t) others later → IsJudged aims.Firm t (rows ++ others) (joined earlier later)
    both_firm Met Met is with_it = first_firm firm_verdicts.Firm firm_verdicts.Firm is with_it tt tt
    both_firm Met (Not other in_folder at_name of) is with_it =
        second_firm firm_verdicts.Firm (firm_verdicts.Unsettled other in_folder at_name of) is with_it tt (itself_is_up_to (rank (failing other in_folder at_name of)))
    both_firm Met (Loose other in_folder at_name of) is with_it =
        second_firm firm_verdicts.Firm (firm_verdicts.Loose other in_folder at_name of) is with_it tt (itself_is_up_to (loose_rank (loosening other in_folder at_name of)))
    both_firm (Not reason folder name device) Met is with_it =
        first_firm (firm_verdicts.Unsettled reason folder name device) firm_verdicts.Firm is with_it (itself_is_up_to (rank (failing reason folder name device))) tt
    both_firm (Not reason folder name device) (Not other in_folder at_name of) is with_it = both_unsettled reason other folder in_folder name at_name device of is with_it
    both_firm (Not reason folder name device) (Loose other in_folder at_name of) is with_it =
        first_firm (firm_verdicts.Unsettled reason folder name device) (firm_verdicts.Loose other in_folder at_name of) is with_it (itself_is_up_to (rank (failing reason folder name device))) tt
    both_firm (Loose reason folder name device) Met is with_it =
        first_firm (firm_verdicts.Loose reason folder name device) firm_verdicts.Firm is with_it (itself_is_up_to (loose_rank (loosening reason folder name device))) tt
    both_firm (Loose reason folder name device) (Not other in_folder at_name of) is with_it =
        second_firm (firm_verdicts.Loose reason folder name device) (firm_verdicts.Unsettled other in_folder at_name of) is with_it tt (itself_is_up_to (rank (failing other in_folder at_name of)))
    both_firm (Loose reason folder name device) (Loose other in_folder at_name of) is with_it = both_loose reason other folder in_folder name at_name device of is with_it
    both_firm Met (Unwon in_folder at_name) is with_it = absurd with_it
    both_firm (Not reason folder name device) (Unwon in_folder at_name) is with_it = absurd with_it
    both_firm (Loose reason folder name device) (Unwon in_folder at_name) is with_it = absurd with_it
    both_firm (Unwon folder name) later is with_it = absurd is

    both_judged : (aim : Aim) (earlier later : Standing) → IsJudged aim (only lower t) rows earlier → IsJudged aim (only upper t) others later → IsJudged aim t (rows ++ others) (joined earlier later)
    both_judged aims.Settled = both_settled
    both_judged aims.Firm = both_firm

  both_won : (aim : Aim) (earlier later : Standing) → IsUnderWinners aim (only lower t) earlier → IsUnderWinners aim (only upper t) later → IsStanding aim t (joined earlier later)
  both_won aim earlier later is also =
      stands aim t (joined earlier later)
      (record {
        rows = is.rows ++ also.rows;
        winners = all_winners is.rows also.rows is.winners also.winners;
        judged = both_judged is.rows also.rows is.winners also.winners aim earlier later is.judged also.judged;
      })

  -- ---- a part has a name without a winner

  unwon_there : (keeps : Keeps) (folder : Folder) (name : FileName) → IsWithoutWinner (only keeps t) folder name → IsWithoutWinner t folder name
  unwon_there keeps folder name without = record {
    known = was_known t keeps folder name without.known;
    unwon = λ one wins. without.unwon one (won_here t keeps folder name (known_kept keeps t folder name without.known) one wins);
  }

  won_before : (keeps : Keeps) (folder : Folder) (name : FileName) → IsFirstWithoutWinner (only keeps t) folder name → (in_folder : Folder) (earlier : FileName) → keeps in_folder earlier ≡ true → IsKnown t in_folder earlier →
      key_cmp (in_folder, earlier) (folder, name) ≡ Less → HasWinner t in_folder earlier
  won_before keeps folder name unwon in_folder earlier kept known less =
      let won = unwon.first in_folder earlier (kept_known t keeps in_folder earlier kept known) less in
      (won.0, won_there t keeps in_folder earlier kept won.0 won.1)

  unwon_above : (rows : List Row) → IsListOfWinners (only lower t) rows → (folder : Folder) (name : FileName) → IsFirstWithoutWinner (only upper t) folder name → IsFirstWithoutWinner t folder name
  unwon_above rows won folder name unwon = record {
    without = unwon_there upper folder name unwon.without;
    first = λ in_folder earlier known less.
        ⊎_elim
        (λ kept. has_winner t lower in_folder earlier rows won kept known)
        (λ kept. won_before upper folder name unwon in_folder earlier kept known less)
        (known_in in_folder earlier known);
  }

  unwon_below : (folder : Folder) (name : FileName) → IsFirstWithoutWinner (only lower t) folder name → IsFirstWithoutWinner t folder name
  unwon_below folder name unwon = record {
    without = unwon_there lower folder name unwon.without;
    first = λ in_folder earlier known less.
        ⊎_elim
        (λ kept. won_before lower folder name unwon in_folder earlier kept known less)
        (λ kept.
        let above = order folder name in_folder earlier (known_kept lower t folder name unwon.without.known) kept in
        absurd (not_less_itself texts_total (folder, name) (texts_total.trans (folder, name) (in_folder, earlier) (folder, name) above less)))
        (known_in in_folder earlier known);
  }

  -- ---- both answers

  pub whole_stands : (aim : Aim) (earlier later : Standing) → IsStanding aim (only lower t) earlier → IsStanding aim (only upper t) later → IsStanding aim t (joined earlier later)
  whole_stands aim (Unwon folder name) Met is also = unwon_below folder name is
  whole_stands aim (Unwon folder name) (Not other in_folder at_name of) is also = unwon_below folder name is
  whole_stands aim (Unwon folder name) (Loose other in_folder at_name of) is also = unwon_below folder name is
  whole_stands aim (Unwon folder name) (Unwon in_folder at_name) is also = unwon_below folder name is
  whole_stands aim Met (Unwon in_folder at_name) is also = unwon_above is.rows is.winners in_folder at_name also
  whole_stands aim (Not reason folder name device) (Unwon in_folder at_name) is also = unwon_above is.rows is.winners in_folder at_name also
  whole_stands aim (Loose reason folder name device) (Unwon in_folder at_name) is also = unwon_above is.rows is.winners in_folder at_name also
  whole_stands aim Met Met is also = both_won aim Met Met is also
  whole_stands aim Met (Not other in_folder at_name of) is also = both_won aim Met (Not other in_folder at_name of) is also
  whole_stands aim Met (Loose other in_folder at_name of) is also = both_won aim Met (Loose other in_folder at_name of) is also
  whole_stands aim (Not reason folder name device) Met is also = both_won aim (Not reason folder name device) Met is also
  whole_stands aim (Not reason folder name device) (Not other in_folder at_name of) is also = both_won aim (Not reason folder name device) (Not other in_folder at_name of) is also
  whole_stands aim (Not reason folder name device) (Loose other in_folder at_name of) is also = both_won aim (Not reason folder name device) (Loose other in_folder at_name of) is also
  whole_stands aim (Loose reason folder name device) Met is also = both_won aim (Loose reason folder name device) Met is also
  whole_stands aim (Loose reason folder name device) (Not other in_folder at_name of) is also = both_won aim (Loose reason folder name device) (Not other in_folder at_name of) is also
  whole_stands aim (Loose reason folder name device) (Loose other in_folder at_name of) is also = both_won aim (Loose reason folder name device) (Loose other in_folder at_name of) is also
