-- Logs fit exactly where each is its part of one list.
use Rattle.std.proofs.Common.{◌≡◌, ℕ, true, List, Contains, length, refl, sym, subst}
use Rattle.std.specs.List.{filter}
use Rattle.bep_fit.specs.declared.stamped.Stamped.{Stamped}
use Rattle.bep_fit.specs.Fit.{AreOfOneRound, DoAgree, Fits, IsMerged}
use Rattle.bep_fit.specs.FitLaws.{IsListOf, LogsFitExactly}
use Rattle.bep_fit.specs.Logs.{ObjectLog, touches}
use Rattle.bep_fit.specs.Merge.{IsLogged, Rises}
use Rattle.bep_fit.proofs.Faultless.{agreed_is_faultless, entries_of, faultless_agree, named_there, ticket_of}
use Rattle.bep_fit.proofs.Merged.{is_part}
use Rattle.bep_fit.proofs.Rising.{kept-passes, kept-rises, passes-kept, rises-one}

module _ (logs : List ObjectLog) (list : List Stamped) (is : IsListOf logs list) where
  abbrev part_of : ObjectLog → List Stamped
  part_of log = filter (λ (e : Stamped). touches e log) list

  in_part : (log : ObjectLog) → Contains logs log → (one : Stamped) → Contains log.events one → Contains list one × (touches one log ≡ true)
  in_part log there one stands = kept-passes (λ (e : Stamped). touches e log) list one (subst (λ es. Contains es one) (is.parts log there) stands)

  in_list : (one : Stamped) → IsLogged entries_of logs one → Contains list one
  in_list one logged = (in_part logged.0 logged.1 one logged.2).0

  parts_agree : DoAgree logs
  parts_agree = record {
    agree = record {
      rise = λ log there. subst (λ es. Rises ticket_of es) (sym (is.parts log there)) (kept-rises ticket_of (λ (e : Stamped). touches e log) list is.rises);
      every = λ one log logged there touching. subst (λ es. Contains es one) (sym (is.parts log there)) (passes-kept (λ (e : Stamped). touches e log) list one (in_list one logged) touching);
      no_other = λ one log there stands. (in_part log there one stands).1;
      one_ticket = λ one other logged found same. rises-one ticket_of list is.rises one other (in_list one logged) (in_list other found) same;
    };
    there = λ log one object there stands names. is.there one object (in_list one (log, there, stands)) names;
  }

  list_merged : IsMerged logs list
  list_merged = record { rises = is.rises; holds = λ one. (is.logged one, in_list one) }

pub list_fits : (logs : List ObjectLog) (list : List Stamped) → AreOfOneRound logs → IsListOf logs list → Fits logs (length list)
list_fits logs list rounds is = record {
  rounds = rounds;
  faultless = agreed_is_faultless logs (parts_agree logs list is);
  merged = list;
  is_merged = list_merged logs list is;
  counted = refl;
}

merged_is_list : (logs : List ObjectLog) (count : ℕ) (fits : Fits logs count) → IsListOf logs fits.merged
merged_is_list logs count fits = record {
  rises = fits.is_merged.rises;
  parts = is_part ticket_of entries_of touches logs (faultless_agree logs fits.faultless) fits.merged fits.is_merged;
  logged = λ one stands. (fits.is_merged.holds one).0 stands;
  there = λ one object stands names. named_there logs fits.faultless one ((fits.is_merged.holds one).0 stands) object names;
}

pub logs_fit_exactly_lem : LogsFitExactly
logs_fit_exactly_lem logs count = (
  λ fits. (fits.rounds, (fits.merged, merged_is_list logs count fits, fits.counted)),
  λ (rounds, (list, is, counted)). subst (λ n. Fits logs n) counted (list_fits logs list rounds is),
)
