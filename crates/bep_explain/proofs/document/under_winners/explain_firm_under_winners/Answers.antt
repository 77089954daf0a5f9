use Rattle.std.proofs.Common.{◌∙◌, map, ap, subst}
use Rattle.bep_audit.specs.Loose.{loose_shown}
use Rattle.bep_audit.specs.Walk.{failure_shown}
use Rattle.bep_tables.specs.Cut.{tables_of}
use Rattle.bep_explain.specs.document.FirmExplained.{IsFirmWritten, firmness_told}
use Rattle.bep_explain.proofs.JsonFacts.{none_shown}
use Rattle.bep_explain.proofs.document.FirmFacts.{firm_exactly}
use Rattle.bep_explain.proofs.document.under_winners.explain_firm_under_winners.Goals as goal

pub returns : goal.returns
returns c =
    let found = map failure_shown c.in_ok-found.found.items in
    let loose = map loose_shown c.in_ok-loose.loose.items in
    let settled = none_shown failure_shown _ c.in_ok-found.found.items c.in_ok-found.ensures.settled in
    record {
      rows = _;
      without = _;
      winners = c.in_ok-certificate.ensures;
      told = found;
      all = c.in_ok-found.ensures.all;
      loose = loose;
      all_loose = c.in_ok-loose.ensures.all;
      settled = settled;
      firm = firm_exactly c.firm_is_faultless.ensures (tables_of c.args.cut.now) _ found loose settled (none_shown loose_shown _ c.in_ok-loose.loose.items c.in_ok-loose.ensures.tight);
      verdict =
          c.firmness_for.ensures
          ∙ ap (λ shown. firmness_told (map failure_shown shown) (map loose_shown c.as_slice-more.result.now)) c.as_slice-told.ensures.value
          ∙ ap (λ shown. firmness_told found (map loose_shown shown)) c.as_slice-more.ensures.value;
      written =
          subst (λ shown. IsFirmWritten c.args.form found (map loose_shown shown) c.in_ok-text.text.items) c.as_slice-more.ensures.value
          (subst (λ shown. IsFirmWritten c.args.form (map failure_shown shown) (map loose_shown c.as_slice-more.result.now) c.in_ok-text.text.items) c.as_slice-told.ensures.value c.in_ok-text.ensures);
    }
