use Rattle.std.proofs.Common.{Option, Some, option_map, refl, sym, subst}
use Rattle.std.specs.Prelude.{⊤}
use Rattle.bep_tables.specs.Cut.{tables_of}
use Rattle.bep_tables.specs.Listed.{IsGrouped, cut_listed}
use Rattle.bep_converge.specs.Prevails.{AllPrevail}
use Rattle.bep_converge_check.specs.declared.hindrance.Hindrance.{Hindrance}
use Rattle.bep_converge_check.specs.Hindrance.{hinder_shown}
use Rattle.bep_converge_check.specs.inner.Found.{FindsHinder}
use Rattle.bep_converge_check.proofs.HinderWalk.{least_is_first, none_hinders, hindered_not_all}
use Rattle.bep_converge_check.proofs.checker.converge_verdict_grouped.Goals as goal

pub least_hindrance-requires : goal.least_hindrance-requires
least_hindrance-requires c = subst (IsGrouped (cut_listed c.args.cut.now)) (sym c.entries.ensures) c.requires

pub returns-in-Ok-None : goal.returns-in-Ok-None
returns-in-Ok-None c =
    let t = tables_of c.args.cut.now in
    let all : AllPrevail t = none_hinders t c.converging_is_faultless.ensures (subst (λ (found : Option Hindrance). FindsHinder t (λ _. ⊤) (option_map hinder_shown found)) c.in-Ok-None.field-0-is c.in-Ok-None.ensures) in
    record { verdict = all; converging = (λ _. all, λ _. refl); goes_on = λ _. c.prevailing_goes_on.ensures t all }

pub returns-in-Ok-Some : goal.returns-in-Ok-Some
returns-in-Ok-Some c =
    let t = tables_of c.args.cut.now in
    let first : FindsHinder t (λ _. ⊤) (Some (hinder_shown c.in-Ok-Some.one)) = subst (λ (found : Option Hindrance). FindsHinder t (λ _. ⊤) (option_map hinder_shown found)) c.in-Ok-Some.field-0-is c.in-Ok-Some.ensures in
    record {
      verdict = least_is_first t (hinder_shown c.in-Ok-Some.one) first;
      converging = (λ e. absurd (cc), λ all. absurd (hindered_not_all t c.converging_is_faultless.ensures (hinder_shown c.in-Ok-Some.one) first all));
      goes_on = λ e. absurd (cc);
    }
