use Rattle.std.proofs.Common.{◌≡◌, inl, inr, Some, option_map, codes, sym, ap, subst, ◌∙◌, rules}
use Rattle.bep_words.specs.Mode.{ending_of, extent_of, form_of, goal_of, reasons_of, under_of}
use Rattle.bep_words.specs.Turns.{turns_of}
use Rattle.bep_words.proofs.ModeFacts.{fails_as, no_fault, name_told, rows_told, tells_mode, NamesMode, not_named}
use Rattle.bep_words.proofs.mode.mode_of.Goals as goal
use Rattle.bep_words.proofs.mode.mode_of.Goals.{in_default-via-in-Some+in_default, in_default-via-in_default}

pub returns-in_err-matches-clause-faults : goal.returns-in_err-matches-clause-faults
returns-in_err-matches-clause-faults g c =
    let fails = fails_as _ _ c.in_err-matches.field-0.0 c.in_ok-command.ensures c.in_err-matches.ensures.kinds in
    search (rules, fails)

pub returns-in-Some-check-clause-faults : goal.returns-in-Some-check-clause-faults
returns-in-Some-check-clause-faults g c = no_fault _ _ c.in_ok-command.ensures c.in_ok-matches.ensures.kinds

pub returns-in-Some-firm-clause-faults : goal.returns-in-Some-firm-clause-faults
returns-in-Some-firm-clause-faults g c = no_fault _ _ c.in_ok-command.ensures c.in_ok-matches.ensures.kinds

pub returns-in-Some-converge-clause-faults : goal.returns-in-Some-converge-clause-faults
returns-in-Some-converge-clause-faults g c = no_fault _ _ c.in_ok-command.ensures c.in_ok-matches.ensures.kinds

pub returns-in-Some-certify-clause-faults : goal.returns-in-Some-certify-clause-faults
returns-in-Some-certify-clause-faults g c = no_fault _ _ c.in_ok-command.ensures c.in_ok-matches.ensures.kinds

pub returns-in-Some-explain-clause-faults : goal.returns-in-Some-explain-clause-faults
returns-in-Some-explain-clause-faults g c = no_fault _ _ c.in_ok-command.ensures c.in_ok-matches.ensures.kinds

pub returns-in-Some-rows-clause-faults : goal.returns-in-Some-rows-clause-faults
returns-in-Some-rows-clause-faults g c = no_fault _ _ c.in_ok-command.ensures c.in_ok-matches.ensures.kinds

pub returns-in-Some-run-clause-faults : goal.returns-in-Some-run-clause-faults
returns-in-Some-run-clause-faults g c = no_fault _ _ c.in_ok-command.ensures c.in_ok-matches.ensures.kinds

pub returns-in-Some-check-clause-asked : goal.returns-in-Some-check-clause-asked
returns-in-Some-check-clause-asked g c =
    let lent = sym (ap (option_map (λ s. s.now)) c.in-Some-check.is) ∙ c.subcommand_name.ensures in
    let named : c.in-Some-check.field-0.now ≡ codes "check" = search (rules, c.in-Some-check.is-check) in (
      name_told _ _ _ c.in_ok-command.ensures c.in_ok-matches.ensures.matches ∙ sym lent ∙ ap Some named,
      c.under_of.ensures ∙ ap under_of (rows_told _ _ _ c.in_ok-command.ensures c.in_ok-matches.ensures.matches),
    )

pub returns-in-Some-firm-clause-asked : goal.returns-in-Some-firm-clause-asked
returns-in-Some-firm-clause-asked g c =
    let lent = sym (ap (option_map (λ s. s.now)) c.in-Some-firm.is) ∙ c.subcommand_name.ensures in
    let named : c.in-Some-firm.field-0.now ≡ codes "firm" = search (rules, c.in-Some-firm.is-firm) in (
      name_told _ _ _ c.in_ok-command.ensures c.in_ok-matches.ensures.matches ∙ sym lent ∙ ap Some named,
      c.under_of-in-Some-firm.ensures ∙ ap under_of (rows_told _ _ _ c.in_ok-command.ensures c.in_ok-matches.ensures.matches),
    )

pub returns-in-Some-converge-clause-asked : goal.returns-in-Some-converge-clause-asked
returns-in-Some-converge-clause-asked g c =
    let lent = sym (ap (option_map (λ s. s.now)) c.in-Some-converge.is) ∙ c.subcommand_name.ensures in
    let named : c.in-Some-converge.field-0.now ≡ codes "converge" = search (rules, c.in-Some-converge.is-converge) in
    name_told _ _ _ c.in_ok-command.ensures c.in_ok-matches.ensures.matches ∙ sym lent ∙ ap Some named

pub returns-in-Some-certify-clause-asked : goal.returns-in-Some-certify-clause-asked
returns-in-Some-certify-clause-asked g c =
    let lent = sym (ap (option_map (λ s. s.now)) c.in-Some-certify.is) ∙ c.subcommand_name.ensures in
    let named : c.in-Some-certify.field-0.now ≡ codes "certify" = search (rules, c.in-Some-certify.is-certify) in (
      name_told _ _ _ c.in_ok-command.ensures c.in_ok-matches.ensures.matches ∙ sym lent ∙ ap Some named,
      c.extent_of.ensures ∙ ap extent_of (rows_told _ _ _ c.in_ok-command.ensures c.in_ok-matches.ensures.matches),
    )

pub returns-in-Some-explain-clause-asked : goal.returns-in-Some-explain-clause-asked
returns-in-Some-explain-clause-asked g c =
    let lent = sym (ap (option_map (λ s. s.now)) c.in-Some-explain.is) ∙ c.subcommand_name.ensures in
    let named : c.in-Some-explain.field-0.now ≡ codes "explain" = search (rules, c.in-Some-explain.is-explain) in (
      name_told _ _ _ c.in_ok-command.ensures c.in_ok-matches.ensures.matches ∙ sym lent ∙ ap Some named,
      c.goal_of.ensures ∙ ap goal_of (rows_told _ _ _ c.in_ok-command.ensures c.in_ok-matches.ensures.matches),
      c.under_of-in-Some-explain.ensures ∙ ap under_of (rows_told _ _ _ c.in_ok-command.ensures c.in_ok-matches.ensures.matches),
      c.form_of.ensures ∙ ap form_of (rows_told _ _ _ c.in_ok-command.ensures c.in_ok-matches.ensures.matches),
    )

pub returns-in-Some-rows-clause-asked : goal.returns-in-Some-rows-clause-asked
returns-in-Some-rows-clause-asked g c =
    let lent = sym (ap (option_map (λ s. s.now)) c.in-Some-rows.is) ∙ c.subcommand_name.ensures in
    let named : c.in-Some-rows.field-0.now ≡ codes "rows" = search (rules, c.in-Some-rows.is-rows) in (
      name_told _ _ _ c.in_ok-command.ensures c.in_ok-matches.ensures.matches ∙ sym lent ∙ ap Some named,
      c.goal_of-in-Some-rows.ensures ∙ ap goal_of (rows_told _ _ _ c.in_ok-command.ensures c.in_ok-matches.ensures.matches),
      c.reasons_of.ensures ∙ ap reasons_of (rows_told _ _ _ c.in_ok-command.ensures c.in_ok-matches.ensures.matches),
    )

pub returns-in-Some-run-clause-asked : goal.returns-in-Some-run-clause-asked
returns-in-Some-run-clause-asked g c =
    let lent = sym (ap (option_map (λ s. s.now)) c.in-Some-run.is) ∙ c.subcommand_name.ensures in
    let named : c.in-Some-run.field-0.now ≡ codes "run" = search (rules, c.in-Some-run.is-run) in (
      name_told _ _ _ c.in_ok-command.ensures c.in_ok-matches.ensures.matches ∙ sym lent ∙ ap Some named,
      c.ending_of.ensures ∙ ap ending_of (rows_told _ _ _ c.in_ok-command.ensures c.in_ok-matches.ensures.matches),
      c.turns_of.ensures ∙ ap turns_of (rows_told _ _ _ c.in_ok-command.ensures c.in_ok-matches.ensures.matches),
    )

pub unreachable-requires : goal.unreachable-requires
unreachable-requires g c =
    let is = c.in_ok-command.ensures in
    let none = no_fault _ _ is c.in_ok-matches.ensures.kinds in
    let named = tells_mode _ _ _ is c.in_ok-matches.ensures.matches none in
    elim c.in_default.branch [
      | in_default-via-in-Some+in_default w ↦
          let lent = sym (ap (option_map (λ s. s.now)) w.in_default.is) ∙ c.subcommand_name.ensures in
          elim named [
            | inl name ↦
                let one : Some w.in_default.field-0.now ≡ Some (codes "check") = lent ∙ name in
                let same : w.in_default.field-0.now ≡ codes "check" = cc in
                w.in_default.not-check (search (rules, same, w.in_default.is))
            | inr (inl name) ↦
                let one : Some w.in_default.field-0.now ≡ Some (codes "firm") = lent ∙ name in
                let same : w.in_default.field-0.now ≡ codes "firm" = cc in
                w.in_default.not-firm (search (rules, same, w.in_default.is))
            | inr (inr (inl name)) ↦
                let one : Some w.in_default.field-0.now ≡ Some (codes "converge") = lent ∙ name in
                let same : w.in_default.field-0.now ≡ codes "converge" = cc in
                w.in_default.not-converge (search (rules, same, w.in_default.is))
            | inr (inr (inr (inl name))) ↦
                let one : Some w.in_default.field-0.now ≡ Some (codes "certify") = lent ∙ name in
                let same : w.in_default.field-0.now ≡ codes "certify" = cc in
                w.in_default.not-certify (search (rules, same, w.in_default.is))
            | inr (inr (inr (inr (inl name)))) ↦
                let one : Some w.in_default.field-0.now ≡ Some (codes "explain") = lent ∙ name in
                let same : w.in_default.field-0.now ≡ codes "explain" = cc in
                w.in_default.not-explain (search (rules, same, w.in_default.is))
            | inr (inr (inr (inr (inr (inl name))))) ↦
                let one : Some w.in_default.field-0.now ≡ Some (codes "rows") = lent ∙ name in
                let same : w.in_default.field-0.now ≡ codes "rows" = cc in
                w.in_default.not-rows (search (rules, same, w.in_default.is))
            | inr (inr (inr (inr (inr (inr name))))) ↦
                let one : Some w.in_default.field-0.now ≡ Some (codes "run") = lent ∙ name in
                let same : w.in_default.field-0.now ≡ codes "run" = cc in
                w.in_default.not-run (search (rules, same, w.in_default.is))
          ]
      | in_default-via-in_default w ↦
          let nothing = sym (ap (option_map (λ s. s.now)) w.in_default.is) ∙ c.subcommand_name.ensures in
          absurd (not_named (subst NamesMode (sym nothing) named))
    ]
