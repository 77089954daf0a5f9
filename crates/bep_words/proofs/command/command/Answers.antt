use Rattle.std.proofs.Common.{ap, ap₂, ◌∙◌}
use Rattle.std.proofs.lemmas.Result.{IfOk-weaker}
use Rattle.clap.specs.Words.{App, with_subcommand}
use Rattle.bep_words.proofs.command.command.Goals as goal

pub returns : goal.returns
returns c =
    let checking = c.in_ok-checks.ensures.shape c.in_ok-check.ensures.local ∙ ap₂ with_subcommand c.in_ok-top.ensures (ap (λ (a : App). a.top) c.in_ok-check.ensures.shape) in
    let firming = c.in_ok-firms.ensures.shape c.in_ok-firm.ensures.local ∙ ap₂ with_subcommand checking (ap (λ (a : App). a.top) c.in_ok-firm.ensures.shape) in
    let converging = c.in_ok-converges.ensures.shape c.plain_command-converge.ensures.local ∙ ap₂ with_subcommand firming (ap (λ (a : App). a.top) c.plain_command-converge.ensures.shape) in
    let certifying = c.in_ok-certifies.ensures.shape c.in_ok-certify.ensures.local ∙ ap₂ with_subcommand converging (ap (λ (a : App). a.top) c.in_ok-certify.ensures.shape) in
    let explaining = c.in_ok-explains.ensures.shape c.in_ok-explain.ensures.local ∙ ap₂ with_subcommand certifying (ap (λ (a : App). a.top) c.in_ok-explain.ensures.shape) in
    let streaming = c.in_ok-streams.ensures.shape c.in_ok-rows.ensures.local ∙ ap₂ with_subcommand explaining (ap (λ (a : App). a.top) c.in_ok-rows.ensures.shape) in
    IfOk-weaker c.subcommand-7.result _ _ (λ made h. h.shape c.in_ok-run.ensures.local ∙ ap₂ with_subcommand streaming (ap (λ (a : App). a.top) c.in_ok-run.ensures.shape)) c.subcommand-7.ensures
