use Rattle.std.proofs.lemmas.Result.{IfOk-weaker}
use Rattle.bep_words.proofs.ModeFacts.{flagged}
use Rattle.bep_words.proofs.command.rows_command.Goals as goal

pub returns : goal.returns
returns c =
    let with_firm = flagged _ _ _ c.in_ok-with_firm.with_firm _ c.plain_command.ensures c.flag-firm.ensures.rule c.flag-firm.ensures.local c.in_ok-with_firm.ensures in
    let with_converge = flagged _ _ _ c.in_ok-with_converge.with_converge _ with_firm c.flag-converge.ensures.rule c.flag-converge.ensures.local c.in_ok-with_converge.ensures in
    IfOk-weaker c.arg-3.result _ _ (λ made. flagged _ _ _ made _ with_converge c.flag-explain.ensures.rule c.flag-explain.ensures.local) c.arg-3.ensures
