use Rattle.std.proofs.lemmas.Result.{IfOk-weaker}
use Rattle.bep_words.proofs.ModeFacts.{flagged}
use Rattle.bep_words.proofs.command.run_command.Goals as goal

pub returns : goal.returns
returns c =
    let with_document = flagged _ _ _ c.in_ok-with_document.with_document _ c.plain_command.ensures c.flag-document.ensures.rule c.flag-document.ensures.local c.in_ok-with_document.ensures in
    IfOk-weaker c.arg-2.result _ _ (λ made. flagged _ _ _ made _ with_document c.turns_option-turns.ensures.rule c.turns_option-turns.ensures.local) c.arg-2.ensures
