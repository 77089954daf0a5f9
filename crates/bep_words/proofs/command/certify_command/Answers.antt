use Rattle.std.proofs.lemmas.Result.{IfOk-weaker}
use Rattle.bep_words.proofs.ModeFacts.{flagged}
use Rattle.bep_words.proofs.command.certify_command.Goals as goal

pub returns : goal.returns
returns c =
    IfOk-weaker c.arg.result _ _ (λ made. flagged _ _ _ made _ c.plain_command.ensures c.flag-partial.ensures.rule c.flag-partial.ensures.local) c.arg.ensures
