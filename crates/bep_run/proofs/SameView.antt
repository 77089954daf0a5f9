-- What was logged of a device, and of a link, is what was logged of what a contract sees of them.
use Rattle.std.proofs.Common.{◌≡◌, ℕ, Result, subst}
use Rattle.bep_log.specs.ActsOver.{LogsOver}
use Rattle.bep_log.specs.LoggedLink.{LoggedBetween}
use Rattle.bep_log.specs.LoggedPeer.{LoggedMember}
use Rattle.bep_log.specs.Over.{Doing}
use Rattle.bep_log.specs.declared.error.LogError.{LogError}
use Rattle.bep_machine.specs.declared.moved.Moved.{Moved}

pub logs_as : (action : Doing) (ticket : ℕ) (inside old new : LoggedMember) (within link after : LoggedBetween) (answer : Result Moved LogError) →
    inside ≡ old → within ≡ link → LogsOver action ticket inside new within after answer → LogsOver action ticket old new link after answer
logs_as action ticket inside old new within link after answer same its logs =
    subst (λ (one : LoggedMember). LogsOver action ticket one new link after answer) same (subst (λ (one : LoggedBetween). LogsOver action ticket inside new one after answer) its logs)
