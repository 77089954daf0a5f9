-- What a status of 0 says in a mode, from what it says for what the mode asks for.
use Rattle.std.proofs.Common.{◌≡◌, ◌<◌, ℕ, List, Option, refl, subst}
use Rattle.bep_answer.specs.Answer.{SaysSettled}
use Rattle.bep_answer.specs.Firm.{SaysFirm}
use Rattle.bep_answer.specs.UnderWinners.{SaysFirmUnderWinners, SaysSettledUnderWinners}
use Rattle.bep_live.specs.Lived.{EndsLived}
use Rattle.bep_play.specs.Played.{EndsSettled}
use Rattle.bep_rows_answer.specs.Told.{SaysFirmRows, SaysSettledRows}
use Rattle.bep_rows_converge.specs.Stays.{SaysConvergingRows}
use Rattle.clap.specs.Words.{Text}
use Rattle.bep_words.specs.Mode.{Asks}
use Rattle.bep_words.specs.declared.mode.Ending.{Ending}
use Rattle.bep_words.specs.declared.mode.Ending.TheVariants.{Report, Document}
use Rattle.bep_words.specs.declared.mode.Goal.{Goal}
use Rattle.bep_words.specs.declared.mode.Goal.TheVariants as goals
use Rattle.bep_words.specs.declared.mode.Mode.{Mode}
use Rattle.bep_words.specs.declared.mode.Mode.TheVariants.{Check, Firm, Rows, Run}
use Rattle.bep_words.specs.declared.mode.Reasons.{Reasons}
use Rattle.bep_words.specs.declared.mode.Under.{Under}
use Rattle.bep_words.specs.declared.mode.Under.TheVariants.{Given, Winners}
use Rattle.syncaudit.specs.inner.Says.{SaysIn}
use Rattle.syncaudit.proofs.OneMode.{asks_one}

module _ (unread left : Option (List ℕ)) (status : ℕ) where
  pub check_says : (under : Under) → (under ≡ Given → status ≡ 0 → SaysSettled unread left) → (under ≡ Winners → status ≡ 0 → SaysSettledUnderWinners unread left) → status ≡ 0 → SaysIn (Check under) unread left
  check_says Given given winners = given refl
  check_says Winners given winners = winners refl

  pub firm_says : (under : Under) → (under ≡ Given → status ≡ 0 → SaysFirm unread left) → (under ≡ Winners → status ≡ 0 → SaysFirmUnderWinners unread left) → status ≡ 0 → SaysIn (Firm under) unread left
  firm_says Given given winners = given refl
  firm_says Winners given winners = winners refl

  pub rows_say : (goal : Goal) (told : Reasons) → (goal ≡ goals.Settled → status ≡ 0 → SaysSettledRows unread left) → (goal ≡ goals.Firm → status ≡ 0 → SaysFirmRows unread left) → (goal ≡ goals.Converging → status ≡ 0 → SaysConvergingRows unread left)
      → status ≡ 0 → SaysIn (Rows goal told) unread left
  rows_say goals.Settled told settled firm converging = settled refl
  rows_say goals.Firm told settled firm converging = firm refl
  rows_say goals.Converging told settled firm converging = converging refl

  pub run_says : (ending : Ending) (turns : ℕ) → (ending ≡ Report → turns ≡ 0 → status ≡ 0 → EndsSettled unread left) → (ending ≡ Report → 0 < turns → status ≡ 0 → EndsLived unread left) → status ≡ 0 → SaysIn (Run ending turns) unread left
  run_says Report turns settled lives zero = (λ none. settled refl none zero, λ some. lives refl some zero)
  run_says Document turns settled lives zero = tt

  -- of the one mode for which the words ask
  pub said : (words : List Text) (found mode : Mode) → Asks words found → (status ≡ 0 → SaysIn found unread left) → Asks words mode → status ≡ 0 → SaysIn mode unread left
  said words found mode is says asks = subst (λ (one : Mode). status ≡ 0 → SaysIn one unread left) (asks_one words found mode is asks) says
