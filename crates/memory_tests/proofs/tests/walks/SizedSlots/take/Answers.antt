use Rattle.std.proofs.Common.{◌≡◌, ◌∙◌, ℕ, List, [], ◌∷◌, Option, sym, ap}
use Rattle.std.specs.Prelude.{codes}
use Rattle.serde_json.specs.Data.{Data}
use Rattle.bep_tree.specs.Names.{is_among}
use Rattle.bep_tree.proofs.Walking.{reaches_so}
use Rattle.bep_json.specs.Numbers.{is_whole, read_number}
use Rattle.bep_json.specs.Taking.{slot, with_member}
use Rattle.bep_json.proofs.TakingFacts.{fills}
use Rattle.memory_tests.specs.declared.tests.walks.Sized.{Sized}
use Rattle.memory_tests.proofs.tests.walks.SizedSlots.take.Goals as goal

abbrev sized_slots : (List ℕ → Option Data) → Sized
sized_slots look = record { size = slot is_whole (read_number 0 9) (look (codes "size")) }

pub returns-in-size-clause-value : goal.returns-in-size-clause-value
returns-in-size-clause-value c = λ look d rest known stood.
    reaches_so _ _ c.fill_leaf.result (λ filled is.
    fills (codes "size" ∷ []) sized_slots c.args.key.now d look _ _ _ rest filled is.0 (ap (λ k. is_among k (codes "size" ∷ [])) c.in-size.is)
    (ap (λ slot. record { size = slot }) is.1 ∙ ap (λ k. sized_slots (with_member k d look)) (sym c.in-size.is)) is.2)
    (c.fill_leaf.ensures.value d rest stood)
