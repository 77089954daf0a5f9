use Rattle.std.proofs.Common.{◌∙◌, ap}
use Rattle.std.specs.Option.{option_copied}
use Rattle.bep_machine.specs.Replica.{own_at}
use Rattle.bep_folder.specs.Held.{Held}
use Rattle.bep_folder.proofs.KnownFacts.{IsKnownIn, choice_is, chosen_is, none_chosen}
use Rattle.bep_folder.proofs.replica.Replica.chosen.Given.{Over}
use Rattle.bep_folder.proofs.replica.Replica.chosen.Goals as goal

-- the choice was among what the replica's tables have
known : (g : Over) (c : goal.After-best_known g) → IsKnownIn c.args.self.now c.args.name.now c.self.inside.device (option_copied c.get-own.result) c.self.inside.views c.as_slice.result.now
known g c = record {
  same_device = ap (λ (h : Held). h.device) c.self.view_is;
  same_own = c.get-own.ensures.value ∙ ap (λ (h : Held). own_at h.tables c.args.name.now) c.self.view_is;
  same_views = ap (λ (h : Held). h.tables.views) c.self.view_is;
  same_others = c.as_slice.ensures ∙ ap (λ (h : Held). h.tables.others) c.self.view_is;
}

pub returns-clause-chosen : goal.returns-clause-chosen
returns-clause-chosen g c =
    chosen_is c.args.self.now c.args.name.now c.self.inside.device (option_copied c.get-own.result) c.self.inside.views c.as_slice.result.now (known g c) c.best_known.result c.best_known.ensures.chosen

pub returns-clause-only : goal.returns-clause-only
returns-clause-only g c =
    λ one chooses. c.best_known.ensures.only (chooses.0, one)
    ((choice_is c.args.self.now c.args.name.now c.self.inside.device (option_copied c.get-own.result) c.self.inside.views c.as_slice.result.now (known g c) (chooses.0, one)).1 chooses.1)

pub returns-clause-none : goal.returns-clause-none
returns-clause-none g c = none_chosen c.args.self.now.device c.args.self.now.tables c.args.name.now c.best_known.result (returns-clause-only g c)
