use Rattle.std.proofs.Common.{rules, sym, subst}
use Rattle.std.proofs.lemmas.Map.Views.{All-insert_key}
use Rattle.bep_config.specs.Config.{IsNewLink, Joins, by_ends}
use Rattle.bep_config.proofs.config.Config.add_link.Goals as goal

pub invariant_of-self-2 : goal.invariant_of-self-2
invariant_of-self-2 g c = record {
  few_folders = c.self.invariant.few_folders;
  named = c.self.invariant.named;
  few_devices = c.self.invariant.few_devices;
  of_folders = c.self.invariant.of_folders;
  of_devices = c.self.invariant.of_devices;
  sharing = c.self.invariant.sharing;
  joined = rw c.in_ok-insert.ensures.keys (All-insert_key by_ends (c.args.a, c.args.b) (Joins c.self.inside.devices.keys) c.self.inside.links.keys c.self.invariant.joined (subst (λ config. Joins config.devices (c.args.a, c.args.b)) (sym c.self.view_is) (c.joins.ensures.0 c.if-not-joins.false)));
  numbered = c.self.invariant.numbered;
  indexed = c.self.invariant.indexed;
}

pub returns-in_err-insert-clause-first : goal.returns-in_err-insert-clause-first
returns-in_err-insert-clause-first g c =
    let new : IsNewLink c.args.self.now c.args.a c.args.b = record { joins = search rules; new = search rules } in
    λ not. absurd (not new)

pub returns-clause-first : goal.returns-clause-first
returns-clause-first g c =
    let new : IsNewLink c.args.self.now c.args.a c.args.b = record { joins = search rules; new = search rules } in
    λ not. absurd (not new)
