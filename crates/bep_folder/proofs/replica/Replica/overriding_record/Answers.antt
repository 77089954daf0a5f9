use Rattle.std.proofs.Common.{rules, ◌≡◌, ◌∙◌, Option, subst, sym, ap}
use Rattle.std.specs.Option.{option_copied}
use Rattle.bep_record.specs.declared.entry.Entry.{Entry}
use Rattle.bep_record.specs.declared.folder_kind.FolderKind.TheVariants.{SendOnly}
use Rattle.bep_machine.specs.Local.{IsOverridable}
use Rattle.bep_machine.specs.Replica.{own_at}
use Rattle.bep_folder.specs.Held.{Held}
use Rattle.bep_folder.proofs.OverrideFacts.{overrides_chosen, winner_named}
use Rattle.bep_folder.proofs.replica.Replica.overriding_record.Goals as goal

pub returns-in_default-clause-made : goal.returns-in_default-clause-made
returns-in_default-clause-made g c = (search rules, λ can. c.in_default.ensures.none can.0 can.1)

pub returns-then-not-is_overridable-clause-made : goal.returns-then-not-is_overridable-clause-made
returns-then-not-is_overridable-clause-made g c =
    let own_is : option_copied c.get-own.result ≡ own_at c.args.self.now.tables c.args.name.now =
    c.get-own.ensures.value ∙ ap (λ (h : Held). own_at h.tables c.args.name.now) c.self.view_is in (
      search rules,
      λ can.
          let same : c.in-Some.chosen.now ≡ can.0 = let e = c.in-Some.ensures.only can.0 can.1 in cc in
          let behind : IsOverridable (own_at c.args.self.now.tables c.args.name.now) c.in-Some.chosen.now =
          subst (λ (e : Entry). IsOverridable (own_at c.args.self.now.tables c.args.name.now) e) (sym same) can.2 in
          let yes = c.is_overridable.ensures.1 (subst (λ (o : Option Entry). IsOverridable o c.in-Some.chosen.now) (sym own_is) behind) in
          absurd (search (rules, yes)),
    )

pub returns-clause-made : goal.returns-clause-made
returns-clause-made g c =
    let only : c.args.self.now.tables.kind ≡ SendOnly = search rules in
    let own_is : option_copied c.get-own.result ≡ own_at c.args.self.now.tables c.args.name.now =
    c.get-own.ensures.value ∙ ap (λ (h : Held). own_at h.tables c.args.name.now) c.self.view_is in
    let behind : IsOverridable (option_copied c.get-own.result) c.in-Some.chosen.now = search rules in
    overrides_chosen c.args.self.now.device c.self.inside.device c.args.name.now c.args.self.now.tables (option_copied c.get-own.result) c.in-Some.chosen.now c.winning.result
    (ap (λ (h : Held). h.device) c.self.view_is) own_is only c.in-Some.ensures.chosen behind c.winning.ensures

pub returns-clause-named : goal.returns-clause-named
returns-clause-named g c =
    winner_named c.self.inside.device c.args.name.now (option_copied c.get-own.result) c.in-Some.chosen.now c.winning.result
    (λ one is. (c.get-own.ensures.an_index.numbered c.args.name.now one (sym c.get-own.ensures.value ∙ is)).0) c.winning.ensures
