use Rattle.std.proofs.Common.{◌∙◌, subst, sym}
use Rattle.bep_tables.specs.inner.Groups.{AreFull, Grouping, key_in}
use Rattle.bep_tables.proofs.GroupFacts.{begins_there}
use Rattle.bep_tables.proofs.table.groups.Groups.place_of.Goals as goal

pub returns-then-stands_at : goal.returns-then-stands_at
returns-then-stands_at c =
    let full = subst (λ (all : Grouping). AreFull all.groups all.places) c.self.view_is c.self.invariant in
    sym (begins_there c.args.self.now.groups c.args.self.now.places full (key_in c.args.entry.now) c.guess-next.result (sym c.stands_at.ensures ∙ c.if-stands_at.true))
