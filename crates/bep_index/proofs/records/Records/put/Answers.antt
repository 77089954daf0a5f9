use Rattle.std.proofs.Common.{◌∙◌, ◌++◌, ◌∷◌, [], ap, sym, subst}
use Rattle.bep_record.specs.declared.entry.Entry.{Entry}
use Rattle.bep_index.specs.Batch.{HasNo}
use Rattle.bep_index.specs.Order.{IsAt}
use Rattle.bep_index.proofs.PlaceFacts.{get-new, get-at}
use Rattle.bep_index.proofs.PutFacts.{without_none}
use Rattle.bep_index.proofs.records.Records.put.Goals as goal

pub returns-in-Some-clause-before : goal.returns-in-Some-clause-before
returns-in-Some-clause-before c =
    c.renew.ensures.old
    ∙ get-at c.args.entry.name c.args.self.now c.in-Some.place c.in-Some.ensures.in_order.names
    (subst (λ (e : Entry). IsAt c.args.self.now c.in-Some.place e.name) c.entry.ensures.value c.in-Some.ensures.there)

new : (c : goal.In_ok-add-in-None) → HasNo c.args.entry.name c.args.self.now
new c = subst (λ (e : Entry). HasNo e.name c.args.self.now) c.entry.ensures.value c.in-None.ensures.none

pub returns-in_ok-add-in-None-clause-ok : goal.returns-in_ok-add-in-None-clause-ok
returns-in_ok-add-in-None-clause-ok c =
    c.in_ok-add-in-None.ensures.ok ∙ ap (λ es. es ++ c.args.entry ∷ []) (sym (without_none c.args.entry.name c.args.self.now (new c)))

pub returns-in_ok-add-in-None-clause-before : goal.returns-in_ok-add-in-None-clause-before
returns-in_ok-add-in-None-clause-before c = sym (get-new c.args.entry.name c.args.self.now (new c))
