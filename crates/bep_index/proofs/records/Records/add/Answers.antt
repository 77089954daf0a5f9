use Rattle.std.proofs.Common.{◌≡◌, ◌∙◌, ◌++◌, ◌∷◌, [], nat_eq, ap, sym, subst}
use Rattle.std.specs.Cmp.Lexicographic.{pointwise}
use Rattle.std.specs.Map.{lookup}
use Rattle.indexmap.proofs.CallerLemmas.{insert_entry-new}
use Rattle.bep_record.specs.declared.entry.Entry.{Entry}
use Rattle.bep_index.specs.Batch.{HasNo}
use Rattle.bep_index.specs.Order.{AreInOrder, named}
use Rattle.bep_index.proofs.PlaceFacts.{kept_named, values-same, named-push, get-records, get-new}
use Rattle.bep_index.proofs.PutFacts.{AreInOrder-put, without_none}
use Rattle.bep_index.proofs.records.Records.add.Goals as goal

held : (c : goal.Joined-branch-3) → c.self.inside.entries.entries ≡ named c.args.self.now
held c = c.self.invariant.0 ∙ ap named c.self.view_is

order : (c : goal.Joined-branch-3) → AreInOrder c.args.self.now
order c = subst AreInOrder c.self.view_is c.self.invariant.1

key : (c : goal.Joined-branch-3) → c.in_ok-key.key ≡ c.args.entry.name
key c = c.in_ok-key.ensures ∙ ap (λ (e : Entry). e.name) c.entry.ensures.value

-- the entries are those before, and the new one
entries : (c : goal.Joined-branch-3) → c.insert.new.self.entries ≡ named (c.args.self.now ++ c.args.entry ∷ [])
entries c =
    c.in_ok-insert.ensures.entries
    ∙ insert_entry-new (pointwise nat_eq) c.self.inside.entries c.in_ok-key.key c.args.entry
    (ap (lookup (pointwise nat_eq c.in_ok-key.key)) (held c) ∙ get-records c.in_ok-key.key c.args.self.now (order c).names
    ∙ get-new c.in_ok-key.key c.args.self.now (subst (λ n. HasNo n c.args.self.now) (sym (key c)) c.requires.new))
    ∙ ap (λ es. es ++ (c.in_ok-key.key, c.args.entry) ∷ []) (held c)
    ∙ ap (λ k. named c.args.self.now ++ (k, c.args.entry) ∷ []) (key c)
    ∙ sym (named-push c.args.self.now c.args.entry)

pub invariant_of-self-2 : goal.invariant_of-self-2
invariant_of-self-2 c =
    kept_named c.insert.new.self.entries (c.args.self.now ++ c.args.entry ∷ []) (entries c)
    (subst (λ es. AreInOrder (es ++ c.args.entry ∷ [])) (without_none c.args.entry.name c.args.self.now c.requires.new)
    (AreInOrder-put c.args.self.now c.args.entry (order c) c.requires.later.above c.requires.later.within))

pub returns-clause-ok : goal.returns-clause-ok
returns-clause-ok c = values-same c.insert.new.self.entries (c.args.self.now ++ c.args.entry ∷ []) (entries c)
