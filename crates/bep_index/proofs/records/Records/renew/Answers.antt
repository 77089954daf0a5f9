use Rattle.std.proofs.Common.{◌≡◌, ◌∙◌, ◌++◌, ◌∷◌, ◌-◌, [], length, ap, arith}
use Rattle.std.proofs.lemmas.Option.{slice_get_within}
use Rattle.indexmap.specs.IndexMap.{move_index}
use Rattle.indexmap.specs.Layout.{set_value_at, length-set_value_at}
use Rattle.bep_index.specs.Order.{named, without}
use Rattle.bep_index.proofs.MoveFacts.{moved_last}
use Rattle.bep_index.proofs.PlaceFacts.{kept_named, values-same, length-named}
use Rattle.bep_index.proofs.PutFacts.{AreInOrder-put}
use Rattle.bep_index.proofs.records.Records.renew.Goals as goal

-- as many are there once the record is written
many : (c : goal.After-move_index-arg-1) → length (set_value_at c.self.inside.entries.entries c.args.place c.replace-old.new.dest) ≡ length c.args.self.now
many c =
    length-set_value_at c.self.inside.entries.entries c.args.place c.replace-old.new.dest ∙ ap length (c.self.invariant.0 ∙ ap named c.self.view_is)
    ∙ length-named c.args.self.now

pub move_index-requires-clause-from_in_bounds : goal.move_index-requires-clause-from_in_bounds
move_index-requires-clause-from_in_bounds c =
    let within = slice_get_within c.args.self.now c.args.place c.requires.there.entry c.requires.there.there in
    let all = many c in
    omega arith

pub move_index-requires-clause-to_in_bounds : goal.move_index-requires-clause-to_in_bounds
move_index-requires-clause-to_in_bounds c =
    let within = slice_get_within c.args.self.now c.args.place c.requires.there.entry c.requires.there.there in
    let all = many c in
    let had = c.len-last.ensures.value in
    omega arith

-- the record stands last now
entries : (c : goal.After-move_index) → c.move_index.new.self.entries ≡ named (without c.args.entry.name c.args.self.now ++ c.args.entry ∷ [])
entries c =
    let within = slice_get_within c.args.self.now c.args.place c.requires.there.entry c.requires.there.there in
    let had = c.len-last.ensures.value in
    c.move_index.ensures.entries
    ∙ ap (λ w. move_index (set_value_at c.self.inside.entries.entries c.args.place w) c.args.place (c.len-last.result - 1)) c.replace-old.ensures.after
    ∙ ap (λ es. move_index (set_value_at es c.args.place c.args.entry) c.args.place (c.len-last.result - 1)) (c.self.invariant.0 ∙ ap named c.self.view_is)
    ∙ moved_last c.args.self.now c.args.place (c.len-last.result - 1) c.requires.there.entry c.args.entry c.len-last.ensures.in_order.names c.requires.there.there c.requires.there.named (omega arith)

pub invariant_of-self : goal.invariant_of-self
invariant_of-self c =
    kept_named c.move_index.new.self.entries _ (entries c) (AreInOrder-put c.args.self.now c.args.entry c.len-last.ensures.in_order c.requires.later.above c.requires.later.within)

pub returns-clause-after : goal.returns-clause-after
returns-clause-after c = values-same c.move_index.new.self.entries _ (entries c)
