use Rattle.std.proofs.Common.{◌≡◌, ◌∙◌, ◌-◌, Some, length, ap, sym, subst, arith}
use Rattle.indexmap.specs.IndexMap.{move_index}
use Rattle.indexmap.specs.Layout.{set_value_at, length-set_value_at}
use Rattle.bep_record.specs.declared.entry.Entry.{Entry}
use Rattle.bep_index.specs.Order.{AreInOrder, named, without, put_in, count_up_to}
use Rattle.bep_index.proofs.AfterFacts.{count_le}
use Rattle.bep_index.proofs.MoveFacts.{moved_back, length-last, below-last, count-last}
use Rattle.bep_index.proofs.PlaceFacts.{kept_named, values-same, length-named}
use Rattle.bep_index.proofs.PutFacts.{AreInOrder-back}
use Rattle.bep_index.proofs.records.Records.put_back.Goals as goal

-- as many are there once the record is written
many : (c : goal.After-move_index-arg-1) → length (set_value_at c.self.inside.entries.entries (c.len-last.result - 1) c.args.old) ≡ length c.args.self.now
many c =
    length-set_value_at c.self.inside.entries.entries (c.len-last.result - 1) c.args.old ∙ ap length (c.self.invariant.0 ∙ ap named c.self.view_is)
    ∙ length-named c.args.self.now

pub move_index-requires-clause-from_in_bounds : goal.move_index-requires-clause-from_in_bounds
move_index-requires-clause-from_in_bounds c =
    let all = many c in
    let one = length-last c.args.self.now c.requires.last.0 c.requires.last.1 c.requires.last.2 in
    let had = c.len-last.ensures.value in
    omega arith

pub move_index-requires-clause-to_in_bounds : goal.move_index-requires-clause-to_in_bounds
move_index-requires-clause-to_in_bounds c =
    let all = many c in
    let one = length-last c.args.self.now c.requires.last.0 c.requires.last.1 c.requires.last.2 in
    let below = below-last c.args.self.now c.requires.last.0 c.requires.last.1 c.requires.last.2 c.args.old.sequence c.requires.before.2 in
    let place = c.place_above-place.ensures.value ∙ ap (λ (e : Entry). count_up_to e.sequence c.args.self.now) c.entry.ensures.value
    ∙ ap (count_up_to c.args.old.sequence) c.requires.last.2 ∙ count-last 0 c.args.old.sequence c.requires.last.0 c.requires.last.1 below in
    let most = count_le c.args.old.sequence c.requires.last.0 in
    omega arith

-- the record stands at the place of its sequence now
entries : (c : goal.After-move_index) → c.move_index.new.self.entries ≡ named (put_in c.args.old (without c.args.old.name c.args.self.now))
entries c =
    let one = length-last c.args.self.now c.requires.last.0 c.requires.last.1 c.requires.last.2 in
    let below = below-last c.args.self.now c.requires.last.0 c.requires.last.1 c.requires.last.2 c.args.old.sequence c.requires.before.2 in
    let place = c.place_above-place.ensures.value ∙ ap (λ (e : Entry). count_up_to e.sequence c.args.self.now) c.entry.ensures.value in
    let had = c.len-last.ensures.value in
    c.move_index.ensures.entries
    ∙ ap (λ es. move_index (set_value_at es (c.len-last.result - 1) c.args.old) (c.len-last.result - 1) c.place_above-place.result) (c.self.invariant.0 ∙ ap named c.self.view_is)
    ∙ ap (λ es. move_index (set_value_at (named es) (c.len-last.result - 1) c.args.old) (c.len-last.result - 1) c.place_above-place.result) c.requires.last.2
    ∙ moved_back c.requires.last.0 c.requires.last.1 c.args.old (c.len-last.result - 1) c.place_above-place.result
    (subst AreInOrder c.requires.last.2 c.len-last.ensures.in_order) c.requires.last.3 below (omega arith) (place ∙ ap (count_up_to c.args.old.sequence) c.requires.last.2)
    ∙ ap (λ es. named (put_in c.args.old (without c.args.old.name es))) (sym c.requires.last.2)

pub invariant_of-self : goal.invariant_of-self
invariant_of-self c =
    kept_named c.move_index.new.self.entries (put_in c.args.old (without c.args.old.name c.args.self.now)) (entries c)
    (AreInOrder-back c.args.self.now c.args.old.name (Some c.args.old) c.len-last.ensures.in_order c.requires.before)

pub returns : goal.returns
returns c = values-same c.move_index.new.self.entries (put_in c.args.old (without c.args.old.name c.args.self.now)) (entries c)
