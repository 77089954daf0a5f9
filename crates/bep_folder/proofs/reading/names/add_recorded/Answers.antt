use Rattle.std.proofs.Common.{rules, ◌≡◌, ◌<◌, ◌≤◌, [], ◌∷◌, ap, sym, subst, arith}
use Rattle.std.specs.FinMap.{insert}
use Rattle.bep_record.specs.declared.entry.Entry.{Entry}
use Rattle.bep_index.specs.After.{IsAfter}
use Rattle.bep_folder.proofs.NamesFacts.{AddsUpTo, Names, up_to_next}
use Rattle.bep_folder.proofs.reading.names.add_recorded.Goals as goal

pub loop-record-preserved : goal.loop-record-preserved
loop-record-preserved c = λ an_index.
    let index = c.args.index.now in
    let sequence = c.loop-record.sequence in
    let names = c.loop-record.names in
    let next = c.in-Some.record.now in
    let found : IsAfter index.records sequence 1 (next ∷ []) = c.in-Some.ensures.next in
    let more : c.insert.new.self ≡ insert names next.name tt = search rules in
    subst (λ (now : Names). AddsUpTo index.records c.entry-in-Some.result.now.sequence c.args.names.now now) (sym more)
    (subst (λ (e : Entry). AddsUpTo index.records e.sequence c.args.names.now (insert names next.name tt)) (sym c.entry-in-Some.ensures.value)
    (up_to_next index an_index c.args.names.now names sequence next (c.loop-record.invariant an_index) found))

pub loop-record-smaller : goal.loop-record-smaller
loop-record-smaller c =
    let sequence = c.loop-record.sequence in
    let next = c.in-Some.record.now in
    let found : IsAfter c.args.index.now.records sequence 1 (next ∷ []) = c.in-Some.ensures.next in
    let same : c.entry-in-Some.result.now.sequence ≡ next.sequence = ap (λ (e : Entry). e.sequence) c.entry-in-Some.ensures.value in
    let above : sequence < next.sequence = found.run.rises.0 in
    let least : next.sequence ≤ 9223372036854775807 = found.run.rises.1 in
    omega (arith, same, above, least)
