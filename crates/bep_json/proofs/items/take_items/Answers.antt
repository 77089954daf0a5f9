use Rattle.std.proofs.Common.{◌≡◌, ◌∙◌, ◌<◌, length, [], Ok, None, Err, sym, ap, ap₂, subst, rules, arith}
use Rattle.json.specs.Json.{after_end_array}
use Rattle.bep_tree.specs.Walk.{Stands, StandItems}
use Rattle.bep_tree.proofs.Walking.{item_comes, list_ends}
use Rattle.bep_json.specs.Lists.{have_shape, read_items}
use Rattle.bep_json.specs.Taking.{judged}
use Rattle.bep_json.specs.inner.Joined.{so_far, worse, followed}
use Rattle.bep_json.proofs.TakingFacts.{followed_first, followed_last, item_joined, onto_joined}
use Rattle.bep_json.proofs.items.take_items.Goals as goal

pub loop-alloc-init : goal.loop-alloc-init
loop-alloc-init g c = record {
  items = λ ds rest stood.
      let all = judged (have_shape (g.T.Shaped.has_shape c.args.version) ds) (read_items (g.T.Shaped.reads c.args.version) ds) in
      (ds, stood, ap (λ none. followed (Ok none) all) c.new-things.ensures.items ∙ followed_first all);
  no_longer = omega arith;
}

pub returns-in_err-next-clause-value : goal.returns-in_err-next-clause-value
returns-in_err-next-clause-value g c = λ ds rest stood.
    let going : (after_end_array c.loop-alloc.reader ≡ None) × (c.take_end_array.new.self ≡ c.loop-alloc.reader) = grind arith in
    let there = c.loop-alloc.invariant.items ds rest stood in
    let one = item_comes c.args.depth c.loop-alloc.reader there.0 rest going.0 there.1 in
    let fails = c.in_err-next.ensures.value one.0 one.2 (subst (λ ts. Stands c.args.depth ts one.0 one.2) (sym going.1) one.4) in
    let is : c.from_residual.result ≡ Err c.in_err-next.field-0.0 = search rules in
    rw is fails

pub loop-alloc-preserved : goal.loop-alloc-preserved
loop-alloc-preserved g c =
    let going : (after_end_array c.loop-alloc.reader ≡ None) × (c.take_end_array.new.self ≡ c.loop-alloc.reader) = grind arith in
    record {
      items = λ ds rest stood.
          let there = c.loop-alloc.invariant.items ds rest stood in
          let one = item_comes c.args.depth c.loop-alloc.reader there.0 rest going.0 there.1 in
          let taken = c.in_ok-next.ensures.value one.0 one.2 (subst (λ ts. Stands c.args.depth ts one.0 one.2) (sym going.1) one.4) in
          let shape = g.T.Shaped.has_shape c.args.version in
          let reads = g.T.Shaped.reads c.args.version in
          let rest_of = judged (have_shape shape one.1) (read_items reads one.1) in (
            one.1,
            subst (λ ts. StandItems c.args.depth ts one.1 rest) (sym taken.2) one.5,
            ap (λ told. followed told rest_of)
                (ap₂ so_far (c.worse-misread.ensures ∙ ap (worse c.loop-alloc.misread) taken.0) taken.1 ∙ onto_joined c.loop-alloc.misread c.loop-alloc.things.items (judged (shape one.0) (reads one.0)))
                ∙ item_joined shape reads (so_far c.loop-alloc.misread c.loop-alloc.things.items) one.0 one.1
                ∙ ap (λ ds. followed (so_far c.loop-alloc.misread c.loop-alloc.things.items) (judged (have_shape shape ds) (read_items reads ds))) (sym one.3)
                ∙ there.2,
          );
      no_longer = let shorter : length c.take_onto.new.reader < length c.loop-alloc.reader = rw (← going.1) c.in_ok-next.ensures.shorter in omega (arith, c.loop-alloc.invariant.no_longer);
    }

pub returns-clause-value : goal.returns-clause-value
returns-clause-value g c = λ ds rest stood.
    let there = c.loop-alloc.invariant.items ds rest stood in
    let ends = list_ends c.args.depth c.loop-alloc.reader c.take_end_array.new.self there.0 rest c.loop-alloc-test.ensures there.1 in
    let shape = g.T.Shaped.has_shape c.args.version in
    let reads = g.T.Shaped.reads c.args.version in
    let last : followed (so_far c.loop-alloc.misread c.loop-alloc.things.items) (Ok []) ≡ judged (have_shape shape ds) (read_items reads ds) =
    ap (λ ds. followed (so_far c.loop-alloc.misread c.loop-alloc.things.items) (judged (have_shape shape ds) (read_items reads ds))) (sym ends.0) ∙ there.2 in
    (c.told_of.ensures ∙ sym (followed_last (so_far c.loop-alloc.misread c.loop-alloc.things.items)) ∙ last, ends.1)
