use Rattle.std.proofs.Common.{◌≡◌, ◌∙◌, [], Some, None, take, drop, slice_get, refl, sym, subst}
use Rattle.bep_index.specs.declared.limits.TheConstants.{MAX_RECORDS}
use Rattle.bep_index.specs.declared.send.Plan.{Plan}
use Rattle.bep_index.specs.After.{IsAfter}
use Rattle.bep_index.specs.Order.{in_order}
use Rattle.bep_machine.specs.Exchange.{IsAllSent, sent_up_to}
use Rattle.bep_peer.proofs.SentFacts.{copied_none, copied_some, nothing_left, something_left}
use Rattle.bep_peer.proofs.sending.batches.is_all_sent.Goals as goal

pub returns-in-Full-clause-next : goal.returns-in-Full-clause-next
returns-in-Full-clause-next c =
    let records = c.args.index.now.records in
    let rest = take MAX_RECORDS (drop c.place_above-place.result (in_order records)) in
    (rest, subst (λ n. IsAfter records n MAX_RECORDS rest) c.sent_up_to.ensures (c.place_above-place.ensures.after MAX_RECORDS))

pub returns-in-Above-clause-next : goal.returns-in-Above-clause-next
returns-in-Above-clause-next c =
    let records = c.args.index.now.records in
    let rest = take MAX_RECORDS (drop c.place_above-place.result (in_order records)) in
    (rest, subst (λ n. IsAfter records n MAX_RECORDS rest) c.sent_up_to.ensures (c.place_above-place.ensures.after MAX_RECORDS))

pub returns-in-Above-clause-all : goal.returns-in-Above-clause-all
returns-in-Above-clause-all c = λ all.
    let records = c.args.index.now.records in
    let order = in_order records in
    let rest = take MAX_RECORDS (drop c.place_above-place.result order) in
    let after : IsAfter records (sent_up_to c.args.cursor) MAX_RECORDS rest = subst (λ n. IsAfter records n MAX_RECORDS rest) c.sent_up_to.ensures (c.place_above-place.ensures.after MAX_RECORDS) in
    let none : slice_get order c.place_above-place.result ≡ None = sym c.at.ensures.value ∙ copied_none c.at.result c.is_none.result c.is_none.ensures all in
    (subst (λ (plan : Plan). IsAllSent plan []) (sym c.in-Above.is) refl, nothing_left records (sent_up_to c.args.cursor) c.place_above-place.result order after none)

pub returns-in-Above-clause-some : goal.returns-in-Above-clause-some
returns-in-Above-clause-some c = λ more batch is sent.
    let records = c.args.index.now.records in
    let order = in_order records in
    let rest = take MAX_RECORDS (drop c.place_above-place.result order) in
    let after : IsAfter records (sent_up_to c.args.cursor) MAX_RECORDS rest = subst (λ n. IsAfter records n MAX_RECORDS rest) c.sent_up_to.ensures (c.place_above-place.ensures.after MAX_RECORDS) in
    let there = copied_some c.at.result c.is_none.result c.is_none.ensures more in
    let some : slice_get order c.place_above-place.result ≡ Some there.0 = sym c.at.ensures.value ∙ there.1 in
    something_left records (sent_up_to c.args.cursor) c.place_above-place.result order after there.0 some batch is (subst (λ (plan : Plan). IsAllSent plan batch) c.in-Above.is sent)
