use Rattle.std.proofs.Common.{◌≡◌, true, false, Some, Ok, IfOk, rules, refl, ap, sym, subst, ◌∙◌}
use Rattle.bep_machine.specs.Exchange.{Answers, MessageRow}
use Rattle.bep_machine.specs.Replica.{node_at}
use Rattle.bep_peer.specs.declared.trace.Trace.{Trace}
use Rattle.bep_machine.specs.declared.message.Message.TheVariants as messages
use Rattle.bep_peer.specs.declared.taking.effect.Effect.TheVariants.{Answered}
use Rattle.bep_peer.specs.inner.Effect.{Takes}
use Rattle.bep_peer.specs.inner.Request.{IsNodeAt}
use Rattle.bep_peer.specs.Member.{Member, Remains, tables_of}
use Rattle.bep_peer.proofs.Unrefused.{request_lost, request_unrefused}
use Rattle.bep_peer.proofs.RequestFacts.{hash_of_node, node_of, request_answered, request_waits, seen_answers}
use Rattle.bep_peer.proofs.peer.Peer.take_request.Goals as goal

pub returns-then-full-clause-step : goal.returns-then-full-clause-step
returns-then-full-clause-step g c = λ session has.
    let yes : c.is_named.result ≡ true = search rules in
    let shared = c.is_named.ensures.shared yes in
    request_waits c.args.other c.args.self.now.trace.failed c.args.full session c.args.request.now c.args.self.now shared.0
    c.if-full.true ((c.is_named.ensures.value session has).0 yes) shared.1

pub returns-clause-step : goal.returns-clause-step
returns-clause-step g c = λ session has.
    let yes : c.is_named.result ≡ true = search rules in
    let shared = c.is_named.ensures.shared yes in
    let request = c.args.request.now in
    let same = c.hash_at_hand-hash.ensures.same in
    let found = subst (λ (m : Member). IfOk c.read-read.result (IsNodeAt m.folders request.folder request.name)) same c.read-read.ensures.node in
    let read = node_of c.args.self.now.folders request.folder request.name shared.0 c.read-read.result shared.1 found in
    request_answered c.args.other c.read-read.new.self.trace.failed c.args.full session request c.args.self.now c.read-read.new.self shared.0 c.in_ok-answer_read.field-0
    c.if-full.false ((c.is_named.ensures.value session has).0 yes) shared.1 (c.read-read.ensures.same ∙ ap tables_of same)
    (subst (λ (trace : Trace). Answers request trace.failed (node_at shared.0.tables request.name) c.in_ok-answer_read.field-0) (sym c.read-read.ensures.told)
    (c.in_ok-answer_read.ensures.ok (node_at shared.0.tables request.name) read))

pub returns-then-not-is_named-clause-unhidden : goal.returns-then-not-is_named-clause-unhidden
returns-then-not-is_named-clause-unhidden g c = λ goes session is.
    request_lost c.args.other c.args.self.now.trace.failed c.args.full session (tables_of c.args.self.now) c.args.request.now
    (λ named. absurd (let yes : c.is_named.result ≡ true = (c.is_named.ensures.value session is).1 named in let no : c.is_named.result ≡ false = search rules in cc))

pub returns-in_err-answer_read-clause-unhidden : goal.returns-in_err-answer_read-clause-unhidden
returns-in_err-answer_read-clause-unhidden g c = λ goes session is.
    request_unrefused c.args.other c.read-read.new.self.trace.failed c.args.full session (tables_of c.args.self.now) c.args.request.now c.if-full.false

pub returns-clause-unhidden : goal.returns-clause-unhidden
returns-clause-unhidden g c = λ goes session is.
    request_unrefused c.args.other c.read-read.new.self.trace.failed c.args.full session (tables_of c.args.self.now) c.args.request.now c.if-full.false

pub returns-in-Some-clause-step : goal.returns-in-Some-clause-step
returns-in-Some-clause-step g c = λ session has.
    let yes : c.is_named.result ≡ true = search rules in
    let shared = c.is_named.ensures.shared yes in
    let request = c.args.request.now in
    let same = c.hash_at_hand-hash.ensures.same in
    let at = subst (λ (m : Member). IsNodeAt m.folders request.folder request.name (Some c.in-Some.node.now)) same c.in-Some.ensures in
    let there = node_of c.args.self.now.folders request.folder request.name shared.0 (Ok (Some c.in-Some.node.now)) shared.1 at in
    subst (λ (m : Member). Takes (MessageRow c.args.other m.trace.failed c.args.full session (messages.Request request) (tables_of c.args.self.now)) c.args.self.now m (Ok (Answered c.in_ok-answer_seen.field-0))) (sym same) (
    request_answered c.args.other c.args.self.now.trace.failed c.args.full session request c.args.self.now c.args.self.now shared.0 c.in_ok-answer_seen.field-0
    c.if-full.false ((c.is_named.ensures.value session has).0 yes) shared.1 refl
    (seen_answers request c.args.self.now.trace.failed (node_at shared.0.tables request.name) c.in-Some.node.now c.in_ok-answer_seen.field-0
    (ap (λ (trace : Trace). trace.failed) c.requires.untold) there c.in_ok-answer_seen.ensures.ok))

pub returns-in-Some-clause-unhidden : goal.returns-in-Some-clause-unhidden
returns-in-Some-clause-unhidden g c = λ goes session is.
    request_unrefused c.args.other c.hash_at_hand-hash.new.self.trace.failed c.args.full session (tables_of c.args.self.now) c.args.request.now c.if-full.false

pub returns-in_err-answer_seen-clause-unhidden : goal.returns-in_err-answer_seen-clause-unhidden
returns-in_err-answer_seen-clause-unhidden g c = λ goes session is.
    request_unrefused c.args.other c.hash_at_hand-hash.new.self.trace.failed c.args.full session (tables_of c.args.self.now) c.args.request.now c.if-full.false

pub returns-in_err-answer_seen-clause-step : goal.returns-in_err-answer_seen-clause-step
returns-in_err-answer_seen-clause-step g c = λ session has.
    let back : tables_of c.hash_at_hand-hash.new.self ≡ tables_of c.args.self.now = ap tables_of c.hash_at_hand-hash.ensures.same in
    search rules

pub returns-in_err-answer_read-clause-step : goal.returns-in_err-answer_read-clause-step
returns-in_err-answer_read-clause-step g c = λ session has.
    let back : tables_of c.read-read.new.self ≡ tables_of c.args.self.now = c.read-read.ensures.same ∙ ap tables_of c.hash_at_hand-hash.ensures.same in
    search rules

-- the device is as it was after it was asked for a hash
pub answer_seen-requires : goal.answer_seen-requires
answer_seen-requires g c =
    let request = c.args.request.now in
    let same = c.hash_at_hand-hash.ensures.same in
    let at = subst (λ (m : Member). IsNodeAt m.folders request.folder request.name (Some c.in-Some.node.now)) same c.in-Some.ensures in
    record { known = hash_of_node c.args.self.now.folders request.folder request.name request.offset request.size c.hash_at_hand-hash.result c.in-Some.node.now c.hash_at_hand-hash.ensures.hash at }

pub returns-clause-rest : goal.returns-clause-rest
returns-clause-rest g c = subst (λ (m : Member). Remains m c.read-read.new.self) c.hash_at_hand-hash.ensures.same c.read-read.ensures.rest

pub returns-in_err-answer_read-clause-rest : goal.returns-in_err-answer_read-clause-rest
returns-in_err-answer_read-clause-rest g c = subst (λ (m : Member). Remains m c.read-read.new.self) c.hash_at_hand-hash.ensures.same c.read-read.ensures.rest
