use Rattle.std.proofs.Common.{rules, ◌≡◌, true, false, List, subst}
use Rattle.bep_record.specs.declared.entry.Entry.{Entry}
use Rattle.bep_index.specs.View.{replaced}
use Rattle.bep_peer.specs.Member.{Member, tables_of}
use Rattle.bep_peer.specs.inner.Index.{TakesInView}
use Rattle.bep_peer.proofs.Unrefused.{index_lost, index_unrefused}
use Rattle.bep_peer.proofs.ViewTaken.{changes_one, member_kept, member_remains, same_on_error, sends_none, index_taken, index_full}
use Rattle.bep_peer.proofs.peer.Peer.take_index.Goals as goal

pub returns-then-has_many_names-clause-step : goal.returns-then-has_many_names-clause-step
returns-then-has_many_names-clause-step g c = λ full session is.
    let shared = c.is_named.ensures.shared (search rules) in
    index_full c.args.other c.args.folder.now c.args.self.now c.args.self.now.trace.failed full session c.args.batch.now shared.0 ((c.is_named.ensures.value session is).0 (search rules)) shared.1 (c.has_many_names.ensures.0 (search rules))

pub replace_view-requires-clause-shared : goal.replace_view-requires-clause-shared
replace_view-requires-clause-shared g c = rw (← c.self.view_is) at (c.is_named.ensures.shared (search rules))

pub invariant_of-self : goal.invariant_of-self
invariant_of-self g c =
    let shared = rw (← c.self.view_is) at (c.is_named.ensures.shared (search rules)) in
    member_kept c.self.inside.number c.self.inside.folders c.replace_view.new.folders c.self.inside.sessions c.self.inside.linked
    (changes_one c.args.folder.now c.args.other shared.0 (λ view. ⊥) (λ view. replaced view c.in_ok-batch.batch) c.self.inside.folders c.replace_view.new.folders shared.1 c.replace_view.result (c.replace_view.ensures shared.0 shared.1))
    c.self.invariant

pub returns-clause-step : goal.returns-clause-step
returns-clause-step g c = rw (← c.self.view_is) (λ full session is.
    let shared = rw (← c.self.view_is) at (c.is_named.ensures.shared (search rules)) in
    let value = rw (← c.self.view_is) at c.is_named.ensures.value in
    let member : Member = record { number = c.self.inside.number; folders = c.self.inside.folders; sessions = c.self.inside.sessions; linked = c.self.inside.linked; trace = c.self.inside.trace } in
    index_taken c.args.other c.args.folder.now member shared.0 shared.1 c.self.inside.trace.failed full session ((value session is).0 (search rules)) c.args.batch.now c.replace_view.new.folders c.replace_view.result
    (subst (λ (batch : List Entry). TakesInView c.args.folder.now c.args.other shared.0 (λ view. ⊥) (λ view. replaced view batch) c.self.inside.folders c.replace_view.new.folders c.replace_view.result)
    c.in_ok-batch.ensures (c.replace_view.ensures shared.0 shared.1)))

pub returns-clause-rest : goal.returns-clause-rest
returns-clause-rest g c =
    let shared = rw (← c.self.view_is) at (c.is_named.ensures.shared (search rules)) in
    let told = rw (← c.self.view_is) at c.requires.untold in
    let member : Member = record { number = c.self.inside.number; folders = c.self.inside.folders; sessions = c.self.inside.sessions; linked = c.self.inside.linked; trace = c.self.inside.trace } in
    rw (← c.self.view_is)
    (member_remains member c.replace_view.new.folders told
    (changes_one c.args.folder.now c.args.other shared.0 (λ view. ⊥) (λ view. replaced view c.in_ok-batch.batch) c.self.inside.folders c.replace_view.new.folders shared.1 c.replace_view.result (c.replace_view.ensures shared.0 shared.1)))

pub returns-clause-err : goal.returns-clause-err
returns-clause-err g c =
    let shared = rw (← c.self.view_is) at (c.is_named.ensures.shared (search rules)) in
    let member : Member = record { number = c.self.inside.number; folders = c.self.inside.folders; sessions = c.self.inside.sessions; linked = c.self.inside.linked; trace = c.self.inside.trace } in
    rw (← c.self.view_is)
    (same_on_error c.args.other c.args.folder.now member shared.0 shared.1 (λ view. ⊥) (λ view. replaced view c.in_ok-batch.batch) c.replace_view.new.folders c.replace_view.result (c.replace_view.ensures shared.0 shared.1))

pub returns-clause-silent : goal.returns-clause-silent
returns-clause-silent g c =
    let shared = rw (← c.self.view_is) at (c.is_named.ensures.shared (search rules)) in
    sends_none c.args.folder.now c.args.other shared.0 (λ view. ⊥) (λ view. replaced view c.in_ok-batch.batch) c.self.inside.folders c.replace_view.new.folders c.replace_view.result (c.replace_view.ensures shared.0 shared.1)

pub returns-then-not-is_named-clause-unhidden : goal.returns-then-not-is_named-clause-unhidden
returns-then-not-is_named-clause-unhidden g c = λ goes full session is.
    index_lost c.args.other c.args.self.now.trace.failed full session (tables_of c.args.self.now) c.args.folder.now c.args.batch.now
    (λ named. absurd (let yes : c.is_named.result ≡ true = (c.is_named.ensures.value session is).1 named in let no : c.is_named.result ≡ false = search rules in cc))

pub returns-in_err-batch-clause-unhidden : goal.returns-in_err-batch-clause-unhidden
returns-in_err-batch-clause-unhidden g c = λ goes full session is.
    index_unrefused c.args.other c.args.self.now.trace.failed full session (tables_of c.args.self.now) c.args.folder.now c.args.batch.now
    (λ many. absurd (let yes : c.has_many_names.result ≡ true = c.has_many_names.ensures.1 many in let no : c.has_many_names.result ≡ false = search rules in cc))

pub returns-clause-unhidden : goal.returns-clause-unhidden
returns-clause-unhidden g c = rw (← c.self.view_is) (λ goes full session is.
    let member : Member = record { number = c.self.inside.number; folders = c.self.inside.folders; sessions = c.self.inside.sessions; linked = c.self.inside.linked; trace = c.self.inside.trace } in
    index_unrefused c.args.other c.self.inside.trace.failed full session (tables_of member) c.args.folder.now c.args.batch.now
    (λ many. absurd (let yes : c.has_many_names.result ≡ true = c.has_many_names.ensures.1 many in let no : c.has_many_names.result ≡ false = search rules in cc)))
