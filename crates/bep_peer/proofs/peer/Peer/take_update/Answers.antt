use Rattle.std.proofs.Common.{rules, ◌≡◌, true, false}
use Rattle.bep_index.specs.View.{IsOld, amended}
use Rattle.bep_peer.specs.Member.{Member, tables_of}
use Rattle.bep_peer.proofs.MemberFacts.{has_tables}
use Rattle.bep_peer.proofs.Unrefused.{fits, update_lost, update_unrefused}
use Rattle.bep_peer.proofs.ViewTaken.{changes_one, member_kept, member_remains, same_on_error, sends_none, update_taken}
use Rattle.bep_peer.proofs.peer.Peer.take_update.Goals as goal

pub amend_view-requires : goal.amend_view-requires
amend_view-requires g c = rw (← c.self.view_is) at (c.is_named.ensures.shared (search rules))

pub invariant_of-self : goal.invariant_of-self
invariant_of-self g c =
    let shared = rw (← c.self.view_is) at (c.is_named.ensures.shared (search rules)) in
    member_kept c.self.inside.number c.self.inside.folders c.amend_view.new.folders c.self.inside.sessions c.self.inside.linked
    (changes_one c.args.folder.now c.args.other shared.0 (λ view. IsOld view.sequence c.args.batch.now) (λ view. amended view c.args.batch.now) c.self.inside.folders c.amend_view.new.folders shared.1 c.amend_view.result (c.amend_view.ensures shared.0 shared.1))
    c.self.invariant

pub returns-clause-step : goal.returns-clause-step
returns-clause-step g c = rw (← c.self.view_is) (λ full session is.
    let shared = rw (← c.self.view_is) at (c.is_named.ensures.shared (search rules)) in
    let value = rw (← c.self.view_is) at c.is_named.ensures.value in
    let member : Member = record { number = c.self.inside.number; folders = c.self.inside.folders; sessions = c.self.inside.sessions; linked = c.self.inside.linked; trace = c.self.inside.trace } in
    update_taken c.args.other c.args.folder.now member shared.0 shared.1 c.self.inside.trace.failed full session ((value session is).0 (search rules)) c.args.batch.now c.amend_view.new.folders c.amend_view.result
    (c.amend_view.ensures shared.0 shared.1))

pub returns-clause-rest : goal.returns-clause-rest
returns-clause-rest g c =
    let shared = rw (← c.self.view_is) at (c.is_named.ensures.shared (search rules)) in
    let told = rw (← c.self.view_is) at c.requires.untold in
    let member : Member = record { number = c.self.inside.number; folders = c.self.inside.folders; sessions = c.self.inside.sessions; linked = c.self.inside.linked; trace = c.self.inside.trace } in
    rw (← c.self.view_is)
    (member_remains member c.amend_view.new.folders told
    (changes_one c.args.folder.now c.args.other shared.0 (λ view. IsOld view.sequence c.args.batch.now) (λ view. amended view c.args.batch.now) c.self.inside.folders c.amend_view.new.folders shared.1 c.amend_view.result (c.amend_view.ensures shared.0 shared.1)))

pub returns-clause-err : goal.returns-clause-err
returns-clause-err g c =
    let shared = rw (← c.self.view_is) at (c.is_named.ensures.shared (search rules)) in
    let member : Member = record { number = c.self.inside.number; folders = c.self.inside.folders; sessions = c.self.inside.sessions; linked = c.self.inside.linked; trace = c.self.inside.trace } in
    rw (← c.self.view_is)
    (same_on_error c.args.other c.args.folder.now member shared.0 shared.1 (λ view. IsOld view.sequence c.args.batch.now) (λ view. amended view c.args.batch.now) c.amend_view.new.folders c.amend_view.result (c.amend_view.ensures shared.0 shared.1))

pub returns-clause-silent : goal.returns-clause-silent
returns-clause-silent g c =
    let shared = rw (← c.self.view_is) at (c.is_named.ensures.shared (search rules)) in
    sends_none c.args.folder.now c.args.other shared.0 (λ view. IsOld view.sequence c.args.batch.now) (λ view. amended view c.args.batch.now) c.self.inside.folders c.amend_view.new.folders c.amend_view.result (c.amend_view.ensures shared.0 shared.1)

pub returns-then-not-is_named-clause-unhidden : goal.returns-then-not-is_named-clause-unhidden
returns-then-not-is_named-clause-unhidden g c = λ goes full session is.
    update_lost c.args.other c.args.self.now.trace.failed full session (tables_of c.args.self.now) c.args.folder.now c.args.batch.now
    (λ named. absurd (let yes : c.is_named.result ≡ true = (c.is_named.ensures.value session is).1 named in let no : c.is_named.result ≡ false = search rules in cc))

pub returns-clause-unhidden : goal.returns-clause-unhidden
returns-clause-unhidden g c = rw (← c.self.view_is) (λ goes full session is.
    let shared = rw (← c.self.view_is) at (c.is_named.ensures.shared (search rules)) in
    let member : Member = record { number = c.self.inside.number; folders = c.self.inside.folders; sessions = c.self.inside.sessions; linked = c.self.inside.linked; trace = c.self.inside.trace } in
    update_unrefused c.args.other c.self.inside.trace.failed full session (tables_of member) c.args.folder.now c.args.batch.now shared.0.tables (has_tables c.self.inside.folders c.args.folder.now shared.0 shared.1)
    (fits c.args.folder.now c.args.other shared.0 (λ view. IsOld view.sequence c.args.batch.now) (λ view. amended view c.args.batch.now) c.self.inside.folders c.amend_view.new.folders c.amend_view.result (c.amend_view.ensures shared.0 shared.1) goes))
