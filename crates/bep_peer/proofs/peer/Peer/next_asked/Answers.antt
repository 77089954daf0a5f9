use Rattle.std.proofs.Common.{rules, ◌≡◌, ◌∙◌, Some, None, sym, ap, subst}
use Rattle.std.specs.FinMap as map
use Rattle.std.specs.Option.{option_copied}
use Rattle.bep_machine.specs.Link.{end_of, sight_of}
use Rattle.bep_peer.specs.Member.{Member, tables_of}
use Rattle.bep_peer.proofs.AskFacts.{nothing_to_ask, no_room, next_is}
use Rattle.bep_peer.proofs.SharingFacts.{not_held, tables_held}
use Rattle.bep_peer.proofs.Unrefused.{ask_unrefused}
use Rattle.bep_peer.proofs.peer.Peer.next_asked.Goals as goal

pub returns-in_default-clause-refused : goal.returns-in_default-clause-refused
returns-in_default-clause-refused g c =
    absurd (not_held c.args.self.now c.args.folder.now c.args.other (subst (λ (member : Member). map.get member.folders c.args.folder.now ≡ None) c.self.view_is (sym c.get.ensures ∙ ap option_copied c.in_default.is)) c.requires)

pub returns-in_default-block_to_ask-clause-refused : goal.returns-in_default-block_to_ask-clause-refused
returns-in_default-block_to_ask-clause-refused g c =
    let has = subst (λ (member : Member). map.get member.folders c.args.folder.now ≡ Some c.in-Some.replica.now) c.self.view_is (sym c.get.ensures ∙ ap option_copied c.in-Some.is) in
    nothing_to_ask c.args.other c.args.folder.now c.args.name.now (sight_of (end_of c.args.self.now.number c.args.other) c.args.link.now.link) (tables_of c.args.self.now) c.in_ok-session.session.now c.in-Some.replica.now.tables c.in_ok-session.ensures.ok
    (tables_held c.args.self.now.folders c.args.folder.now c.in-Some.replica.now has) c.in_default-block_to_ask.ensures.none

pub returns-then-is_full-clause-refused : goal.returns-then-is_full-clause-refused
returns-then-is_full-clause-refused g c =
    let has = subst (λ (member : Member). map.get member.folders c.args.folder.now ≡ Some c.in-Some.replica.now) c.self.view_is (sym c.get.ensures ∙ ap option_copied c.in-Some.is) in
    no_room c.args.other c.args.folder.now c.args.name.now (sight_of (end_of c.args.self.now.number c.args.other) c.args.link.now.link) (tables_of c.args.self.now) c.in_ok-session.session.now c.in-Some.replica.now.tables c.in_ok-session.ensures.ok
    (tables_held c.args.self.now.folders c.args.folder.now c.in-Some.replica.now has) c.in-Some-block_to_ask.block c.in-Some-block_to_ask.ensures.some (search rules)

pub returns-clause-ok : goal.returns-clause-ok
returns-clause-ok g c =
    let has = subst (λ (member : Member). map.get member.folders c.args.folder.now ≡ Some c.in-Some.replica.now) c.self.view_is (sym c.get.ensures ∙ ap option_copied c.in-Some.is) in
    next_is c.args.other c.args.folder.now c.args.name.now (sight_of (end_of c.args.self.now.number c.args.other) c.args.link.now.link) (tables_of c.args.self.now) c.in_ok-session.session.now c.in-Some.replica.now.tables c.in_ok-session.ensures.ok
    (tables_held c.args.self.now.folders c.args.folder.now c.in-Some.replica.now has) c.in-Some-block_to_ask.block c.in-Some-block_to_ask.ensures.some c.in_ok-request_for.field-0.0 c.in_ok-request_for.field-0.1 (search rules) c.in_ok-request_for.ensures.request c.in_ok-request_for.ensures.message

pub returns-in_err-request_for-clause-unhidden : goal.returns-in_err-request_for-clause-unhidden
returns-in_err-request_for-clause-unhidden g c = λ goes.
    let has = subst (λ (member : Member). map.get member.folders c.args.folder.now ≡ Some c.in-Some.replica.now) c.self.view_is (sym c.get.ensures ∙ ap option_copied c.in-Some.is) in
    ask_unrefused c.args.other c.args.folder.now c.args.name.now (sight_of (end_of c.args.self.now.number c.args.other) c.args.link.now.link) (tables_of c.args.self.now) c.in_ok-session.session.now c.in-Some.replica.now.tables c.in-Some-block_to_ask.block c.in_ok-session.ensures.ok
    (tables_held c.args.self.now.folders c.args.folder.now c.in-Some.replica.now has) (search rules) c.in-Some-block_to_ask.ensures.some

pub returns-clause-unhidden : goal.returns-clause-unhidden
returns-clause-unhidden g c = λ goes.
    let has = subst (λ (member : Member). map.get member.folders c.args.folder.now ≡ Some c.in-Some.replica.now) c.self.view_is (sym c.get.ensures ∙ ap option_copied c.in-Some.is) in
    ask_unrefused c.args.other c.args.folder.now c.args.name.now (sight_of (end_of c.args.self.now.number c.args.other) c.args.link.now.link) (tables_of c.args.self.now) c.in_ok-session.session.now c.in-Some.replica.now.tables c.in-Some-block_to_ask.block c.in_ok-session.ensures.ok
    (tables_held c.args.self.now.folders c.args.folder.now c.in-Some.replica.now has) (search rules) c.in-Some-block_to_ask.ensures.some
