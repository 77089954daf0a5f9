use Rattle.std.proofs.Common.{rules, ◌≡◌, ◌∙◌, [], Some, None, sym, ap, subst}
use Rattle.std.specs.FinMap as map
use Rattle.std.specs.Option.{option_copied}
use Rattle.bep_index.specs.declared.limits.TheConstants.{MAX_RECORDS}
use Rattle.bep_index.specs.After.{IsAfter}
use Rattle.bep_index.specs.Listing.{Listing}
use Rattle.bep_machine.specs.Exchange.{sent_up_to}
use Rattle.bep_machine.specs.Link.{end_of, sight_of}
use Rattle.bep_peer.specs.Member.{Member, tables_of}
use Rattle.bep_peer.proofs.AnnounceFacts.{all_sent, no_room, records_sent}
use Rattle.bep_peer.proofs.SharingFacts.{not_held, tables_held}
use Rattle.bep_peer.proofs.Unrefused.{sending_unrefused}
use Rattle.bep_peer.proofs.peer.Peer.records_from.Goals as goal

pub returns-in_default-clause-refused : goal.returns-in_default-clause-refused
returns-in_default-clause-refused g c session =
    absurd (not_held c.args.self.now c.args.folder.now c.args.other (subst (λ (member : Member). map.get member.folders c.args.folder.now ≡ None) c.self.view_is (sym c.get.ensures ∙ ap option_copied c.in_default.is)) c.requires)

pub returns-then-is_all_sent-clause-refused : goal.returns-then-is_all_sent-clause-refused
returns-then-is_all_sent-clause-refused g c =
    let has = subst (λ (member : Member). map.get member.folders c.args.folder.now ≡ Some c.in-Some.replica.now) c.self.view_is (sym c.get.ensures ∙ ap option_copied c.in-Some.is) in
    let sent = c.is_all_sent.ensures.all (search rules) in
    let after = subst (λ (index : Listing). IsAfter index.records (sent_up_to c.args.cursor) MAX_RECORDS []) c.index.ensures sent.1 in
    all_sent c.args.self.now c.args.folder.now c.in-Some.replica.now c.args.other (sight_of (end_of c.args.self.now.number c.args.other) c.args.link.now.link).full c.args.cursor [] has after sent.0

pub returns-then-is_full-clause-refused : goal.returns-then-is_full-clause-refused
returns-then-is_full-clause-refused g c =
    let has = subst (λ (member : Member). map.get member.folders c.args.folder.now ≡ Some c.in-Some.replica.now) c.self.view_is (sym c.get.ensures ∙ ap option_copied c.in-Some.is) in
    let next = c.is_all_sent.ensures.next in
    let after = subst (λ (index : Listing). IsAfter index.records (sent_up_to c.args.cursor) MAX_RECORDS next.0) c.index.ensures next.1 in
    no_room c.args.self.now c.args.folder.now c.in-Some.replica.now c.args.other (sight_of (end_of c.args.self.now.number c.args.other) c.args.link.now.link).full c.args.cursor next.0 has after (c.is_all_sent.ensures.some c.if-is_all_sent.false next.0 next.1) (search rules)

pub returns-clause-ok : goal.returns-clause-ok
returns-clause-ok g c =
    let has = subst (λ (member : Member). map.get member.folders c.args.folder.now ≡ Some c.in-Some.replica.now) c.self.view_is (sym c.get.ensures ∙ ap option_copied c.in-Some.is) in
    let after = subst (λ (index : Listing). IsAfter index.records (sent_up_to c.args.cursor) MAX_RECORDS c.in_ok-batch.batch) c.index-2.ensures c.in_ok-batch.ensures in
    records_sent c.args.self.now c.args.folder.now c.in-Some.replica.now c.args.other (sight_of (end_of c.args.self.now.number c.args.other) c.args.link.now.link).full c.args.cursor c.in_ok-batch.batch has after (c.is_all_sent.ensures.some c.if-is_all_sent.false c.in_ok-batch.batch (subst (λ (index : Listing). IsAfter index.records (sent_up_to c.args.cursor) MAX_RECORDS c.in_ok-batch.batch) (sym c.index.ensures) after)) (search rules) _ _ (search rules) (search rules)

pub returns-in_err-batch-clause-unhidden : goal.returns-in_err-batch-clause-unhidden
returns-in_err-batch-clause-unhidden g c = λ goes session.
    let has = subst (λ (member : Member). map.get member.folders c.args.folder.now ≡ Some c.in-Some.replica.now) c.self.view_is (sym c.get.ensures ∙ ap option_copied c.in-Some.is) in
    sending_unrefused c.args.other c.args.folder.now (sight_of (end_of c.args.self.now.number c.args.other) c.args.link.now.link).full session c.args.cursor (tables_of c.args.self.now) c.in-Some.replica.now.tables
    (tables_held c.args.self.now.folders c.args.folder.now c.in-Some.replica.now has) (search rules)
    (λ batch after. c.is_all_sent.ensures.some c.if-is_all_sent.false batch (subst (λ (index : Listing). IsAfter index.records (sent_up_to c.args.cursor) MAX_RECORDS batch) (sym c.index.ensures) after))

pub returns-in_err-named-clause-unhidden : goal.returns-in_err-named-clause-unhidden
returns-in_err-named-clause-unhidden g c = λ goes session.
    let has = subst (λ (member : Member). map.get member.folders c.args.folder.now ≡ Some c.in-Some.replica.now) c.self.view_is (sym c.get.ensures ∙ ap option_copied c.in-Some.is) in
    sending_unrefused c.args.other c.args.folder.now (sight_of (end_of c.args.self.now.number c.args.other) c.args.link.now.link).full session c.args.cursor (tables_of c.args.self.now) c.in-Some.replica.now.tables
    (tables_held c.args.self.now.folders c.args.folder.now c.in-Some.replica.now has) (search rules)
    (λ batch after. c.is_all_sent.ensures.some c.if-is_all_sent.false batch (subst (λ (index : Listing). IsAfter index.records (sent_up_to c.args.cursor) MAX_RECORDS batch) (sym c.index.ensures) after))

pub returns-clause-unhidden : goal.returns-clause-unhidden
returns-clause-unhidden g c = λ goes session.
    let has = subst (λ (member : Member). map.get member.folders c.args.folder.now ≡ Some c.in-Some.replica.now) c.self.view_is (sym c.get.ensures ∙ ap option_copied c.in-Some.is) in
    sending_unrefused c.args.other c.args.folder.now (sight_of (end_of c.args.self.now.number c.args.other) c.args.link.now.link).full session c.args.cursor (tables_of c.args.self.now) c.in-Some.replica.now.tables
    (tables_held c.args.self.now.folders c.args.folder.now c.in-Some.replica.now has) (search rules)
    (λ batch after. c.is_all_sent.ensures.some c.if-is_all_sent.false batch (subst (λ (index : Listing). IsAfter index.records (sent_up_to c.args.cursor) MAX_RECORDS batch) (sym c.index.ensures) after))
