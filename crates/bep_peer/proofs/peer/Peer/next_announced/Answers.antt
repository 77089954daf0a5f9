use Rattle.std.proofs.Common.{◌∙◌, sym}
use Rattle.bep_machine.specs.Link.{end_of, sight_of}
use Rattle.bep_peer.specs.Member.{tables_of}
use Rattle.bep_peer.proofs.AnnounceFacts.{next_is, next_refused, unnamed}
use Rattle.bep_peer.proofs.Unrefused.{announce_unrefused}
use Rattle.bep_peer.proofs.peer.Peer.next_announced.Goals as goal

pub returns-in-Some-clause-ok : goal.returns-in-Some-clause-ok
returns-in-Some-clause-ok g c =
    next_is c.args.other c.args.folder.now (sight_of (end_of c.args.self.now.number c.args.other) c.args.link.now.link) (tables_of c.args.self.now) c.in_ok-session.session.now c.in_ok-session.ensures.ok c.in-Some.cursor (sym c.cursor.ensures.value ∙ c.in-Some.is) c.records_from.result c.records_from.ensures.room c.records_from.ensures.ok

pub returns-in-Some-clause-refused : goal.returns-in-Some-clause-refused
returns-in-Some-clause-refused g c =
    next_refused c.args.other c.args.folder.now (sight_of (end_of c.args.self.now.number c.args.other) c.args.link.now.link) (tables_of c.args.self.now) c.in_ok-session.session.now c.in_ok-session.ensures.ok c.in-Some.cursor (sym c.cursor.ensures.value ∙ c.in-Some.is) c.records_from.result c.records_from.ensures.refused

pub returns-in-None-clause-refused : goal.returns-in-None-clause-refused
returns-in-None-clause-refused g c =
    unnamed c.args.other c.args.folder.now (sight_of (end_of c.args.self.now.number c.args.other) c.args.link.now.link) (tables_of c.args.self.now) c.in_ok-session.session.now c.in_ok-session.ensures.ok (sym c.cursor.ensures.value ∙ c.in-None.is)

pub returns-in-Some-clause-unhidden : goal.returns-in-Some-clause-unhidden
returns-in-Some-clause-unhidden g c = λ goes.
    announce_unrefused c.args.other c.args.folder.now (sight_of (end_of c.args.self.now.number c.args.other) c.args.link.now.link) (tables_of c.args.self.now) c.in_ok-session.session.now c.in-Some.cursor c.in_ok-session.ensures.ok
    (sym c.cursor.ensures.value ∙ c.in-Some.is) (c.records_from.ensures.unhidden goes c.in_ok-session.session.now)
