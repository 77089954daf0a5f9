use Rattle.std.proofs.Common.{◌≡◌, ◌∙◌, [], ◌∷◌, Bool, List, Option, slice_get, refl, subst}
use Rattle.bep_folder.specs.Unhidden.{RefusesNone}
use Rattle.bep_links.specs.Side.{end_at}
use Rattle.bep_machine.specs.declared.message.Message.{Message}
use Rattle.bep_machine.specs.Exchange.{WaitingRow}
use Rattle.bep_machine.specs.Link.{first_of_queue, queue_to, sight_of}
use Rattle.bep_peer.specs.Member.{tables_of}
use Rattle.bep_peer.proofs.peer.Peer.take_first.Goals as goal

first_is : (queue : List Message) → slice_get queue 0 ≡ first_of_queue queue
first_is [] = refl
first_is (message ∷ more) = refl

pub returns-in-Some-clause-unhidden : goal.returns-in-Some-clause-unhidden
returns-in-Some-clause-unhidden g c = λ goes session is.
    let sight = sight_of (end_at c.args.side) c.args.link.now.link in
    let tables = tables_of c.args.self.now in
    let failed = c.take.new.self.trace.failed in
    subst (λ (full : Bool). RefusesNone (WaitingRow c.args.other failed full session sight.waiting tables)) c.is_full.ensures
    (subst (λ (waiting : Option Message). RefusesNone (WaitingRow c.args.other failed c.is_full.result session waiting tables))
    (c.in-Some.ensures.value ∙ first_is (queue_to (end_at c.args.side) c.args.link.now.link))
    (c.take.ensures.unhidden goes session is))
