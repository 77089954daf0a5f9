use Rattle.std.proofs.Common.{Contains, sym, subst, ◌∙◌}
use Rattle.bep_facts.specs.Members.{Contains-first, Contains-more}
use Rattle.bep_folder.specs.Held.{AreOthers}
use Rattle.bep_peer.specs.Member.{AreOwn, new_member}
use Rattle.bep_core.specs.Begin.{is_linked, folders_at, linked_with}
use Rattle.bep_core.proofs.OthersThat.{are_others}
use Rattle.bep_core.proofs.Begun.{all_begun, not_above_itself, one_begun}
use Rattle.bep_core.proofs.begin.peers_of.Goals as goal

pub begin_peer-requires-clause-others : goal.begin_peer-requires-clause-others
begin_peer-requires-clause-others g c =
    let device = c.in-Some.device in
    let there = c.loop-device.invariant.there device (subst (λ left. Contains left device) (sym c.in-Some.ensures.removal) (Contains-first device c.pop_first.new.self.keys)) in
    subst (AreOthers device) (sym c.in_ok-linked.ensures) (are_others (is_linked c.args.links.now.keys device) c.args.numbers.now device c.requires.rising c.requires.few there)

pub begin_peer-requires-clause-own : goal.begin_peer-requires-clause-own
begin_peer-requires-clause-own g c =
    let device = c.in-Some.device in
    let has = c.loop-device.invariant.untaken device (subst (λ left. Contains left device) (sym c.in-Some.ensures.removal) (Contains-first device c.pop_first.new.self.keys)) in
    subst (AreOwn device) (sym (c.take_folders-held.ensures.taken ∙ has)) (c.requires.own device)

pub loop-device-preserved : goal.loop-device-preserved
loop-device-preserved g c =
    let device = c.in-Some.device in
    let has = c.loop-device.invariant.untaken device (subst (λ left. Contains left device) (sym c.in-Some.ensures.removal) (Contains-first device c.pop_first.new.self.keys)) in
    record {
      whole = one_begun (λ one. new_member one (folders_at c.args.folders one) (linked_with c.args.numbers.now c.args.links.now.keys one)) c.loop-device.made.items c.args.numbers.now c.in_ok-push.ensures.items (c.begin_peer.ensures ∙ (λ i. new_member device ((c.take_folders-held.ensures.taken ∙ has) i) (c.in_ok-linked.ensures i))) c.in-Some.ensures.removal c.loop-device.invariant.whole;
      there = λ one stands. c.loop-device.invariant.there one (subst (λ left. Contains left one) (sym c.in-Some.ensures.removal) (Contains-more device c.pop_first.new.self.keys one stands));
      untaken = λ one stands.
          c.take_folders-held.ensures.others one (not_above_itself c.pop_first.new.self.keys device one c.in-Some.ensures.all_above stands)
          ∙ c.loop-device.invariant.untaken one (subst (λ left. Contains left one) (sym c.in-Some.ensures.removal) (Contains-more device c.pop_first.new.self.keys one stands));
    }

pub returns : goal.returns
returns g c = all_begun _ c.loop-device.made.items c.loop-device.rest.keys c.args.numbers.now c.in_default.ensures.variant.1 c.loop-device.invariant.whole
