use Rattle.std.proofs.Common.{◌≡◌, ◌∙◌, List, ap, sym, subst}
use Rattle.bep_map.specs.NameMap.{ByName}
use Rattle.bep_model.specs.Tables.{Device}
use Rattle.bep_machine.specs.Peer.{Session}
use Rattle.bep_machine.specs.Replica.{ByDevice}
use Rattle.bep_folder.specs.Held.{Held}
use Rattle.bep_peer.specs.Copied.{folders_copied}
use Rattle.bep_peer.specs.Member.{IsMember, Member}
use Rattle.bep_peer.proofs.CopyFacts.{member_copied_is}
use Rattle.bep_peer.proofs.peer.Peer.copy_over.Goals as goal

pub invariant_of-result : goal.invariant_of-result
invariant_of-result g c =
    let inside = c.self.inside in
    let folders : c.args.folders ≡ folders_copied inside.folders = c.requires ∙ ap (λ (m : Member). folders_copied m.folders) (sym c.self.view_is) in
    subst (λ (f : ByName Held). IsMember inside.number f c.in_ok-copy.field-0 c.in_ok-copy-2.field-0) (sym folders)
    (subst (λ (s : ByDevice Session). IsMember inside.number (folders_copied inside.folders) s c.in_ok-copy-2.field-0) (sym c.in_ok-copy.ensures)
    (subst (λ (l : List Device). IsMember inside.number (folders_copied inside.folders) inside.sessions l) (sym c.in_ok-copy-2.ensures)
    (member_copied_is inside.number inside.folders inside.sessions inside.linked c.self.invariant)))
