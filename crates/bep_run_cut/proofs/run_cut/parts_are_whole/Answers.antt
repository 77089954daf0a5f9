use Rattle.std.proofs.Common.{◌↔◌, Bool, List, IfOk, IsTrue, subst}
use Rattle.bep_links.specs.Link.{LinkBetween}
use Rattle.bep_peer.specs.Member.{Member}
use Rattle.bep_run_cut.specs.Whole.{AreWhole}
use Rattle.bep_run_cut.proofs.run_cut.parts_are_whole.Goals as goal

pub returns : goal.returns
returns c =
    subst (λ (ls : List LinkBetween). IfOk c.are_whole.result (λ (whole : Bool). IsTrue whole ↔ AreWhole c.args.parts.now.peers.items ls)) c.as_slice-2.ensures.value
    (subst (λ (ps : List Member). IfOk c.are_whole.result (λ (whole : Bool). IsTrue whole ↔ AreWhole ps c.as_slice-2.result.now)) c.as_slice.ensures.value c.are_whole.ensures)
