use Rattle.std.proofs.Common.{List, subst, sym}
use Rattle.bep_links.specs.Link.{LinkBetween}
use Rattle.bep_peer.specs.network.Agreed.{network_of}
use Rattle.bep_cut.specs.Parts.{AreParts}
use Rattle.bep_run_cut.specs.RunCut.{IsCutOf}
use Rattle.bep_run_cut.proofs.SameCluster.{is_run_cut}
use Rattle.bep_run_cut.proofs.run_cut.run_of.Goals as goal

pub with_cut-requires : goal.with_cut-requires
with_cut-requires c =
    subst (λ (ls : List LinkBetween). AreParts c.args.parts.base_peers.items ls) (sym c.as_slice-4.ensures.value) (c.requires.lead c.requires.whole).0.parts

pub invariant_of-result : goal.invariant_of-result
invariant_of-result c =
    let parts = c.args.parts in (
      is_run_cut parts.peers.items parts.base_peers.items parts.links.items parts.base_links.items parts.logs.items c.requires.lead c.requires.whole
          c.as_slice.result.now c.as_slice-2.result.now c.as_slice-3.result.now c.as_slice.ensures.value c.as_slice-2.ensures.value c.as_slice-3.ensures.value
          c.parts_are_sound.ensures c.all_are_logged.ensures
          c.in_ok-peers.peers.items c.in_ok-base_peers.base_peers.items c.in_ok-peers.ensures.same c.in_ok-base_peers.ensures.same,
      subst (λ (ls : List LinkBetween). IsCutOf (network_of c.in_ok-base_peers.base_peers.items ls) c.in_ok-base_peers.base) c.as_slice-4.ensures.value c.in_ok-base_peers.ensures.cut,
      subst (λ (ls : List LinkBetween). IsCutOf (network_of c.in_ok-peers.peers.items ls) c.in_ok-peers.cut) c.as_slice-5.ensures.value c.in_ok-peers.ensures.cut,
    )
