use Rattle.std.proofs.Common.{◌∙◌, Some, sym, ap}
use Rattle.bep_record.specs.declared.entry.Entry.{Entry}
use Rattle.bep_peer.specs.network.Network.{cluster_of}
use Rattle.bep_rounds.proofs.Owned.{fits, own_told}
use Rattle.bep_rounds.proofs.Tops.{is_wanted, wanted_as}
use Rattle.bep_rounds.proofs.finding.wanted_at.Goals as goal

pub returns : goal.returns
returns g c =
    let network = c.args.cluster.now in
    let held = c.args.replica.now in
    let top = c.args.top.now in
    let own = own_told network c.cluster_is_sound.ensures held.device held.folder top.name (Some held.tables) (sym c.requires.held) ∙ c.requires.own in
    wanted_as (cluster_of network) c.in-Some.device held.device c.device-owner.result held.folder c.in_ok-folder.folder top.name c.in_ok-name.name c.device-owner.ensures (c.in_ok-folder.ensures ∙ c.folder.ensures)
    (c.in_ok-name.ensures ∙ ap (λ (e : Entry). e.name) c.entry.ensures.value)
    (is_wanted (cluster_of network) held.device held.folder held.tables (fits network c.cluster_is_sound.ensures held.device held.folder held.tables c.requires.held) top own c.in-Some.device c.in-Some.ensures.some)
