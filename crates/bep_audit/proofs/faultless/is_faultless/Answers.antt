use Rattle.std.proofs.Common.{map}
use Rattle.bep_model.specs.Settled.{key_of}
use Rattle.bep_tables.specs.Listed.{listed}
use Rattle.bep_audit.proofs.FaultlessRow.{nothing_fails}
use Rattle.bep_audit.proofs.GroupFacts.{known_by_group}
use Rattle.bep_audit.proofs.faultless.is_faultless.Goals as goal

pub returns : goal.returns
returns c =
    let cut = c.args.cut.now in
    let row = c.args.row.now in
    let group = map listed c.args.group.now in
    let by_group = known_by_group c.entries_are_held.ensures.held cut c.shares.ensures.a_cut (key_of row) group c.requires c.entries_are_held.ensures.shares in
    λ is.
    nothing_fails c.cut_says.ensures c.share_is_asked.ensures c.entries_are_held.ensures.held cut c.shares.ensures.a_cut row group c.requires c.shares.result.now c.shares.ensures.value (c.are_met.ensures.0 is)
    (by_group.0 (c.has_known.ensures.0 c.if-not-has_known.false)) (c.is_winner_in.ensures.0 c.if-not-is_winner_in.false)
