use Rattle.std.proofs.Common.{rules}
use Rattle.bep_config.specs.Config.{IsNewShare}
use Rattle.bep_config.proofs.config.Config.new_share.Goals as goal

pub returns-in_err-copy-clause-first : goal.returns-in_err-copy-clause-first
returns-in_err-copy-clause-first g c =
    let new : IsNewShare c.args.self.now c.args.folder.now c.args.device c.args.index_id = record { index = search rules; there = search rules; few = search rules; new = search rules } in
    λ not. absurd (not new)

pub returns-clause-first : goal.returns-clause-first
returns-clause-first g c =
    let new : IsNewShare c.args.self.now c.args.folder.now c.args.device c.args.index_id = record { index = search rules; there = search rules; few = search rules; new = search rules } in
    λ not. absurd (not new)
