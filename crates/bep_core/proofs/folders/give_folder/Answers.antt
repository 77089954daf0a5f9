use Rattle.std.proofs.Common.{ap, ◌∙◌}
use Rattle.std.specs.FinMap as map
use Rattle.bep_core.specs.Begin.{folders_at}
use Rattle.bep_core.proofs.FoldersAt.{at_inserted, at_other}
use Rattle.bep_core.proofs.folders.give_folder.Goals as goal

pub returns-clause-here : goal.returns-clause-here
returns-clause-here g c =
    ap (λ m. folders_at m c.args.device) c.in_ok-insert-2.ensures.ok
    ∙ at_inserted c.take_folders-held.new.folders c.args.device c.insert.new.self
    ∙ c.in_ok-insert.ensures.ok
    ∙ ap (λ m. map.insert m c.args.folder c.args.replica) c.take_folders-held.ensures.taken

pub returns-clause-others : goal.returns-clause-others
returns-clause-others g c = λ other apart.
    ap (λ m. folders_at m other) c.in_ok-insert-2.ensures.ok
    ∙ at_other c.take_folders-held.new.folders c.args.device c.insert.new.self other apart
    ∙ c.take_folders-held.ensures.others other apart
