use Rattle.bep_cut.proofs.FolderFacts.{counted, is_held, same_faults}
use Rattle.bep_cut.proofs.folder.read_store.Goals as goal

pub returns-in-Ok-clause-store : goal.returns-in-Ok-clause-store
returns-in-Ok-clause-store g c =
    is_held c.args.peer.now c.contents.new.self c.args.folder.now c.in-Ok.ensures.read.0 c.in-Ok.nodes c.in-Ok.ensures.read.2

pub returns-in-Ok-clause-counts : goal.returns-in-Ok-clause-counts
returns-in-Ok-clause-counts g c = same_faults c.args.peer.now c.contents.new.self c.args.folder.now c.in-Ok.ensures.read.0 c.in-Ok.ensures.read.1

pub returns-in-Err-clause-counts : goal.returns-in-Err-clause-counts
returns-in-Err-clause-counts g c =
    counted c.args.peer.now c.contents.new.self c.args.folder.now c.in-Err.error c.error_of.result c.requires c.in-Err.ensures.read c.error_of.ensures
