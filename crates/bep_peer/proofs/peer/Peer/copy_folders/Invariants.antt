use Rattle.std.proofs.Common.{◌≡◌, take}
use Rattle.bep_facts.specs.Filled.{IsFilled}
use Rattle.bep_peer.specs.Copied.{IsReread, folders_copied}
use Rattle.bep_peer.specs.Member.{tables_of}
use Rattle.bep_peer.proofs.peer.Peer.copy_folders.Given as goal

-- the folders of the names so far were read and copied
abbrev pub invariant-loop-folder : goal.invariant-loop-folder
invariant-loop-folder g l =
    IsFilled (folders_copied l.fn.self.folders) (take l.folder-index l.names) l.copies × IsReread l.fn.self l.self × (tables_of l.self ≡ tables_of l.fn.self) × (l.self.trace.failed ≡ l.fn.self.trace.failed)
