use Rattle.std.proofs.Common.{◌≡◌, ◌∙◌, ap, sym}
use Rattle.bep_peer.specs.Copied.{member_copied}
use Rattle.bep_peer.specs.Member.{tables_of}
use Rattle.bep_peer.proofs.CopyFacts.{copied_tables, remains_from, same_copies, same_member_copied}
use Rattle.bep_peer.proofs.peer.Peer.copy_out.Goals as goal

pub copy_over-requires : goal.copy_over-requires
copy_over-requires g c = c.in_ok-folders.ensures.copied ∙ sym (same_copies c.in_ok-folders.ensures.read)

pub returns-in_err-folders-clause-rest : goal.returns-in_err-folders-clause-rest
returns-in_err-folders-clause-rest g c = remains_from c.args.self.now _ _ c.tell_nothing.ensures c.in_err-folders.ensures.rest

pub returns-clause-copied : goal.returns-clause-copied
returns-clause-copied g c = c.in_ok-copy_over.ensures ∙ same_member_copied c.args.self.now _ _ c.tell_nothing.ensures c.in_ok-folders.ensures.read

pub returns-clause-tables : goal.returns-clause-tables
returns-clause-tables g c =
    ap tables_of (c.in_ok-copy_over.ensures ∙ same_member_copied c.args.self.now _ _ c.tell_nothing.ensures c.in_ok-folders.ensures.read) ∙ copied_tables c.args.self.now
