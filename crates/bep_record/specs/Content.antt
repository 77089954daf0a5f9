-- What a name is, apart from its times and its history: what records and stores are compared by
-- (this project's profile, over BEP v1, 'FileInfo').
use Rattle.std.specs.Prelude.{ℕ, List, if◌then◌else◌}
use Rattle.bep_record.specs.declared.block.Block.{Block}
use Rattle.bep_record.specs.declared.kind.Kind.{Kind}
use Rattle.bep_record.specs.declared.kind.Kind.TheVariants as kinds
use Rattle.bep_record.specs.declared.entry.Entry.{Entry}
use Rattle.bep_record.specs.declared.content.Content as lent
use Rattle.bep_record.specs.declared.content.Content.TheVariants as lends

-- nothing, a file of these blocks, a directory, or a symlink that leads to this target
pub data Content : Type 0 where
  Deleted : Content
  File : List Block → Content
  Directory : Content
  Symlink : List ℕ → Content

-- what is there, by its kind
abbrev pub content_of_kind : Kind → List Block → List ℕ → Content
content_of_kind kinds.File blocks target = File blocks
content_of_kind kinds.Directory blocks target = Directory
content_of_kind kinds.Symlink blocks target = Symlink target

-- the content of a record: Deleted, or its kind with its blocks or its target
abbrev pub content_of : Entry → Content
content_of entry = if entry.deleted then Deleted else content_of_kind entry.kind entry.blocks entry.target

-- the content that is lent
abbrev pub content_lent : lent.Content → Content
content_lent lends.Deleted = Deleted
content_lent (lends.File blocks) = File blocks.now
content_lent lends.Directory = Directory
content_lent (lends.Symlink target) = Symlink target.now
