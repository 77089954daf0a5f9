-- The devices of the examples.
use Rattle.std.proofs.Common.{List, [], ◌∷◌, Contains}
use Rattle.bep_facts.specs.Members.{Contains-first, Contains-more}
use Rattle.bep_record.specs.declared.folder_kind.FolderKind.{FolderKind}
use Rattle.bep_record.specs.declared.folder_kind.FolderKind.TheVariants.{SendReceive}
use Rattle.bep_model.specs.Tables.{Device}

abbrev pub both_devices : FolderKind → List (Device × FolderKind)
both_devices kind = (1, SendReceive) ∷ (2, kind) ∷ []

-- device 1 shares the folders, and device 2 in its kind
pub one_shares : (kind : FolderKind) → Contains (both_devices kind) (1, SendReceive)
one_shares kind = Contains-first (1, SendReceive) ((2, kind) ∷ [])

pub two_shares : (kind : FolderKind) → Contains (both_devices kind) (2, kind)
two_shares kind = Contains-more (1, SendReceive) ((2, kind) ∷ []) (2, kind) (Contains-first (2, kind) [])
