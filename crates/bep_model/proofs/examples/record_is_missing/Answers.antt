use Rattle.std.proofs.Common.{◌≡◌, [], refl}
use Rattle.bep_facts.specs.Members.{Contains-first}
use Rattle.bep_record.specs.declared.folder_kind.FolderKind.TheVariants.{SendReceive}
use Rattle.bep_record.specs.Content.{Deleted, content_of}
use Rattle.bep_model.specs.Examples.{by_one, link, row_of}
use Rattle.bep_model.proofs.TwoDevices.{two_shares}
use Rattle.bep_model.proofs.examples.record_is_missing.Goals as goal

pub returns-clause-of_a_symlink : goal.returns-clause-of_a_symlink
returns-clause-of_a_symlink c = λ asks.
    let same : content_of (link 1 98 by_one) ≡ Deleted =
    asks (row_of 1 (link 1 98 by_one)) (Contains-first _ []) refl (SendReceive, two_shares SendReceive) refl in
    cc
