use Rattle.std.proofs.Common.{[], Some, refl}
use Rattle.bep_facts.specs.Members.{Contains-first}
use Rattle.bep_record.specs.declared.folder_kind.FolderKind.TheVariants.{SendReceive}
use Rattle.bep_record.specs.Node.{IsClean}
use Rattle.bep_model.specs.Examples.{by_one, empty_file, file_node, row_of}
use Rattle.bep_model.proofs.TwoDevices.{two_shares}
use Rattle.bep_model.proofs.examples.touched_file_is_unclean.Goals as goal

pub returns-clause-touched_store : goal.returns-clause-touched_store
returns-clause-touched_store c = λ asks.
    let clean : IsClean (Some (file_node 1)) (Some (empty_file by_one)) =
    asks (row_of 1 (empty_file by_one)) (Contains-first _ []) refl (SendReceive, two_shares SendReceive) in
    let second = clean.2.1 in
    cc
