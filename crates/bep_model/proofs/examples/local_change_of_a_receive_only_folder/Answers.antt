use Rattle.std.proofs.Common.{◌≡◌, true, false, [], refl}
use Rattle.bep_facts.specs.Members.{Contains-first}
use Rattle.bep_record.specs.declared.folder_kind.FolderKind.TheVariants.{ReceiveOnly}
use Rattle.bep_model.specs.Examples.{by_one, link, row_of}
use Rattle.bep_model.proofs.TwoDevices.{two_shares}
use Rattle.bep_model.proofs.examples.local_change_of_a_receive_only_folder.Goals as goal

pub returns-clause-local_only : goal.returns-clause-local_only
returns-clause-local_only c = λ asks.
    let valid : true ≡ false =
    asks (row_of 1 (link 1 98 by_one)) (Contains-first _ []) refl (ReceiveOnly, two_shares ReceiveOnly) (record (link 1 98 by_one) { invalid = true }) refl in
    cc
