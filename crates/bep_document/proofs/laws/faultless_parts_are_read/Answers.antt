use Rattle.bep_document.proofs.faultless.Found.{none_found}
use Rattle.bep_document.proofs.faultless.FewDevices.{few_devices}
use Rattle.bep_document.proofs.laws.faultless_parts_are_read.Goals as goal

pub returns : goal.returns
returns c = record { no_fault = none_found; few_devices = few_devices }
