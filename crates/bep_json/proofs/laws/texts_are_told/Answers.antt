use Rattle.bep_json.proofs.TextFacts.{name_decides, target_decides, folder_name_decides}
use Rattle.bep_json.proofs.ListFacts.{version_decides}
use Rattle.bep_json.proofs.laws.texts_are_told.Goals as goal

pub returns : goal.returns
returns c = record { names = name_decides; targets = target_decides; folder_names = folder_name_decides; versions = version_decides }
