use Rattle.bep_cut_document.proofs.ToldFacts.{folder_name_says}
use Rattle.bep_cut_document.proofs.writing.folder_is_told.Goals as goal

pub returns : goal.returns
returns c = folder_name_says c.texts_are_told.ensures.folder_names c.args.folder.now c.as_bytes.ensures.a_folder
