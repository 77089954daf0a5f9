-- The reading of a scenario document: what its bytes say, or the one fault for which it is refused. The smallest number
-- that applies is told, at its first place (this project's profile).
use Rattle.std.specs.Prelude.{ℕ, Bool, List, [], ◌∷◌, Option, Some, codes}
use Rattle.serde_json.specs.Data.{Data}
use Rattle.bep_record.specs.declared.limits.TheConstants.{MAX_FOLDERS}
use Rattle.bep_json.specs.Tree.{due, is_object}
use Rattle.bep_json.specs.Reading as json
use Rattle.bep_json.specs.Reading.{read_member}
use Rattle.bep_json.specs.Numbers.{is_whole}
use Rattle.bep_json.specs.Lists.{is_list, read_list, is_pair}
use Rattle.bep_json.specs.declared.version.DocVersion.{DocVersion}
use Rattle.bep_document.specs.declared.fault.Fault.TheVariants.{VersionBad}
use Rattle.bep_document.specs.read.Few.{read_few}
use Rattle.bep_document.specs.read.Checks.{if_few_devices, doc_version}
use Rattle.bep_document.specs.Reading.{Reading, ◌>>=◌, given, of_bytes, of_shape, without_rows}
use Rattle.bep_scenario.specs.declared.parts.ScenarioParts.{ScenarioParts}
use Rattle.bep_scenario.specs.Steps.{is_step, read_step}
use Rattle.bep_scenario.specs.Fresh.{is_fresh_folder, read_fresh_folder, read_fresh_link}
use Rattle.bep_scenario.specs.Faults.{first_fault}

-- a scenario document: each member of its kind, and no others
unfoldable pub is_scenario : DocVersion → Data → Bool
is_scenario version d =
    is_object
    (due (codes "version") is_whole ∷ due (codes "folders") (is_list is_fresh_folder) ∷
    due (codes "links") (is_list is_pair) ∷ due (codes "steps") (is_list (is_step version)) ∷ [])
    d

-- the folders and links, and the steps
unfoldable pub read_scenario : DocVersion → Data → Option ScenarioParts
read_scenario version d =
    json.◌>>=◌ (read_member (codes "folders") (read_few MAX_FOLDERS read_fresh_folder) d) (λ folders.
    json.◌>>=◌ (if_few_devices folders) (λ few.
    json.◌>>=◌ (read_member (codes "links") (read_list read_fresh_link) d) (λ links.
    json.◌>>=◌ (read_member (codes "steps") (read_list (read_step version)) d) (λ steps.
    Some (record { cluster = without_rows version (few, links); steps = steps })))))

-- what the tree of a document says
unfoldable pub reading_of_tree : Data → Reading ScenarioParts
reading_of_tree tree = do
  version ← given VersionBad (doc_version tree)
  of_shape (is_scenario version) (read_scenario version) first_fault tree

-- what the bytes of a document say
unfoldable pub reading_of : List ℕ → Reading ScenarioParts
reading_of bytes = of_bytes reading_of_tree bytes
