-- Steps as lists in JSON trees (this project's profile).
use Rattle.std.specs.Prelude.{ℕ, ◌&&◌, Bool, true, false, List, [], ◌∷◌, Option, Some, None}
use Rattle.serde_json.specs.Data.{Data}
use Rattle.bep_json.specs.declared.version.DocVersion.{DocVersion}
use Rattle.bep_json.specs.declared.version.DocVersion.TheVariants.{One, Two}
use Rattle.bep_json.specs.Reading.{◌>>=◌}
use Rattle.bep_json.specs.Numbers.{is_whole, read_number, greatest_id}
use Rattle.bep_json.specs.Texts.{is_text, read_name, read_folder_name}
use Rattle.bep_json.specs.Nodes.{is_node, read_node}
use Rattle.bep_machine.specs.declared.step.Step.{Step}
use Rattle.bep_machine.specs.declared.step.Step.TheVariants as steps
use Rattle.bep_scenario.specs.declared.words.NameWord.{NameWord}
use Rattle.bep_scenario.specs.declared.words.NameWord.TheVariants as of_name
use Rattle.bep_scenario.specs.declared.words.PairWord.{PairWord}
use Rattle.bep_scenario.specs.declared.words.PairWord.TheVariants as of_pair
use Rattle.bep_scenario.specs.declared.words.Word.{Word}
use Rattle.bep_scenario.specs.declared.words.Word.TheVariants.{Edit, OfName, OfPair, Announce, Ask, Restart, Reset}
use Rattle.bep_scenario.specs.declared.parts.StepParts.{StepParts}
use Rattle.bep_scenario.specs.declared.parts.StepParts.TheVariants as parts
use Rattle.bep_scenario.specs.Items.{has_items, read_item}
use Rattle.bep_scenario.specs.Words.{read_word}

-- the shapes of what stands behind the word
abbrev pub shapes_of : Word → List (Data → Bool)
shapes_of Edit = is_whole ∷ is_text ∷ is_node ∷ []
shapes_of (OfName word) = is_whole ∷ is_text ∷ is_text ∷ []
shapes_of (OfPair word) = is_whole ∷ is_whole ∷ []
shapes_of Announce = is_whole ∷ is_whole ∷ is_text ∷ []
shapes_of Ask = is_whole ∷ is_whole ∷ is_text ∷ is_text ∷ []
shapes_of Restart = is_whole ∷ []
shapes_of Reset = is_whole ∷ is_whole ∷ []

-- documents of this version have index resets
abbrev pub has_resets : DocVersion → Bool
has_resets One = false
has_resets Two = true

-- documents of this version have the word
abbrev pub has_word : DocVersion → Word → Bool
has_word version Edit = true
has_word version (OfName word) = true
has_word version (OfPair word) = true
has_word version Announce = true
has_word version Ask = true
has_word version Restart = true
has_word version Reset = has_resets version

-- what belongs to the word, if there is one that documents of this version have
abbrev pub has_form : DocVersion → Option Word → Data → Bool
has_form version None d = false
has_form version (Some word) d = has_word version word && has_items 1 (shapes_of word) d

-- a step: a list of a word and what belongs to it, and of nothing else
unfoldable pub is_step : DocVersion → Data → Bool
is_step version d = has_form version (read_item 0 read_word d) d

-- a device, by its number
abbrev pub read_device : Data → Option ℕ
read_device = read_number 1 greatest_id

-- the id of an index, by its number
abbrev pub read_index_id : Data → Option ℕ
read_index_id = read_number 1 greatest_id

abbrev pub name_step : NameWord → ℕ → List ℕ → List ℕ → Step
name_step of_name.Remove device folder name = steps.Remove device folder name
name_step of_name.Scan device folder name = steps.Scan device folder name
name_step of_name.Override device folder name = steps.Override device folder name
name_step of_name.Revert device folder name = steps.Revert device folder name
name_step of_name.Pull device folder name = steps.StartPull device folder name
name_step of_name.Finish device folder name = steps.Finish device folder name

abbrev pub pair_step : PairWord → ℕ → ℕ → Step
pair_step of_pair.Connect one other = steps.Connect one other
pair_step of_pair.Lose one other = steps.Lose one other
pair_step of_pair.Begin one other = steps.Begin one other
pair_step of_pair.Deliver one other = steps.Deliver one other

unfoldable pub read_edit : DocVersion → Data → Option StepParts
read_edit version d = do
  device ← read_item 1 read_device d
  folder ← read_item 2 read_folder_name d
  node ← read_item 3 (read_node version) d
  Some (parts.Edit device folder node)

unfoldable pub read_name_step : NameWord → Data → Option StepParts
read_name_step word d = do
  device ← read_item 1 read_device d
  folder ← read_item 2 read_folder_name d
  name ← read_item 3 read_name d
  Some (parts.Other (name_step word device folder name))

unfoldable pub read_pair_step : PairWord → Data → Option StepParts
read_pair_step word d = do
  one ← read_item 1 read_device d
  other ← read_item 2 read_device d
  Some (parts.Other (pair_step word one other))

unfoldable pub read_announce : Data → Option StepParts
read_announce d = do
  device ← read_item 1 read_device d
  other ← read_item 2 read_device d
  folder ← read_item 3 read_folder_name d
  Some (parts.Other (steps.Announce device other folder))

unfoldable pub read_ask : Data → Option StepParts
read_ask d = do
  device ← read_item 1 read_device d
  other ← read_item 2 read_device d
  folder ← read_item 3 read_folder_name d
  name ← read_item 4 read_name d
  Some (parts.Other (steps.Ask device other folder name))

unfoldable pub read_restart : Data → Option StepParts
read_restart d = do
  device ← read_item 1 read_device d
  Some (parts.Other (steps.Restart device))

unfoldable pub read_reset : Data → Option StepParts
read_reset d = do
  device ← read_item 1 read_device d
  id ← read_item 2 read_index_id d
  Some (parts.Other (steps.Reset device id))

abbrev pub read_by : DocVersion → Word → Data → Option StepParts
read_by version Edit d = read_edit version d
read_by version (OfName word) d = read_name_step word d
read_by version (OfPair word) d = read_pair_step word d
read_by version Announce d = read_announce d
read_by version Ask d = read_ask d
read_by version Restart d = read_restart d
read_by version Reset d = read_reset d

-- the step, whose node, if it is an edit, may not fit its kind
unfoldable pub read_step : DocVersion → Data → Option StepParts
read_step version d = do
  word ← read_item 0 read_word d
  read_by version word d
