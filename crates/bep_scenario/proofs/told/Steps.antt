-- What is told of the items of a list is what is told of the step that it is.
use Rattle.std.specs.Prelude.{if◌then◌else◌}
use Rattle.std.proofs.Common.{◌≡◌, ◌∙◌, ◌&&◌, Bool, true, false, Option, Some, None, Result, Err, refl, sym, ap}
use Rattle.serde_json.specs.Data.{Data, null, boolean, number, string, array, object, Items, no_items, item}
use Rattle.serde_json.specs.Find.{as_array}
use Rattle.bep_json.specs.declared.told.Misread.{Misread}
use Rattle.bep_json.specs.declared.told.Misread.TheVariants.{Shape}
use Rattle.bep_json.specs.declared.version.DocVersion.{DocVersion}
use Rattle.bep_json.specs.Reading.{◌>>=◌}
use Rattle.bep_json.specs.Taking.{judged}
use Rattle.bep_scenario.specs.declared.parts.StepParts.{StepParts}
use Rattle.bep_scenario.specs.declared.words.Word.{Word}
use Rattle.bep_scenario.specs.Items.{has_items}
use Rattle.bep_scenario.specs.Steps.{shapes_of, has_word, has_form, is_step, read_by, read_step}
use Rattle.bep_scenario.specs.Words.{read_word}
use Rattle.bep_scenario.specs.inner.Steps.{known}

-- what a value says, as a step
abbrev pub said : DocVersion → Data → Result StepParts Misread
said version d = judged (is_step version d) (read_step version d)

-- the same, by the word with which it begins
abbrev said_by : DocVersion → Option Word → Data → Result StepParts Misread
said_by version found d = judged (has_form version found d) (found >>= λ word. read_by version word d)

-- ---- a list that begins with a word

by_known : (version : DocVersion) (has : Bool) (other word : Word) (d : Data) → (if has then Some other else None) ≡ Some word
    → judged (has_items 1 (shapes_of word) d) (read_by version word d) ≡ judged (has && has_items 1 (shapes_of other) d) (read_by version other d)
by_known version true other word d is =
    let same : word ≡ other = cc in ap (λ w. judged (has_items 1 (shapes_of w) d) (read_by version w d)) same
by_known version false other word d is = cc

by_word : (version : DocVersion) (found : Option Word) (word : Word) (d : Data) → known version found ≡ Some word
    → judged (has_items 1 (shapes_of word) d) (read_by version word d) ≡ said_by version found d
by_word version None word d is = cc
by_word version (Some other) word d is = by_known version (has_word version other) other word d is

pub word_told : (version : DocVersion) (word : Word) (first : Data) (ds more : Items) → ds ≡ item first more → known version (read_word first) ≡ Some word
    → judged (has_items 1 (shapes_of word) (array (item first more))) (read_by version word (array (item first more))) ≡ said version (array ds)
unfolding is_step read_step
word_told version word first ds more is named =
    by_word version (read_word first) word (array (item first more)) named ∙ sym (ap (λ ds. said version (array ds)) is)

-- ---- what is no step

not_known : (version : DocVersion) (has : Bool) (word : Word) (d : Data) → (if has then Some word else None) ≡ None
    → Err Shape ≡ judged (has && has_items 1 (shapes_of word) d) (read_by version word d)
not_known version true word d is = cc
not_known version false word d is = refl

by_no_word : (version : DocVersion) (found : Option Word) (d : Data) → known version found ≡ None → Err Shape ≡ said_by version found d
by_no_word version None d is = refl
by_no_word version (Some word) d is = not_known version (has_word version word) word d is

pub no_word_told : (version : DocVersion) (first : Data) (ds more : Items) → ds ≡ item first more → known version (read_word first) ≡ None → Err Shape ≡ said version (array ds)
unfolding is_step read_step
no_word_told version first ds more is none =
    by_no_word version (read_word first) (array (item first more)) none ∙ sym (ap (λ ds. said version (array ds)) is)

pub nothing_told : (version : DocVersion) (ds : Items) → ds ≡ no_items → Err Shape ≡ said version (array ds)
unfolding is_step read_step
nothing_told version ds none = sym (ap (λ ds. said version (array ds)) none)

pub no_list_told : (version : DocVersion) (d : Data) → as_array d ≡ None → Err Shape ≡ said version d
unfolding is_step read_step
no_list_told version null none = refl
no_list_told version (boolean b) none = refl
no_list_told version (number n) none = refl
no_list_told version (string s) none = refl
no_list_told version (array ds) none = cc
no_list_told version (object ms) none = refl
