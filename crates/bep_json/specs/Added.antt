-- JSON that is written value by value, so that no tree of the whole is made: what stands behind what was written before.
use Rattle.std.specs.Prelude.{◌≡◌, ◌≤◌, ℕ, List, [], ◌∷◌, ◌++◌, Some}
use Rattle.json.specs.Token.{Token, key}
use Rattle.json.specs.Tree.{json_tokens, items_tokens, members_tokens}
use Rattle.json.specs.Written.{Written}
use Rattle.serde_json.specs.Data.{Data, Items, Members, no_members, member, put, depth}
use Rattle.serde_json.specs.Read.{read, of_json, of_items, of_members, max_depth}
use Rattle.serde_json.specs.Written.{outline, items_outline, members_outline, blank, blank_items, blank_members, compact_text, IsInOrder}

-- these tokens stand behind what was written
pub record Follow (ts : List Token) (old new : Written) : Type 0 where
  pub before : new.before ≡ old.before
  pub tokens : new.tokens ≡ old.tokens ++ ts

-- its JSON is read as this value, and no number of it as one with a fraction
pub record IsReadable (d : Data) : Type 0 where
  pub reads : of_json (outline d) ≡ Some d
  pub whole : blank (outline d) ≡ outline d

-- this value was written
pub record Adds (d : Data) (old new : Written) : Type 0 where
  pub follow : Follow (json_tokens (outline d)) old new
  pub readable : IsReadable d

-- this member of an object was
pub record AddsMember (name : List ℕ) (d : Data) (old new : Written) : Type 0 where
  pub follow : Follow (key name ∷ json_tokens (outline d)) old new
  pub readable : IsReadable d

-- the items that are left of a list, with its closing bracket, were
pub record AddsItems (ds : Items) (old new : Written) : Type 0 where
  pub follow : Follow (items_tokens (items_outline ds)) old new
  pub reads : of_items (items_outline ds) ≡ Some ds
  pub whole : blank_items (items_outline ds) ≡ items_outline ds

-- the members that are put into an object one after another
abbrev pub put_all : Members → Members → Members
put_all no_members found = found
put_all (member name d ms) found = put_all ms (put name d found)

-- the members that are left of an object, with its closing bracket, were
pub record AddsMembers (ms : Members) (old new : Written) : Type 0 where
  pub follow : Follow (members_tokens (members_outline ms)) old new
  pub reads : (found : Members) → of_members (members_outline ms) found ≡ Some (put_all ms found)
  pub whole : blank_members (members_outline ms) ≡ members_outline ms

-- the JSON of this value without spaces, each item and member once and in order, as which it is read unless it nests too deep
pub record IsTextOf (d : Data) (text : List ℕ) : Type 0 where
  pub compact : text ≡ compact_text d
  pub in_order : IsInOrder text d
  pub reads : depth d ≤ max_depth → read text ≡ Some d

-- where nothing stood before and this value alone was written, the text is its own
abbrev pub TellsWhatWasAdded : Written → List ℕ → Type 0
TellsWhatWasAdded out text = (d : Data) (start : Written) → start.tokens ≡ [] → Adds d start out → IsTextOf d text
