-- Records and nodes that aren't bad are such.
use Rattle.std.proofs.Common.{◌≡◌, ◌||◌, not, ℕ, Bool, true, false, List, [], ◌∷◌, refl}
use Rattle.std.specs.List.{AllByRecursion, list_any}
use Rattle.bep_record.specs.declared.entry.Entry.{Entry}
use Rattle.bep_record.specs.Entry.{IsWellFormed}
use Rattle.bep_record.specs.Node.{IsNode}
use Rattle.bep_json.specs.declared.nodes.NamedParts.{NamedParts}
use Rattle.bep_document.specs.Laws.{NodesAreTold, RecordsAreTold}
use Rattle.bep_document.specs.faults.Records.{is_node, is_well_formed}
use Rattle.bep_row_document.specs.Faults.{is_bad_node, is_bad_record}

pub first_false : (a b : Bool) → (a || b) ≡ false → a ≡ false
first_false true b e = e
first_false false b e = refl

pub second_false : (a b : Bool) → (a || b) ≡ false → b ≡ false
second_false true b e = absurd (cc)
second_false false b e = e

is_true : (b : Bool) → not b ≡ false → b ≡ true
is_true true e = refl
is_true false e = absurd (cc)

pub all_records : RecordsAreTold → (name : List ℕ) (entries : List Entry) → list_any (is_bad_record name) entries ≡ false → AllByRecursion IsWellFormed entries
all_records told name [] none = tt
all_records told name (entry ∷ more) none = (
  (told entry).0 (is_true (is_well_formed entry) (first_false _ _ (first_false (is_bad_record name entry) (list_any (is_bad_record name) more) none))),
  all_records told name more (second_false (is_bad_record name entry) (list_any (is_bad_record name) more) none),
)

pub all_nodes : NodesAreTold → (name : List ℕ) (nodes : List NamedParts) → list_any (is_bad_node name) nodes ≡ false → AllByRecursion (λ node. IsNode node.parts) nodes
all_nodes told name [] none = tt
all_nodes told name (node ∷ more) none = (
  (told node.parts).0 (is_true (is_node node.parts) (first_false _ _ (first_false (is_bad_node name node) (list_any (is_bad_node name) more) none))),
  all_nodes told name more (second_false (is_bad_node name node) (list_any (is_bad_node name) more) none),
)
