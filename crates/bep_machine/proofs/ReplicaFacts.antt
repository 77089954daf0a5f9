-- What stands at a name after a change of a replica.
use Rattle.std.proofs.Common.{◌≡◌, ◌≢◌, ◌⊎◌, ◌∙◌, ◌+◌, Option, Some, None, refl, sym, ap, subst, inl, inr, ⊎_elim, option_map}
use Rattle.std.specs.Ordering.{nat_cmp, is_eq, eq_by_cmp}
use Rattle.std.specs.Cmp.Lexicographic.{slice_cmp, nat_list_cmp_total}
use Rattle.std.specs.FinMap.{get, insert, remove}
use Rattle.std.proofs.lemmas.Bool.{cases_Bool}
use Rattle.std.proofs.lemmas.Map.Lookups.{exact_bytes}
use Rattle.bep_facts.specs.Maps.{same_key, get-insert_here, get-insert_apart, get-remove_here, get-remove_apart}
use Rattle.bep_facts.specs.Orders.{Equal_from_same}
use Rattle.bep_map.specs.NameMap.{ByName}
use Rattle.bep_record.specs.declared.entry.Entry.{Entry}
use Rattle.bep_record.specs.declared.node.NodeParts.{NodeParts}
use Rattle.bep_index.specs.Index.{numbered}
use Rattle.bep_model.specs.Tables.{Device, FileName}
use Rattle.bep_machine.specs.Replica.{Replica, Pull, own_at, node_at, pull_at, viewed_at, target_at, with_record, with_node, with_pull, without_pull}

pub same_name_or_not : (one other : FileName) → (one ≡ other) ⊎ (one ≢ other)
same_name_or_not one other =
    ⊎_elim
    (λ tied. inl (same_key exact_bytes one other tied))
    (λ apart. inr (λ same. let tied = ap is_eq (Equal_from_same nat_list_cmp_total one other same) in cc))
    (cases_Bool (eq_by_cmp (slice_cmp nat_cmp) one other))

module _ {V : Type 0} (m : ByName V) (name : FileName) where
  pub insert_here : (value : V) → get (insert m name value) name ≡ Some value
  insert_here value = get-insert_here nat_list_cmp_total exact_bytes m name value

  pub insert_apart : (value : V) (other : FileName) → other ≢ name → get (insert m name value) other ≡ get m other
  insert_apart value other apart = get-insert_apart nat_list_cmp_total exact_bytes m name value other apart

  pub remove_here : get (remove m name) name ≡ None
  remove_here = get-remove_here nat_list_cmp_total exact_bytes m name

  pub remove_apart : (other : FileName) → other ≢ name → get (remove m name) other ≡ get m other
  remove_apart other apart = get-remove_apart nat_list_cmp_total exact_bytes m name other apart

-- ---- a node is written

module _ (replica : Replica) (name : FileName) where
  -- all else stays
  pub with_node_own : (node : Option NodeParts) (other : FileName) → own_at (with_node replica name node) other ≡ own_at replica other
  with_node_own None other = refl
  with_node_own (Some node) other = refl

  pub with_node_viewed : (node : Option NodeParts) (device : Device) (other : FileName) → viewed_at (with_node replica name node) device other ≡ viewed_at replica device other
  with_node_viewed None device other = refl
  with_node_viewed (Some node) device other = refl

  pub with_node_pull : (node : Option NodeParts) (other : FileName) → pull_at (with_node replica name node) other ≡ pull_at replica other
  with_node_pull None other = refl
  with_node_pull (Some node) other = refl

  -- the name holds the node, and each other name what it held
  pub with_node_here : (node : Option NodeParts) → node_at (with_node replica name node) name ≡ node
  with_node_here None = remove_here replica.store name
  with_node_here (Some node) = insert_here replica.store name node

  pub with_node_apart : (node : Option NodeParts) (other : FileName) → other ≢ name → node_at (with_node replica name node) other ≡ node_at replica other
  with_node_apart None other apart = remove_apart replica.store name other apart
  with_node_apart (Some node) other apart = insert_apart replica.store name node other apart

-- ---- a record is put

module _ (replica : Replica) (entry : Entry) where
  pub with_record_here : own_at (with_record replica entry) entry.name ≡ Some (numbered entry (replica.index.sequence + 1))
  with_record_here = insert_here replica.index.records entry.name (numbered entry (replica.index.sequence + 1))

  pub with_record_apart : (other : FileName) → other ≢ entry.name → own_at (with_record replica entry) other ≡ own_at replica other
  with_record_apart other apart = insert_apart replica.index.records entry.name (numbered entry (replica.index.sequence + 1)) other apart

-- ---- a pull begins or ends

-- a pull that is there once one began is that one, or was there
pub with_pull_found : (replica : Replica) (name : FileName) (pull : Pull) (other : FileName) (found : Pull) → pull_at (with_pull replica name pull) other ≡ Some found → ((other ≡ name) × (found ≡ pull)) ⊎ (pull_at replica other ≡ Some found)
with_pull_found replica name pull other found is =
    ⊎_elim
    (λ same.
    let here = subst (λ (n : FileName). get (insert replica.pulls name pull) n ≡ Some pull) (sym same) (insert_here replica.pulls name pull) in
    let e : Some found ≡ Some pull = sym is ∙ here in
    inl (same, cc))
    (λ apart. inr (sym (insert_apart replica.pulls name pull other apart) ∙ is))
    (same_name_or_not other name)

-- a pull that is there once one ended was there
pub without_pull_found : (replica : Replica) (name other : FileName) (found : Pull) → pull_at (without_pull replica name) other ≡ Some found → pull_at replica other ≡ Some found
without_pull_found replica name other found is =
    ⊎_elim
    (λ same.
    let none = subst (λ (n : FileName). get (remove replica.pulls name) n ≡ None) (sym same) (remove_here replica.pulls name) in
    absurd (cc))
    (λ apart. sym (remove_apart replica.pulls name other apart) ∙ is)
    (same_name_or_not other name)

-- the target of a pull that is there
pub target_says : (pull : Option Pull) (entry : Entry) → option_map (λ pull. pull.target) pull ≡ Some entry → (found : Pull) × (pull ≡ Some found) × (found.target ≡ entry)
target_says None entry is = absurd (cc)
target_says (Some pull) entry is = (pull, refl, cc)

pub target_at_pull : (replica : Replica) (name : FileName) (pull : Pull) → pull_at replica name ≡ Some pull → target_at replica name ≡ Some pull.target
target_at_pull replica name pull is = ap (λ (o : Option Pull). option_map (λ pull. pull.target) o) is

-- ---- the node and the record that the end of a pull leaves

abbrev pub ended : Replica → FileName → Option NodeParts → Entry → Replica
ended start name after entry = without_pull (with_record (with_node start name after) entry) name

module _ (start : Replica) (name : FileName) (after : Option NodeParts) (entry : Entry) (named : entry.name ≡ name) where
  pub own_here : own_at (ended start name after entry) name ≡ Some (numbered entry ((with_node start name after).index.sequence + 1))
  own_here =
      subst (λ (n : FileName). own_at (ended start name after entry) n ≡ Some (numbered entry ((with_node start name after).index.sequence + 1))) named
      (with_record_here (with_node start name after) entry)

  pub own_apart : (other : FileName) → other ≢ name → own_at (ended start name after entry) other ≡ own_at start other
  own_apart other apart = with_record_apart (with_node start name after) entry other (λ same. apart (same ∙ named)) ∙ with_node_own start name after other

  pub target_before_end : (other : FileName) (target : Entry) → target_at (ended start name after entry) other ≡ Some target → target_at start other ≡ Some target
  target_before_end other target is =
      let found = target_says (pull_at (ended start name after entry) other) target is in
      let before = sym (with_node_pull start name after other) ∙ without_pull_found (with_record (with_node start name after) entry) name other found.0 found.1 in
      target_at_pull start other found.0 before ∙ ap (λ (e : Entry). Some e) found.2
