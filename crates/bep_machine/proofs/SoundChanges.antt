-- The changes of a replica that keep it sound: a node, a record or a pull at a name.
use Rattle.std.proofs.Common.{◌≡◌, ◌≤◌, ◌+◌, false, length, List, [], ◌∷◌, map, Option, Some, None, refl, subst, arith}
use Rattle.std.specs.Cmp.Lexicographic.{nat_list_cmp_total}
use Rattle.std.specs.FinMap.{get, insert, len, remove}
use Rattle.bep_facts.specs.Maps.{len-insert_le}
use Rattle.bep_record.specs.declared.block.Block.{Block}
use Rattle.bep_record.specs.declared.entry.Entry.{Entry}
use Rattle.bep_record.specs.declared.node.NodeParts.{NodeParts}
use Rattle.bep_record.specs.declared.limits.TheConstants.{MAX_PULLS}
use Rattle.bep_record.specs.Node.{IsNode}
use Rattle.bep_record.specs.Vector.{IsVersion, most_counters}
use Rattle.bep_map.specs.NameMap.{ByName}
use Rattle.bep_index.specs.Listing.{Listing}
use Rattle.bep_index.specs.Index.{IsSequenceFull, IsIndexFull, numbered}
use Rattle.bep_index.specs.Laws.{PutsKeepAnIndex}
use Rattle.bep_model.specs.Tables.{Device, FileName}
use Rattle.bep_machine.specs.Replica.{Pull, Replica, own_at, node_at, version_of, with_record, with_node, with_pull, without_pull}
use Rattle.bep_machine.specs.Pull.{new_pull, ArePullsFull}
use Rattle.bep_index.specs.Good.{IsGood}
use Rattle.bep_machine.specs.Sound.{AreReceived, IsSoundPull, IsSoundReplica}
use Rattle.bep_machine.proofs.SoundParts.{SoundChange}
use Rattle.bep_machine.proofs.SoundMaps.{IfAny, if_any, each_after_insert, each_after_remove, len-remove_le}
use Rattle.bep_machine.proofs.GoodRecords.{good_under}

-- ---- what stands at a name

-- a good record that stands under its name
pub record IsGoodAt (name : FileName) (entry : Entry) : Type 0 where
  pub good : IsGood entry
  pub named : entry.name ≡ name

pub own_is_good : (device : Device) (replica : Replica) (name : FileName) → IsSoundReplica device replica → IfAny (IsGoodAt name) (own_at replica name)
own_is_good device replica name sound =
    if_any (IsGoodAt name) (own_at replica name) (λ entry is. record {
      good = sound.own name entry is;
      named = (sound.index.numbered name entry is).0;
    })

pub node_is_node : (device : Device) (replica : Replica) (name : FileName) → IsSoundReplica device replica → IfAny IsNode (node_at replica name)
node_is_node device replica name sound = if_any IsNode (node_at replica name) (λ node is. sound.store name node is)

pub version_is : (name : FileName) (own : Option Entry) → IfAny (IsGoodAt name) own → IsVersion (version_of own)
version_is name None good = tt
version_is name (Some own) good = good.good.version

pub version_is_few : (name : FileName) (own : Option Entry) → IfAny (IsGoodAt name) own → length (version_of own) ≤ most_counters
version_is_few name None good = omega arith
version_is_few name (Some own) good = good.good.few

-- ---- changes

-- other pulls and other nodes in the store
rest_is_sound : {device : Device} {old : Replica} (pulls : ByName Pull) (store : ByName NodeParts) → IsSoundReplica device old → ((name : FileName) (pull : Pull) → get pulls name ≡ Some pull → IsSoundPull name pull) →
    len pulls ≤ MAX_PULLS → ((name : FileName) (node : NodeParts) → get store name ≡ Some node → IsNode node) → SoundChange device old (record old { pulls = pulls; store = store })
rest_is_sound pulls store sound each few nodes = record {
  sound = record { index = sound.index; id = sound.id; own = sound.own; views = sound.views; pulls = each; few_pulls = few; store = nodes };
  kind = refl;
  others = refl;
}

store_is_sound : {device : Device} {old : Replica} (store : ByName NodeParts) → IsSoundReplica device old → ((name : FileName) (node : NodeParts) → get store name ≡ Some node → IsNode node) →
    SoundChange device old (record old { store = store })
store_is_sound {device} {old} store sound nodes = rest_is_sound old.pulls store sound sound.pulls sound.few_pulls nodes

pub pulls_are_sound : {device : Device} {old : Replica} (pulls : ByName Pull) → IsSoundReplica device old → ((name : FileName) (pull : Pull) → get pulls name ≡ Some pull → IsSoundPull name pull) → len pulls ≤ MAX_PULLS →
    SoundChange device old (record old { pulls = pulls })
pulls_are_sound {device} {old} pulls sound each few = rest_is_sound pulls old.store sound each few sound.store

pub node_is_sound : {device : Device} {old : Replica} (name : FileName) (node : Option NodeParts) → IsSoundReplica device old → IfAny IsNode node →
    SoundChange device old (with_node old name node)
node_is_sound {device} {old} name None sound is =
    store_is_sound (remove old.store name) sound (each_after_remove (λ there node. IsNode node) old.store name sound.store)
node_is_sound {device} {old} name (Some node) sound is =
    store_is_sound (insert old.store name node) sound (each_after_insert (λ there node. IsNode node) old.store name sound.store node is)

-- the index stays then
pub index_with_node : (replica : Replica) (name : FileName) (node : Option NodeParts) → (with_node replica name node).index ≡ replica.index
index_with_node replica name None = refl
index_with_node replica name (Some node) = refl

-- there is room for one more record, of this name
pub record HasRoom (index : Listing) (name : FileName) : Type 0 where
  pub numbers : ¬ IsSequenceFull index
  pub names : ¬ IsIndexFull index name

pub record_is_sound : PutsKeepAnIndex → {device : Device} {old : Replica} (name : FileName) (entry : Entry) → IsSoundReplica device old → HasRoom old.index name → IsGoodAt name entry →
    SoundChange device old (with_record old entry)
record_is_sound law {device} {old} name entry sound room good = record {
  sound = record {
    index =
        law old.index entry sound.index room.numbers
        (λ full. room.names (full.0, subst (λ n. get old.index.records n ≡ None) good.named full.1));
    id = sound.id;
    own = each_after_insert (λ there one. IsGood one) old.index.records entry.name sound.own (numbered entry (old.index.sequence + 1)) (good_under entry (old.index.sequence + 1) good.good);
    views = sound.views;
    pulls = sound.pulls;
    few_pulls = sound.few_pulls;
    store = sound.store;
  };
  kind = refl;
  others = refl;
}

pub pull_gone_is_sound : {device : Device} {old : Replica} (name : FileName) → IsSoundReplica device old → SoundChange device old (without_pull old name)
pull_gone_is_sound {device} {old} name sound =
    pulls_are_sound (remove old.pulls name) sound (each_after_remove IsSoundPull old.pulls name sound.pulls) (len-remove_le old.pulls name MAX_PULLS sound.few_pulls)

pub pull_is_sound : {device : Device} {old : Replica} (name : FileName) (pull : Pull) → IsSoundReplica device old → IsSoundPull name pull → ¬ ArePullsFull old name →
    SoundChange device old (with_pull old name pull)
pull_is_sound {device} {old} name pull sound is roomy =
    pulls_are_sound (insert old.pulls name pull) sound (each_after_insert IsSoundPull old.pulls name sound.pulls pull is)
    (len-insert_le nat_list_cmp_total old.pulls name pull MAX_PULLS sound.few_pulls
    (λ none. let apart : ¬ (MAX_PULLS ≤ len old.pulls) = λ full. roomy (none, full) in omega arith))

-- nothing was received yet
pub none_received : (blocks : List Block) → AreReceived blocks (map (λ block. None) blocks)
none_received [] = tt
none_received (block ∷ blocks) = none_received blocks

pub new_pull_is_sound : (name : FileName) (target : Entry) → IsGoodAt name target → target.invalid ≡ false → IsSoundPull name (new_pull target)
new_pull_is_sound name target good valid = record {
  named = good.named;
  valid = valid;
  good = good.good;
  received = none_received target.blocks;
}
