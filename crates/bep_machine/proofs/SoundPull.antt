-- Beginning and ending a pull keep a replica sound.
use Rattle.std.proofs.Common.{◌<◌, ℕ, Option, sym, subst, inl, inr, ⊎_elim}
use Rattle.bep_record.specs.declared.entry.Entry.{Entry}
use Rattle.bep_record.specs.declared.node.NodeParts.{NodeParts}
use Rattle.bep_record.specs.Node.{IsNode}
use Rattle.bep_record.specs.Vector.{most_counters, ids_in_either}
use Rattle.bep_model.specs.Tables.{Device, FileName}
use Rattle.bep_machine.specs.Answer.{Answer, Row}
use Rattle.bep_machine.specs.Replica.{Pull, Replica, own_at, node_at, version_of}
use Rattle.bep_machine.specs.Pull.{new_pull, ChosenRow, StartPullRow, IsAdopted, SettlingRow, RoomRow, CopyingRow, EndingRow, FinishRow, copy_name}
use Rattle.bep_machine.specs.Sound.{IsSoundPull, IsSoundReplica}
use Rattle.bep_machine.proofs.CalmRows.{CopiedRow}
use Rattle.bep_machine.proofs.LowerLaws.{LowerLaws}
use Rattle.bep_machine.proofs.SoundParts.{SoundChange, made_is_sound, same_is_sound, then_sound, or_rest}
use Rattle.bep_machine.proofs.SoundMaps.{IfAny}
use Rattle.bep_machine.proofs.SoundChanges.{IsGoodAt, own_is_good, node_is_node, version_is, node_is_sound, index_with_node, HasRoom, record_is_sound, pull_gone_is_sound, pull_is_sound, new_pull_is_sound}
use Rattle.bep_machine.proofs.GoodRecords.{good_as_adopted}
use Rattle.bep_machine.proofs.GoodVersions.{merged_is_few}
use Rattle.bep_machine.proofs.GoodChoice.{IsGoodChoice, chosen_is_good}
use Rattle.bep_machine.proofs.WrittenNode.{end_is_node}

-- ---- beginning a pull

chosen_row_is_sound : {device : Device} {old new : Replica} {answer : Answer} (name : FileName) (chosen : Entry) → IsSoundReplica device old → IsGoodChoice name chosen →
    ChosenRow name chosen old new answer → SoundChange device old new
chosen_row_is_sound name chosen sound is row =
    or_rest sound row (λ _ needed. or_rest sound needed (λ _ allowed. or_rest sound allowed (λ roomy made.
    made_is_sound (pull_is_sound name (new_pull chosen) sound (new_pull_is_sound name chosen is.good is.valid) roomy) made.0)))

pub start_pull_is_sound : (device : Device) (name : FileName) (old new : Replica) (answer : Answer) →
    IsSoundReplica device old → StartPullRow device name old new answer → SoundChange device old new
start_pull_is_sound device name old new answer sound row =
    or_rest sound row (λ _ chosen. chosen_row_is_sound name chosen.0 sound (chosen_is_good device old name chosen.0 sound chosen.1) chosen.2)

-- ---- ending a pull

adopted_is_good : LowerLaws → (name : FileName) (own : Option Entry) (target entry : Entry) → IfAny (IsGoodAt name) own → IsGoodAt name target →
    ¬ (most_counters < ids_in_either (version_of own) target.version) → IsAdopted own target entry → IsGoodAt name entry
adopted_is_good laws name own target entry own_is target_is roomy adopted =
    subst (IsGoodAt name) (sym adopted.same)
    (record {
      good =
          good_as_adopted target adopted.version target_is.good adopted.rises
          (merged_is_few laws (version_of own) target.version adopted.version (version_is name own own_is) target_is.good.version roomy adopted.merge adopted.rises);
      named = target_is.named;
    })

-- what is known when a pull ends: it is sound, and so are the own record and the node that stood at the name before
record CanEnd (name : FileName) (pull : Pull) (own : Option Entry) (node : Option NodeParts) : Type 0 where
  pull_is : IsSoundPull name pull
  own_is : IfAny (IsGoodAt name) own
  node_is : IfAny IsNode node

settling_is_sound : LowerLaws → {device : Device} {old new : Replica} {answer : Answer} (name : FileName) (pull : Pull) (call : ℕ) (failed : Option ℕ) (own : Option Entry) (held : Option NodeParts) →
    CanEnd name pull own held → ¬ (most_counters < ids_in_either (version_of own) pull.target.version) → HasRoom old.index name → IsSoundReplica device old →
    SettlingRow name pull call failed own held old new answer → SoundChange device old new
settling_is_sound laws name pull call failed own held can few room sound (inl wanting) = same_is_sound sound wanting.0
settling_is_sound laws {device} {old} {new} name pull call failed own held can few room sound (inr settles) =
    let after = settles.0 in
    let put = node_is_sound name after sound (end_is_node name own held pull after can.pull_is can.node_is settles.1) in
    let target_is : IsGoodAt name pull.target = record { good = can.pull_is.good; named = can.pull_is.named } in
    or_rest sound settles.2 (λ _ adopted.
    let good = adopted_is_good laws name own pull.target adopted.0 can.own_is target_is few adopted.1 in
    let there = record_is_sound laws.puts_keep_an_index name adopted.0 put.sound (subst (λ index. HasRoom index name) (sym (index_with_node old name after)) room) good in
    let gone = pull_gone_is_sound name there.sound in
    made_is_sound (then_sound put (then_sound there gone)) adopted.2.0)

room_is_sound : {device : Device} {old new : Replica} {answer : Answer} (name : FileName) (own : Option Entry) (target : Entry) (rest : Row Replica) → IsSoundReplica device old →
    (¬ (most_counters < ids_in_either (version_of own) target.version) → HasRoom old.index name → rest new answer → SoundChange device old new) →
    RoomRow name own target old rest new answer → SoundChange device old new
room_is_sound name own target rest sound more row =
    or_rest sound row (λ few counted. or_rest sound counted (λ numbers indexed. or_rest sound indexed (λ names made.
    more few (record { numbers = numbers; names = names }) made)))

copying_is_sound : LowerLaws → {device : Device} {old new : Replica} {answer : Answer} (name : FileName) (pull : Pull) (failed : Option ℕ) (own : Option Entry) (node : Option NodeParts) →
    CanEnd name pull own node → IsSoundReplica device old → CopyingRow name pull failed own node old new answer → SoundChange device old new
copying_is_sound laws {device} {old} name pull failed own node can sound row =
    or_rest sound row (λ _ named. or_rest sound named (λ _ looked. or_rest sound looked (λ _ free.
    room_is_sound name own pull.target (CopiedRow name pull failed own node old) sound
    (λ few room copies.
    ⊎_elim
    (λ absent.
    or_rest sound absent.1 (λ _ settles.
    let copied = node_is_sound (copy_name own) node sound can.node_is in
    then_sound copied
    (settling_is_sound laws name pull 4 failed own node can few (subst (λ index. HasRoom index name) (sym (index_with_node old (copy_name own) node)) room) copied.sound settles)))
    (λ there. settling_is_sound laws name pull 3 failed own node can few room sound there.1)
    copies)
    free)))

ending_is_sound : LowerLaws → {device : Device} {old new : Replica} {answer : Answer} (name : FileName) (pull : Pull) (failed : Option ℕ) →
    IsSoundPull name pull → IsSoundReplica device old → EndingRow name pull failed old new answer → SoundChange device old new
ending_is_sound laws {device} {old} name pull failed is sound row =
    let own = own_at old name in
    let node = node_at old name in
    let can : CanEnd name pull own node = record { pull_is = is; own_is = own_is_good device old name sound; node_is = node_is_node device old name sound } in
    or_rest sound row (λ _ received. or_rest sound received (λ _ looked. or_rest sound looked (λ _ scanned.
    ⊎_elim
    (λ due. copying_is_sound laws name pull failed own node can sound due.1)
    (λ plain. room_is_sound name own pull.target (SettlingRow name pull 2 failed own node old) sound (λ few room rest. settling_is_sound laws name pull 2 failed own node can few room sound rest) plain.1)
    scanned)))

pub finish_is_sound : LowerLaws → (device : Device) (name : FileName) (failed : Option ℕ) (old new : Replica) (answer : Answer) →
    IsSoundReplica device old → FinishRow device name failed old new answer → SoundChange device old new
finish_is_sound laws device name failed old new answer sound row =
    or_rest sound row (λ _ pulled.
    ⊎_elim
    (λ wanted. ending_is_sound laws name pulled.0 failed (sound.pulls name pulled.0 pulled.1) sound wanted.1)
    (λ dropped. made_is_sound (pull_gone_is_sound name sound) dropped.1.0)
    pulled.2)
