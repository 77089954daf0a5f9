-- Editing, removing, scanning, override and revert keep a replica sound.
use Rattle.std.proofs.Common.{◌≡◌, ◌≤◌, ◌∙◌, ℕ, true, List, [], length, Option, Some, None, refl, sym, subst, arith}
use Rattle.std.proofs.lemmas.Option.{none-some}
use Rattle.bep_record.specs.declared.entry.Entry.{Entry}
use Rattle.bep_record.specs.declared.node.NodeParts.{NodeParts}
use Rattle.bep_record.specs.declared.folder_kind.FolderKind.{FolderKind}
use Rattle.bep_record.specs.declared.folder_kind.FolderKind.TheVariants.{SendReceive, SendOnly, ReceiveOnly}
use Rattle.bep_record.specs.Node.{IsNode}
use Rattle.bep_record.specs.Vector.{IsVersion, most_counters}
use Rattle.bep_index.specs.Index.{IsSequenceFull}
use Rattle.bep_model.specs.Tables.{Device, FileName}
use Rattle.bep_machine.specs.Answer.{Answer}
use Rattle.bep_machine.specs.Replica.{Replica, own_at, node_at, version_of}
use Rattle.bep_machine.specs.Local.{EditRow, RemoveRow, ScanRow, FoundRow, PutRow, Finds, OverrideRow, OverridingRow, RevertRow, RevertedRow, IsCrowded, IsRaised, deletion_of, overriding}
use Rattle.bep_machine.specs.Sound.{IsSoundReplica}
use Rattle.bep_machine.proofs.LowerLaws.{LowerLaws}
use Rattle.bep_machine.proofs.SoundParts.{SoundChange, made_is_sound, then_sound, or_rest}
use Rattle.bep_machine.proofs.SoundMaps.{IfAny}
use Rattle.bep_machine.proofs.SoundChanges.{IsGoodAt, own_is_good, node_is_node, version_is, version_is_few, node_is_sound, record_is_sound}
use Rattle.bep_machine.proofs.GoodRecords.{good_found, good_deletion, good_local, good_by}
use Rattle.bep_machine.proofs.GoodVersions.{raised_is_few, overriding_is_few}
use Rattle.bep_machine.proofs.GoodChoice.{chosen_is_good}

-- ---- the user's own changes

pub edit_is_sound : (device : Device) (name : FileName) (node : NodeParts) (failed : Option ℕ) (old new : Replica) (answer : Answer) →
    IsNode node → IsSoundReplica device old → EditRow name node failed old new answer → SoundChange device old new
edit_is_sound device name node failed old new answer is sound row =
    or_rest sound row (λ _ made. made_is_sound (node_is_sound name (Some node) sound is) made.0)

pub remove_is_sound : (device : Device) (name : FileName) (failed : Option ℕ) (old new : Replica) (answer : Answer) →
    IsSoundReplica device old → RemoveRow name failed old new answer → SoundChange device old new
remove_is_sound device name failed old new answer sound row =
    or_rest sound row (λ _ looked. or_rest sound looked (λ _ there. or_rest sound there (λ _ made. made_is_sound (node_is_sound name None sound tt) made.0)))

-- ---- new records

put_is_sound : LowerLaws → {device : Device} {old new : Replica} {answer : Answer} (name : FileName) (IsNew : Entry → Type 0) → IsSoundReplica device old →
    ((entry : Entry) → IsNew entry → IsGoodAt name entry) → PutRow name IsNew old new answer → SoundChange device old new
put_is_sound laws name IsNew sound good row =
    or_rest sound row (λ numbers counted. or_rest sound counted (λ names put.
    made_is_sound (record_is_sound laws.puts_keep_an_index name put.0 sound (record { numbers = numbers; names = names }) (good put.0 put.1)) put.2.0))

-- what a device finds, or finds gone
found_is_good : LowerLaws → (device : Device) (name : FileName) (node : Option NodeParts) (own : Option Entry) (version : List (ℕ × ℕ)) (entry : Entry) →
    IfAny IsNode node → IfAny (IsGoodAt name) own → IsVersion version → length version ≤ most_counters → Finds device name node own version entry → IsGoodAt name entry
found_is_good laws device name None None version entry node_is own_is is few finds = absurd finds
found_is_good laws device name None (Some own) version entry node_is own_is is few finds =
    subst (IsGoodAt name) (sym finds) (record { good = good_deletion device name own version own_is.good is few; named = refl })
found_is_good laws device name (Some node) own version entry node_is own_is is few finds =
    subst (IsGoodAt name) (sym finds)
    (record { good = good_found laws.nothing_is_one_block laws.nothing_has_its_hash laws.plain_is_cut_whole device name node version node_is is few; named = refl })

-- the same, marked as local-only
local_is_good : (name : FileName) (found entry : Entry) → IsGoodAt name found → entry ≡ record found { invalid = true } → IsGoodAt name entry
local_is_good name found entry is marked = subst (IsGoodAt name) (sym marked) (record { good = good_local found is.good; named = is.named })

raised_row_is_sound : LowerLaws → {device : Device} {old new : Replica} {answer : Answer} (name : FileName) → IsSoundReplica device old →
    ¬ IsCrowded device (version_of (own_at old name)) →
    PutRow name (λ entry. (version : List (ℕ × ℕ)) × IsRaised device (version_of (own_at old name)) version × Finds device name (node_at old name) (own_at old name) version entry) old new answer →
    SoundChange device old new
raised_row_is_sound laws {device} {old} name sound roomy row =
    let own_is = own_is_good device old name sound in
    put_is_sound laws name _ sound
    (λ entry new.
    found_is_good laws device name (node_at old name) (own_at old name) new.0 entry (node_is_node device old name sound) own_is new.1.version
    (raised_is_few laws device (version_of (own_at old name)) new.0 (version_is name (own_at old name) own_is) (version_is_few name (own_at old name) own_is) roomy new.1) new.2)
    row

found_row_is_sound : LowerLaws → {device : Device} {old new : Replica} (answer : Answer) (kind : FolderKind) (name : FileName) → IsSoundReplica device old →
    FoundRow kind device name old new answer → SoundChange device old new
found_row_is_sound laws {device} {old} answer ReceiveOnly name sound row =
    let own_is = own_is_good device old name sound in
    put_is_sound laws name _ sound
    (λ entry new.
    let found =
    found_is_good laws device name (node_at old name) (own_at old name) (version_of (own_at old name)) new.0 (node_is_node device old name sound) own_is
    (version_is name (own_at old name) own_is) (version_is_few name (own_at old name) own_is) new.1 in
    local_is_good name new.0 entry found new.2)
    row
found_row_is_sound laws answer SendReceive name sound row =
    or_rest sound row (λ _ below. or_rest sound below (λ roomy put. raised_row_is_sound laws name sound roomy put))
found_row_is_sound laws answer SendOnly name sound row =
    or_rest sound row (λ _ below. or_rest sound below (λ roomy put. raised_row_is_sound laws name sound roomy put))

pub scan_is_sound : LowerLaws → (device : Device) (name : FileName) (failed : Option ℕ) (old new : Replica) (answer : Answer) →
    IsSoundReplica device old → ScanRow device name failed old new answer → SoundChange device old new
scan_is_sound laws device name failed old new answer sound row =
    or_rest sound row (λ _ looked. or_rest sound looked (λ _ found. found_row_is_sound laws answer old.kind name sound found))

-- ---- override

overriding_is_good : (device : Device) (name : FileName) (own : Option Entry) (chosen : Entry) (version : List (ℕ × ℕ)) → IfAny (IsGoodAt name) own →
    IsGoodAt name chosen → IsVersion version → length version ≤ most_counters → IsGoodAt name (overriding device name own chosen version)
overriding_is_good device name None chosen version own_is good is few = record { good = good_deletion device name chosen version good.good is few; named = refl }
overriding_is_good device name (Some own) chosen version own_is good is few = record { good = good_by own device version own_is.good is few; named = own_is.named }

overriding_row_is_sound : LowerLaws → {device : Device} {old new : Replica} {answer : Answer} (name : FileName) (chosen : Entry) → IsSoundReplica device old →
    IsGoodAt name chosen → OverridingRow device name chosen old new answer → SoundChange device old new
overriding_row_is_sound laws {device} {old} name chosen sound good row =
    let own = own_at old name in
    let own_is = own_is_good device old name sound in
    or_rest sound row (λ _ below. or_rest sound below (λ roomy put.
    put_is_sound laws name _ sound
    (λ entry new.
    subst (IsGoodAt name) (sym new.2)
    (overriding_is_good device name own chosen new.0 own_is good new.1.version
    (overriding_is_few laws device (version_of own) chosen.version new.0 (version_is name own own_is) good.good.version roomy new.1)))
    put))

pub override_is_sound : LowerLaws → (device : Device) (name : FileName) (old new : Replica) (answer : Answer) →
    IsSoundReplica device old → OverrideRow device name old new answer → SoundChange device old new
override_is_sound laws device name old new answer sound row =
    or_rest sound row (λ _ kind. or_rest sound kind (λ _ chosen.
    overriding_row_is_sound laws name chosen.0 sound (chosen_is_good device old name chosen.0 sound chosen.1).good chosen.2))

-- ---- revert

reverted_row_is_sound : LowerLaws → {device : Device} {old new : Replica} (answer : Answer) (name : FileName) (failed : Option ℕ) (own : Option Entry) → IsSoundReplica device old →
    own_at old name ≡ own → IfAny (IsGoodAt name) own → ¬ IsSequenceFull old.index → RevertedRow device name failed own old new answer → SoundChange device old new
reverted_row_is_sound laws answer name failed None sound is own_is numbers row = absurd row
reverted_row_is_sound laws {device} {old} answer name failed (Some own) sound is own_is numbers row =
    or_rest sound row (λ _ made.
    let gone = node_is_sound name None sound tt in
    let names : ¬ (own_at old name ≡ None) = λ none. none-some own (sym none ∙ is) in
    made_is_sound
    (then_sound gone
    (record_is_sound laws.puts_keep_an_index name (deletion_of device name own []) gone.sound (record { numbers = numbers; names = λ full. names full.1 })
    (record { good = good_deletion device name own [] own_is.good tt (omega arith); named = refl })))
    made.0)

pub revert_is_sound : LowerLaws → (device : Device) (name : FileName) (failed : Option ℕ) (old new : Replica) (answer : Answer) →
    IsSoundReplica device old → RevertRow device name failed old new answer → SoundChange device old new
revert_is_sound laws device name failed old new answer sound row =
    or_rest sound row (λ _ kind. or_rest sound kind (λ _ local. or_rest sound local (λ _ looked. or_rest sound looked (λ _ clean. or_rest sound clean (λ numbers reverted.
    reverted_row_is_sound laws answer name failed (own_at old name) sound refl (own_is_good device old name sound) numbers reverted)))))
