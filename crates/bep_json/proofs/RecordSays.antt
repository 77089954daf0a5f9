-- A record and a node that are written are read again.
use Rattle.std.proofs.Common.{◌≡◌, ◌≤◌, ℕ, ◌||◌, Bool, true, false, List, [], ◌∷◌, map, Some, refl, ap, sym, ◌∙◌, arith}
use Rattle.std.specs.List.{AllByRecursion}
use Rattle.hex.specs.Hex.{IsBytes}
use Rattle.bep_record.proofs.BlockSizeFacts.{block_sizes_are_bounded}
use Rattle.bep_record.specs.Entry.{HasNoBlocks, HasBlocks, HasBody, IsWellFormed}
use Rattle.bep_record.specs.Node.{IsNode}
use Rattle.bep_record.specs.Name.{IsName}
use Rattle.bep_record.specs.Target.{IsTarget}
use Rattle.bep_record.specs.declared.block.Block.{Block}
use Rattle.bep_record.specs.declared.entry.Entry.{Entry}
use Rattle.bep_record.specs.declared.kind.Kind.{Kind}
use Rattle.bep_record.specs.declared.kind.Kind.TheVariants.{File, Directory, Symlink}
use Rattle.bep_record.specs.declared.limits.TheConstants.{MAX_NANOSECONDS}
use Rattle.bep_record.specs.declared.node.NodeParts.{NodeParts}
use Rattle.bep_json.specs.Numbers.{is_whole, read_number, read_signed, greatest_id}
use Rattle.bep_json.specs.Texts.{is_text, read_hash}
use Rattle.bep_json.specs.Lists.{is_list, read_list, is_pair, read_version}
use Rattle.bep_json.specs.Nodes.{is_node, has_node_members, has_one_body, has_due_target, read_node}
use Rattle.bep_json.specs.declared.version.DocVersion.{DocVersion}
use Rattle.bep_json.specs.declared.version.DocVersion.TheVariants.{One, Two}
use Rattle.bep_json.specs.Version.{most_file_bytes}
use Rattle.bep_json.specs.Records.{is_record, has_record_members, has_due_block_size, blocks_from, read_record}
use Rattle.bep_json.specs.Says.{Says, both_are, then_read, number_says, list_says}
use Rattle.bep_json.specs.Back.{IsRecordBack, IsNodeBack}
use Rattle.bep_json.specs.Written.{whole, signed, version_written, hex_written, hashes_written, record_written, node_written}
use Rattle.bep_json.proofs.WrittenFacts.{map_same, kind_says, name_says, target_says, bytes_say, blocks_again}

abbrev hashes_of : Entry → List (List ℕ)
hashes_of entry = map (λ b. b.hash) entry.blocks

-- the block size is in range, and the blocks are those of their hashes
record HasRange (entry : Entry) : Type 0 where
  block_size : entry.block_size ≤ 4294967295
  blocks : blocks_from entry.size 0 (hashes_of entry) ≡ entry.blocks

range_of_none : (entry : Entry) → HasNoBlocks entry → HasRange entry
range_of_none entry none =
    let block_size = none.block_size in
    record {
      block_size = omega arith;
      blocks = ap (λ (bs : List Block). blocks_from entry.size 0 (map (λ b. b.hash) bs)) none.blocks ∙ sym none.blocks;
    }

range_of_some : (entry : Entry) → HasBlocks entry → HasRange entry
range_of_some entry some =
    let block_size = some.block_size in
    let bounds = block_sizes_are_bounded entry.size in
    let most = bounds.1 in
    record { block_size = omega arith; blocks = blocks_again entry.size entry.blocks some.blocks }

range_of : (deleted : Bool) (kind : Kind) (entry : Entry) → HasBody deleted kind entry → HasRange entry
range_of true kind entry body = range_of_none entry body.0
range_of false File entry body = range_of_some entry body.0
range_of false Directory entry body = range_of_none entry body.0
range_of false Symlink entry body = range_of_none entry body.0

-- what the types of a record's fields keep
pub record AreTyped (entry : Entry) : Type 0 where
  pub name : IsName entry.name
  pub target : IsTarget entry.target
  pub modified_s : Says is_whole read_signed entry.modified_s (signed entry.modified_s)
  pub modified_by : Says is_whole (read_number 1 greatest_id) entry.modified_by (whole entry.modified_by)
  pub version : Says (is_list is_pair) read_version entry.version (version_written entry.version)
  pub hashes : Says (is_list is_text) (read_list read_hash) (map (λ b. b.hash) entry.blocks) (hashes_written (map (λ b. b.hash) entry.blocks))

-- the hash of each of these blocks is read again
abbrev pub AreRead : List Block → Type 0
AreRead = AllByRecursion (λ b. Says is_text read_hash b.hash (hex_written b.hash))

each_hash : (blocks : List Block) → AreRead blocks → AllByRecursion (λ h. Says is_text read_hash h (hex_written h)) (map (λ b. b.hash) blocks)
each_hash [] all = tt
each_hash (block ∷ more) all = (all.0, each_hash more all.1)

pub hashes_say : (blocks : List Block) → AreRead blocks → Says (is_list is_text) (read_list read_hash) (map (λ b. b.hash) blocks) (hashes_written (map (λ b. b.hash) blocks))
hashes_say blocks all =
    let hashes = map (λ (b : Block). b.hash) blocks in
    let told = list_says is_text read_hash (λ h. h) hex_written hashes (each_hash blocks all) in
    (told.0, told.1 ∙ ap Some (map_same hashes))

or_true : (b : Bool) → (b || true) ≡ true
or_true true = refl
or_true false = refl

-- the block size is always written
says_block_size : (version : DocVersion) (entry : Entry) → has_due_block_size version (record_written entry) ≡ true
unfolding has_due_block_size record_written
says_block_size One entry = refl
says_block_size Two entry = or_true _

record_shaped : (version : DocVersion) (entry : Entry) → AreTyped entry → is_record version (record_written entry) ≡ true
unfolding is_record has_record_members record_written
record_shaped version entry typed =
    let may = both_are refl (both_are refl (both_are refl (both_are refl (both_are refl (both_are typed.hashes.0 refl))))) in
    both_are (both_are refl (both_are refl (both_are (kind_says entry.kind).0 (both_are typed.modified_s.0 (both_are refl (both_are typed.version.0 (both_are refl may))))))) (says_block_size version entry)

record_read : (version : DocVersion) (entry : Entry) → IsWellFormed entry → AreTyped entry → entry.size ≤ most_file_bytes version → entry.sequence ≤ 9223372036854775807 → read_record version (record_written entry) ≡ Some entry
unfolding read_record record_written
record_read version entry good typed small numbered =
    let range = range_of entry.deleted entry.kind entry good.body in
    then_read _ (name_says entry.name typed.name).1
    (then_read _ (kind_says entry.kind).1
    (then_read _ typed.modified_s.1
    (then_read _ typed.modified_by.1
    (then_read _ typed.version.1
    (then_read _ (number_says 0 9223372036854775807 entry.sequence (omega arith) numbered).1
    (then_read _ (number_says 0 (most_file_bytes version) entry.size (omega arith) small).1
    (then_read _ (number_says 0 MAX_NANOSECONDS entry.modified_ns (omega arith) good.nanoseconds).1
    (then_read _ (number_says 0 4294967295 entry.block_size (omega arith) range.block_size).1
    (then_read _ typed.hashes.1
    (then_read _ (target_says entry.target typed.target).1
    (λ i. Some (record entry { no_permissions = sym good.no_permissions i; blocks = range.blocks i }))))))))))))

-- a record is read again, where its sequence is one that documents have
pub record_says : (entry : Entry) → IsWellFormed entry → AreTyped entry → IsRecordBack entry (record_written entry)
record_says entry good typed = λ version small numbered. (record_shaped version entry typed, record_read version entry good typed small numbered)

-- ---- nodes
node_shaped : (name : List ℕ) (node : NodeParts) → Says is_whole read_signed node.modified_s (signed node.modified_s) → is_node (node_written name node) ≡ true
unfolding is_node has_node_members has_one_body has_due_target node_written
node_shaped name node time = both_are (both_are refl (both_are refl (both_are (kind_says node.kind).0 (both_are time.0 refl)))) (both_are refl (or_true _))

-- a node is read again with its name
pub node_says : (name : List ℕ) (node : NodeParts) → IsName name → IsNode node → IsTarget node.target → IsBytes node.bytes → Says is_whole read_signed node.modified_s (signed node.modified_s) → IsNodeBack (record { name = name; parts = node }) (node_written name node)
unfolding read_node node_written
node_says name node named good target bytes time = λ version small. (
  node_shaped name node time,
  then_read _ (name_says name named).1
      (then_read _ (kind_says node.kind).1
      (then_read _ time.1
      (then_read _ (number_says 0 MAX_NANOSECONDS node.modified_ns (omega arith) good.nanoseconds).1
      (then_read _ (bytes_say version node.bytes small bytes).1
      (then_read _ (target_says node.target target).1 refl))))),
)
