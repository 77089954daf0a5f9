-- Records that are good stay so under another version, and a record that a device makes is good.
use Rattle.std.proofs.Common.{◌≡◌, ◌≤◌, ◌∙◌, ℕ, Bool, true, false, List, [], ◌∷◌, length, map, refl, sym, ap, subst, arith}
use Rattle.bep_record.specs.declared.kind.Kind.{Kind}
use Rattle.bep_record.specs.declared.kind.Kind.TheVariants.{File, Directory, Symlink}
use Rattle.bep_record.specs.declared.entry.Entry.{Entry}
use Rattle.bep_record.specs.declared.block.Block.{Block}
use Rattle.bep_record.specs.declared.node.NodeParts.{NodeParts}
use Rattle.bep_record.specs.declared.limits.TheConstants.{HASH_OF_NOTHING}
use Rattle.bep_record.specs.Block.{block_size_of, CutWhole}
use Rattle.bep_record.specs.Entry.{HasNoBlocks, HasBlocks, HasBody, SameBody}
use Rattle.bep_record.specs.Node.{FitsKind, IsNode}
use Rattle.bep_record.specs.Vector.{IsVersion, most_counters}
use Rattle.bep_blocks.specs.Plain.{file_blocks}
use Rattle.bep_blocks.specs.Laws.{NothingIsOneBlock, NothingHasItsHash, PlainIsCutWhole}
use Rattle.bep_model.specs.Tables.{Device, FileName}
use Rattle.bep_machine.specs.Local.{blocks_of_kind, block_size_of_kind, record_of_node, deletion_of}
use Rattle.bep_index.specs.Good.{IsGood}

-- ---- records of one body

no_blocks_too : (one other : Entry) → SameBody one other → HasNoBlocks one → HasNoBlocks other
no_blocks_too one other same has = record {
  size = sym same.size ∙ has.size;
  block_size = sym same.block_size ∙ has.block_size;
  blocks = sym same.blocks ∙ has.blocks;
}

blocks_too : (one other : Entry) → SameBody one other → HasBlocks one → HasBlocks other
blocks_too one other same has = record {
  size = let size = same.size in let most = has.size in omega arith;
  block_size = sym same.block_size ∙ has.block_size ∙ ap block_size_of same.size;
  blocks =
      subst (λ size. CutWhole (block_size_of size) size other.blocks) same.size
      (subst (λ blocks. CutWhole (block_size_of one.size) one.size blocks) same.blocks has.blocks);
  empty = λ none. subst (λ blocks. map (λ (b : Block). b.hash) blocks ≡ HASH_OF_NOTHING ∷ []) same.blocks (has.empty (same.size ∙ none));
}

pub body_too : (deleted : Bool) (kind : Kind) (one other : Entry) → SameBody one other → HasBody deleted kind one → HasBody deleted kind other
body_too true kind one other same has = (no_blocks_too one other same has.0, sym same.target ∙ has.1)
body_too false File one other same has = (blocks_too one other same has.0, sym same.target ∙ has.1)
body_too false Directory one other same has = (no_blocks_too one other same has.0, sym same.target ∙ has.1)
body_too false Symlink one other same has = (no_blocks_too one other same has.0, λ none. has.1 (same.target ∙ none))

itself : (one other : Entry) → one.size ≡ other.size → one.block_size ≡ other.block_size → one.blocks ≡ other.blocks → one.target ≡ other.target → SameBody one other
itself one other size block_size blocks target = record { size = size; block_size = block_size; blocks = blocks; target = target }

-- another version, and another device, mark or sequence number
good_with : (entry : Entry) (version : List (ℕ × ℕ)) (by sequence : ℕ) (invalid : Bool) → IsGood entry → IsVersion version → length version ≤ most_counters →
    IsGood (record entry { version = version; modified_by = by; sequence = sequence; invalid = invalid })
good_with entry version by sequence invalid good is few =
    let after : Entry = record entry { version = version; modified_by = by; sequence = sequence; invalid = invalid } in
    record {
      formed = record {
        nanoseconds = good.formed.nanoseconds;
        no_permissions = good.formed.no_permissions;
        body = body_too entry.deleted entry.kind entry after (itself entry after refl refl refl refl) good.formed.body;
      };
      version = is;
      few = few;
    }

-- another sequence number
pub good_under : (entry : Entry) (sequence : ℕ) → IsGood entry → IsGood (record entry { sequence = sequence })
good_under entry sequence good = good_with entry entry.version entry.modified_by sequence entry.invalid good good.version good.few

-- another version, and another mark of what is valid
pub good_as_adopted : (entry : Entry) (version : List (ℕ × ℕ)) → IsGood entry → IsVersion version → length version ≤ most_counters →
    IsGood (record entry { version = version; invalid = false })
good_as_adopted entry version good is few = good_with entry version entry.modified_by entry.sequence false good is few

-- another version, by another device
pub good_by : (entry : Entry) (device : Device) (version : List (ℕ × ℕ)) → IsGood entry → IsVersion version → length version ≤ most_counters →
    IsGood (record entry { modified_by = device; version = version })
good_by entry device version good is few = good_with entry version device entry.sequence entry.invalid good is few

-- marked as local-only
pub good_local : (entry : Entry) → IsGood entry → IsGood (record entry { invalid = true })
good_local entry good = good_with entry entry.version entry.modified_by entry.sequence true good good.version good.few

-- ---- records that a device makes

pub good_deletion : (device : Device) (name : FileName) (entry : Entry) (version : List (ℕ × ℕ)) → IsGood entry → IsVersion version →
    length version ≤ most_counters → IsGood (deletion_of device name entry version)
good_deletion device name entry version good is few = record {
  formed = record {
    nanoseconds = good.formed.nanoseconds;
    no_permissions = refl;
    body = (record { size = refl; block_size = refl; blocks = refl }, refl);
  };
  version = is;
  few = few;
}

module _ (one_block : NothingIsOneBlock) (its_hash : NothingHasItsHash) (cut : PlainIsCutWhole) where
  empty_hashes : (bytes : List ℕ) → length bytes ≡ 0 → map (λ (b : Block). b.hash) (file_blocks bytes) ≡ HASH_OF_NOTHING ∷ []
  empty_hashes [] none = ap (λ blocks. map (λ (b : Block). b.hash) blocks) (one_block (block_size_of 0)) ∙ ap (λ hash. hash ∷ []) its_hash
  empty_hashes (byte ∷ bytes) none = absurd (omega arith)

  found_body : (device : Device) (name : FileName) (node : NodeParts) (version : List (ℕ × ℕ)) (kind : Kind) → IsNode node → FitsKind kind node →
      HasBody false kind (record (record_of_node device name node version) { block_size = block_size_of_kind kind node.bytes; blocks = blocks_of_kind kind node.bytes })
  found_body device name node version File is fits = (
    record {
      size = is.size;
      block_size = refl;
      blocks = cut (block_size_of (length node.bytes)) node.bytes;
      empty = empty_hashes node.bytes;
    },
    fits,
  )
  found_body device name node version Directory is fits = (record { size = ap length fits.0; block_size = refl; blocks = refl }, fits.1)
  found_body device name node version Symlink is fits = (record { size = ap length fits.0; block_size = refl; blocks = refl }, fits.1)

  -- what a device finds in its store
  pub good_found : (device : Device) (name : FileName) (node : NodeParts) (version : List (ℕ × ℕ)) → IsNode node → IsVersion version →
      length version ≤ most_counters → IsGood (record_of_node device name node version)
  good_found device name node version is version_is few = record {
    formed = record {
      nanoseconds = is.nanoseconds;
      no_permissions = refl;
      body = found_body device name node version node.kind is is.body;
    };
    version = version_is;
    few = few;
  }
