-- What is written is read again: numbers, texts, lists and blocks.
use Rattle.std.proofs.Common.{◌≡◌, ◌≤◌, ℕ, Bool, true, List, [], ◌∷◌, map, length, Some, if◌then◌else◌, refl, ap, sym, ◌∙◌, arith}
use Rattle.std.specs.List.{AllByRecursion}
use Rattle.std.proofs.lemmas.Bool.Decides.{nat_tests}
use Rattle.std.proofs.lemmas.List.{length-map}
use Rattle.std.proofs.lemmas.List.FromFn.{length-map-range_with_len}
use Rattle.hex.specs.Hex.{IsBytes}
use Rattle.hex.proofs.HexLemmas.{decode_of-encode_lower, decode_sized-encode_lower}
use Rattle.serde_json.specs.Data.{string}
use Rattle.bep_record.specs.Block.{block_count, block_size_of, cut_at, CutWhole}
use Rattle.bep_record.specs.Vector.{IsVersion, most_counters}
use Rattle.bep_record.specs.Name.{IsName}
use Rattle.bep_record.specs.Target.{IsTarget}
use Rattle.bep_record.specs.FolderName.{IsFolderName}
use Rattle.bep_record.specs.declared.block.Block.{Block}
use Rattle.bep_record.specs.declared.kind.Kind.{Kind}
use Rattle.bep_record.specs.declared.kind.Kind.TheVariants.{File, Directory, Symlink}
use Rattle.bep_json.specs.declared.version.DocVersion.{DocVersion}
use Rattle.bep_json.specs.Version.{most_file_bytes}
use Rattle.bep_json.specs.Numbers.{is_whole, read_kind}
use Rattle.bep_json.specs.Texts.{is_text, fits_file, read_name, read_target, read_folder_name, read_hash, read_hex_bytes}
use Rattle.bep_json.specs.Lists.{is_list, is_pair, read_pair, read_version}
use Rattle.bep_json.specs.Records.{blocks_from}
use Rattle.bep_json.specs.Says.{Says, then_read, list_says}
use Rattle.bep_json.specs.Written.{whole, number_of, counter_written, version_written, hex_written}
use Rattle.bep_json.proofs.BlockFacts.{place_of, blocks_from-hashes, cut_whole-where_counted}
use Rattle.bep_json.proofs.ListFacts.{version_decides}
use Rattle.bep_json.proofs.TextFacts.{name_decides, target_decides, folder_name_decides}

where_true : {A : Type 0} {b : Bool} (x y : A) → b ≡ true → (if b then x else y) ≡ x
where_true x y e = ap (λ c. if c then x else y) e

-- ---- kinds and texts
pub kind_says : (kind : Kind) → Says is_whole read_kind kind (whole (number_of kind))
kind_says File = (refl, refl)
kind_says Directory = (refl, refl)
kind_says Symlink = (refl, refl)

pub name_says : (name : List ℕ) → IsName name → Says is_text read_name name (string name)
unfolding read_name
name_says name is = (refl, where_true _ _ ((name_decides name).1 is))

pub target_says : (target : List ℕ) → IsTarget target → Says is_text read_target target (string target)
unfolding read_target
target_says target is = (refl, where_true _ _ ((target_decides target).1 is))

pub folder_says : (name : List ℕ) → IsFolderName name → Says is_text read_folder_name name (string name)
unfolding read_folder_name
folder_says name is = (refl, where_true _ _ ((folder_name_decides name).1 is))

pub hash_says : (hash : List ℕ) → length hash ≡ 32 → IsBytes hash → Says is_text read_hash hash (hex_written hash)
unfolding read_hash
hash_says hash sized bytes = (refl, rw (decode_sized-encode_lower hash 32 sized bytes))

pub bytes_say : (version : DocVersion) (bytes : List ℕ) → length bytes ≤ most_file_bytes version → IsBytes bytes → Says is_text (read_hex_bytes version) bytes (hex_written bytes)
unfolding read_hex_bytes
bytes_say version bytes few fit =
    let told : fits_file version bytes ≡ true = grind (arith, nat_tests) in
    (refl, rw (decode_of-encode_lower bytes fit) (where_true _ _ told))

-- ---- lists
pub map_same : {A : Type 0} (xs : List A) → map (λ x. x) xs ≡ xs
map_same [] = refl
map_same (x ∷ xs) = ap (λ ys. x ∷ ys) (map_same xs)

pub counter_says : (counter : ℕ × ℕ) → Says is_pair read_pair counter (counter_written counter)
unfolding is_pair read_pair
counter_says counter = (refl, refl)

counters_say : (counters : List (ℕ × ℕ)) → AllByRecursion (λ c. Says is_pair read_pair c (counter_written c)) counters
counters_say [] = tt
counters_say (counter ∷ more) = (counter_says counter, counters_say more)

pub version_says : (version : List (ℕ × ℕ)) → IsVersion version → length version ≤ most_counters → Says (is_list is_pair) read_version version (version_written version)
unfolding read_version
version_says version is few =
    let all = list_says is_pair read_pair (λ c. c) counter_written version (counters_say version) in
    (all.0, then_read _ (all.1 ∙ ap Some (map_same version)) (where_true _ _ ((version_decides version).1 (is, few))))

-- ---- blocks
same_blocks : (xs ys : List Block) → map place_of xs ≡ map place_of ys → map (λ b. b.hash) xs ≡ map (λ b. b.hash) ys → xs ≡ ys
same_blocks [] [] places hashes = refl
same_blocks [] (y ∷ ys) places hashes = cc
same_blocks (x ∷ xs) [] places hashes = cc
same_blocks (x ∷ xs) (y ∷ ys) places hashes =
    let place : place_of x ≡ place_of y = cc in
    let hash : x.hash ≡ y.hash = cc in
    let more_places : map place_of xs ≡ map place_of ys = cc in
    let more_hashes : map (λ b. b.hash) xs ≡ map (λ b. b.hash) ys = cc in
    let rest = same_blocks xs ys more_places more_hashes in
    let first : x ≡ y = λ i. record { offset = (place i).0; size = (place i).1; hash = hash i } in
    λ i. first i ∷ rest i

-- blocks that cut a file whole are those of their hashes
pub blocks_again : (size : ℕ) (blocks : List Block) → CutWhole (block_size_of size) size blocks → blocks_from size 0 (map (λ b. b.hash) blocks) ≡ blocks
blocks_again size blocks whole =
    let hashes = map (λ (b : Block). b.hash) blocks in
    let counted : length hashes ≡ block_count (block_size_of size) size =
    length-map blocks (λ b. b.hash)
    ∙ sym (length-map blocks place_of)
    ∙ ap length whole
    ∙ length-map-range_with_len (λ k. cut_at (block_size_of size) size k) 0 (block_count (block_size_of size) size) in
    same_blocks (blocks_from size 0 hashes) blocks (cut_whole-where_counted size hashes counted ∙ sym whole) (blocks_from-hashes size 0 hashes)
