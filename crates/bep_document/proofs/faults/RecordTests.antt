-- The tests of records and nodes tell what bep_record's definitions say.
use Rattle.std.proofs.Common.{◌≡◌, ◌≤◌, ℕ, ◌||◌, not, nat_eq, Bool, true, false, List, [], ◌∷◌, Decides, length, leb, map, refl, ap, ◌∙◌, arith}
use Rattle.std.specs.Cmp.Lexicographic.{pointwise, bytes_decides}
use Rattle.std.proofs.lemmas.Bool.Decides.{Decides-and, Decides-not, Decides-eqb, nat_tests}
use Rattle.bep_record.specs.Block.{block_size_of, cuts_of}
use Rattle.bep_record.specs.Entry.{HasNoBlocks, HasBlocks, HasBody, IsWellFormed}
use Rattle.bep_record.specs.Node.{FitsKind, IsNode}
use Rattle.bep_record.specs.declared.entry.Entry.{Entry}
use Rattle.bep_record.specs.declared.kind.Kind.{Kind}
use Rattle.bep_record.specs.declared.kind.Kind.TheVariants.{File, Directory, Symlink}
use Rattle.bep_record.specs.declared.limits.TheConstants.{HASH_OF_NOTHING, MAX_FILE_SIZE, MAX_NANOSECONDS}
use Rattle.bep_record.specs.declared.node.NodeParts.{NodeParts}
use Rattle.bep_document.specs.faults.Records.{is_empty, pair_eq, has_no_blocks, has_blocks, has_body, is_well_formed, fits_kind, is_node}

leb_decides : (a b : ℕ) → Decides (leb a b) (a ≤ b)
leb_decides a b = (λ e. grind (arith, nat_tests), λ h. grind (arith, nat_tests))

pub empty_decides : {A : Type 0} (xs : List A) → Decides (is_empty xs) (xs ≡ [])
empty_decides [] = (λ _. refl, λ _. refl)
empty_decides (x ∷ xs) = (λ e. absurd (grind (arith, nat_tests)), λ h. cc)

implies_decides : {P Q : Type 0} (b c : Bool) → Decides b P → Decides c Q → Decides (not b || c) (P → Q)
implies_decides true c p q = (λ e _. q.0 e, λ h. q.1 (h (p.0 refl)))
implies_decides false c p q = (λ _ h. absurd (different (p.1 h)), λ _. refl) where
  different : false ≡ true → ⊥
  different e = cc

pub pairs_decide : (p q : ℕ × ℕ) → Decides (pair_eq p q) (p ≡ q)
pairs_decide p q =
    let parts = Decides-and _ _ (Decides-eqb p.0 q.0) (Decides-eqb p.1 q.1) in (
      λ e. let both = parts.0 e in ap (λ (a : ℕ). (a, p.1)) both.0 ∙ ap (λ (b : ℕ). (q.0, b)) both.1,
      λ h. parts.1 (ap (λ (r : ℕ × ℕ). r.0) h, ap (λ (r : ℕ × ℕ). r.1) h),
    )

-- lists are equal where each pair of elements is, as a test tells it
lists_decide : {A : Type 0} (same : A → A → Bool) → ((x y : A) → Decides (same x y) (x ≡ y)) → (xs ys : List A) → Decides (pointwise same xs ys) (xs ≡ ys)
lists_decide same each [] [] = (λ _. refl, λ _. refl)
lists_decide same each [] (y ∷ ys) = (λ e. cc, λ h. cc)
lists_decide same each (x ∷ xs) [] = (λ e. cc, λ h. cc)
lists_decide same each (x ∷ xs) (y ∷ ys) =
    let parts = Decides-and _ _ (each x y) (lists_decide same each xs ys) in (
      λ e. let both = parts.0 e in let head : x ≡ y = both.0 in let tail : xs ≡ ys = both.1 in cc,
      λ h. let head : x ≡ y = cc in let tail : xs ≡ ys = cc in parts.1 (head, tail),
    )

fits_decides : (kind : Kind) (node : NodeParts) → Decides (fits_kind kind node) (FitsKind kind node)
fits_decides File node = empty_decides node.target
fits_decides Directory node = Decides-and _ _ (empty_decides node.bytes) (empty_decides node.target)
fits_decides Symlink node = Decides-and _ _ (empty_decides node.bytes) (Decides-not _ (empty_decides node.target))

pub node_decides : (node : NodeParts) → Decides (is_node node) (IsNode node)
unfolding is_node
node_decides node =
    let parts = Decides-and _ _ (leb_decides (length node.bytes) MAX_FILE_SIZE) (Decides-and _ _ (leb_decides node.modified_ns MAX_NANOSECONDS) (fits_decides node.kind node)) in
    (λ e. let all = parts.0 e in record { size = all.0; nanoseconds = all.1.0; body = all.1.1 }, λ h. parts.1 (h.size, (h.nanoseconds, h.body)))

no_blocks_decide : (entry : Entry) → Decides (has_no_blocks entry) (HasNoBlocks entry)
no_blocks_decide entry =
    let parts = Decides-and _ _ (Decides-eqb entry.size 0) (Decides-and _ _ (Decides-eqb entry.block_size 0) (empty_decides entry.blocks)) in
    (λ e. let all = parts.0 e in record { size = all.0; block_size = all.1.0; blocks = all.1.1 }, λ h. parts.1 (h.size, (h.block_size, h.blocks)))

blocks_decide : (entry : Entry) → Decides (has_blocks entry) (HasBlocks entry)
blocks_decide entry =
    let cut = lists_decide pair_eq pairs_decide (map (λ b. (b.offset, b.size)) entry.blocks) (cuts_of (block_size_of entry.size) entry.size) in
    let hash = lists_decide (pointwise nat_eq) bytes_decides (map (λ b. b.hash) entry.blocks) (HASH_OF_NOTHING ∷ []) in
    let parts = Decides-and _ _ (leb_decides entry.size MAX_FILE_SIZE) (Decides-and _ _ (Decides-eqb entry.block_size (block_size_of entry.size)) (Decides-and _ _ cut (implies_decides _ _ (Decides-eqb entry.size 0) hash))) in (
      λ e. let all = parts.0 e in record { size = all.0; block_size = all.1.0; blocks = all.1.1.0; empty = all.1.1.1 },
      λ h. parts.1 (h.size, (h.block_size, (h.blocks, h.empty))),
    )

body_decides : (deleted : Bool) (kind : Kind) (entry : Entry) → Decides (has_body deleted kind entry) (HasBody deleted kind entry)
body_decides true kind entry = Decides-and _ _ (no_blocks_decide entry) (empty_decides entry.target)
body_decides false File entry = Decides-and _ _ (blocks_decide entry) (empty_decides entry.target)
body_decides false Directory entry = Decides-and _ _ (no_blocks_decide entry) (empty_decides entry.target)
body_decides false Symlink entry = Decides-and _ _ (no_blocks_decide entry) (Decides-not _ (empty_decides entry.target))

pub well_formed_decides : (entry : Entry) → Decides (is_well_formed entry) (IsWellFormed entry)
unfolding is_well_formed
well_formed_decides entry =
    let parts = Decides-and _ _ (leb_decides entry.modified_ns MAX_NANOSECONDS) (Decides-and _ _ (λ e. e, λ h. h) (body_decides entry.deleted entry.kind entry)) in
    (λ e. let all = parts.0 e in record { nanoseconds = all.0; no_permissions = all.1.0; body = all.1.1 }, λ h. parts.1 (h.nanoseconds, (h.no_permissions, h.body)))
