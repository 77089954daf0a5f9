-- What a store in memory keeps of its files' ranges stays true, whatever a call does to its nodes.
use Rattle.std.proofs.Common.{◌≡◌, ◌∙◌, ℕ, ℤ, Bool, true, false, cond, List, Option, Some, None, IfSome, refl, sym, ap, subst}
use Rattle.std.specs.Ordering.{nat_cmp}
use Rattle.std.specs.Cmp.{Equal-is}
use Rattle.std.specs.Cmp.Lexicographic.{slice_cmp, nat_list_cmp_total}
use Rattle.std.specs.List.{All}
use Rattle.std.specs.FinMap.{empty, get, get-empty, get-insert, get-remove, insert, remove}
use Rattle.std.proofs.lemmas.List.Elements.{All-weaker}
use Rattle.std.proofs.lemmas.Map.Lookups.{exact_bytes}
use Rattle.bep_map.specs.NameMap.{ByName}
use Rattle.bep_record.specs.declared.block.Block.{Block}
use Rattle.bep_record.specs.declared.node.NodeParts.{NodeParts}
use Rattle.bep_store.specs.Store.{AreNodes, at_time, with_time}
use Rattle.bep_record.specs.Node.{IsNode}
use Rattle.bep_store.specs.Kept.{AreRanges, IsRange, IsStore}
use Rattle.bep_store.proofs.NodeFacts.{nodes_with, nodes_without, same_name}

pub no_ranges : (nodes : ByName NodeParts) → AreRanges nodes empty
no_ranges nodes name blocks is = let none : None ≡ Some blocks = sym (get-empty (slice_cmp nat_cmp) name) ∙ is in absurd (cc)

-- nodes that differ from these at this name alone have the ranges that are left once the name's are let go of
let_go : (nodes new : ByName NodeParts) (kept : ByName (List Block)) (name : List ℕ) → ((other : List ℕ) → same_name other name ≡ false → get new other ≡ get nodes other) →
    AreRanges nodes kept → AreRanges new (remove kept name)
let_go nodes new kept name alike old other blocks is = cases (same_name other name) refl (sym (get-remove nat_list_cmp_total kept name other) ∙ is)
  where
    cases : (b : Bool) → same_name other name ≡ b → cond b None (get kept other) ≡ Some blocks → All (IsRange (get new other)) blocks
    cases true here gone = absurd (cc)
    cases false apart there = subst (λ node. All (IsRange node) blocks) (sym (alike other apart)) (old other blocks there)

pub ranges_let_go : (nodes : ByName NodeParts) (kept : ByName (List Block)) (name : List ℕ) → AreRanges nodes kept → AreRanges nodes (remove kept name)
ranges_let_go nodes kept name = let_go nodes nodes kept name (λ other apart. refl)

pub ranges_with : (nodes : ByName NodeParts) (kept : ByName (List Block)) (name : List ℕ) (node : NodeParts) → AreRanges nodes kept → AreRanges (insert nodes name node) (remove kept name)
ranges_with nodes kept name node = let_go nodes (insert nodes name node) kept name
    (λ other apart. get-insert nat_list_cmp_total nodes name node other ∙ ap (λ b. cond b (Some node) (get nodes other)) apart)

pub ranges_without : (nodes : ByName NodeParts) (kept : ByName (List Block)) (name : List ℕ) → AreRanges nodes kept → AreRanges (remove nodes name) (remove kept name)
ranges_without nodes kept name = let_go nodes (remove nodes name) kept name
    (λ other apart. get-remove nat_list_cmp_total nodes name other ∙ ap (λ b. cond b None (get nodes other)) apart)

same_node : (nodes : ByName NodeParts) (name other : List ℕ) → same_name other name ≡ true → get nodes other ≡ get nodes name
same_node nodes name other same = ap (get nodes) (exact_bytes other name ((Equal-is (slice_cmp nat_cmp other name)).0 same))

-- a time is no part of a range
pub ranges_at_time : (nodes : ByName NodeParts) (kept : ByName (List Block)) (name : List ℕ) (found : Option NodeParts) (seconds : ℤ) (nanoseconds : ℕ) → get nodes name ≡ found →
    AreRanges nodes kept → AreRanges (with_time nodes name found seconds nanoseconds) kept
ranges_at_time nodes kept name None seconds nanoseconds is old other blocks there = old other blocks there
ranges_at_time nodes kept name (Some node) seconds nanoseconds is old other blocks there =
    subst (λ now. All (IsRange now) blocks) (sym (get-insert nat_list_cmp_total nodes name (at_time node seconds nanoseconds) other))
    (cases (same_name other name) refl)
  where
    cases : (b : Bool) → same_name other name ≡ b → All (IsRange (cond b (Some (at_time node seconds nanoseconds)) (get nodes other))) blocks
    cases true here =
        All-weaker (IsRange (Some node)) (IsRange (Some (at_time node seconds nanoseconds))) (λ block h. h) blocks
        (subst (λ now. All (IsRange now) blocks) (same_node nodes name other here ∙ is) (old other blocks there))
    cases false apart = old other blocks there

-- ---- the whole store, once the name's ranges are let go of

pub store_left : (nodes now : ByName NodeParts) (kept left : ByName (List Block)) (name : List ℕ) → now ≡ nodes → left ≡ remove kept name →
    IsStore nodes kept → IsStore now left
store_left nodes now kept left name same gone old = record {
  are_nodes = subst AreNodes (sym same) old.are_nodes;
  are_ranges = subst (AreRanges now) (sym gone) (subst (λ n. AreRanges n (remove kept name)) (sym same) (ranges_let_go nodes kept name old.are_ranges));
}

pub store_with : (nodes now : ByName NodeParts) (kept left : ByName (List Block)) (name : List ℕ) (node : NodeParts) → now ≡ insert nodes name node → left ≡ remove kept name →
    IsNode node → IsStore nodes kept → IsStore now left
store_with nodes now kept left name node given gone is old = record {
  are_nodes = subst AreNodes (sym given) (nodes_with nodes name node is old.are_nodes);
  are_ranges = subst (AreRanges now) (sym gone) (subst (λ n. AreRanges n (remove kept name)) (sym given) (ranges_with nodes kept name node old.are_ranges));
}

pub store_without : (nodes now : ByName NodeParts) (kept left : ByName (List Block)) (name : List ℕ) → now ≡ remove nodes name → left ≡ remove kept name →
    IsStore nodes kept → IsStore now left
store_without nodes now kept left name taken gone old = record {
  are_nodes = subst AreNodes (sym taken) (nodes_without nodes name old.are_nodes);
  are_ranges = subst (AreRanges now) (sym gone) (subst (λ n. AreRanges n (remove kept name)) (sym taken) (ranges_without nodes kept name old.are_ranges));
}

-- ---- one more range

-- what is kept at the name
pub ranges_at : (nodes : ByName NodeParts) (kept : ByName (List Block)) (name : List ℕ) (found : Option (List Block)) → found ≡ get kept name →
    AreRanges nodes kept → IfSome found (All (IsRange (get nodes name)))
ranges_at nodes kept name None is old = tt
ranges_at nodes kept name (Some blocks) is old = old name blocks (sym is)

pub ranges_kept : (nodes : ByName NodeParts) (kept : ByName (List Block)) (name : List ℕ) (blocks : List Block) → All (IsRange (get nodes name)) blocks →
    AreRanges nodes kept → AreRanges nodes (insert kept name blocks)
ranges_kept nodes kept name blocks good old other found is = cases (same_name other name) refl (sym (get-insert nat_list_cmp_total kept name blocks other) ∙ is)
  where
    cases : (b : Bool) → same_name other name ≡ b → cond b (Some blocks) (get kept other) ≡ Some found → All (IsRange (get nodes other)) found
    cases true here given =
        let same : blocks ≡ found = cc in
        subst (λ list. All (IsRange (get nodes other)) list) same (subst (λ node. All (IsRange node) blocks) (sym (same_node nodes name other here)) good)
    cases false apart there = old other found there
