-- What a store holds stays nodes, whatever a call does to it.
use Rattle.std.proofs.Common.{◌≡◌, ◌≤◌, ◌∙◌, ℕ, ℤ, Bool, true, false, cond, List, Option, Some, None, sym, subst}
use Rattle.std.specs.Ordering.{nat_cmp, eq_by_cmp}
use Rattle.std.specs.Cmp.Lexicographic.{slice_cmp, nat_list_cmp_total}
use Rattle.std.specs.FinMap.{empty, get, get-empty, get-insert, get-remove, insert, remove}
use Rattle.bep_map.specs.NameMap.{ByName}
use Rattle.bep_record.specs.declared.kind.Kind.{Kind}
use Rattle.bep_record.specs.declared.kind.Kind.TheVariants.{File, Directory, Symlink}
use Rattle.bep_record.specs.declared.node.NodeParts.{NodeParts}
use Rattle.bep_record.specs.declared.limits.TheConstants.{MAX_NANOSECONDS}
use Rattle.bep_record.specs.Node.{FitsKind, IsNode}
use Rattle.bep_store.specs.Store.{AreNodes, at_time, with_time}

abbrev pub same_name : List ℕ → List ℕ → Bool
same_name = eq_by_cmp (slice_cmp nat_cmp)

pub no_nodes : AreNodes empty
no_nodes name node is = let none : None ≡ Some node = sym (get-empty (slice_cmp nat_cmp) name) ∙ is in absurd (cc)

pub nodes_with : (nodes : ByName NodeParts) (name : List ℕ) (node : NodeParts) → IsNode node → AreNodes nodes → AreNodes (insert nodes name node)
nodes_with nodes name node good old other found is = cases (same_name other name) (sym (get-insert nat_list_cmp_total nodes name node other) ∙ is)
  where
    cases : (b : Bool) → cond b (Some node) (get nodes other) ≡ Some found → IsNode found
    cases true here = let same : node ≡ found = cc in subst IsNode same good
    cases false apart = old other found apart

pub nodes_without : (nodes : ByName NodeParts) (name : List ℕ) → AreNodes nodes → AreNodes (remove nodes name)
nodes_without nodes name old other found is = cases (same_name other name) (sym (get-remove nat_list_cmp_total nodes name other) ∙ is)
  where
    cases : (b : Bool) → cond b None (get nodes other) ≡ Some found → IsNode found
    cases true gone = absurd (cc)
    cases false apart = old other found apart

fits_still : (kind : Kind) (node : NodeParts) (seconds : ℤ) (nanoseconds : ℕ) → FitsKind kind node → FitsKind kind (at_time node seconds nanoseconds)
fits_still File node seconds nanoseconds fits = fits
fits_still Directory node seconds nanoseconds fits = fits
fits_still Symlink node seconds nanoseconds fits = fits

node_at_time : (node : NodeParts) (seconds : ℤ) (nanoseconds : ℕ) → nanoseconds ≤ MAX_NANOSECONDS → IsNode node → IsNode (at_time node seconds nanoseconds)
node_at_time node seconds nanoseconds few is = record {
  size = is.size;
  nanoseconds = few;
  body = fits_still node.kind node seconds nanoseconds is.body;
}

pub nodes_at_time : (nodes : ByName NodeParts) (name : List ℕ) (found : Option NodeParts) (seconds : ℤ) (nanoseconds : ℕ) → get nodes name ≡ found →
    nanoseconds ≤ MAX_NANOSECONDS → AreNodes nodes → AreNodes (with_time nodes name found seconds nanoseconds)
nodes_at_time nodes name None seconds nanoseconds is few old = old
nodes_at_time nodes name (Some node) seconds nanoseconds is few old =
    nodes_with nodes name (at_time node seconds nanoseconds) (node_at_time node seconds nanoseconds few (old name node is)) old
