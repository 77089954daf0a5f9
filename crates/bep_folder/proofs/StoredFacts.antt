-- A store that already holds at a name what it is to hold, and what a call of it may be made for.
use Rattle.std.proofs.Common.{◌≡◌, Bool, true, false, cond, Option, Some, None, Result, Ok, Err, refl, sym, ap, ◌∙◌}
use Rattle.std.specs.Prelude.{⊤, IsSome}
use Rattle.std.specs.Ordering.{nat_cmp, eq_by_cmp}
use Rattle.std.specs.Cmp.{Equal-is}
use Rattle.std.specs.Cmp.Lexicographic.{slice_cmp, nat_list_cmp_total}
use Rattle.std.specs.FinMap.{get, remove, get-insert, get-remove, same_map}
use Rattle.std.proofs.lemmas.Map.Lookups.{exact_bytes}
use Rattle.bep_facts.specs.Maps.{insert-what_is_there}
use Rattle.bep_map.specs.NameMap.{ByName}
use Rattle.bep_record.specs.declared.node.NodeParts.{NodeParts}
use Rattle.bep_model.specs.Tables.{FileName}
use Rattle.bep_folder.specs.declared.error.FolderError.{FolderError}
use Rattle.bep_folder.specs.declared.error.FolderError.TheVariants as errors
use Rattle.bep_folder.specs.Trace.{TracedStore}
use Rattle.bep_folder.specs.inner.Ending.{stored, Stores}

remove-absent : (m : ByName NodeParts) (n : FileName) → get m n ≡ None → remove m n ≡ m
remove-absent m n absent = same_map nat_list_cmp_total exact_bytes _ _ (λ q. get-remove nat_list_cmp_total m n q ∙ there q (eq_by_cmp (slice_cmp nat_cmp) q n) refl) where
  there : (q : FileName) (b : Bool) → eq_by_cmp (slice_cmp nat_cmp) q n ≡ b → cond b None (get m q) ≡ get m q
  there q true same = sym absent ∙ ap (get m) (sym (exact_bytes q n ((Equal-is _).0 same)))
  there q false same = refl

pub stored-held : (contents : ByName NodeParts) (name : FileName) (node : Option NodeParts) →
    get contents name ≡ node → stored contents name node ≡ contents
stored-held contents name None held = remove-absent contents name held
stored-held contents name (Some node) held = insert-what_is_there nat_list_cmp_total exact_bytes contents name node held

-- a name keeps its node where another one gets a copy of it
pub kept-beside : (contents : ByName NodeParts) (copy name : FileName) (node : Option NodeParts) →
    IsSome node → get contents name ≡ node → get (stored contents copy node) name ≡ node
kept-beside contents copy name (Some node) some held =
    get-insert nat_list_cmp_total contents copy node name ∙ either (eq_by_cmp (slice_cmp nat_cmp) name copy) where
      either : (here : Bool) → cond here (Some node) (get contents name) ≡ Some node
      either true = refl
      either false = held
kept-beside contents copy name None some held = absurd (cc)

-- a call that is made for one reason is made for another that follows
pub Stores-for : {called other : Type 0} (name : FileName) (after : Option NodeParts) (old new : TracedStore) (result : Result ⊤ FolderError) →
    (called → other) → Stores name after called old new result → Stores name after other old new result
Stores-for name after old new (Ok _) so stores = stores
Stores-for name after old new (Err errors.StoreFault) so stores = (so stores.0, stores.1, stores.2, stores.3)
Stores-for name after old new (Err errors.Memory) so stores = stores
Stores-for name after old new (Err errors.CounterFull) so stores = stores
Stores-for name after old new (Err errors.TooManyCounters) so stores = stores
Stores-for name after old new (Err errors.NameBad) so stores = stores
Stores-for name after old new (Err errors.SequenceFull) so stores = stores
Stores-for name after old new (Err errors.IndexFull) so stores = stores
Stores-for name after old new (Err errors.BatchOld) so stores = stores
Stores-for name after old new (Err errors.Unscanned) so stores = stores
Stores-for name after old new (Err errors.NotNeeded) so stores = stores
Stores-for name after old new (Err errors.BlocksMissing) so stores = stores
Stores-for name after old new (Err errors.HashBad) so stores = stores
Stores-for name after old new (Err errors.CopyExists) so stores = stores
Stores-for name after old new (Err errors.PullsFull) so stores = stores
Stores-for name after old new (Err errors.KindForbids) so stores = stores
Stores-for name after old new (Err errors.Stale) so stores = stores
Stores-for name after old new (Err errors.NotShared) so stores = stores
Stores-for name after old new (Err errors.NothingToDo) so stores = stores
