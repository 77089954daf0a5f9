-- What is left of a device's store, walked beside the known names.
use Rattle.std.proofs.Common.{◌≡◌, ◌<◌, arith, List, [], ◌∷◌, Option, Some, None, IsTrue, IfSome, Contains, Bor, map, length, refl, sym, subst}
use Rattle.std.specs.Prelude.{⊤}
use Rattle.std.specs.Cmp.Lexicographic.{nat_list_cmp_total}
use Rattle.std.specs.FinMap.{entries}
use Rattle.std.specs.Map.Iter.{TakesFirst, deref_pair}
use Rattle.std.proofs.lemmas.Map.Lookups.{exact_bytes}
use Rattle.bep_facts.specs.Maps.{key_has_value}
use Rattle.bep_facts.specs.Members.{Contains-first, Contains-more}
use Rattle.bep_map.specs.NameMap.{ByName}
use Rattle.bep_record.specs.declared.node.NodeParts.{NodeParts}
use Rattle.bep_model.specs.Tables.{FileName}
use Rattle.bep_tables.specs.declared.share.Share.{Share}
use Rattle.bep_report.specs.Report.{is_stored, count_deleted}
use Rattle.bep_report.specs.inner.Known.{names_lent}
use Rattle.bep_report.specs.inner.Stored.{HoldsStored}

-- ---- definitions

-- some device's store holds the name of each of these entries
abbrev pub AreStored : List Share → List (FileName × NodeParts) → Type 0
AreStored shares [] = ⊤
AreStored shares (one ∷ more) = IsTrue (is_stored shares one.0) × AreStored shares more

-- that of the name of the next entry, if there is one
abbrev pub IsNextStored : List Share → Option (Bor FileName × Bor NodeParts) → Type 0
IsNextStored shares next = IfSome next (λ one. IsTrue (is_stored shares one.0.now))

-- ---- no store

pub all_deleted : (shares : List Share) (names : List (Bor FileName)) → length shares < 1 → count_deleted shares (names_lent names) ≡ length names
all_deleted [] [] none = refl
all_deleted [] (name ∷ more) none = let rest = all_deleted [] more none in omega arith
all_deleted (first ∷ others) names none = absurd (omega arith)

-- ---- what is left of it

names_stored : (shares : List Share) (rest : List (FileName × NodeParts)) → ((name : FileName) → Contains (map (λ e. e.0) rest) name → IsTrue (is_stored shares name)) → AreStored shares rest
names_stored shares [] all = tt
names_stored shares (one ∷ more) all = (
  all one.0 (Contains-first one.0 (map (λ e. e.0) more)),
  names_stored shares more (λ name there. all name (Contains-more one.0 (map (λ e. e.0) more) name there)),
)

pub entries_stored : (shares : List Share) (store : ByName NodeParts) → HoldsStored shares store → AreStored shares (entries store)
entries_stored shares store holds = names_stored shares (entries store) (λ name there. holds name ((key_has_value nat_list_cmp_total exact_bytes store name).0 there))

-- after an entry was taken from it
pub after_next : (shares : List Share) (rest left : List (FileName × NodeParts)) (next : Option (Bor FileName × Bor NodeParts)) → AreStored shares rest → TakesFirst deref_pair rest next left → IsNextStored shares next × AreStored shares left
after_next shares rest left None all took = (tt, subst (AreStored shares) (sym took.1) tt)
after_next shares rest left (Some one) all took = subst (AreStored shares) took all
