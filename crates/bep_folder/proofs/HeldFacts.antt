-- What is held, and what holds of it when a folder begins and when its views and pulls change.
use Rattle.std.proofs.Common.{◌≡◌, ℕ, ◌≤◌, ◌+◌, ◌-◌, List, Bool, true, false, cond, Option, Some, None, arith, ap, sym, ◌∙◌, subst, ⊎_elim, Contains, Result, Ok, Err, OnOk, OnErr}
use Rattle.std.specs.Ordering.{nat_cmp, eq_by_cmp}
use Rattle.std.specs.Cmp.Lexicographic.{slice_cmp, nat_list_cmp_total}
use Rattle.std.specs.Cmp.{nat_cmp_total}
use Rattle.std.specs.FinMap.{nat_cmp-IsAntisymmetric, insert, empty, get, len, remove, contains_key, len-empty, get-remove, len-remove}
use Rattle.std.proofs.lemmas.Map.Lookups.{exact_bytes}
use Rattle.bep_index.specs.Listing.{Listing}
use Rattle.bep_facts.specs.Maps.{nothing_in_empty, found_after_insert, insert-what_is_there, len-insert_le}
use Rattle.bep_record.specs.declared.limits.TheConstants.{MAX_PULLS}
use Rattle.bep_record.specs.declared.folder_kind.FolderKind.{FolderKind}
use Rattle.bep_model.specs.Tables.{Device, Folder, FileName}
use Rattle.bep_machine.specs.Replica.{ByDevice, Pull}
use Rattle.bep_map.specs.NameMap.{ByName}
use Rattle.bep_folder.specs.Pull.{with_bytes}
use Rattle.bep_folder.specs.Received.{AddsTo}
use Rattle.bep_folder.specs.Trace.{TracedStore}
use Rattle.bep_folder.specs.Held.{AreOthers, Held, IsHeld, AreOfOthers}

-- what is held, part by part
abbrev pub held_of : Device → Folder → FolderKind → List Device → Listing → ByDevice Listing → ByName Pull → TracedStore → Held
held_of device folder kind others index views pulls store = record {
  device = device;
  folder = folder;
  tables = record { kind = kind; others = others; index = index; views = views; pulls = pulls; store = store.contents };
  faults = store.faults;
  made = store.made;
  trace = store.trace;
}

-- nothing is known and nothing is pulled
pub IsHeld-begun : (device : Device) (others : List Device) (views : ByDevice Listing) (pulls : ByName Pull) → AreOthers device others → views ≡ empty → pulls ≡ empty → IsHeld device others views pulls
IsHeld-begun device others views pulls sharing no_views no_pulls = record {
  sharing = sharing;
  viewed = λ other view found. nothing_in_empty nat_cmp other view (ap (λ m. get m other) (sym no_views) ∙ found);
  pulled = record {
    named = λ name pull found. nothing_in_empty (slice_cmp nat_cmp) name pull (ap (λ m. get m name) (sym no_pulls) ∙ found);
    few = omega (arith, ap len no_pulls, len-empty (slice_cmp nat_cmp) Pull);
  };
}

-- nothing is pulled any more
pub IsHeld-unpulled : (device : Device) (others : List Device) (views : ByDevice Listing) (before pulls : ByName Pull) → pulls ≡ empty → IsHeld device others views before → IsHeld device others views pulls
IsHeld-unpulled device others views before pulls none held = record {
  sharing = held.sharing;
  viewed = held.viewed;
  pulled = record {
    named = λ name pull found. nothing_in_empty (slice_cmp nat_cmp) name pull (ap (λ m. get m name) (sym none) ∙ found);
    few = omega (arith, ap len none, len-empty (slice_cmp nat_cmp) Pull);
  };
}

-- another view of a device that shares the folder
insert_kept : (others : List Device) (views : ByDevice Listing) (device : Device) (view : Listing) → Contains others device → AreOfOthers others views → AreOfOthers others (insert views device view)
insert_kept others views device view shares of = λ other found held.
    ⊎_elim
    (λ same. subst (Contains others) (sym same.0) shares)
    (λ before. of other found before.1)
    (found_after_insert nat_cmp_total nat_cmp-IsAntisymmetric views device view other found held)

-- a device's view is changed, or nothing is
pub IsHeld-viewed : {A E : Type 0} (result : Result A E) (device : Device) (others : List Device) (views after : ByDevice Listing) (pulls : ByName Pull) (other : Device) (view : Listing) → OnOk result (after ≡ insert views other view) → OnErr result (after ≡ views) → Contains others other → IsHeld device others views pulls → IsHeld device others after pulls
IsHeld-viewed (Ok _) device others views after pulls other view ok err shares held =
    record { sharing = held.sharing; viewed = subst (AreOfOthers others) (sym ok) (insert_kept others views other view shares held.viewed); pulled = held.pulled }
IsHeld-viewed (Err _) device others views after pulls other view ok err shares held =
    record { sharing = held.sharing; viewed = subst (AreOfOthers others) (sym err) held.viewed; pulled = held.pulled }

-- what stands once something is gone stood before
there_before : {V : Type 0} (gone : Bool) (found : Option V) (value : V) → cond gone None found ≡ Some value → found ≡ Some value
there_before true found value none = absurd (cc)
there_before false found value some = some

-- a device's view goes
pub IsHeld-unviewed : (device : Device) (others : List Device) (views after : ByDevice Listing) (pulls : ByName Pull) (other : Device) → after ≡ remove views other → IsHeld device others views pulls → IsHeld device others after pulls
IsHeld-unviewed device others views after pulls other is held = record {
  sharing = held.sharing;
  viewed = λ one view found.
      held.viewed one view
      (there_before (eq_by_cmp nat_cmp one other) (get views one) view (sym (get-remove nat_cmp_total views other one) ∙ ap (λ (m : ByDevice Listing). get m one) (sym is) ∙ found));
  pulled = held.pulled;
}

-- a name that has a value once another one's is gone had it before
get-remove_some : (pulls : ByName Pull) (gone name : FileName) (pull : Pull) → get (remove pulls gone) name ≡ Some pull → get pulls name ≡ Some pull
get-remove_some pulls gone name pull found = there (eq_by_cmp (slice_cmp nat_cmp) name gone) (sym (get-remove nat_list_cmp_total pulls gone name) ∙ found) where
  there : (here : Bool) → cond here None (get pulls name) ≡ Some pull → get pulls name ≡ Some pull
  there true none = absurd (cc)
  there false some = some

-- a pull that goes leaves the others as they are
pub IsHeld-forgotten : (device : Device) (others : List Device) (views : ByDevice Listing) (pulls : ByName Pull) (name : FileName) →
    IsHeld device others views pulls → IsHeld device others views (remove pulls name)
IsHeld-forgotten device others views pulls name held = record {
  sharing = held.sharing;
  viewed = held.viewed;
  pulled = record {
    named = λ other pull found. held.pulled.named other pull (get-remove_some pulls name other pull found);
    few = fewer (contains_key pulls name) (len-remove nat_list_cmp_total pulls name);
  };
} where
  fewer : (here : Bool) → len (remove pulls name) ≡ cond here (len pulls - 1) (len pulls) → len (remove pulls name) ≤ MAX_PULLS
  fewer true is = omega (arith, is, held.pulled.few)
  fewer false is = omega (arith, is, held.pulled.few)

-- a pull of the name takes the place of any other
pub IsHeld-pulled : (device : Device) (others : List Device) (views : ByDevice Listing) (pulls : ByName Pull) (name : FileName) (pull : Pull) →
    pull.target.name ≡ name → (get pulls name ≡ None → len pulls + 1 ≤ MAX_PULLS) →
    IsHeld device others views pulls → IsHeld device others views (insert pulls name pull)
IsHeld-pulled device others views pulls name pull named room held = record {
  sharing = held.sharing;
  viewed = held.viewed;
  pulled = record {
    named = λ other found is.
        ⊎_elim
        (λ here. ap (λ (p : Pull). p.target.name) here.1 ∙ named ∙ sym here.0)
        (λ before. held.pulled.named other found before.1)
        (found_after_insert nat_list_cmp_total exact_bytes pulls name pull other found is);
    few = len-insert_le nat_list_cmp_total pulls name pull MAX_PULLS held.pulled.few room;
  };
}

-- whether there was memory for it or not
pub IsHeld-put : {A E : Type 0} (result : Result A E) (device : Device) (others : List Device) (views : ByDevice Listing) (pulls after : ByName Pull) (name : FileName) (pull : Pull) →
    OnOk result (after ≡ insert pulls name pull) → OnErr result (after ≡ pulls) → pull.target.name ≡ name → (¬ ((get pulls name ≡ None) × (MAX_PULLS ≤ len pulls))) →
    IsHeld device others views pulls → IsHeld device others views after
IsHeld-put (Ok _) device others views pulls after name pull ok err named room held =
    subst (IsHeld device others views) (sym ok)
    (IsHeld-pulled device others views pulls name pull named
    (λ none. let few : ¬ (MAX_PULLS ≤ len pulls) = λ full. room (none, full) in omega (arith, few)) held)
IsHeld-put (Err _) device others views pulls after name pull ok err named room held = subst (IsHeld device others views) (sym err) held

-- a pull that is as it was
pub unchanged_pulls : {A E : Type 0} (result : Result A E) (pulls : ByName Pull) (name : FileName) (pull after : Pull) → get pulls name ≡ Some pull →
    OnErr result (after ≡ pull) → OnErr result (insert pulls name after ≡ pulls)
unchanged_pulls (Ok _) pulls name pull after had err = tt
unchanged_pulls (Err _) pulls name pull after had err =
    ap (insert pulls name) err ∙ insert-what_is_there nat_list_cmp_total exact_bytes pulls name pull had

-- a pull received a block
pub IsHeld-added : {A E : Type 0} (result : Result A E) (device : Device) (others : List Device) (views : ByDevice Listing) (pulls after : ByName Pull) (name : FileName) (place : ℕ) (bytes : List ℕ) →
    OnOk result (AddsTo name place bytes pulls after) → OnErr result (after ≡ pulls) → IsHeld device others views pulls → IsHeld device others views after
IsHeld-added (Ok _) device others views pulls after name place bytes ok err held =
    subst (IsHeld device others views) (sym ok.2)
    (IsHeld-pulled device others views pulls name (with_bytes ok.0 place bytes) (held.pulled.named name ok.0 ok.1)
    (λ none. absurd (let e : None ≡ Some ok.0 = sym none ∙ ok.1 in cc)) held)
IsHeld-added (Err _) device others views pulls after name place bytes ok err held = subst (IsHeld device others views) (sym err) held
