-- A view of another device's index that becomes another sound view.
use Rattle.std.proofs.Common.{◌≡◌, ◌==◌, ℕ, true, List, Option, Some, None, Contains, IsTrue, unwrap_or, refl, sym, subst, ◌∙◌, ⊎_elim, eqb-true}
use Rattle.std.specs.List.{list_any}
use Rattle.std.specs.Ordering.{nat_cmp}
use Rattle.std.specs.Cmp.{nat_cmp_total}
use Rattle.std.specs.Cmp.Lexicographic.{slice_cmp}
use Rattle.std.specs.FinMap.{nat_cmp-IsAntisymmetric, empty, get}
use Rattle.std.proofs.lemmas.Option.{same_Some}
use Rattle.bep_facts.specs.Maps.{found_after_insert, nothing_in_empty}
use Rattle.bep_map.specs.NameMap.{ByName}
use Rattle.bep_record.specs.declared.entry.Entry.{Entry}
use Rattle.bep_index.specs.Listing.{Listing}
use Rattle.bep_index.specs.View.{IsView, cleared}
use Rattle.bep_index.specs.Batch.{with_all}
use Rattle.bep_index.specs.Laws.{FoundIsOfBatchOrBefore, ClearedIsView}
use Rattle.bep_model.specs.Tables.{Device, Folder}
use Rattle.bep_machine.specs.Replica.{Replica, view_of, with_view}
use Rattle.bep_machine.specs.Peer.{Peer, is_shared_with}
use Rattle.bep_machine.specs.Exchange.{SharesWith}
use Rattle.bep_index.specs.Good.{AreGood, AllGood}
use Rattle.bep_machine.specs.Sound.{IsSoundView, IsSoundReplica}
use Rattle.bep_machine.proofs.SoundParts.{SoundChange}
use Rattle.bep_machine.proofs.LinkSteps.{member_from_any}

-- ---- who shares the folder

pub is_among_others : (other : Device) (others : List Device) → list_any (λ one. one == other) others ≡ true → Contains others other
is_among_others other others is =
    let found = member_from_any (λ one. one == other) others is in
    subst (λ (one : Device). Contains others one) (eqb-true found.0 other found.2) found.1

pub is_other_of : (other : Device) (peer : Peer) (folder : Folder) (replica : Replica) → SharesWith other peer folder → get peer.replicas folder ≡ Some replica → Contains replica.others other
is_other_of other peer folder replica shares is =
    is_among_others other replica.others (subst (λ (r : Replica). IsTrue (is_shared_with other r)) (same_Some shares.0 replica (sym shares.1 ∙ is)) shares.2)

-- ---- records of views

pub none_is_good : (id : ℕ) → AreGood (cleared id).records
none_is_good id name entry is = nothing_in_empty (slice_cmp nat_cmp) name entry is

pub all_are_good : FoundIsOfBatchOrBefore → (records : ByName Entry) (batch : List Entry) → AreGood records → AllGood batch → AreGood (with_all records batch)
all_are_good law records batch old new name entry is =
    ⊎_elim (λ among. new entry among.0) (λ before. old name entry before.1) (law records batch name entry is)

pub only_these_are_good : FoundIsOfBatchOrBefore → (batch : List Entry) → AllGood batch → AreGood (with_all empty batch)
only_these_are_good law batch new = all_are_good law empty batch (λ name entry is. nothing_in_empty (slice_cmp nat_cmp) name entry is) new

-- ---- the view that a replica has, and another one in its place

pub view_is_sound : ClearedIsView → (device other : Device) (replica : Replica) → IsSoundReplica device replica → IsView (view_of replica other) × AreGood (view_of replica other).records
view_is_sound cleared_is_view device other replica sound = cases (get replica.views other) refl
  where
    cases : (view : Option Listing) → get replica.views other ≡ view → IsView (unwrap_or view (cleared 0)) × AreGood (unwrap_or view (cleared 0)).records
    cases None is = (cleared_is_view 0, none_is_good 0)
    cases (Some view) is = let one = sound.views other view is in (one.view_of_index, one.good)

pub with_view_changes : (device other : Device) (replica : Replica) (view : Listing) → IsSoundReplica device replica → Contains replica.others other → IsView view → AreGood view.records → SoundChange device replica (with_view replica other view)
with_view_changes device other replica view sound shares is good = record {
  sound = record {
    index = sound.index;
    id = sound.id;
    own = sound.own;
    views = λ who one found.
        ⊎_elim
        (λ here. subst (λ (w : Device). IsSoundView replica.others w one) (sym here.0) (subst (λ (v : Listing). IsSoundView replica.others other v) (sym here.1) (record { shares = shares; view_of_index = is; good = good })))
        (λ apart. sound.views who one apart.1)
        (found_after_insert nat_cmp_total nat_cmp-IsAntisymmetric replica.views other view who one found);
    pulls = sound.pulls;
    few_pulls = sound.few_pulls;
    store = sound.store;
  };
  kind = refl;
  others = refl;
}
