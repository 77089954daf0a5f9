-- What holds of each view and of each pull holds of one that is found.
use Rattle.std.proofs.Common.{◌≡◌, ◌≤◌, Some}
use Rattle.std.specs.Cmp.{nat_cmp_total}
use Rattle.std.specs.Cmp.Lexicographic.{nat_list_cmp_total}
use Rattle.std.specs.FinMap.{nat_cmp-IsAntisymmetric, entries, get, values}
use Rattle.std.specs.List.{AllByRecursion}
use Rattle.std.proofs.lemmas.Map.Lookups.{exact_bytes}
use Rattle.bep_facts.specs.Entries.{entry_stands}
use Rattle.bep_facts.specs.Members.{Contains-image, holds_of_member}
use Rattle.bep_index.specs.Good.{AreGood}
use Rattle.bep_index.specs.Index.{IsIndex}
use Rattle.bep_index.specs.Listing.{Listing}
use Rattle.bep_machine.specs.Replica.{ByDevice, Pull, Replica}
use Rattle.bep_machine.specs.Sound.{IsSoundReplica}
use Rattle.bep_map.specs.NameMap.{ByName}
use Rattle.bep_model.specs.Tables.{Device, FileName}
use Rattle.bep_store.specs.Store.{AreNodes}
use Rattle.bep_folder.specs.Held.{IsHeld}
use Rattle.bep_folder.specs.inner.Sound.{IsGoodPull, IsGoodView}

view_found : (views : ByDevice Listing) → AllByRecursion IsGoodView (values views) → (other : Device) (view : Listing) → get views other ≡ Some view → IsGoodView view
view_found views all other view is =
    holds_of_member IsGoodView (values views) view all
    (Contains-image (λ (one : Device × Listing). one.1) (entries views) (other, view) ((entry_stands nat_cmp_total nat_cmp-IsAntisymmetric views other view).0 is))

pull_found : (pulls : ByName Pull) → AllByRecursion IsGoodPull (values pulls) → (name : FileName) (pull : Pull) → get pulls name ≡ Some pull → IsGoodPull pull
pull_found pulls all name pull is =
    holds_of_member IsGoodPull (values pulls) pull all
    (Contains-image (λ (one : FileName × Pull). one.1) (entries pulls) (name, pull) ((entry_stands nat_list_cmp_total exact_bytes pulls name pull).0 is))

-- so the tables are sound
pub sound_tables : (device : Device) (tables : Replica) → IsHeld device tables.others tables.views tables.pulls →
    IsIndex tables.index → 1 ≤ tables.index.id → AreGood tables.index.records →
    AllByRecursion IsGoodView (values tables.views) → AllByRecursion IsGoodPull (values tables.pulls) → AreNodes tables.store →
    IsSoundReplica device tables
sound_tables device tables held index id own views pulls nodes = record {
  index = index;
  id = id;
  own = own;
  views = λ other view is.
      let good = view_found tables.views views other view is in
      record { shares = held.viewed other view is; view_of_index = good.0; good = good.1 };
  pulls = λ name pull is.
      let good = pull_found tables.pulls pulls name pull is in
      record { named = held.pulled.named name pull is; valid = good.0.valid; good = good.1; received = good.0.received };
  few_pulls = held.pulled.few;
  store = nodes;
}
