-- What prevails goes on prevailing after every run of orderly peers; such a run is one of free peers; and one version prevails.
use Rattle.std.proofs.Common.{◌⊎◌, [], ◌∷◌, Option, Some, refl, sym, ap, subst, ◌∙◌, inl, inr, ⊎_elim, arith}
use Rattle.bep_record.specs.declared.entry.Entry.{Entry}
use Rattle.bep_model.specs.Tables.{Tables, Device, Folder, FileName}
use Rattle.bep_model.specs.Settled.{content_of_node}
use Rattle.bep_model.specs.Firm.{AreEqual}
use Rattle.bep_converge.specs.Prevails.{IsAnywhere, AllPrevail}
use Rattle.bep_converge.specs.Orderly.{StaysAt, IsOrderlyStep}
use Rattle.bep_converge.specs.Rises.{Supersedes, RisesAt, GoesOnPrevailing}
use Rattle.bep_converge.specs.Laws.{OrderlyRunsAreFree, PrevailingIsUnique, RunsKeepPrevailing}
use Rattle.bep_converge.proofs.VersionFacts.{supersedes_as, supersedes_through}
use Rattle.bep_converge.proofs.StepKept.{goes_on, known_before, shared_after}

pub orderly_runs_are_free_lem : OrderlyRunsAreFree
orderly_runs_are_free_lem old new [] run = run
orderly_runs_are_free_lem old new (next ∷ more) run = (run.0.free, orderly_runs_are_free_lem next new more run.1)

pub prevailing_is_unique_lem : PrevailingIsUnique
prevailing_is_unique_lem t folder name one other first second =
    let here : IsAnywhere t folder name one = (first.top_of.owner, first.top_of.shares, inl first.top_of.owned) in
    let there : IsAnywhere t folder name other = (second.top_of.owner, second.top_of.shares, inl second.top_of.owned) in
    let same : AreEqual one.version other.version = (second.top_of.above_all one here, first.top_of.above_all other there) in
    (same, first.chain.agree one other here there same)

-- ---- one step, and then a run

module _ (old next new : Tables) (all : AllPrevail old) (step : IsOrderlyStep old next) where
  -- what the device rises to at first is what it has in the end
  rises_then_stays : (device : Device) (folder : Folder) (name : FileName) → RisesAt old next device folder name → StaysAt next new device folder name → RisesAt old new device folder name
  rises_then_stays device folder name rise stays = record {
    entry = rise.entry;
    known = rise.known;
    above = rise.above;
    own = rise.own;
    recorded = stays.0 ∙ rise.recorded;
    version = rise.version;
    content = rise.content;
    file = ap content_of_node stays.1 ∙ rise.file;
  }

  -- what it rises to in the end was known at first, and is above what it had
  above_first : (device : Device) (folder : Folder) (name : FileName) (entry : Entry) → StaysAt old next device folder name ⊎ RisesAt old next device folder name →
      Supersedes (next.own device folder name) entry → Supersedes (old.own device folder name) entry
  above_first device folder name entry first above =
      ⊎_elim
      (λ stays. subst (λ (o : Option Entry). Supersedes o entry) stays.0 above)
      (λ rise.
      let there : Supersedes (Some rise.own) entry = subst (λ (o : Option Entry). Supersedes o entry) rise.recorded above in
      let own_is_above : Supersedes (old.own device folder name) rise.own =
      supersedes_as (old.own device folder name) rise.entry rise.own (rise.version.1, rise.version.0) rise.above in
      supersedes_through (old.own device folder name) rise.own entry own_is_above there)
      first

  then_rises : (device : Device) (folder : Folder) (name : FileName) → StaysAt old next device folder name ⊎ RisesAt old next device folder name → RisesAt next new device folder name → RisesAt old new device folder name
  then_rises device folder name first rise =
      let before = known_before old all next step folder name rise.entry rise.known in
      record {
        entry = before.was;
        known = before.known;
        above = supersedes_as (old.own device folder name) rise.entry before.was before.version (above_first device folder name rise.entry first rise.above);
        own = rise.own;
        recorded = rise.recorded;
        version = (
          λ id. let a = rise.version.0 id in let b = before.version.0 id in omega arith,
          λ id. let a = rise.version.1 id in let b = before.version.1 id in omega arith,
        );
        content = rise.content ∙ before.content;
        file = rise.file ∙ before.content;
      }

  goes_on_through : GoesOnPrevailing old next → GoesOnPrevailing next new → GoesOnPrevailing old new
  goes_on_through first rest = record {
    all = rest.all;
    same = λ folder name top prevails. rest.same folder name top (first.same folder name top prevails);
    rise = λ device folder name shares.
        let one = first.rise device folder name shares in
        ⊎_elim
        (λ stays.
        ⊎_elim
        (λ stayed. inl (stays.0 ∙ stayed.0, stays.1 ∙ stayed.1))
        (λ rise. inr (rises_then_stays device folder name rise stays))
        one)
        (λ rise. inr (then_rises device folder name one rise))
        (rest.rise device folder name (shared_after old all next step device folder shares));
    names = λ folder name known. first.names folder name (rest.names folder name known);
  }

-- ---- every run

nothing_happens : (t : Tables) → AllPrevail t → GoesOnPrevailing t t
nothing_happens t all = record {
  all = all;
  same = λ folder name top prevails. prevails;
  rise = λ device folder name shares. inl (refl, refl);
  names = λ folder name known. known;
}

pub runs_keep_prevailing_lem : RunsKeepPrevailing
runs_keep_prevailing_lem old new [] all run = subst (λ (t : Tables). GoesOnPrevailing old t) (sym run) (nothing_happens old all)
runs_keep_prevailing_lem old new (next ∷ more) all run =
    let first = goes_on old all next run.0 in
    goes_on_through old next new all run.0 first (runs_keep_prevailing_lem next new more first.all run.1)
