-- In a run of orderly peers a device takes over no more records of a name than were known above its own one.
use Rattle.std.proofs.Common.{◌≡◌, ◌⊎◌, ◌∙◌, ◌+◌, ℕ, List, [], ◌∷◌, length, Contains, Option, Some, refl, sym, ap, subst, inl, inr, ⊎_elim, arith}
use Rattle.bep_facts.specs.Members.{not_in_none, Contains-first, Contains-more, Contains-cons_cases}
use Rattle.bep_record.specs.declared.entry.Entry.{Entry}
use Rattle.bep_model.specs.Tables.{Tables, Device, Folder, FileName, Shares}
use Rattle.bep_model.specs.Firm.{AreEqual}
use Rattle.bep_converge.specs.Prevails.{AllPrevail}
use Rattle.bep_converge.specs.Orderly.{StaysAt, IsOrderlyStep}
use Rattle.bep_converge.specs.Rises.{Supersedes, RisesAt}
use Rattle.bep_converge.specs.Bound.{HasAllAbove}
use Rattle.bep_converge.specs.Laws.{TakesAreBounded, TakesAreCounted}
use Rattle.bep_converge.proofs.VersionFacts.{equal_through, supersedes_as, supersedes_through}
use Rattle.bep_converge.proofs.StepKept.{goes_on, known_before, rises, shared_after, stays_or_takes}

-- a list without one of its members
record IsWithout (all rest : List Entry) (one : Entry) : Type 0 where
  fewer : length all ≡ length rest + 1
  others : (other : Entry) → Contains all other → (other ≡ one) ⊎ Contains rest other

without_one : (all : List Entry) (one : Entry) → Contains all one → (rest : List Entry) × IsWithout all rest one
without_one [] one member = absurd (not_in_none one member)
without_one (first ∷ more) one member =
    ⊎_elim
    (λ same. (
      more,
      record {
        fewer = omega arith;
        others = λ other there. ⊎_elim (λ is. inl (sym is ∙ same)) (λ later. inr later) (Contains-cons_cases first more other there);
      },
    ))
    (λ later. add (without_one more one later))
    (Contains-cons_cases first more one member)
  where
    add : (rest : List Entry) × IsWithout more rest one → (rest : List Entry) × IsWithout (first ∷ more) rest one
    add found = (
      first ∷ found.0,
      record {
        fewer = let f = found.1.fewer in omega arith;
        others = λ other there.
            ⊎_elim
            (λ is. inr (subst (λ (e : Entry). Contains (first ∷ found.0) e) is (Contains-first first found.0)))
            (λ later. ⊎_elim (λ same. inl same) (λ kept. inr (Contains-more first found.0 other kept)) (found.1.others other later))
            (Contains-cons_cases first more other there);
      },
    )

module _ (old next : Tables) (all : AllPrevail old) (step : IsOrderlyStep old next) (device : Device) (folder : Folder) (name : FileName) (shares : Shares old device folder) where
  -- where the device stays, the same list has all
  above_staying : (above : List Entry) → StaysAt old next device folder name → HasAllAbove old device folder name above → HasAllAbove next device folder name above
  above_staying above stays has entry anywhere supersedes =
      let before = known_before old all next step folder name entry anywhere in
      let there = supersedes_as (old.own device folder name) entry before.was before.version (subst (λ (o : Option Entry). Supersedes o entry) stays.0 supersedes) in
      let found = has before.was before.known there in
      (found.0, found.1, equal_through entry.version before.was.version found.0.version before.version found.2)

  -- where it takes a record over, a list that is shorter has all
  above_rising : (above rest : List Entry) (one : Entry) (rise : RisesAt old next device folder name) → AreEqual rise.entry.version one.version → IsWithout above rest one →
      HasAllAbove old device folder name above → HasAllAbove next device folder name rest
  above_rising above rest one rise is without has entry anywhere supersedes =
      let before = known_before old all next step folder name entry anywhere in
      let here : Supersedes (Some rise.own) entry = subst (λ (o : Option Entry). Supersedes o entry) rise.recorded supersedes in
      let own_above : Supersedes (old.own device folder name) rise.own = supersedes_as (old.own device folder name) rise.entry rise.own (rise.version.1, rise.version.0) rise.above in
      let there = supersedes_as (old.own device folder name) entry before.was before.version (supersedes_through (old.own device folder name) rise.own entry own_above here) in
      let found = has before.was before.known there in
      let equal = equal_through entry.version before.was.version found.0.version before.version found.2 in
      ⊎_elim
      (λ same.
      let version = ap (λ (e : Entry). e.version) same in
      let at_one : AreEqual entry.version one.version = subst (λ (v : List (ℕ × ℕ)). AreEqual entry.version v) version equal in
      absurd (here.1 (λ id. let a = at_one.0 id in let b = is.1 id in let c = rise.version.1 id in omega arith)))
      (λ kept. (found.0, kept, equal))
      (without.others found.0 found.1)

pub takes_are_bounded_lem : TakesAreBounded
takes_are_bounded_lem old new [] device folder name above times all run shares has takes = omega arith
takes_are_bounded_lem old new (next ∷ more) device folder name above times all run shares has takes =
    let goes = goes_on old all next run.0 in
    let there = shared_after old all next run.0 device folder shares in
    ⊎_elim
    (λ stays.
    takes_are_bounded_lem next new more device folder name above times goes.all run.1 there
    (above_staying old next all run.0 device folder name shares above stays.0 has) stays.1)
    (λ taken.
    let rise = rises old all next run.0 device folder name shares taken.0 in
    let found = has rise.entry rise.known rise.above in
    let rest = without_one above found.0 found.1 in
    let fewer = takes_are_bounded_lem next new more device folder name rest.0 taken.1.0 goes.all run.1 there
    (above_rising old next all run.0 device folder name shares above rest.0 found.0 rise found.2 rest.1 has) taken.1.2 in
    let length_of = rest.1.fewer in
    let times_of = taken.1.1 in
    omega arith)
    takes

pub takes_are_counted_lem : TakesAreCounted
takes_are_counted_lem old new [] device folder name all run shares = (0, refl)
takes_are_counted_lem old new (next ∷ more) device folder name all run shares =
    let goes = goes_on old all next run.0 in
    let rest = takes_are_counted_lem next new more device folder name goes.all run.1 (shared_after old all next run.0 device folder shares) in
    ⊎_elim
    (λ stays. (rest.0, inl (stays, rest.1)))
    (λ takes. (rest.0 + 1, inr (takes, (rest.0, refl, rest.1))))
    (stays_or_takes old all next run.0 device folder name shares)
