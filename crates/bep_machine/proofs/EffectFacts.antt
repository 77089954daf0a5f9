-- What a replica that holds has in its records, for the steps that make new ones.
use Rattle.std.proofs.Common.{◌≡◌, ◌≤◌, ℕ, List, [], ◌∷◌, Option, Some, None, refl, inr, ⊎_elim, arith}
use Rattle.std.proofs.lemmas.Bool.{cases_eq, cond-true, cond-false, eq-eqb, ne_eqb}
use Rattle.bep_record.specs.declared.entry.Entry.{Entry}
use Rattle.bep_record.specs.Vector.{counter_of, greatest_counter, RisesAbove, IsVersion}
use Rattle.bep_model.specs.Tables.{Device, FileName}
use Rattle.bep_machine.specs.Answer.{Done}
use Rattle.bep_machine.specs.declared.moved.Moved.TheVariants.{Changed}
use Rattle.bep_machine.specs.Replica.{Replica, own_at, version_of, with_record}
use Rattle.bep_machine.specs.Local.{Fails, PutRow}
use Rattle.bep_machine.specs.Effects.{HasRoom}
use Rattle.bep_index.specs.Good.{IsGood}
use Rattle.bep_machine.specs.Sound.{IsSoundReplica}

-- no store call failed
pub none_fails : (call : ℕ) → ¬ Fails call None
none_fails call e = cc

-- the record is put, where there is room
pub put_row : (name : FileName) (IsNew : Entry → Type 0) (old : Replica) (entry : Entry) → HasRoom old.index name → IsNew entry → PutRow name IsNew old (with_record old entry) (Done Changed)
put_row name IsNew old entry room is_new = inr (room.numbers, inr (room.names, (entry, is_new, (refl, refl))))

-- ---- versions

counter_up_to : (v : List (ℕ × ℕ)) (low id : ℕ) → RisesAbove low v → counter_of v id ≤ greatest_counter
counter_up_to [] low id rises = omega arith
counter_up_to (counter ∷ more) low id rises =
    ⊎_elim
    (λ same. let here = cond-true _ counter.1 (counter_of more id) (eq-eqb counter.0 id same) in let bound = rises.2 in omega (arith, here, bound))
    (λ differs. let later = cond-false _ counter.1 (counter_of more id) (ne_eqb counter.0 id differs) in let bound = counter_up_to more counter.0 id rises.3 in omega (arith, later, bound))
    (cases_eq counter.0 id)

pub counter_is_bounded : (v : List (ℕ × ℕ)) (id : ℕ) → IsVersion v → counter_of v id ≤ greatest_counter
counter_is_bounded v id version = counter_up_to v 0 id version

-- the version of a record that may be missing
good_version : (entry : Option Entry) → ((e : Entry) → entry ≡ Some e → IsGood e) → IsVersion (version_of entry)
good_version None good = tt
good_version (Some e) good = (good e refl).version

pub own_version : (device : Device) (replica : Replica) (name : FileName) → IsSoundReplica device replica → IsVersion (version_of (own_at replica name))
own_version device replica name sound = good_version (own_at replica name) (sound.own name)
