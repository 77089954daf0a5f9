-- What the test of records tells.
use Rattle.std.proofs.Common.{◌≡◌, ◌↔◌, Bool, true, false, IsTrue, refl}
use Rattle.bep_record.specs.declared.entry.Entry.{Entry}
use Rattle.bep_record.specs.Entry.{IsWellFormed}
use Rattle.bep_document.specs.Laws.{RecordsAreTold}
use Rattle.bep_document.specs.faults.Records.{is_well_formed}

-- tests of one thing agree
agree : {P : Type 0} (r s : Bool) → IsTrue r ↔ P → IsTrue s ↔ P → r ≡ s
agree true true one other = refl
agree true false one other = let is : false ≡ true = other.1 (one.0 refl) in cc
agree false true one other = let is : false ≡ true = one.1 (other.0 refl) in cc
agree false false one other = refl

pub well_formed_decides : (r : Bool) (entry : Entry) → IsTrue r ↔ IsWellFormed entry → RecordsAreTold → r ≡ is_well_formed entry
well_formed_decides r entry one told = agree r (is_well_formed entry) one (told entry)
