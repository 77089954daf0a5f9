use Rattle.std.proofs.Common.{◌≡◌, ◌↔◌, Bool, true, false, IsTrue, Option, Some, refl}
use Rattle.std.specs.Prelude.{not}
use Rattle.bep_record.specs.declared.entry.Entry.{Entry}
use Rattle.bep_audit.specs.Share.{AsksValid}
use Rattle.bep_audit.proofs.share.is_valid.Goals as goal

false_if_not : (b : Bool) → IsTrue (not b) → b ≡ false
false_if_not true h = absurd (cc)
false_if_not false h = refl

not_if_false : (b : Bool) → b ≡ false → IsTrue (not b)
not_if_false true e = absurd (cc)
not_if_false false e = refl

valid_exactly : (own : Option Entry) (held : Entry) → own ≡ Some held → IsTrue (not held.invalid) ↔ AsksValid own
valid_exactly own held is = (
  λ valid other other_is. let plain = false_if_not held.invalid valid in let same : held ≡ other = cc in cc,
  λ asks. not_if_false held.invalid (asks held is),
)

pub returns-in-Some : goal.returns-in-Some
returns-in-Some c = valid_exactly _ c.entry.result.now (cc)
