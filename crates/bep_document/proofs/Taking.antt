-- What is told of short lists, and of objects.
use Rattle.std.proofs.Common.{◌≡◌, ℕ, Bool, true, false, List, Option, Some, None, refl}
use Rattle.std.specs.Prelude.{nat_le, length}
use Rattle.serde_json.specs.Data.{Data}
use Rattle.bep_json.specs.Reading.{◌>>=◌}
use Rattle.bep_json.specs.Lists.{read_list}
use Rattle.bep_json.specs.Taking.{judged}
use Rattle.bep_document.specs.inner.Few.{few_told}
use Rattle.bep_document.specs.read.Few.{if_few, read_few}

few_by : {T : Type 0} (most : ℕ) (things : List T) (few : Bool) → nat_le (length things) most ≡ few → few_told most (judged true (Some things)) ≡ judged true (if_few most things)
few_by most things true is = rw is
few_by most things false is = rw is

few_of_read : {T : Type 0} (most : ℕ) (shape : Bool) (read : Option (List T)) → few_told most (judged shape read) ≡ judged shape (read >>= if_few most)
few_of_read most false read = refl
few_of_read most true None = refl
few_of_read most true (Some things) = few_by most things (nat_le (length things) most) refl

-- at most so many things of a list
pub few_is : {T : Type 0} (most : ℕ) (shape : Bool) (reads : Data → Option T) (d : Data) → few_told most (judged shape (read_list reads d)) ≡ judged shape (read_few most reads d)
few_is most shape reads d = few_of_read most shape (read_list reads d)
