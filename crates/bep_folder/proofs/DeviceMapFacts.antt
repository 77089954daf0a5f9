-- What a map of devices has once a device was given a value.
use Rattle.std.proofs.Common.{◌≡◌, ℕ, Some, ◌∙◌}
use Rattle.std.specs.Ordering.{nat_cmp}
use Rattle.std.specs.Cmp.{nat_cmp_total}
use Rattle.std.specs.FinMap.{FinMap, nat_cmp-IsAntisymmetric, get, insert}
use Rattle.bep_facts.specs.Maps.{get-insert_here, insert-twice, insert-what_is_there}

-- it has that value
pub device_has : {V : Type 0} (m : FinMap nat_cmp V) (device : ℕ) (value : V) → get (insert m device value) device ≡ Some value
device_has m device value = get-insert_here nat_cmp_total nat_cmp-IsAntisymmetric m device value

-- of two values in a row the later one counts
pub device_given_twice : {V : Type 0} (m : FinMap nat_cmp V) (device : ℕ) (value later : V) → insert (insert m device value) device later ≡ insert m device later
device_given_twice m device value later = insert-twice nat_cmp_total nat_cmp-IsAntisymmetric m device value later

-- the value that it had, given again after another
pub device_given_back : {V : Type 0} (m : FinMap nat_cmp V) (device : ℕ) (value held : V) → get m device ≡ Some held → insert (insert m device value) device held ≡ m
device_given_back m device value held has = device_given_twice m device value held ∙ insert-what_is_there nat_cmp_total nat_cmp-IsAntisymmetric m device held has
