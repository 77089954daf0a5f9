-- What holds of each item of a list that passes a test.
use Rattle.std.proofs.Common.{◌<◌, ℕ, Bool, true, false, true≢false, List, Contains, IsTrue, length, sym}
use Rattle.std.specs.Prelude.{MatchBool}
use Rattle.std.specs.List.{AllWithin, HoldsAt}
use Rattle.std.proofs.lemmas.List.Elements.{All-contains, All-from_all_within}

pub each_passes : {X : Type 0} (P Q : X → Type 0) (r : Bool) (xs : List X) → MatchBool r (AllWithin P xs 0 (length xs)) ((k : ℕ) × (k < length xs) × HoldsAt Q xs k) → IsTrue r → (x : X) → Contains xs x → P x
each_passes P Q true xs all passes x member = All-contains P xs x (All-from_all_within P xs all) member
each_passes P Q false xs found passes x member = absurd (true≢false (sym passes))
