-- Version vectors as tests.
use Rattle.std.proofs.Common.{◌≤◌, ℕ, List, [], ◌∷◌, Decides, length, leb, refl, arith}
use Rattle.std.proofs.lemmas.Bool.Decides.{Decides-and, Decides-ltb, nat_tests}
use Rattle.bep_record.specs.Vector.{RisesAbove, IsVersion, greatest_counter, most_counters}
use Rattle.bep_json.specs.Lists.{rises_above, is_version}

leb_decides : (a b : ℕ) → Decides (leb a b) (a ≤ b)
leb_decides a b = (λ e. grind (arith, nat_tests), λ h. grind (arith, nat_tests))

rises_decides : (low : ℕ) (pairs : List (ℕ × ℕ)) → Decides (rises_above low pairs) (RisesAbove low pairs)
rises_decides low [] = (λ _. tt, λ _. refl)
rises_decides low (pair ∷ more) =
    let parts = Decides-and _ _ (Decides-and _ _ (Decides-ltb low pair.0) (Decides-and _ _ (leb_decides 1 pair.1) (leb_decides pair.1 greatest_counter))) (rises_decides pair.0 more) in
    (λ e. let all = parts.0 e in (all.0.0, all.0.1.0, all.0.1.1, all.1), λ h. parts.1 ((h.0, (h.1, h.2)), h.3))

pub version_decides : (pairs : List (ℕ × ℕ)) → Decides (is_version pairs) (IsVersion pairs × (length pairs ≤ most_counters))
unfolding is_version
version_decides pairs = Decides-and _ _ (rises_decides 0 pairs) (leb_decides (length pairs) most_counters)
