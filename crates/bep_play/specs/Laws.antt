-- What follows from the definitions of a scenario's end; the functions of src/laws.rt have these as contracts.
use Rattle.std.specs.Prelude.{◌≡◌, ℕ, List}
use Rattle.bep_answer.specs.declared.outcome.Certified.{Certified}
use Rattle.bep_answer.specs.declared.outcome.Outcome.{Outcome}
use Rattle.bep_cut.specs.Cut.{cut_at}
use Rattle.bep_peer.specs.network.Network.{Network}
use Rattle.bep_scenario.specs.Scenario.{Said}
use Rattle.bep_play.specs.Played.{IsEndOfBytes, IsRunOfBytes, EndsAt}

-- A scenario leads to one cut at most, and one text is told of its steps. So the report on its end (IsPlayed) and the
-- document of its end (IsPlayedTo) are of the very same cut.
abbrev pub EndIsUnique : Type 0
EndIsUnique = (scenario : Said) (one other : Network) (told more : List ℕ) →
    EndsAt scenario one told → EndsAt scenario other more →
    (cut_at one.members one.links ≡ cut_at other.members other.links) × (told ≡ more)

-- the bytes of a scenario have one run at most: one outcome, and one text
abbrev pub RunIsUnique : Type 0
RunIsUnique = (bytes : List ℕ) (one other : Outcome) (text more : List ℕ) →
    IsRunOfBytes bytes one text → IsRunOfBytes bytes other more → (one ≡ other) × (text ≡ more)

-- and one document of where they lead
abbrev pub DocumentIsUnique : Type 0
DocumentIsUnique = (bytes : List ℕ) (one other : Certified) (text more : List ℕ) →
    IsEndOfBytes bytes one text → IsEndOfBytes bytes other more → (one ≡ other) × (text ≡ more)
