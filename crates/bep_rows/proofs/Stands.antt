-- Under the list of its winners a cut stands as it is judged.
use Rattle.bep_model.specs.Tables.{Tables}
use Rattle.bep_rows.specs.Standing.{IsStanding, IsUnderWinners}
use Rattle.bep_rows.specs.declared.aim.Aim.{Aim}
use Rattle.bep_rows.specs.declared.aim.Aim.TheVariants as aims
use Rattle.bep_rows.specs.declared.standing.Standing.{Standing}
use Rattle.bep_rows.specs.declared.standing.Standing.TheVariants.{Met, Not, Loose, Unwon}

pub stands : (aim : Aim) (t : Tables) (standing : Standing) → IsUnderWinners aim t standing → IsStanding aim t standing
stands aim t Met is = is
stands aim t (Not reason folder name device) is = is
stands aim t (Loose reason folder name device) is = is
stands aims.Settled t (Unwon folder name) is = absurd is.judged
stands aims.Firm t (Unwon folder name) is = absurd is.judged
