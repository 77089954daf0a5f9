-- The text of an explanation: all failures, each with what is said of it (this project's profile).
use Rattle.std.specs.Prelude.{◌==◌, ◌++◌, ℕ, List, [], ◌∷◌, map, codes, if◌then◌else◌}
use Rattle.std.specs.List.{flat_map}
use Rattle.bep_model.specs.Verdict.{Settled}
use Rattle.bep_audit.specs.Walk.{Failure}
use Rattle.bep_lines.specs.Lines.{failure_line, verdict_line, newline}

-- a failure, and what is said of it
pub record Told : Type 0 where
  pub failure : Failure
  pub details : List (List ℕ)

-- the failures alone
abbrev pub failures_of : List Told → List Failure
failures_of told = map (λ one. one.failure) told

-- a space for a newline
abbrev pub not_newline : ℕ → ℕ
not_newline byte = if byte == 10 then 32 else byte

-- the line of a detail: two spaces, and what is said without a newline
abbrev pub detail_line : List ℕ → List ℕ
detail_line said = codes "  " ++ (map not_newline said ++ newline)

-- the line of a failure, and the lines of its details
abbrev pub told_text : Told → List ℕ
told_text one =
    let place = one.failure.place in
    failure_line one.failure.reason place.folder place.name place.device ++ flat_map detail_line one.details

-- the text of all of these, `settled` alone where there is none
abbrev pub explanation_text : List Told → List ℕ
explanation_text [] = verdict_line Settled
explanation_text (one ∷ more) = flat_map told_text (one ∷ more)
