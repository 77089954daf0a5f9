-- What came of a document where all that fails was asked for, and the exit status that says so (this project's profile).
use Rattle.std.specs.Prelude.{ℕ, List, Option}
use Rattle.bep_lines.specs.declared.form.Form.{Form}
use Rattle.bep_answer.specs.Status.{IsToldAs, status_of}
use Rattle.bep_explain.specs.document.Explained.{IsExplainedOfBytes}

-- all that fails was written, or the document refused
abbrev pub IsExplanationTold : Form → Option (List ℕ) → Option (List ℕ) → Option (List ℕ) → Option (List ℕ) → ℕ → Type 0
IsExplanationTold form = IsToldAs (IsExplainedOfBytes form) status_of
