-- The verdict on a cut is the first of those on three parts of it.
use Rattle.std.proofs.Common.{◌≡◌, ◌⊎◌, List, [], ◌∷◌, Contains, sym, subst, ⊎_elim}
use Rattle.bep_facts.specs.Members.{Contains-first, Contains-more, Contains-one, Contains-cons_cases}
use Rattle.bep_model.specs.declared.row.Row.{Row}
use Rattle.bep_model.specs.Tables.{Tables, Folder, FileName}
use Rattle.bep_model.specs.FirmVerdict as firm_verdicts
use Rattle.bep_model.specs.Settled.{Rise}
use Rattle.bep_model.specs.Verdict as verdicts
use Rattle.bep_parts.specs.FirstVerdict.{ComesUpTo, FirmComesUpTo, FirmJudged, Judged}
use Rattle.bep_parts.specs.Laws.{FirmVerdictByParts, VerdictByParts}
use Rattle.bep_parts.specs.Parts.{IsInSome, Keeps, only, rows_of}

-- the verdict on a cut is the first of those on three parts of which it is that on the first or the second
abbrev pub ByThree : (V : Type 0) → (Tables → List Row → V → Type 0) → (V → V → Type 0) → Type 0
ByThree V Is UpTo = (t : Tables) (one two three : Keeps) (x y z verdict : V) (rows : List Row) → Rise rows →
    ((folder : Folder) (name : FileName) → IsInSome (one ∷ two ∷ three ∷ []) folder name) →
    Is (only one t) (rows_of one rows) x → Is (only two t) (rows_of two rows) y → Is (only three t) (rows_of three rows) z →
    (verdict ≡ x) ⊎ (verdict ≡ y) → UpTo verdict x → UpTo verdict y → UpTo verdict z → Is t rows verdict

of_three : {X : Type 0} (P : X → Type 0) (a b c : X) → P a → P b → P c → (x : X) → Contains (a ∷ b ∷ c ∷ []) x → P x
of_three P a b c of_a of_b of_c x member =
    ⊎_elim (λ same. subst P same of_a)
    (λ more. ⊎_elim (λ same. subst P same of_b) (λ end. subst P (Contains-one c x end) of_c) (Contains-cons_cases b (c ∷ []) x more))
    (Contains-cons_cases a (b ∷ c ∷ []) x member)

pub settled_by_three : VerdictByParts → ByThree verdicts.Verdict verdicts.IsVerdict ComesUpTo
settled_by_three by_parts t one two three x y z verdict rows rise each of_one of_two of_last among to_one to_two to_last =
    let first : Judged = record { keeps = one; verdict = x } in
    let second : Judged = record { keeps = two; verdict = y } in
    let third : Judged = record { keeps = three; verdict = z } in
    by_parts t (first ∷ second ∷ third ∷ []) rows verdict rise each
    (of_three (λ (part : Judged). verdicts.IsVerdict (only part.keeps t) (rows_of part.keeps rows) part.verdict) first second third of_one of_two of_last)
    (record {
      among = ⊎_elim (λ same. (first, Contains-first first (second ∷ third ∷ []), sym same)) (λ same. (second, Contains-more first (second ∷ third ∷ []) second (Contains-first second (third ∷ [])), sym same)) among;
      first = of_three (λ (part : Judged). ComesUpTo verdict part.verdict) first second third to_one to_two to_last;
    })

pub firm_by_three : FirmVerdictByParts → ByThree firm_verdicts.FirmVerdict firm_verdicts.IsFirmVerdict FirmComesUpTo
firm_by_three by_parts t one two three x y z verdict rows rise each of_one of_two of_last among to_one to_two to_last =
    let first : FirmJudged = record { keeps = one; verdict = x } in
    let second : FirmJudged = record { keeps = two; verdict = y } in
    let third : FirmJudged = record { keeps = three; verdict = z } in
    by_parts t (first ∷ second ∷ third ∷ []) rows verdict rise each
    (of_three (λ (part : FirmJudged). firm_verdicts.IsFirmVerdict (only part.keeps t) (rows_of part.keeps rows) part.verdict) first second third of_one of_two of_last)
    (record {
      among = ⊎_elim (λ same. (first, Contains-first first (second ∷ third ∷ []), sym same)) (λ same. (second, Contains-more first (second ∷ third ∷ []) second (Contains-first second (third ∷ [])), sym same)) among;
      first = of_three (λ (part : FirmJudged). FirmComesUpTo verdict part.verdict) first second third to_one to_two to_last;
    })

-- the verdict of what is settled comes last, and that of what is firm
pub up_to_settled : (verdict : verdicts.Verdict) → ComesUpTo verdict verdicts.Settled
up_to_settled verdicts.Settled = tt
up_to_settled (verdicts.Not reason folder name device) = tt

pub up_to_firm : (verdict : firm_verdicts.FirmVerdict) → FirmComesUpTo verdict firm_verdicts.Firm
up_to_firm firm_verdicts.Firm = tt
up_to_firm (firm_verdicts.Unsettled reason folder name device) = tt
up_to_firm (firm_verdicts.Loose reason folder name device) = tt

-- the laws of both
pub record ByParts : Type 0 where
  pub settled : VerdictByParts
  pub firm : FirmVerdictByParts
