-- A verdict's line tells the verdict.
use Rattle.std.proofs.Common.{◌≡◌, ℕ, ◌<◌, ◌^◌, List, [], ◌∷◌, ◌++◌, Option, None, Some, drop, get_or, refl, sym, ap, ◌∙◌, append_assoc, arith}
use Rattle.std.specs.Prelude.{codes, IfSome}
use Rattle.std.specs.Fmt.{decimal}
use Rattle.std.proofs.lemmas.Fmt.{decimal_injective}
use Rattle.bep_model.specs.declared.firm_reason.FirmReason.{FirmReason}
use Rattle.bep_model.specs.FirmVerdict.{FirmVerdict, Firm, Unsettled, Loose}
use Rattle.bep_model.specs.Tables.{Device, FileName, Folder}
use Rattle.bep_model.specs.Verdict.{Verdict, Settled, Not}
use Rattle.bep_lines.specs.Legible.{IsNamed, LinesTellFirmVerdicts, LinesTellVerdicts, RefusalsAreNoVerdicts}
use Rattle.bep_lines.specs.Lines.{firm_verdict_line, newline, on_device, reason_line, refused_line, verdict_line}
use Rattle.bep_lines.specs.Text.{printed}
use Rattle.bep_lines.proofs.Tokens.{AreSeen, printed_tells, seen_decimal, seen_folder, seen_printed, token_ends}
use Rattle.bep_lines.proofs.WordFacts.{Loosens, Unsettles, Why, why_word, words_are_seen, words_tell}

-- what a line says: why, and where
pub record Said : Type 0 where
  pub why : Why
  pub folder : Folder
  pub name : FileName
  pub device : Option Device

abbrev line_of : Said → List ℕ
line_of said = reason_line (why_word said.why) said.folder said.name said.device

-- what follows a name, and the line's end
abbrev ended : Option Device → List ℕ → List ℕ
ended None more = 10 ∷ more
ended (Some device) more = 32 ∷ (codes "on " ++ (decimal device ++ (10 ∷ more)))

end_is : (device : Option Device) (more : List ℕ) → (on_device device ++ (newline ++ [])) ++ more ≡ ended device more
end_is None more = refl
end_is (Some device) more = ap (λ l. 32 ∷ (codes "on " ++ l)) (append_assoc (decimal device) (10 ∷ []) more)

-- the line and more, token by token
spread : (said : Said) (more : List ℕ) → line_of said ++ more ≡ why_word said.why ++ 32 ∷ (said.folder ++ 32 ∷ (printed said.name ++ ended said.device more))
spread said more =
    let word = why_word said.why in
    let last = on_device said.device ++ (newline ++ []) in
    let third = printed said.name ++ last in
    let second = said.folder ++ 32 ∷ third in
    append_assoc word (32 ∷ second) more
    ∙ ap (λ l. word ++ 32 ∷ l) (append_assoc said.folder (32 ∷ third) more
    ∙ ap (λ l. said.folder ++ 32 ∷ l) (append_assoc (printed said.name) last more
    ∙ ap (λ l. printed said.name ++ l) (end_is said.device more)))

ends_tell : (one other : Option Device) (xs ys more rest : List ℕ) → IfSome one (λ d. d < 2 ^ 64) → IfSome other (λ d. d < 2 ^ 64) → AreSeen xs → AreSeen ys →
    xs ++ ended one more ≡ ys ++ ended other rest → (xs ≡ ys) × ((one ≡ other) × (more ≡ rest))
ends_tell None None xs ys more rest p q sx sy e =
    let ends = token_ends xs ys 10 10 more rest sx sy (omega arith) (omega arith) e in
    (ends.0, (refl, ends.1.1))
ends_tell None (Some d) xs ys more rest p q sx sy e =
    let ends = token_ends xs ys 10 32 more _ sx sy (omega arith) (omega arith) e in
    absurd (omega (arith, ends.1.0))
ends_tell (Some c) None xs ys more rest p q sx sy e =
    let ends = token_ends xs ys 32 10 _ rest sx sy (omega arith) (omega arith) e in
    absurd (omega (arith, ends.1.0))
ends_tell (Some c) (Some d) xs ys more rest p q sx sy e =
    let ends = token_ends xs ys 32 32 (codes "on " ++ (decimal c ++ (10 ∷ more))) (codes "on " ++ (decimal d ++ (10 ∷ rest))) sx sy (omega arith) (omega arith) e in
    let numbers = token_ends (decimal c) (decimal d) 10 10 more rest (seen_decimal c p) (seen_decimal d q) (omega arith) (omega arith) (ap (drop 3) ends.1.1) in
    (ends.0, (ap Some (decimal_injective c d p q numbers.0), numbers.1.1))

lines_tell : (one other : Said) (more rest : List ℕ) → IsNamed one.folder one.device → IsNamed other.folder other.device →
    line_of one ++ more ≡ line_of other ++ rest → (one ≡ other) × (more ≡ rest)
lines_tell one other more rest named also e =
    let told = sym (spread one more) ∙ e ∙ spread other rest in
    let words = token_ends (why_word one.why) (why_word other.why) 32 32 _ _ (words_are_seen one.why) (words_are_seen other.why) (omega arith) (omega arith) told in
    let folders = token_ends one.folder other.folder 32 32 _ _ (seen_folder one.folder named.plain) (seen_folder other.folder also.plain) (omega arith) (omega arith) words.1.1 in
    let names = ends_tell one.device other.device (printed one.name) (printed other.name) more rest named.bounded also.bounded (seen_printed one.name) (seen_printed other.name) folders.1.1 in
    let why = words_tell one.why other.why words.0 in
    let name = printed_tells one.name other.name names.0 in
    ((λ i. record { why = why i; folder = folders.0 i; name = name i; device = names.1.0 i }), names.1.1)

abbrev said_of : Why → Folder → FileName → Option Device → Said
said_of why folder name device = record { why = why; folder = folder; name = name; device = device }

-- ---- the verdicts that say it
abbrev verdict_for : Why → Said → Verdict
verdict_for (Unsettles reason) said = Not reason said.folder said.name said.device
verdict_for (Loosens reason) said = Settled

abbrev verdict_said : Said → Verdict
verdict_said said = verdict_for said.why said

pub lines_tell_verdicts_lem : LinesTellVerdicts
lines_tell_verdicts_lem Settled Settled more rest named also e = (refl, ap (drop 8) e)
lines_tell_verdicts_lem Settled (Not reason folder name device) more rest named also e = absurd (omega (arith, ap (λ l. get_or l 0 0) e))
lines_tell_verdicts_lem (Not reason folder name device) Settled more rest named also e = absurd (omega (arith, ap (λ l. get_or l 0 0) e))
lines_tell_verdicts_lem (Not reason folder name device) (Not why within file on) more rest named also e =
    let told = lines_tell (said_of (Unsettles reason) folder name device) (said_of (Unsettles why) within file on) more rest named also (ap (drop 13) e) in
    (ap verdict_said told.0, told.1)

abbrev loose_for : FirmReason → Said → Option Device → FirmVerdict
loose_for reason said None = Firm
loose_for reason said (Some device) = Loose reason said.folder said.name device

abbrev firm_verdict_for : Why → Said → FirmVerdict
firm_verdict_for (Unsettles reason) said = Unsettled reason said.folder said.name said.device
firm_verdict_for (Loosens reason) said = loose_for reason said said.device

abbrev firm_verdict_said : Said → FirmVerdict
firm_verdict_said said = firm_verdict_for said.why said

firm_lines_tell : (one other : Said) (more rest : List ℕ) → IsNamed one.folder one.device → IsNamed other.folder other.device →
    (codes "not firm: " ++ line_of one) ++ more ≡ (codes "not firm: " ++ line_of other) ++ rest → (firm_verdict_said one ≡ firm_verdict_said other) × (more ≡ rest)
firm_lines_tell one other more rest named also e =
    let told = lines_tell one other more rest named also (ap (drop 10) e) in
    (ap firm_verdict_said told.0, told.1)

pub lines_tell_firm_verdicts_lem : LinesTellFirmVerdicts
lines_tell_firm_verdicts_lem Firm Firm more rest named also e = (refl, ap (drop 5) e)
lines_tell_firm_verdicts_lem Firm (Unsettled reason folder name device) more rest named also e = absurd (omega (arith, ap (λ l. get_or l 0 0) e))
lines_tell_firm_verdicts_lem Firm (Loose reason folder name device) more rest named also e = absurd (omega (arith, ap (λ l. get_or l 0 0) e))
lines_tell_firm_verdicts_lem (Unsettled reason folder name device) Firm more rest named also e = absurd (omega (arith, ap (λ l. get_or l 0 0) e))
lines_tell_firm_verdicts_lem (Loose reason folder name device) Firm more rest named also e = absurd (omega (arith, ap (λ l. get_or l 0 0) e))
lines_tell_firm_verdicts_lem (Unsettled reason folder name device) (Unsettled why within file on) more rest named also e =
    firm_lines_tell (said_of (Unsettles reason) folder name device) (said_of (Unsettles why) within file on) more rest named also e
lines_tell_firm_verdicts_lem (Unsettled reason folder name device) (Loose why within file on) more rest named also e =
    firm_lines_tell (said_of (Unsettles reason) folder name device) (said_of (Loosens why) within file (Some on)) more rest named also e
lines_tell_firm_verdicts_lem (Loose reason folder name device) (Unsettled why within file on) more rest named also e =
    firm_lines_tell (said_of (Loosens reason) folder name (Some device)) (said_of (Unsettles why) within file on) more rest named also e
lines_tell_firm_verdicts_lem (Loose reason folder name device) (Loose why within file on) more rest named also e =
    firm_lines_tell (said_of (Loosens reason) folder name (Some device)) (said_of (Loosens why) within file (Some on)) more rest named also e

pub refusals_are_no_verdicts_lem : RefusalsAreNoVerdicts
refusals_are_no_verdicts_lem number word folder device name more rest = (plain, firm)
  where
    plain : (verdict : Verdict) → verdict_line verdict ++ more ≡ refused_line number word folder device name ++ rest → ⊥
    plain Settled e = omega (arith, ap (λ l. get_or l 0 0) e)
    plain (Not reason within file on) e = omega (arith, ap (λ l. get_or l 0 0) e)

    firm : (verdict : FirmVerdict) → firm_verdict_line verdict ++ more ≡ refused_line number word folder device name ++ rest → ⊥
    firm Firm e = omega (arith, ap (λ l. get_or l 0 0) e)
    firm (Unsettled reason within file on) e = omega (arith, ap (λ l. get_or l 0 0) e)
    firm (Loose reason within file on) e = omega (arith, ap (λ l. get_or l 0 0) e)
