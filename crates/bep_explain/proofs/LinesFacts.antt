-- An explanation's lines are written a failure at a time.
use Rattle.std.proofs.Common.{◌≡◌, ◌<◌, ◌≤◌, ◌+◌, ◌&&◌, ℕ, true, false, List, [], ◌∷◌, ◌++◌, map, drop, length, refl, sym, ap, ◌∙◌, append_assoc, append-nil, Result, Ok, Err, IfOk}
use lib.ListN.{get_or}
use Rattle.std.specs.List.{flat_map}
use Rattle.std.proofs.lemmas.List.{drop_all, map-append}
use Rattle.std.proofs.lemmas.Grind.{flat_map-append}
use Rattle.bep_facts.specs.Places.{rest_at}
use Rattle.bep_model.specs.FirmVerdict.{Firm}
use Rattle.bep_model.specs.Verdict.{Settled}
use Rattle.bep_audit.specs.Loose.{Loosening}
use Rattle.bep_audit.specs.Walk.{Failure}
use Rattle.bep_lines.specs.Lines.{firm_verdict_line, verdict_line}
use Rattle.bep_lines.specs.declared.form.Form.TheVariants.{Text}
use Rattle.bep_explain.specs.FirmTold.{LooseTold, firm_explanation_text, loose_text, loosenings_of}
use Rattle.bep_explain.specs.Told.{Told, explanation_text, failures_of, told_text}
use Rattle.bep_explain.specs.document.Explained.{IsWritten}
use Rattle.bep_explain.specs.document.FirmExplained.{IsFirmWritten}
use Rattle.bep_explain.specs.inner.Lines.{AddsLines, AddsLooseLines, AreLines}
use Rattle.bep_explain.specs.inner.Added.{no_failure, no_loose}

-- ---- a walk over what was found
pub one_further : {A B : Type 0} (shown : A → B) (all : List A) (place : ℕ) (y : A) (done : List B) → place < length all → y ≡ get_or all place y →
    done ++ map shown (drop place all) ≡ map shown all → (done ++ shown y ∷ []) ++ map shown (drop (place + 1) all) ≡ map shown all
one_further shown all place y done below is left =
    append_assoc done (shown y ∷ []) (map shown (drop (place + 1) all)) ∙ ap (λ l. done ++ map shown l) (sym (rest_at all place y below is)) ∙ left

pub all_found : {A B : Type 0} (shown : A → B) (all : List A) (place : ℕ) (done : List B) → length all ≤ place → done ++ map shown (drop place all) ≡ map shown all → done ≡ map shown all
all_found shown all place done beyond left = sym (append-nil done) ∙ ap (λ l. done ++ map shown l) (sym (drop_all place all beyond)) ∙ left

pub one_more_text : {A : Type 0} (text_of : A → List ℕ) (told : List A) (one : A) (old mid new : List ℕ) → mid ≡ old ++ flat_map text_of told → new ≡ mid ++ text_of one → new ≡ old ++ flat_map text_of (told ++ one ∷ [])
one_more_text text_of told one old mid new before here =
    here ∙ ap (λ l. l ++ text_of one) before ∙ append_assoc old (flat_map text_of told) (text_of one)
    ∙ ap (λ l. old ++ l) (ap (λ l. flat_map text_of told ++ l) (sym (append-nil (text_of one))) ∙ sym (flat_map-append text_of told (one ∷ [])))

pub lines_one : (done : List Failure) (one : Told) (old mid new : List ℕ) → AddsLines done old mid → new ≡ mid ++ told_text one → AddsLines (done ++ one.failure ∷ []) old new
lines_one done one old mid new had here =
    (had.0 ++ one ∷ [], map-append (λ (t : Told). t.failure) had.0 (one ∷ []) ∙ ap (λ l. l ++ one.failure ∷ []) had.1, one_more_text told_text had.0 one old mid new had.2 here)

pub lines_one_loose : (done : List Loosening) (one : LooseTold) (old mid new : List ℕ) → AddsLooseLines done old mid → new ≡ mid ++ loose_text one → AddsLooseLines (done ++ one.loosening ∷ []) old new
lines_one_loose done one old mid new had here =
    (had.0 ++ one ∷ [], map-append (λ (t : LooseTold). t.loosening) had.0 (one ∷ []) ∙ ap (λ l. l ++ one.loosening ∷ []) had.1, one_more_text loose_text had.0 one old mid new had.2 here)

-- ---- the whole
pub none_written : (found : List Failure) (text : List ℕ) → no_failure found ≡ true → text ≡ verdict_line Settled → IsWritten Text found text
none_written [] text none e = ([], refl, e)
none_written (one ∷ more) text none e = absurd cc

some_told : (told : List Told) → no_failure (failures_of told) ≡ false → explanation_text told ≡ flat_map told_text told
some_told [] some = absurd cc
some_told (one ∷ more) some = refl

pub some_written : (found : List Failure) (old text : List ℕ) → no_failure found ≡ false → old ≡ [] → AddsLines found old text → IsWritten Text found text
some_written found old text some empty adds =
    (adds.0, adds.1, adds.2 ∙ ap (λ l. l ++ flat_map told_text adds.0) empty ∙ sym (some_told adds.0 (ap no_failure adds.1 ∙ some)))

pub firm_written : (found : List Failure) (loose : List Loosening) (text : List ℕ) → (no_failure found && no_loose loose) ≡ true → text ≡ firm_verdict_line Firm → IsFirmWritten Text found loose text
firm_written [] [] text none e = ([], [], refl, refl, e)
firm_written [] (one ∷ more) text none e = absurd cc
firm_written (one ∷ more) loose text none e = absurd cc

some_firm_told : (told : List Told) (more : List LooseTold) → (no_failure (failures_of told) && no_loose (loosenings_of more)) ≡ false → firm_explanation_text told more ≡ flat_map told_text told ++ flat_map loose_text more
some_firm_told [] [] some = absurd cc
some_firm_told [] (one ∷ more) some = refl
some_firm_told (one ∷ told) more some = refl

pub loose_written : (found : List Failure) (loose : List Loosening) (text : List ℕ) → (no_failure found && no_loose loose) ≡ false → AreLines found loose text → IsFirmWritten Text found loose text
loose_written found loose text some are =
    let adds = are.1 in
    let more = are.2 in
    let none : (no_failure (failures_of adds.0) && no_loose (loosenings_of more.0)) ≡ false = ap (λ fs. no_failure fs && no_loose (loosenings_of more.0)) adds.1 ∙ ap (λ ls. no_failure found && no_loose ls) more.1 ∙ some in
    (adds.0, more.0, adds.1, more.1, more.2 ∙ ap (λ l. l ++ flat_map loose_text more.0) adds.2 ∙ sym (some_firm_told adds.0 more.0 none))

pub firm_line_written : {T E : Type 0} (items : T → List ℕ) (found : List Failure) (loose : List Loosening) (result : Result T E) → (no_failure found && no_loose loose) ≡ true →
    IfOk result (λ text. items text ≡ firm_verdict_line Firm) → IfOk result (λ text. IsFirmWritten Text found loose (items text))
firm_line_written items found loose (Ok text) none e = firm_written found loose (items text) none e
firm_line_written items found loose (Err error) none e = tt
