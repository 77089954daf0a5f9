-- An explanation is written one after another.
use Rattle.std.proofs.Common.{◌≡◌, ℕ, true, false, List, [], ◌∷◌, ◌++◌, refl, sym, ap, ◌∙◌}
use Rattle.std.specs.List.{flat_map}
use Rattle.std.proofs.lemmas.List.{map-append}
use Rattle.bep_lines.specs.declared.form.Form.TheVariants.{Text}
use Rattle.bep_explain.proofs.LinesFacts.{one_more_text}
use Rattle.bep_converge.specs.ConvergeVerdict.{Converging}
use Rattle.bep_converge_check.specs.Hindrance.{Hinder}
use Rattle.bep_converge_answer.specs.Lines.{converge_line}
use Rattle.bep_converge_explain.specs.Explained.{IsConvergeWritten}
use Rattle.bep_converge_explain.specs.Told.{HinderAnnotated, HinderTold, converge_explanation_text, hinder_text, hinders_in, hinders_of, is_clear}
use Rattle.bep_converge_explain.specs.inner.Added.{AddsHinderLines, no_hinder}

-- ---- the text

pub hinder_lines_one : (done : List Hinder) (one : HinderTold) (old mid new : List ℕ) → AddsHinderLines done old mid → new ≡ mid ++ hinder_text one → AddsHinderLines (done ++ one.hinder ∷ []) old new
hinder_lines_one done one old mid new had here =
    (had.0 ++ one ∷ [], map-append (λ (t : HinderTold). t.hinder) had.0 (one ∷ []) ∙ ap (λ l. l ++ one.hinder ∷ []) had.1, one_more_text hinder_text had.0 one old mid new had.2 here)

pub none_written : (found : List Hinder) (text : List ℕ) → no_hinder found ≡ true → text ≡ converge_line Converging → IsConvergeWritten Text found text
none_written [] text none e = ([], refl, e)
none_written (one ∷ more) text none e = absurd cc

some_told : (told : List HinderTold) → no_hinder (hinders_of told) ≡ false → converge_explanation_text told ≡ flat_map hinder_text told
some_told [] some = absurd cc
some_told (one ∷ more) some = refl

pub some_written : (found : List Hinder) (old text : List ℕ) → no_hinder found ≡ false → old ≡ [] → AddsHinderLines found old text → IsConvergeWritten Text found text
some_written found old text some empty adds =
    (adds.0, adds.1, adds.2 ∙ ap (λ l. l ++ flat_map hinder_text adds.0) empty ∙ sym (some_told adds.0 (ap no_hinder adds.1 ∙ some)))

-- ---- JSON

pub clear_told : (told : List HinderAnnotated) → no_hinder (hinders_in told) ≡ is_clear told
clear_told [] = refl
clear_told (one ∷ more) = refl
