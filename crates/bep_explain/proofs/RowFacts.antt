-- A search through rows for one about a name.
use Rattle.std.proofs.Common.{◌≡◌, ◌<◌, ◌≤◌, ◌+◌, ℕ, Bool, true, false, true≢false, refl, List, [], ◌∷◌, Contains, length, get_or, take, sym, ap, subst, ◌∙◌, ⊎_elim}
use Rattle.std.specs.declared.cmp.Ordering.{Ordering}
use Rattle.std.specs.declared.cmp.Ordering.TheVariants.{Less, Equal, Greater}
use Rattle.std.specs.Ordering.{is_eq}
use Rattle.std.proofs.lemmas.List.{take_all}
use Rattle.std.proofs.lemmas.List.Elements.{Contains-append_cases}
use Rattle.bep_facts.specs.Members.{Contains-one}
use Rattle.bep_facts.specs.Orders.{Equal_from_same, texts_exact, texts_total}
use Rattle.bep_facts.specs.Places.{done_with}
use Rattle.bep_model.specs.declared.row.Row.{Row}
use Rattle.bep_model.specs.Tables.{Folder, FileName}
use Rattle.bep_model.specs.Settled.{key_of, key_cmp, HasRow}

tied : (o : Ordering) → is_eq o ≡ true → o ≡ Equal
tied Less e = absurd (cc)
tied Equal e = refl
tied Greater e = absurd (cc)

-- what a test for a tie tells
pub tied_from_test : (o p : Ordering) (b : Bool) → o ≡ p → b ≡ is_eq o → b ≡ true → p ≡ Equal
tied_from_test o p b same is holds = sym same ∙ tied o (sym is ∙ holds)

pub apart_from_test : (o p : Ordering) (b : Bool) → o ≡ p → b ≡ is_eq o → b ≡ false → ¬ (p ≡ Equal)
apart_from_test o p b same is fails e = true≢false (sym (is ∙ ap is_eq (same ∙ e)) ∙ fails)

-- no row is about the name
pub record NoneAbout (rows : List Row) (key : Folder × FileName) : Type 0 where
  pub none : (row : Row) → Contains rows row → ¬ (key_of row ≡ key)

module _ (rows : List Row) (key : Folder × FileName) where
  pub none_goes_on : (place : ℕ) (row : Row) → place < length rows → row ≡ get_or rows place row → ¬ (key_cmp (key_of row) key ≡ Equal) → NoneAbout (take place rows) key → NoneAbout (take (place + 1) rows) key
  none_goes_on place row below is differs before = subst (λ (done : List Row). NoneAbout done key) (sym (done_with rows place row below is)) (record {
    none = λ other there.
        ⊎_elim
        (λ earlier. before.none other earlier)
        (λ last. λ about. differs (ap (λ r. key_cmp (key_of r) key) (Contains-one row other last) ∙ Equal_from_same texts_total (key_of other) key about))
        (Contains-append_cases (take place rows) (row ∷ []) other there);
  })

  pub row_is_there : (place : ℕ) (row : Row) → place < length rows → row ≡ get_or rows place row → key_cmp (key_of row) key ≡ Equal → HasRow rows key.0 key.1
  row_is_there place row below is tied = (row, (place, below, sym is), texts_exact (key_of row) key tied)

  pub none_at_last : (place : ℕ) → length rows ≤ place → NoneAbout (take place rows) key → ¬ HasRow rows key.0 key.1
  none_at_last place past before has = (subst (λ (done : List Row). NoneAbout done key) (take_all place rows past) before).none has.0 has.1 has.2
