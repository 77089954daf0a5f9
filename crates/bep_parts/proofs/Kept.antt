-- What a test keeps of a list, and that rows rise still where a test has kept some.
use Rattle.std.proofs.Common.{◌≡◌, Bool, true, false, cond, List, [], ◌∷◌, Contains, refl, sym, ap, subst, ◌∙◌, ⊎_elim}
use Rattle.std.specs.declared.cmp.Ordering.TheVariants.{Less}
use Rattle.std.specs.List.{filter}
use Rattle.bep_facts.specs.Members.{not_in_none, Contains-first, Contains-more, Contains-cons_cases}
use Rattle.bep_model.specs.declared.row.Row.{Row}
use Rattle.bep_model.specs.Tables.{Folder, FileName}
use Rattle.bep_model.specs.Settled.{HasRow, Rise, key_of, key_cmp}
use Rattle.bep_model.proofs.Winners.{first_is_below, tail_rises}
use Rattle.bep_parts.specs.Parts.{Keeps, rows_of}

module _ {X : Type 0} (p : X → Bool) where
  -- what passes is kept
  pub kept_there : (xs : List X) (x : X) → Contains xs x → p x ≡ true → Contains (filter p xs) x
  kept_there [] x member passes = absurd (not_in_none x member)
  kept_there (y ∷ xs) x member passes = cases (λ more. kept_there xs x more passes) (p y) refl
    where
      cases : (Contains xs x → Contains (filter p xs) x) → (b : Bool) → p y ≡ b → Contains (cond b (y ∷ filter p xs) (filter p xs)) x
      cases rest true is =
          ⊎_elim (λ same. subst (Contains (y ∷ filter p xs)) same (Contains-first y (filter p xs))) (λ more. Contains-more y (filter p xs) x (rest more))
          (Contains-cons_cases y xs x member)
      cases rest false is =
          ⊎_elim (λ same. let both : true ≡ false = sym passes ∙ ap p (sym same) ∙ is in absurd (cc)) rest
          (Contains-cons_cases y xs x member)

  -- what is kept was there, and passes
  pub kept_was : (xs : List X) (x : X) → Contains (filter p xs) x → Contains xs x × (p x ≡ true)
  kept_was [] x member = absurd (not_in_none x member)
  kept_was (y ∷ xs) x member = cases (kept_was xs x) (p y) refl member
    where
      cases : (Contains (filter p xs) x → Contains xs x × (p x ≡ true)) → (b : Bool) → p y ≡ b → Contains (cond b (y ∷ filter p xs) (filter p xs)) x → Contains (y ∷ xs) x × (p x ≡ true)
      cases rest true is kept =
          ⊎_elim
          (λ same. (subst (Contains (y ∷ xs)) same (Contains-first y xs), ap p (sym same) ∙ is))
          (λ more. let was = rest more in (Contains-more y xs x was.0, was.1))
          (Contains-cons_cases y (filter p xs) x kept)
      cases rest false is kept = let was = rest kept in (Contains-more y xs x was.0, was.1)

-- ---- rows

pub rises_below : (row : Row) (rows : List Row) → Rise rows → ((later : Row) → Contains rows later → key_cmp (key_of row) (key_of later) ≡ Less) → Rise (row ∷ rows)
rises_below row [] rise below = tt
rises_below row (next ∷ more) rise below = (below next (Contains-first next more), rise)

module _ (keeps : Keeps) where
  pub rise_kept : (rows : List Row) → Rise rows → Rise (rows_of keeps rows)
  rise_kept [] rise = tt
  rise_kept (row ∷ more) rise = cases (keeps row.folder row.entry.name) (rise_kept more (tail_rises row more rise))
    where
      cases : (b : Bool) → Rise (rows_of keeps more) → Rise (cond b (row ∷ rows_of keeps more) (rows_of keeps more))
      cases true rest =
          rises_below row (rows_of keeps more) rest
          (λ later member. first_is_below row more rise later (kept_was (λ (r : Row). keeps r.folder r.entry.name) more later member).0)
      cases false rest = rest

  pub row_kept : (rows : List Row) (row : Row) → Contains rows row → keeps row.folder row.entry.name ≡ true → Contains (rows_of keeps rows) row
  row_kept = kept_there (λ (r : Row). keeps r.folder r.entry.name)

  pub row_was : (rows : List Row) (row : Row) → Contains (rows_of keeps rows) row → Contains rows row × (keeps row.folder row.entry.name ≡ true)
  row_was = kept_was (λ (r : Row). keeps r.folder r.entry.name)

  -- a name that has a kept row is kept, and the other way round
  pub has_row_kept : (rows : List Row) (folder : Folder) (name : FileName) → keeps folder name ≡ true → HasRow rows folder name → HasRow (rows_of keeps rows) folder name
  has_row_kept rows folder name kept has =
      (has.0, row_kept rows has.0 has.1 ((λ i. keeps (has.2 i).0 (has.2 i).1) ∙ kept), has.2)

  pub has_row_was : (rows : List Row) (folder : Folder) (name : FileName) → HasRow (rows_of keeps rows) folder name → HasRow rows folder name × (keeps folder name ≡ true)
  has_row_was rows folder name has =
      let was = row_was rows has.0 has.1 in
      ((has.0, was.0, has.2), sym (λ i. keeps (has.2 i).0 (has.2 i).1) ∙ was.1)
