-- Whether all of an index was sent, told by what stands behind the records that were.
use Rattle.std.proofs.Common.{◌≡◌, ◌≢◌, ◌<◌, ◌≤◌, ℕ, Bor, Bool, true, false, not, is_some, List, [], ◌∷◌, length, take, drop, slice_get, Option, Some, None, refl, sym, ap, subst, ◌∙◌, ⊎_elim, arith}
use Rattle.std.specs.Option.{option_copied}
use Rattle.std.proofs.lemmas.List.{drop_all, length-drop, length-take}
use Rattle.std.proofs.lemmas.Option.{slice_get_cases, slice_get_within}
use Rattle.bep_map.specs.NameMap.{ByName}
use Rattle.bep_record.specs.declared.entry.Entry.{Entry}
use Rattle.bep_index.specs.declared.limits.TheConstants.{MAX_RECORDS}
use Rattle.bep_index.specs.After.{IsAfter}

-- where nothing may be all that comes next, it is
none_comes : (records : ByName Entry) (sequence limit : ℕ) (found : List Entry) → 0 < limit → IsAfter records sequence limit [] → IsAfter records sequence limit found → found ≡ []
none_comes records sequence limit [] room none after = refl
none_comes records sequence limit (entry ∷ more) room none after =
    let late : entry.sequence ≤ sequence = none.ended room entry after.run.recorded.0 in
    let above : sequence < entry.sequence = after.run.rises.0 in
    absurd (omega arith)

past : (order : List Entry) (place : ℕ) → slice_get order place ≡ None → length order ≤ place
past order place none = ⊎_elim (λ there. let some = there.2 in let both : None ≡ Some there.0 = sym none ∙ some in absurd (cc)) (λ behind. behind.0) (slice_get_cases order place).1

module _ (records : ByName Entry) (sequence place : ℕ) (order : List Entry) (after : IsAfter records sequence MAX_RECORDS (take MAX_RECORDS (drop place order))) where
  -- nothing stands there, so nothing comes next
  pub nothing_left : slice_get order place ≡ None → IsAfter records sequence MAX_RECORDS []
  nothing_left none = subst (λ (rest : List Entry). IsAfter records sequence MAX_RECORDS (take MAX_RECORDS rest)) (drop_all place order (past order place none)) after

  -- a record stands there, so some come next
  pub something_left : (entry : Entry) → slice_get order place ≡ Some entry → (batch : List Entry) → IsAfter records sequence MAX_RECORDS batch → batch ≢ []
  something_left entry some batch is none =
      let within : place < length order = slice_get_within order place entry some in
      let empty = none_comes records sequence MAX_RECORDS (take MAX_RECORDS (drop place order)) (omega arith) (subst (IsAfter records sequence MAX_RECORDS) none is) after in
      let long : length (take MAX_RECORDS (drop place order)) ≡ 0 = ap length empty in
      let taken = length-take MAX_RECORDS (drop place order) in
      let dropped = length-drop place order in
      absurd (omega arith)

-- ---- whether a record is lent

pub copied_none : (lent : Option (Bor Entry)) (none : Bool) → is_some lent ≡ not none → none ≡ true → option_copied lent ≡ None
copied_none None none tells is = refl
copied_none (Some one) none tells is = let lost = tells ∙ ap not is in absurd (cc)

pub copied_some : (lent : Option (Bor Entry)) (none : Bool) → is_some lent ≡ not none → none ≡ false → (entry : Entry) × (option_copied lent ≡ Some entry)
copied_some None none tells is = let found = tells ∙ ap not is in absurd (cc)
copied_some (Some one) none tells is = (one.now, refl)
