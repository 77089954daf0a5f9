-- Records that all repeat the top are in line, and equal versions have equal contents.
use Rattle.std.proofs.Common.{◌≡◌, List, Contains, Some, None, sym, ◌∙◌, inl}
use Rattle.bep_record.specs.declared.entry.Entry.{Entry}
use Rattle.bep_tables.specs.Listed.{Listed}
use Rattle.bep_converge_check.specs.inner.Alike.{RepeatsIfValid}
use Rattle.bep_converge_check.specs.inner.Line.{AreInLine, Agree}
use Rattle.bep_converge_check.specs.inner.Records.{valid_held, IsIn, IsTopIn}
use Rattle.bep_converge_check.proofs.KnownFacts.{through}

pub repeats_where_none : (top : Entry) (one : Listed) → None ≡ valid_held one.holding → RepeatsIfValid top one
unfolding RepeatsIfValid
repeats_where_none top one none entry is = let e : None ≡ Some entry = none ∙ is in absurd (cc)

module _ (group : List Listed) (top : Entry) (is_top : IsTopIn group top) (alike : (one : Listed) → Contains group one → RepeatsIfValid top one) where
  pub alike_in_line : AreInLine (IsIn group)
  unfolding RepeatsIfValid
  alike_in_line one other here there = inl (through one.version top.version other.version (is_top.1 one here) (alike there.0 there.1 other there.2).0)

  pub alike_agree : Agree (IsIn group)
  unfolding RepeatsIfValid
  alike_agree one other here there same = (alike here.0 here.1 one here.2).1 ∙ sym (alike there.0 there.1 other there.2).1
