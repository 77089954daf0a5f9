use Rattle.std.proofs.Common.{◌↔◌, List, Contains, map, sym, subst}
use Rattle.std.specs.List.Sorted.{IsSorted}
use Rattle.bep_record.specs.declared.entry.Entry.{Entry}
use Rattle.bep_tables.specs.Listed.{listed}
use Rattle.bep_converge_check.specs.declared.weight.Weighed.{Weighed}
use Rattle.bep_converge_check.specs.inner.Records.{IsIn}
use Rattle.bep_converge_check.specs.inner.Weight.{record_of, weighed_cmp}
use Rattle.bep_converge_check.proofs.NameSays.{in_line_as, agree_as}
use Rattle.bep_converge_check.proofs.all_at.WholeName.of.Goals as goal

pub are_in_line-requires : goal.are_in_line-requires
are_in_line-requires c = subst (IsSorted weighed_cmp) (sym c.as_slice-sorted.ensures.value) c.in_ok-records.ensures.sorted

pub agree-requires : goal.agree-requires
agree-requires c = subst (IsSorted weighed_cmp) (sym c.as_slice-sorted.ensures.value) c.in_ok-records.ensures.sorted

pub returns-clause-in_line : goal.returns-clause-in_line
returns-clause-in_line c =
    let group = map listed c.args.group.now in
    let same = subst (λ (all : List Weighed). (entry : Entry) → Contains (map record_of all) entry ↔ IsIn group entry) (sym c.as_slice-sorted.ensures.value) c.in_ok-records.ensures.same in
    let line = in_line_as (Contains (map record_of c.as_slice-sorted.result.now)) (IsIn group) same in
    (λ is. line.0 (c.are_in_line.ensures.0 is), λ all. c.are_in_line.ensures.1 (line.1 all))

pub returns-clause-agree : goal.returns-clause-agree
returns-clause-agree c =
    let group = map listed c.args.group.now in
    let same = subst (λ (all : List Weighed). (entry : Entry) → Contains (map record_of all) entry ↔ IsIn group entry) (sym c.as_slice-sorted.ensures.value) c.in_ok-records.ensures.same in
    let both = agree_as (Contains (map record_of c.as_slice-sorted.result.now)) (IsIn group) same in
    (λ is. both.0 (c.agree.ensures.0 is), λ all. c.agree.ensures.1 (both.1 all))
