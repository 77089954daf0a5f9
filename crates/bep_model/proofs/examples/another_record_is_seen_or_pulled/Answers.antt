use Rattle.std.proofs.Common.{◌≡◌, [], Some, refl, subst, inr, ⊎_elim, arith}
use Rattle.std.proofs.lemmas.Bool.Decides.{nat_tests}
use Rattle.bep_facts.specs.Members.{Contains-first, Contains-one}
use Rattle.bep_record.specs.declared.entry.Entry.{Entry}
use Rattle.bep_record.specs.declared.folder_kind.FolderKind.TheVariants.{SendReceive}
use Rattle.bep_record.specs.Content.{Deleted}
use Rattle.bep_model.specs.declared.row.Row.{Row}
use Rattle.bep_model.specs.declared.reason.Reason.TheVariants.{ViewAhead, PullAhead}
use Rattle.bep_model.specs.Foreign.{IsHarmless}
use Rattle.bep_model.specs.Reasons.{AsksHarmless, AsksShare}
use Rattle.bep_model.specs.Examples.{by_one, by_two, twice_by_one, deletion, link, deletion_viewing, deletion_pulling, row_of}
use Rattle.bep_model.proofs.TwoDevices.{two_shares}
use Rattle.bep_model.proofs.examples.another_record_is_seen_or_pulled.Goals as goal

abbrev row : Row
row = row_of 1 (deletion twice_by_one)

abbrev older : Entry
older = link 1 98 by_one

abbrev concurrent : Entry
concurrent = link 2 98 by_two

older_is_harmless : IsHarmless (Some (deletion twice_by_one)) Deleted older
older_is_harmless = inr (λ id. grind (arith, nat_tests), λ all. let back = all 1 in omega (arith, back))

concurrent_is_harmful : ¬ IsHarmless (Some (deletion twice_by_one)) Deleted concurrent
concurrent_is_harmful harmless = ⊎_elim (λ same. cc) (λ below. let here = below.0 2 in omega (arith, here)) harmless

same_entry : (one other : Entry) → Some one ≡ Some other → one ≡ other
same_entry one other e = cc

pub returns-clause-older_in_a_view : goal.returns-clause-older_in_a_view
returns-clause-older_in_a_view c = λ other member key shares.
    subst (λ (r : Row). AsksShare (deletion_viewing older) ViewAhead r 2) (Contains-one row other member)
    (λ entry viewed. subst (λ (e : Entry). AsksHarmless (deletion_viewing older) row 2 e) (same_entry older entry viewed.1) (λ valid. older_is_harmless))

pub returns-clause-concurrent_in_a_view : goal.returns-clause-concurrent_in_a_view
returns-clause-concurrent_in_a_view c = λ asks.
    concurrent_is_harmful (asks row (Contains-first row []) refl (SendReceive, two_shares SendReceive) concurrent (1, refl) refl)

pub returns-clause-older_as_target : goal.returns-clause-older_as_target
returns-clause-older_as_target c = λ other member key shares.
    subst (λ (r : Row). AsksShare (deletion_pulling older) PullAhead r 2) (Contains-one row other member)
    (λ entry target. subst (λ (e : Entry). AsksHarmless (deletion_pulling older) row 2 e) (same_entry older entry target) (λ valid. older_is_harmless))

pub returns-clause-concurrent_as_target : goal.returns-clause-concurrent_as_target
returns-clause-concurrent_as_target c = λ asks.
    concurrent_is_harmful (asks row (Contains-first row []) refl (SendReceive, two_shares SendReceive) concurrent refl refl)
