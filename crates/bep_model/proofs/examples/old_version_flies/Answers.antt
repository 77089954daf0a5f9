use Rattle.std.proofs.Common.{◌≡◌, false, [], ◌∷◌, Contains, Some, None, refl, sym, subst, inr, arith}
use Rattle.std.proofs.lemmas.Bool.Decides.{nat_tests}
use Rattle.bep_facts.specs.Members.{Contains-first, Contains-one}
use Rattle.bep_record.specs.declared.entry.Entry.{Entry}
use Rattle.bep_record.specs.Content.{Deleted, content_of}
use Rattle.bep_record.specs.declared.folder_kind.FolderKind.TheVariants.{SendReceive}
use Rattle.bep_model.specs.declared.row.Row.{Row}
use Rattle.bep_model.specs.Tables.{Tables}
use Rattle.bep_model.specs.declared.flight.Flight.{Flight}
use Rattle.bep_model.specs.Foreign.{IsFlying}
use Rattle.bep_model.specs.Reasons.{AsksHarmless}
use Rattle.bep_model.specs.Examples.{folder_f, name_a, by_one, twice_by_one, deletion, link, old_link_flies, row_of}
use Rattle.bep_model.proofs.TwoDevices.{one_shares, two_shares}
use Rattle.bep_model.proofs.examples.old_version_flies.Goals as goal

abbrev row : Row
row = row_of 1 (deletion twice_by_one)

abbrev flight : Flight
flight = record { folder = folder_f; full = false; records = link 1 98 by_one ∷ [] }

abbrev cut : Tables
cut = old_link_flies (Some (deletion twice_by_one))

link_is_harmless : AsksHarmless cut row 2 (link 1 98 by_one)
link_is_harmless valid = inr (λ id. grind (arith, nat_tests), λ all. let back = all 1 in omega (arith, back))

pub returns-clause-to_a_device_with_the_deletion : goal.returns-clause-to_a_device_with_the_deletion
returns-clause-to_a_device_with_the_deletion c = λ other member key shares entry flying.
    let carried = subst (λ (f : Flight). Contains f.records entry) (sym (Contains-one flight flying.flight flying.sent)) flying.carried in
    let it_is : link 1 98 by_one ≡ entry = Contains-one (link 1 98 by_one) entry carried in
    subst (λ (r : Row). AsksHarmless cut r 2 entry) (Contains-one row other member)
    (subst (λ (e : Entry). AsksHarmless cut row 2 e) it_is link_is_harmless)

pub returns-clause-to_a_device_without_a_record : goal.returns-clause-to_a_device_without_a_record
returns-clause-to_a_device_without_a_record c = λ asks.
    let flying : IsFlying (old_link_flies None) 2 folder_f name_a (link 1 98 by_one) = record {
      sender = 1;
      shares = (SendReceive, one_shares SendReceive);
      flight = flight;
      sent = Contains-first flight [];
      same_folder = refl;
      carried = Contains-first (link 1 98 by_one) [];
      same_name = refl;
    } in
    let harmless : content_of (link 1 98 by_one) ≡ Deleted = asks row (Contains-first row []) refl (SendReceive, two_shares SendReceive) (link 1 98 by_one) flying refl in
    cc
