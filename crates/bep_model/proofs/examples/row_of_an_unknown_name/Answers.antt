use Rattle.std.proofs.Common.{◌==◌, Bool, true, false, cond, [], Option, None, IsSome, refl, ⊎_elim}
use Rattle.bep_facts.specs.Members.{not_in_none, Contains-first}
use Rattle.bep_record.specs.declared.entry.Entry.{Entry}
use Rattle.bep_record.specs.declared.folder_kind.FolderKind.TheVariants.{SendReceive}
use Rattle.bep_model.specs.Tables.{Tables}
use Rattle.bep_model.specs.Foreign.{IsKnown}
use Rattle.bep_model.specs.Examples.{folder_f, name_a, by_one, deletion, two_devices, row_of}
use Rattle.bep_model.proofs.examples.row_of_an_unknown_name.Goals as goal

abbrev nothing_recorded : Tables
nothing_recorded = two_devices SendReceive None None

neither : (first : Bool) → ¬ IsSome (cond {A = Option Entry} first None None)
neither true some = cc
neither false some = cc

nobody_knows : ¬ IsKnown nothing_recorded folder_f name_a
nobody_knows known =
    ⊎_elim
    (λ node. cc)
    (λ others.
    ⊎_elim
    (λ own. neither (known.0 == 1) own)
    (λ foreign.
    ⊎_elim
    (λ viewed. let e = viewed.1 in cc)
    (λ more. ⊎_elim (λ flying. not_in_none flying.flight flying.sent) (λ target. cc) more)
    foreign.1.known_by)
    others)
    known.2

pub returns-clause-unknown : goal.returns-clause-unknown
returns-clause-unknown c = λ asks. nobody_knows (asks (row_of 1 (deletion by_one), Contains-first _ [], refl))
