use Rattle.std.proofs.Common.{◌↔◌, IsTrue, ap, subst}
use Rattle.std.specs.Option.{option_copied}
use Rattle.bep_record.specs.declared.entry.Entry.{Entry}
use Rattle.bep_row.specs.Fits.{IsNumbered}
use Rattle.bep_row.proofs.Found.{for_one}
use Rattle.bep_row.proofs.fits.is_numbered_to.Goals as goal

pub returns-in-Some : goal.returns-in-Some
returns-in-Some c =
    for_one (λ (entry : Entry). IsNumbered c.args.greatest entry.sequence) c.is_numbered.result (option_copied c.args.found) c.in-Some.record.now (ap option_copied c.in-Some.is)
    (subst (λ (entry : Entry). IsTrue c.is_numbered.result ↔ IsNumbered c.args.greatest entry.sequence) c.entry.ensures.value c.is_numbered.ensures)
