-- The order of what keeps a cut from converging: by reason, then by folder, name and device. Only equal ones tie.
use Rattle.std.specs.declared.cmp.Ordering.{Ordering}
use Rattle.std.specs.Cmp.{IsTotalOrder, nat_cmp_total}
use Rattle.std.proofs.lemmas.Cmp.{then_total, on_total}
use Rattle.bep_audit.specs.FailureOrder.{place_total}
use Rattle.bep_converge.specs.ConvergeReasons.{converge_number_of}
use Rattle.bep_converge_check.specs.declared.hindrance.Hindrance as lent
use Rattle.bep_converge_check.specs.Hindrance.{Hinder, hinder_cmp, hinder_shown}

pub hinder_total : IsTotalOrder hinder_cmp
hinder_total = then_total (on_total (λ (one : Hinder). converge_number_of one.reason) nat_cmp_total) (on_total (λ (one : Hinder). one.place) place_total)

-- the order of those whose names are lent
abbrev pub hinder_lent_cmp : lent.Hindrance → lent.Hindrance → Ordering
hinder_lent_cmp one other = hinder_cmp (hinder_shown one) (hinder_shown other)

pub hinder_lent_total : IsTotalOrder hinder_lent_cmp
hinder_lent_total = on_total hinder_shown hinder_total
