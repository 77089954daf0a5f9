-- The order of what keeps a settled cut from being firm: by reason, then by folder, name and device. Only equal ones tie.
use Rattle.std.specs.declared.cmp.Ordering.{Ordering}
use Rattle.std.specs.Cmp.{IsTotalOrder, nat_cmp_total}
use Rattle.std.proofs.lemmas.Cmp.{then_total, on_total}
use Rattle.bep_model.specs.FirmVerdict.{firm_number_of}
use Rattle.bep_audit.specs.FailureOrder.{place_total}
use Rattle.bep_audit.specs.declared.loose.Looseness as lends
use Rattle.bep_audit.specs.Loose.{Loosening, loose_cmp, loose_shown}

pub loose_total : IsTotalOrder loose_cmp
loose_total = then_total (on_total (λ (one : Loosening). firm_number_of one.reason) nat_cmp_total) (on_total (λ (one : Loosening). one.place) place_total)

-- the order of those whose names are lent
abbrev pub loose_lent_cmp : lends.Looseness → lends.Looseness → Ordering
loose_lent_cmp one other = loose_cmp (loose_shown one) (loose_shown other)

pub loose_lent_total : IsTotalOrder loose_lent_cmp
loose_lent_total = on_total loose_shown loose_total
