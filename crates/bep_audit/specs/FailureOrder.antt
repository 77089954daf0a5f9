-- The order of failures: by reason, then by folder, name and device. Only equal failures tie.
use Rattle.std.specs.declared.cmp.Ordering.{Ordering}
use Rattle.std.specs.Cmp.{IsTotalOrder, nat_cmp_total}
use Rattle.std.specs.Cmp.Lexicographic.{nat_list_cmp_total}
use Rattle.std.proofs.lemmas.Cmp.{then_total, on_total}
use Rattle.bep_model.specs.Reasons.{Place, place_cmp, device_rank}
use Rattle.bep_model.specs.Verdict.{number_of}
use Rattle.bep_audit.specs.declared.failure.Failure as lends
use Rattle.bep_audit.specs.Walk.{Failure, failure_cmp, failure_shown}

pub place_total : IsTotalOrder place_cmp
place_total =
    then_total (on_total (λ (place : Place). place.folder) nat_list_cmp_total)
    (then_total (on_total (λ (place : Place). place.name) nat_list_cmp_total)
    (on_total (λ (place : Place). device_rank place.device) nat_cmp_total))

pub failure_total : IsTotalOrder failure_cmp
failure_total = then_total (on_total (λ (one : Failure). number_of one.reason) nat_cmp_total) (on_total (λ (one : Failure). one.place) place_total)

-- the order of failures whose names are lent
abbrev pub lent_cmp : lends.Failure → lends.Failure → Ordering
lent_cmp one other = failure_cmp (failure_shown one) (failure_shown other)

pub lent_total : IsTotalOrder lent_cmp
lent_total = on_total failure_shown failure_total
