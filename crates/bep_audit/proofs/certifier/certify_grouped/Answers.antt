use Rattle.std.proofs.Common.{List, map, sym, subst, arith}
use Rattle.bep_model.specs.Tables.{Folder, FileName}
use Rattle.bep_model.specs.WithoutWinner.{IsFirstWithoutWinner}
use Rattle.bep_tables.specs.Cut.{tables_of}
use Rattle.bep_audit.specs.declared.spot.Spot.{Spot}
use Rattle.bep_audit.specs.Certifier.{AreWinners}
use Rattle.bep_audit.specs.Shown.{place_shown}
use Rattle.bep_audit.proofs.CertifierFacts.{settled_if_any, never_settled}
use Rattle.bep_audit.proofs.WonWalk.{all_won_lent, first_unwon_lent}
use Rattle.bep_audit.proofs.certifier.certify_grouped.Goals as goal

pub returns-in-empty-clause-winners : goal.returns-in-empty-clause-winners
returns-in-empty-clause-winners c =
    let t = tables_of c.args.cut.now in
    all_won_lent t c.in_ok-certificate.certificate c.as_slice.result.now c.in-empty.len_below
    (subst (λ (lent : List Spot). AreWinners t c.in_ok-certificate.certificate (map place_shown lent)) (sym c.as_slice.ensures.value) c.in_ok-certificate.ensures)

pub returns-in-empty-clause-settled_if_any : goal.returns-in-empty-clause-settled_if_any
returns-in-empty-clause-settled_if_any c =
    settled_if_any c.certificate_is_unique.ensures.winners c.certificate_is_unique.ensures.one_list (tables_of c.args.cut.now) c.in_ok-certificate.certificate (returns-in-empty-clause-winners c)

pub returns-in_ok-name-in-len1-up-clause-no_winner : goal.returns-in_ok-name-in-len1-up-clause-no_winner
returns-in_ok-name-in-len1-up-clause-no_winner c =
    let t = tables_of c.args.cut.now in
    let some = c.in-len1-up.len_at_least in
    let folder = c.in_ok-folder-in-len1-up.ensures in
    let name = c.in_ok-name-in-len1-up.ensures in
    subst (λ (k : Folder × FileName). IsFirstWithoutWinner t k.0 k.1) (λ i. (sym folder i, sym name i))
    (first_unwon_lent t c.in_ok-certificate.certificate c.as_slice.result.now c.first-item.result (omega (arith, some)) c.first-item.is
    (subst (λ (lent : List Spot). AreWinners t c.in_ok-certificate.certificate (map place_shown lent)) (sym c.as_slice.ensures.value) c.in_ok-certificate.ensures))

pub returns-in_ok-name-in-len1-up-clause-never_settled : goal.returns-in_ok-name-in-len1-up-clause-never_settled
returns-in_ok-name-in-len1-up-clause-never_settled c =
    never_settled c.certificate_is_unique.ensures.winners c.winners_or_first_without.ensures.not_both (tables_of c.args.cut.now) c.in_ok-folder-in-len1-up.folder c.in_ok-name-in-len1-up.name
    (returns-in_ok-name-in-len1-up-clause-no_winner c)
