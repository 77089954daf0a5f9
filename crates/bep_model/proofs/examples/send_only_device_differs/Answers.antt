use Rattle.std.proofs.Common.{◌≡◌, ℕ, [], ◌∷◌, refl, arith}
use Rattle.bep_facts.specs.Members.{Contains-first}
use Rattle.bep_record.specs.declared.folder_kind.FolderKind.TheVariants.{SendOnly}
use Rattle.bep_record.specs.Content.{Symlink}
use Rattle.bep_model.specs.Examples.{link, row_of, by_one, twice_by_one}
use Rattle.bep_model.proofs.TwoDevices.{two_shares}
use Rattle.bep_model.proofs.examples.send_only_device_differs.Goals as goal

other_target : ¬ (Symlink (99 ∷ []) ≡ Symlink (98 ∷ []))
other_target e = let same : ◌≡◌ {A = ℕ} 99 98 = cc in omega (arith, same)

pub returns-clause-another_content : goal.returns-clause-another_content
returns-clause-another_content c = λ asks.
    other_target
    (asks (row_of 1 (link 1 98 twice_by_one)) (Contains-first _ []) refl
    (SendOnly, two_shares SendOnly)
    (link 1 99 by_one) refl refl)

pub returns-clause-empty_store : goal.returns-clause-empty_store
returns-clause-empty_store c = λ asks.
    let same =
    asks (row_of 1 (link 1 98 twice_by_one)) (Contains-first _ []) refl
    (SendOnly, two_shares SendOnly) in
    cc
