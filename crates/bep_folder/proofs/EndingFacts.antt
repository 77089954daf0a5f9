-- What is known of a pull at its end.
use Rattle.std.proofs.Common.{◌≡◌, ℕ, Bool, true, false, List, [], ◌∷◌, Option, Some, None, Contains, refl, arith}
use Rattle.bep_record.specs.declared.block.Block.{Block}
use Rattle.bep_record.specs.declared.kind.Kind.{Kind}
use Rattle.bep_record.specs.declared.kind.Kind.TheVariants.{File, Directory, Symlink}
use Rattle.bep_record.specs.declared.node.NodeParts.{NodeParts}
use Rattle.bep_record.specs.Entry.{HasBody, IsWellFormed}
use Rattle.bep_machine.specs.Replica.{Pull}
use Rattle.bep_machine.specs.Pull.{IsFile, IsMissingBlocks, written}
use Rattle.bep_machine.specs.Sound.{AreReceived}
use Rattle.bep_folder.specs.Pull.{IsPull}

-- a record without blocks misses none
none_missing : (blocks : List Block) (received : List (Option (List ℕ))) → blocks ≡ [] → AreReceived blocks received → ¬ Contains received None
none_missing [] [] none all missing = absurd (omega arith)
none_missing [] (one ∷ more) none all missing = all
none_missing (block ∷ blocks) received none all missing = absurd (cc)

-- a pull that is complete where its target is a file misses nothing
pub misses_nothing : (pull : Pull) → IsWellFormed pull.target → IsPull pull → (IsFile pull.target → ¬ IsMissingBlocks pull) → ¬ IsMissingBlocks pull
misses_nothing pull formed sound complete missing = by_kind pull.target.deleted pull.target.kind refl refl formed.body where
  by_kind : (deleted : Bool) (kind : Kind) → pull.target.deleted ≡ deleted → pull.target.kind ≡ kind → HasBody deleted kind pull.target → ⊥
  by_kind true kind was is body = none_missing _ _ body.0.blocks sound.received missing
  by_kind false File was is body = complete (was, is) missing
  by_kind false Directory was is body = none_missing _ _ body.0.blocks sound.received missing
  by_kind false Symlink was is body = none_missing _ _ body.0.blocks sound.received missing

-- what is written stays, so the target isn't deleted
pub written_stays : (pull : Pull) (node : NodeParts) → Some node ≡ written pull → pull.target.deleted ≡ false
written_stays pull node is = by_mark pull.target.deleted refl where
  by_mark : (deleted : Bool) → pull.target.deleted ≡ deleted → pull.target.deleted ≡ false
  by_mark false was = was
  by_mark true was = absurd (cc)
