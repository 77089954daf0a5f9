use Rattle.std.proofs.Common.{◌≤◌, subst}
use Rattle.bep_record.specs.declared.limits.TheConstants.{MAX_BLOCK_SIZE}
use Rattle.bep_record.specs.Block.{base_block_size}
use Rattle.bep_record.proofs.BlockSizeFacts.{is_bounded}
use Rattle.bep_record.proofs.block.BlockSize.bytes.Goals as goal

pub returns-clause-least : goal.returns-clause-least
returns-clause-least c = subst (λ size. base_block_size ≤ size) c.self.view_is (is_bounded c.self.inside.bytes c.self.invariant).0

pub returns-clause-most : goal.returns-clause-most
returns-clause-most c = subst (λ size. size ≤ MAX_BLOCK_SIZE) c.self.view_is (is_bounded c.self.inside.bytes c.self.invariant).1
