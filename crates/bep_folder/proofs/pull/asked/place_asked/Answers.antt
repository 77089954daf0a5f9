use Rattle.std.proofs.Common.{◌≡◌, ◌∙◌}
use Rattle.bep_record.specs.Block.{block_size_of}
use Rattle.bep_folder.proofs.AskedFacts.{about_none}
use Rattle.bep_folder.proofs.pull.asked.place_asked.Goals as goal

pub returns-then-not-is_about_block_at-clause-none : goal.returns-then-not-is_about_block_at-clause-none
returns-then-not-is_about_block_at-clause-none c =
    let size : c.bytes.result ≡ block_size_of c.args.target.now.size = c.bytes.ensures.value ∙ c.block_size.ensures in
    about_none c.args.request.now c.args.target.now c.entry.ensures.well_formed
    (λ about. absurd (let yes = c.if-not-is_about_block_at.ensures.1 (rw (c.as_slice.ensures, c.entry.ensures.value, c.from.ensures, size) about) in cc))
