use Rattle.std.proofs.Common.{◌≡◌, ◌<◌, ◌≤◌, List, [], ◌∷◌, length, get_or, map, nat_eq, sym, ◌∙◌, ap, refl, arith}
use Rattle.std.specs.Cmp.Lexicographic.{same_text}
use lib.Pointwise.{pointwise}
use Rattle.bep_record.specs.declared.block.Block.{Block}
use Rattle.bep_record.specs.declared.limits.TheConstants.{HASH_OF_NOTHING}
use Rattle.bep_record.proofs.entry.is_empty_block.Goals as goal

map-one : (blocks : List Block) (d : Block) → 1 ≤ length blocks → length blocks < 2 → map (λ b. b.hash) blocks ≡ (get_or blocks 0 d).hash ∷ []
map-one [] d some few = absurd (omega arith)
map-one (b ∷ []) d some few = refl
map-one (b ∷ c ∷ bs) d some few = absurd (omega arith)

pub returns-in-len1 : goal.returns-in-len1
returns-in-len1 c =
    let one = map-one c.args.blocks.now _ c.in-len1.len_at_least c.in-len1.len_below in (
      λ h. one ∙ ap (λ hash. hash ∷ []) (same_text _ _ (sym h ∙ c.eq.ensures)),
      λ h. let same : (get_or c.args.blocks.now 0 (record { offset = 0; size = 0; hash = [] })).hash ≡ HASH_OF_NOTHING = cc in c.eq.ensures ∙ ap (λ hash. pointwise nat_eq hash HASH_OF_NOTHING) same,
    )
