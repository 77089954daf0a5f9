use Rattle.std.proofs.Common.{◌∙◌, subst, sym, true≢false}
use Rattle.std.specs.Option.{option_copied}
use Rattle.bep_row.specs.Fits.{AreViewsFit}
use Rattle.bep_row.proofs.fits.is_share_fit.Goals as goal

pub returns-then-not-are_views_fit : goal.returns-then-not-are_views_fit
returns-then-not-are_views_fit c = (
  λ yes. absurd (true≢false (sym yes)),
  λ fit. absurd (true≢false (sym (c.are_views_fit.ensures.1 (subst (AreViewsFit c.args.row.now (option_copied c.args.cell)) (sym c.as_slice.ensures) fit.views)) ∙ c.if-not-are_views_fit.true)),
)
