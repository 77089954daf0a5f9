use Rattle.std.proofs.Common.{◌∙◌, subst, sym, true≢false}
use Rattle.bep_row.specs.Fits.{AreNamed, AreSharesFit}
use Rattle.bep_row.proofs.fits.row_fits.Goals as goal

pub returns-then-not-header_fits : goal.returns-then-not-header_fits
returns-then-not-header_fits c = (
  λ yes. absurd (true≢false (sym yes)),
  λ fit. absurd (true≢false (sym (c.header_fits.ensures.1 fit.quiet) ∙ c.if-not-header_fits.true)),
)

pub returns-then-not-are_named : goal.returns-then-not-are_named
returns-then-not-are_named c = (
  λ yes. absurd (true≢false (sym yes)),
  λ fit. absurd (true≢false (sym (c.are_named.ensures.1 (subst (AreNamed c.args.row.now.name) (sym c.as_slice.ensures) fit.named)) ∙ c.if-not-are_named.true)),
)

pub returns : goal.returns
returns c = (
  λ yes. record {
    quiet = c.header_fits.ensures.0 c.if-not-header_fits.false;
    named = subst (AreNamed c.args.row.now.name) c.as_slice.ensures (c.are_named.ensures.0 c.if-not-are_named.false);
    shares = subst (AreSharesFit c.args.row.now) c.shares.ensures.value (c.are_shares_fit.ensures.0 yes);
  },
  λ fit. c.are_shares_fit.ensures.1 (subst (AreSharesFit c.args.row.now) (sym c.shares.ensures.value) fit.shares),
)
