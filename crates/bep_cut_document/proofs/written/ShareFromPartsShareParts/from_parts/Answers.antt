use Rattle.std.proofs.Common.{sym, subst}
use Rattle.std.specs.List.{AllByRecursion}
use Rattle.bep_document.specs.declared.parts.ViewParts.{ViewParts}
use Rattle.bep_document.specs.Faultless.{IsFaultlessIndex}
use Rattle.bep_cut_document.specs.Written.{has_point}
use Rattle.bep_tables.specs.Kept.{all_kept}
use Rattle.bep_cut_document.proofs.written.ShareFromPartsShareParts.from_parts.Goals as goal

pub all_in_order-requires : goal.all_in_order-requires
all_in_order-requires c =
    subst (AllByRecursion (λ (view : ViewParts). IsFaultlessIndex view.max view.records)) (sym c.known_views.ensures)
    (all_kept has_point (λ (view : ViewParts). IsFaultlessIndex view.max view.records) c.args.share.views c.requires.views)
