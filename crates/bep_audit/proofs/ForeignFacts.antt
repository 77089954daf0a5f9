-- What the reasons on foreign records ask of a device is what its views, what is on its way to it, and its pulls tell.
use Rattle.std.proofs.Common.{◌↔◌, Contains, Option, sym, subst, ◌∙◌, inl, inr, ⊎_elim}
use Rattle.std.specs.FinMap.{get}
use Rattle.bep_record.specs.declared.entry.Entry.{Entry}
use Rattle.bep_model.specs.declared.reason.Reason.TheVariants.{ViewAhead, FlightAhead, PullAhead}
use Rattle.bep_model.specs.declared.row.Row.{Row}
use Rattle.bep_model.specs.Reasons.{AsksShare}
use Rattle.bep_tables.specs.declared.share.Share.{Share}
use Rattle.bep_tables.specs.declared.cut.CutParts.{CutParts}
use Rattle.bep_tables.specs.Cut.{IsCut, shares_of, tables_of}
use Rattle.bep_audit.specs.inner.Foreign.{Passes, PassesIfThere, ViewsPass, LinkPasses, LinksPass}
use Rattle.bep_tables.specs.Laws.{CutSays}

module _ (said : CutSays) (cut : CutParts) (is_cut : IsCut cut) (row : Row) (share : Share) (member : Contains (shares_of row.folder cut.folders) share) where
  -- beside the device's own record
  by_tables : (entry : Entry) → Passes row (get share.own row.entry.name) entry → Passes row ((tables_of cut).own share.device row.folder row.entry.name) entry
  by_tables entry passes = subst (λ (own : Option Entry). Passes row own entry) (sym (said.own cut row.folder row.entry.name share is_cut member)) passes

  by_share : (entry : Entry) → Passes row ((tables_of cut).own share.device row.folder row.entry.name) entry → Passes row (get share.own row.entry.name) entry
  by_share entry passes = subst (λ (own : Option Entry). Passes row own entry) (said.own cut row.folder row.entry.name share is_cut member) passes

  pub views_asked : ViewsPass row (get share.own row.entry.name) share.views ↔ AsksShare (tables_of cut) ViewAhead row share.device
  views_asked = (
    λ pass entry viewed.
        let view = (said.viewed cut row.folder row.entry.name entry share is_cut member).0 viewed in
        by_tables entry (pass view.0 view.1 entry view.2),
    λ asked view stands entry is. by_share entry (asked entry ((said.viewed cut row.folder row.entry.name entry share is_cut member).1 (view, stands, is))),
  )

  pub flights_asked : LinksPass row (get share.own row.entry.name) share.device cut.links ↔ AsksShare (tables_of cut) FlightAhead row share.device
  unfolding LinkPasses
  flights_asked = (
    λ pass entry flying.
        let over = (said.flying cut share.device row.folder row.entry.name entry is_cut).0 flying in
        let has = over.4 in
        by_tables entry (⊎_elim
        (λ to_a. (pass over.0 over.2).0 to_a.0 over.1 to_a.1 has.0 entry has.1 has.2)
        (λ to_b. (pass over.0 over.2).1 to_b.0 over.1 to_b.1 has.0 entry has.1 has.2)
        over.3),
    λ asked link stands. (
      λ is flight sent same entry carried named. by_share entry (asked entry ((said.flying cut share.device row.folder row.entry.name entry is_cut).1 (link, flight, stands, inl (is, sent), (same, carried, named)))),
      λ is flight sent same entry carried named. by_share entry (asked entry ((said.flying cut share.device row.folder row.entry.name entry is_cut).1 (link, flight, stands, inr (is, sent), (same, carried, named)))),
    ),
  )

  pub pulls_asked : PassesIfThere row (get share.own row.entry.name) (get share.pulls row.entry.name) ↔ AsksShare (tables_of cut) PullAhead row share.device
  pulls_asked = (
    λ pass entry target. by_tables entry (pass entry (sym (said.target cut row.folder row.entry.name share is_cut member) ∙ target)),
    λ asked entry is. by_share entry (asked entry (said.target cut row.folder row.entry.name share is_cut member ∙ is)),
  )
