-- What is on its way in the cut that a document writes down, from what the document lists.
use Rattle.std.proofs.Common.{◌≡◌, List, [], map, Option, Some, None, Contains, option_map, unwrap_or, inl, inr, refl, ap, ◌∙◌, ◌++◌, append-nil, arith}
use Rattle.bep_model.specs.Tables.{Device}
use Rattle.bep_model.specs.declared.flight.Flight.{Flight}
use Rattle.bep_document.specs.declared.parts.LinkParts.{LinkParts}
use Rattle.bep_document.specs.declared.parts.CheckParts.{CheckParts}
use Rattle.bep_tables.specs.declared.link.LinkState.{LinkState}
use Rattle.bep_tables.specs.declared.cut.CutParts.{CutParts}
use Rattle.bep_cut_document.specs.AsWritten.{FlyingIsAsWritten, UnlinkedIsQuiet}
use Rattle.bep_tables.specs.Cut.{IsCut, link_of, tables_of}
use Rattle.bep_cut_document.specs.Written.{by_ends, flight_written, link_written, cut_written}
use Rattle.bep_tables.proofs.Tables.{is_link, link_has_ends, link_is_found}
use Rattle.bep_cut_document.proofs.WrittenFacts.{from_part, part_there}
use Rattle.bep_cut_document.proofs.CutWritten.{CutIsWritten}

-- no link joins the two ends of a link the other way round
no_link_back : (cut : CutParts) (link : LinkState) → IsCut cut → Contains cut.links link → link_of link.b link.a cut.links ≡ None
no_link_back cut link is_cut h = cases (link_of link.b link.a cut.links) refl where
  cases : (found : Option LinkState) → link_of link.b link.a cut.links ≡ found → link_of link.b link.a cut.links ≡ None
  cases None e = e
  cases (Some back) e =
      let ends = link_has_ends link.b link.a cut.links back e in
      let rise = (is_link cut link is_cut h).ends in
      let back_rise = (is_link cut back is_cut ends.0).ends in
      let from = ends.1 in
      let to = ends.2 in
      absurd (omega arith)

-- what a link carries, none where there is no link
abbrev to_a_of : Option LinkState → List Flight
to_a_of found = unwrap_or (option_map (λ (link : LinkState). link.to_a) found) []

abbrev to_b_of : Option LinkState → List Flight
to_b_of found = unwrap_or (option_map (λ (link : LinkState). link.to_b) found) []

pub flying_is_as_written : CutIsWritten → FlyingIsAsWritten
unfolding tables_of
flying_is_as_written is_cut parts link faultless h =
    let cut = cut_written parts.folders parts.links in
    let made = link_written link in
    let there = part_there by_ends link_written parts.links link h in
    let found = link_is_found cut made (is_cut parts faultless) there in
    let back = no_link_back cut made (is_cut parts faultless) there in (
      (λ i. to_b_of (found i) ++ to_a_of (back i)) ∙ append-nil (map flight_written link.to_b),
      (λ i. to_b_of (back i) ++ to_a_of (found i)),
    )

-- no link is found for two devices that none joins
none_joins : (parts : CheckParts) (one other : Device) → ((link : LinkParts) → Contains parts.links link → (link.a ≡ one) × (link.b ≡ other) → ⊥) → link_of one other (cut_written parts.folders parts.links).links ≡ None
none_joins parts one other apart = cases (link_of one other (cut_written parts.folders parts.links).links) refl where
  cases : (found : Option LinkState) → link_of one other (cut_written parts.folders parts.links).links ≡ found → link_of one other (cut_written parts.folders parts.links).links ≡ None
  cases None e = e
  cases (Some held) e =
      let ends = link_has_ends one other (cut_written parts.folders parts.links).links held e in
      let part = from_part by_ends link_written parts.links held ends.0 in
      absurd (apart part.0 part.1 (ap (λ (link : LinkState). link.a) part.2 ∙ ends.1, ap (λ (link : LinkState). link.b) part.2 ∙ ends.2))

pub unlinked_is_quiet : UnlinkedIsQuiet
unfolding tables_of
unlinked_is_quiet parts from to faultless apart =
    let there = none_joins parts from to (λ link h ends. apart link h (inl ends)) in
    let back = none_joins parts to from (λ link h ends. apart link h (inr ends)) in
    λ i. to_b_of (there i) ++ to_a_of (back i)
