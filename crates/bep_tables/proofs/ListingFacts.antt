-- What groups took, one part of a cut after the other.
use Rattle.std.proofs.Common.{◌≡◌, ◌<◌, ◌∙◌, ◌+◌, ◌++◌, ℕ, List, [], ◌∷◌, length, get_or, take, flat_map, sym, ap, subst}
use Rattle.std.proofs.lemmas.Grind.{flat_map-append}
use Rattle.std.proofs.lemmas.List.{append_assoc, append-nil}
use Rattle.bep_facts.specs.Places.{done_with}
use Rattle.bep_model.specs.Tables.{Folder}
use Rattle.bep_tables.specs.declared.share.Share.{Share}
use Rattle.bep_tables.specs.declared.link.LinkState.{LinkState}
use Rattle.bep_tables.specs.declared.cut.CutParts.{CutParts}
use Rattle.bep_tables.specs.declared.table.entry.Source.TheVariants.{Own, Pull}
use Rattle.bep_tables.specs.Listed.{Listed, records_listed, nodes_listed, views_listed, share_listed, folder_listed, flight_listed, link_listed, cut_listed}
use Rattle.bep_tables.specs.inner.Groups.{Counted, Filled, Grouping, Took}

pub took_none : (all : Grouping) → Took [] all all
took_none all = record {
  counted = λ seen was. subst (λ (l : List Listed). Counted l all) (sym (append-nil seen)) was;
  filled = λ every seen rest split was. subst (λ (l : List Listed). Filled every l all) (sym (append-nil seen)) was;
}

-- first these, and then those
pub took_both : (some more : List Listed) {first then last : Grouping} → Took some first then → Took more then last → Took (some ++ more) first last
took_both some more {first} {then} {last} one other = record {
  counted = λ seen was. subst (λ (l : List Listed). Counted l last) (append_assoc seen some more) (other.counted (seen ++ some) (one.counted seen was));
  filled = λ every seen rest split was.
      let behind : every ≡ ((seen ++ some) ++ more) ++ rest = split ∙ ap (λ (l : List Listed). l ++ rest) (sym (append_assoc seen some more)) in
      subst (λ (l : List Listed). Filled every l last) (append_assoc seen some more)
      (other.filled every (seen ++ some) rest behind (one.filled every seen (more ++ rest) (behind ∙ append_assoc (seen ++ some) more rest) was));
}

-- what is listed of the elements before a place, with what the one there gives
pub took_next : {X : Type 0} (f : X → List Listed) (xs : List X) (place : ℕ) (x : X) {first then last : Grouping} → place < length xs → x ≡ get_or xs place x →
    Took (flat_map f (take place xs)) first then → Took (f x) then last → Took (flat_map f (take (place + 1) xs)) first last
took_next {X} f xs place x {first} {then} {last} below is was made = subst (λ (l : List Listed). Took l first last) (sym next) (took_both (flat_map f (take place xs)) (f x) was made)
  where
    next : flat_map f (take (place + 1) xs) ≡ flat_map f (take place xs) ++ f x
    next =
        ap (flat_map f) (done_with xs place x below is)
        ∙ flat_map-append f (take place xs) (x ∷ [])
        ∙ ap (λ (ys : List Listed). flat_map f (take place xs) ++ ys) (append-nil (f x))

pub took_cut : (cut : CutParts) {first then last : Grouping} → Took (flat_map folder_listed cut.folders) first then → Took (flat_map link_listed cut.links) then last → Took (cut_listed cut) first last
unfolding cut_listed
took_cut cut folders links = took_both (flat_map folder_listed cut.folders) (flat_map link_listed cut.links) folders links

pub took_link : (link : LinkState) {first then last : Grouping} → Took (flat_map (flight_listed link.a) link.to_a) first then → Took (flat_map (flight_listed link.b) link.to_b) then last → Took (link_listed link) first last
unfolding link_listed
took_link link to_a to_b = took_both (flat_map (flight_listed link.a) link.to_a) (flat_map (flight_listed link.b) link.to_b) to_a to_b

pub took_share : (folder : Folder) (share : Share) {a b c d e : Grouping} → Took (records_listed folder share.device Own share.own) a b → Took (nodes_listed folder share.device share.store) b c →
    Took (views_listed folder share.device share.views) c d → Took (records_listed folder share.device Pull share.pulls) d e → Took (share_listed folder share) a e
unfolding share_listed
took_share folder share own nodes views pulls =
    let recorded = records_listed folder share.device Own share.own in
    let stored = nodes_listed folder share.device share.store in
    let known = views_listed folder share.device share.views in
    let pulled = records_listed folder share.device Pull share.pulls in
    took_both (recorded ++ stored ++ known) pulled (took_both (recorded ++ stored) known (took_both recorded stored own nodes) views) pulls
