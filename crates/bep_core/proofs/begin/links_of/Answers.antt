use Rattle.std.proofs.Common.{◌<◌, ◌++◌, [], ◌∷◌, ℕ, List, All, map, ap, sym, subst, ◌∙◌}
use Rattle.std.proofs.lemmas.List.{append_assoc}
use Rattle.std.proofs.lemmas.List.Elements.{All-head, All-tail}
use Rattle.bep_links.specs.Link.{LinkBetween, new_link}
use Rattle.bep_core.proofs.begin.links_of.Goals as goal

abbrev Rising : ℕ × ℕ → Type 0
Rising ends = ends.0 < ends.1

abbrev made_of : List (ℕ × ℕ) → List LinkBetween
made_of links = map (λ ends. new_link ends.0 ends.1) links

pub loop-lower-preserved : goal.loop-lower-preserved
loop-lower-preserved g c = record {
  whole =
      ap (λ items. items ++ made_of c.next.new.self) c.in_ok-push-in-Some-new.ensures.items
      ∙ append_assoc c.loop-lower.made.items (c.in-Some-new.link ∷ []) (made_of c.next.new.self)
      ∙ ap (λ link. c.loop-lower.made.items ++ link ∷ made_of c.next.new.self) c.in-Some-new.ensures.1
      ∙ ap (λ left. c.loop-lower.made.items ++ made_of left) (sym c.in-Some.ensures.steps)
      ∙ c.loop-lower.invariant.whole;
  rising = All-tail Rising c.in-Some.field-0.now c.next.new.self (subst (All Rising) c.in-Some.ensures.steps c.loop-lower.invariant.rising);
}

pub unreachable-requires : goal.unreachable-requires
unreachable-requires g c =
    c.in-None-new.ensures (All-head Rising c.in-Some.field-0.now c.next.new.self (subst (All Rising) c.in-Some.ensures.steps c.loop-lower.invariant.rising))
