use Rattle.std.proofs.Common.{◌≡◌, ◌++◌, ◌+◌, ◌<◌, ◌∙◌, ℕ, List, drop, get_or, length, map, sym, ap}
use Rattle.std.specs.List.{flat_map}
use Rattle.std.proofs.lemmas.List.{append_assoc, at_drop_more}
use Rattle.bep_audit.specs.Shown.{place_shown}
use Rattle.bep_audit.specs.declared.spot.Spot.{Spot}
use Rattle.bep_answer.specs.Beside.{line_without}
use Rattle.bep_answer.proofs.partial.lines_of.Goals as goal

abbrev lines : List Spot → List ℕ
lines spots = flat_map line_without (map place_shown spots)

-- with one more line they are still the lines of all, with those that are left
one_more : (all : List Spot) (old new : List ℕ) (i : ℕ) (one : Spot) → i < length all → one ≡ get_or all i one → new ≡ old ++ line_without (place_shown one) → old ++ lines (drop i all) ≡ lines all → new ++ lines (drop (i + 1) all) ≡ lines all
one_more all old new i one below is made told =
    let rest = drop (i + 1) all in
    ap (λ (text : List ℕ). text ++ lines rest) made ∙ append_assoc old (line_without (place_shown one)) (lines rest)
    ∙ ap (λ (spot : Spot). old ++ (line_without (place_shown spot) ++ lines rest)) is
    ∙ sym (at_drop_more (λ (spots : List Spot). old ++ lines spots) all i one below) ∙ told

pub loop-spot-preserved : goal.loop-spot-preserved
loop-spot-preserved c =
    let had = c.loop-spot.invariant in
    record {
      told = one_more c.args.without.now c.loop-spot.text.items c.push_line.new.text.items c.loop-spot.spot-index c.spot-item.result c.loop-spot-test.true c.spot-item.is c.in_ok-push_line.ensures.line had.told;
      text = c.in_ok-push_line.ensures.text had.text;
    }
