use Rattle.std.proofs.Common.{◌≡◌, ◌==◌, Bool, true, false, cond, nat_lt, refl, sym, ap, ◌∙◌}
use Rattle.std.specs.declared.cmp.Ordering.TheVariants.{Less, Equal, Greater}
use Rattle.std.specs.List.{position}
use Rattle.std.specs.Ordering.{is_lt}
use Rattle.bep_peer.specs.network.Network.{is_between}
use Rattle.bep_core.proofs.Over.{ordered}
use Rattle.bep_core.proofs.cluster.Cluster.place_between.Goals as goal

by_test : (less same : Bool) → is_lt (cond less Less (cond same Equal Greater)) ≡ less
by_test true same = refl
by_test false true = refl
by_test false false = refl

pub returns-then-lt : goal.returns-then-lt
returns-then-lt g c =
    c.link_place.ensures
    ∙ ap (λ (b : Bool). position (is_between (ordered b c.args.device c.args.other).0 (ordered b c.args.device c.args.other).1) c.args.self.now.links)
    (sym c.if-lt.true ∙ c.lt.ensures ∙ by_test (nat_lt c.args.device c.args.other) (c.args.device == c.args.other))

pub returns-else-lt : goal.returns-else-lt
returns-else-lt g c =
    c.link_place-else-lt.ensures
    ∙ ap (λ (b : Bool). position (is_between (ordered b c.args.device c.args.other).0 (ordered b c.args.device c.args.other).1) c.args.self.now.links)
    (sym c.if-lt.false ∙ c.lt.ensures ∙ by_test (nat_lt c.args.device c.args.other) (c.args.device == c.args.other))
