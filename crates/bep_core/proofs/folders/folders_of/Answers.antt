use Rattle.std.proofs.Common.{◌++◌, [], ◌∷◌, Contains, unwrap_or, ap, sym, subst, ◌∙◌}
use Rattle.std.specs.Ordering.{nat_cmp}
use Rattle.std.specs.FinMap.{empty, get-empty}
use Rattle.std.proofs.lemmas.List.{append_assoc, append-nil}
use Rattle.std.proofs.lemmas.List.Elements.{Contains-append_left, Contains-push}
use Rattle.bep_core.specs.Begin.{folders_at}
use Rattle.bep_core.proofs.FoldersAt.{one_more}
use Rattle.bep_core.proofs.folders.folders_of.Goals as goal

pub loop-share-init : goal.loop-share-init
loop-share-init g c = record {
  passed = [];
  whole = append-nil c.args.shares.entries;
  at = λ device. ap (λ m. folders_at m device) c.new-made.ensures ∙ ap (λ o. unwrap_or o empty) (get-empty nat_cmp device);
  there = c.requires.there;
}

pub give_share-requires-clause-there : goal.give_share-requires-clause-there
give_share-requires-clause-there g c =
    c.loop-share.invariant.there c.in-Some.share (subst (λ left. Contains left c.in-Some.share) (sym c.in-Some.ensures.removal) (Contains-push c.pop_last.new.self.entries c.in-Some.share))

pub loop-share-preserved : goal.loop-share-preserved
loop-share-preserved g c =
    let share = c.in-Some.share in
    record {
      passed = share ∷ c.loop-share.invariant.passed;
      whole =
          sym (append_assoc c.pop_last.new.self.entries (share ∷ []) c.loop-share.invariant.passed)
          ∙ ap (λ left. left ++ c.loop-share.invariant.passed) (sym c.in-Some.ensures.removal)
          ∙ c.loop-share.invariant.whole;
      at = one_more g.S.Store.contents g.S.Store.faults c.args.devices.now c.args.keys.now c.loop-share.invariant.passed share c.loop-share.made c.give_share.new.folders c.loop-share.invariant.at c.in_ok-give_share.ensures.here c.in_ok-give_share.ensures.others;
      there = λ one stands. c.loop-share.invariant.there one (subst (λ left. Contains left one) (sym c.in-Some.ensures.removal) (Contains-append_left c.pop_last.new.self.entries (share ∷ []) one stands));
    }
