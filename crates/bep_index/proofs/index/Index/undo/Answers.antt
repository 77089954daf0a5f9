use Rattle.std.proofs.Common.{◌≡◌, ◌∙◌, ◌-◌, ap, sym, subst}
use Rattle.std.specs.FinMap.{empty}
use Rattle.bep_index.specs.Listing.{Listing}
use Rattle.bep_index.specs.Batch.{with_all}
use Rattle.bep_index.specs.Good.{AreGood, IsGoodIfThere}
use Rattle.bep_index.specs.Index.{IsIndex}
use Rattle.bep_index.specs.Change.{Change, IsLastChange, given_back, taken_back}
use Rattle.bep_index.specs.Order.{AreInOrder, IsGivenBack}
use Rattle.bep_index.proofs.GoodFacts.{good_given_back}
use Rattle.bep_index.proofs.UndoFacts.{is_given_back}
use Rattle.bep_index.proofs.PutFacts.{AreInOrder-back, with_all-back}
use Rattle.bep_index.proofs.index.Index.undo.Goals as goal

pub give_back-requires : goal.give_back-requires
give_back-requires c =
    is_given_back (record { id = c.undo.inside.id; sequence = c.undo.inside.given; name = c.undo.inside.name; before = c.undo.inside.old })
    c.self.inside.id c.self.inside.sequence c.self.inside.records c.self.invariant.1 c.self.invariant.0
    (subst (λ change. IsLastChange change (record { id = c.self.inside.id; sequence = c.self.inside.sequence; records = with_all empty c.self.inside.records })) (sym c.undo.view_is)
    (subst (IsLastChange c.args.undo) (sym c.self.view_is) c.requires))

abbrev change : goal.After-drop-name → Change
change c = record { id = c.undo.inside.id; sequence = c.undo.inside.given; name = c.undo.inside.name; before = c.undo.inside.old }

abbrev index : goal.After-drop-name → Listing
index c = record { id = c.self.inside.id; sequence = c.self.inside.sequence; records = with_all empty c.self.inside.records }

last : (c : goal.After-drop-name) → IsLastChange (change c) (index c)
last c = subst (λ one. IsLastChange one (index c)) (sym c.undo.view_is) (subst (IsLastChange c.args.undo) (sym c.self.view_is) c.requires)

back : (c : goal.After-drop-name) → IsGivenBack c.self.inside.records c.undo.inside.name c.undo.inside.old
back c = is_given_back (change c) c.self.inside.id c.self.inside.sequence c.self.inside.records c.self.invariant.1 c.self.invariant.0 (last c)

-- the records are those before the change
records : (c : goal.After-drop-name) → with_all empty c.give_back.new.self ≡ given_back (with_all empty c.self.inside.records) c.undo.inside.name c.undo.inside.old
records c =
    ap (with_all empty) c.give_back.ensures ∙ with_all-back c.self.inside.records c.undo.inside.name c.undo.inside.old c.self.invariant.1.names (back c).before

before_good : (c : goal.After-drop-name) → IsGoodIfThere c.undo.inside.old
before_good c = subst IsGoodIfThere c.as_ref.ensures.value c.old_is_good.ensures

pub invariant_of-self : goal.invariant_of-self
invariant_of-self c = (
  subst (λ m. IsIndex (record { id = c.self.inside.id; sequence = c.self.inside.sequence - 1; records = m })) (sym (records c)) (last c).before,
  subst AreInOrder (sym c.give_back.ensures) (AreInOrder-back c.self.inside.records c.undo.inside.name c.undo.inside.old c.self.invariant.1 (back c).before),
  subst AreGood (sym (records c)) (good_given_back (with_all empty c.self.inside.records) c.undo.inside.name c.undo.inside.old (before_good c) c.self.invariant.2),
)

pub returns : goal.returns
returns c =
    ap (λ m. record (index c) { sequence = c.self.inside.sequence - 1; records = m }) (records c)
    ∙ ap (λ one. taken_back one (index c)) c.undo.view_is ∙ ap (taken_back c.args.undo) c.self.view_is
