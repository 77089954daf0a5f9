use Rattle.std.proofs.Common.{◌≡◌, ◌≢◌, ℕ, List, ◌+◌, ◌≤◌, None, sym, subst, ap, ◌∙◌, arith}
use Rattle.std.specs.FinMap.{get, insert, len, empty}
use Rattle.bep_index.specs.Listing.{Listing}
use Rattle.bep_index.specs.Batch.{with_all}
use Rattle.bep_index.specs.Good.{AreGood}
use Rattle.bep_index.specs.Index.{IsIndex, IsSequenceFull, IsIndexFull, numbered, after_put}
use Rattle.bep_index.specs.Order.{AreInOrder, IsLater}
use Rattle.bep_index.specs.Change.{Change, taken_back, IsLastChange}
use Rattle.bep_map.specs.NameMap.{ByName}
use Rattle.bep_record.specs.declared.entry.Entry.{Entry}
use Rattle.bep_index.specs.declared.limits.TheConstants.{MAX_NAMES, MAX_SEQUENCE}
use Rattle.bep_index.proofs.GoodFacts.{good_inserted}
use Rattle.bep_index.proofs.IndexFacts.{change_of, IsIndex-after_put, taken_back-after_put, IsLastChange-after_put}
use Rattle.bep_index.proofs.PutFacts.{AreInOrder-put, with_all-put}
use Rattle.bep_index.proofs.UndoFacts.{next_is_later_than_all}
use Rattle.bep_index.proofs.ResultFacts.{not_refused}
use Rattle.bep_index.proofs.index.Index.put_undo.Goals as goal

-- the record under the next number is later than all
later : (id sequence : ℕ) (es : List Entry) (index : Listing) (entry e : Entry) → record { id = id; sequence = sequence; records = with_all empty es } ≡ index → AreInOrder es
    → IsIndex (record { id = id; sequence = sequence; records = with_all empty es }) → index.sequence ≢ MAX_SEQUENCE → e ≡ numbered entry (index.sequence + 1) → IsLater es e
later id sequence es index entry e is order all left next =
    next_is_later_than_all sequence es e order all.numbered all.sequence (subst (λ (index : Listing). index.sequence ≢ MAX_SEQUENCE) (sym is) left)
    (ap (λ (e : Entry). e.sequence) next ∙ ap (λ (index : Listing). index.sequence + 1) (sym is))

pub put-requires : goal.put-requires
put-requires c =
    later c.self.inside.id c.self.inside.sequence c.self.inside.records c.args.self.now c.args.entry c.in_ok-name.entry c.self.view_is c.self.invariant.1 c.self.invariant.0
    (not_refused c.in_ok-name.ensures.sequence_full) c.in_ok-name.ensures.numbered

abbrev before : goal.After-result-1 → Listing
before c = record { id = c.self.inside.id; sequence = c.self.inside.sequence; records = with_all empty c.self.inside.records }

entry_is : (c : goal.After-result-1) → c.in_ok-name.entry ≡ numbered c.args.entry (c.self.inside.sequence + 1)
entry_is c = c.in_ok-name.ensures.numbered ∙ ap (λ (index : Listing). numbered c.args.entry (index.sequence + 1)) (sym c.self.view_is)

not_full : (c : goal.After-result-1) → c.self.inside.sequence ≢ MAX_SEQUENCE
not_full c = subst (λ (index : Listing). index.sequence ≢ MAX_SEQUENCE) (sym c.self.view_is) (not_refused c.in_ok-name.ensures.sequence_full)

-- the records are those of `after_put`
given : (c : goal.After-result-1) → with_all empty c.put.new.self ≡ insert (with_all empty c.self.inside.records) c.args.entry.name (numbered c.args.entry (c.self.inside.sequence + 1))
given c =
    ap (with_all empty) c.in_ok-old.ensures.ok ∙ with_all-put c.self.inside.records c.in_ok-name.entry c.self.invariant.1.names
    ∙ ap (λ (e : Entry). insert (with_all empty c.self.inside.records) e.name e) (entry_is c)

room : (c : goal.After-result-1) → get (with_all empty c.self.inside.records) c.args.entry.name ≡ None → len (with_all empty c.self.inside.records) + 1 ≤ MAX_NAMES
room c none =
    let few = c.self.invariant.0.few in
    let taken = subst (λ (index : Listing). (¬ IsSequenceFull index) × IsIndexFull index c.args.entry.name → ⊥) (sym c.self.view_is) (not_refused c.in_ok-name.ensures.index_full) in
    let apart : ¬ (len (with_all empty c.self.inside.records) ≡ MAX_NAMES) = λ full. taken (not_full c, (full, none)) in
    omega arith

in_order : (c : goal.After-result-1) → AreInOrder c.put.new.self
in_order c =
    let is_later = later c.self.inside.id c.self.inside.sequence c.self.inside.records c.args.self.now c.args.entry c.in_ok-name.entry c.self.view_is c.self.invariant.1 c.self.invariant.0
    (not_refused c.in_ok-name.ensures.sequence_full) c.in_ok-name.ensures.numbered in
    subst AreInOrder (sym c.in_ok-old.ensures.ok) (AreInOrder-put c.self.inside.records c.in_ok-name.entry c.self.invariant.1 is_later.above is_later.within)

good : (c : goal.After-result-1) → AreGood (with_all empty c.put.new.self)
good c =
    subst AreGood (sym (ap (with_all empty) c.in_ok-old.ensures.ok ∙ with_all-put c.self.inside.records c.in_ok-name.entry c.self.invariant.1.names))
    (good_inserted (with_all empty c.self.inside.records) c.in_ok-name.entry.name c.in_ok-name.entry c.record_is_good.ensures c.self.invariant.2)

-- without memory nothing was put
pub invariant_of-self : goal.invariant_of-self
invariant_of-self c =
    subst
    (λ (es : List Entry).
    IsIndex (record { id = c.self.inside.id; sequence = c.self.inside.sequence; records = with_all empty es }) × AreInOrder es × AreGood (with_all empty es))
    (sym c.in_err-old.ensures.err) c.self.invariant

pub invariant_of-self-2 : goal.invariant_of-self-2
invariant_of-self-2 c = (
  subst (λ records. IsIndex (record { id = c.self.inside.id; sequence = c.self.inside.sequence + 1; records = records })) (sym (given c))
      (IsIndex-after_put (before c) c.args.entry c.self.invariant.0 (not_full c) (room c)),
  in_order c,
  good c,
)

named : (c : goal.After-result-1) → c.in_ok-name.name ≡ c.args.entry.name
named c = c.in_ok-name.ensures.name

was : (c : goal.After-result-1) → c.in_ok-old.old ≡ get (with_all empty c.self.inside.records) c.args.entry.name
was c = c.in_ok-old.ensures.before ∙ ap (λ (e : Entry). get (with_all empty c.self.inside.records) e.name) (entry_is c)

abbrev answered : goal.After-result-1 → Change
answered c = record { id = c.self.inside.id; sequence = c.self.inside.sequence + 1; name = c.in_ok-name.name; before = c.in_ok-old.old }

told : (c : goal.After-result-1) → answered c ≡ change_of (before c) c.args.entry
told c = λ i. record { id = c.self.inside.id; sequence = c.self.inside.sequence + 1; name = named c i; before = was c i }

abbrev after : goal.After-result-1 → ByName Entry → Listing
after c records = record { id = c.self.inside.id; sequence = c.self.inside.sequence + 1; records = records }

pub returns-clause-ok : goal.returns-clause-ok
returns-clause-ok c = ap (after c) (given c) ∙ ap (λ (index : Listing). after_put index c.args.entry) c.self.view_is

pub returns-clause-back : goal.returns-clause-back
returns-clause-back c =
    ap (λ change. taken_back change (after c (with_all empty c.put.new.self))) (told c)
    ∙ ap (λ records. taken_back (change_of (before c) c.args.entry) (after c records)) (given c)
    ∙ taken_back-after_put (before c) c.args.entry ∙ c.self.view_is

pub returns-clause-last : goal.returns-clause-last
returns-clause-last c =
    subst (λ change. IsLastChange change (after c (with_all empty c.put.new.self))) (sym (told c))
    (subst (λ records. IsLastChange (change_of (before c) c.args.entry) (after c records)) (sym (given c))
    (IsLastChange-after_put (before c) c.args.entry c.self.invariant.0))
