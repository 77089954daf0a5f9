-- What follows where two records have the same content.
use Rattle.std.proofs.Common.{◌≡◌, ◌≢◌, ◌∙◌, ℕ, Bool, true, false, List, Option, Some, None, refl, sym, subst, subst₂, ⊎_elim}
use Rattle.std.proofs.lemmas.Bool.{cases_Bool, cond-true, cond-false}
use Rattle.bep_record.specs.declared.block.Block.{Block}
use Rattle.bep_record.specs.declared.entry.Entry.{Entry}
use Rattle.bep_record.specs.declared.kind.Kind.{Kind}
use Rattle.bep_record.specs.declared.kind.Kind.TheVariants as kinds
use Rattle.bep_record.specs.declared.node.NodeParts.{NodeParts}
use Rattle.bep_record.specs.Block.{block_size_of, CutWhole}
use Rattle.bep_record.specs.Content.{Deleted, content_of, content_of_kind}
use Rattle.bep_record.specs.Entry.{IsWellFormed, HasBody, HasBlocks}
use Rattle.bep_record.specs.Laws.{CutIsOfOneLength}
use Rattle.bep_record.specs.Node.{IsClean, LooksSame}
use Rattle.bep_store.specs.Store.{at_time}
use Rattle.bep_machine.specs.Pull.{timed}

-- ---- deleted or not

pub there_is_not_deleted : (kind : Kind) (blocks : List Block) (target : List ℕ) → content_of_kind kind blocks target ≢ Deleted
there_is_not_deleted kinds.File blocks target e = cc
there_is_not_deleted kinds.Directory blocks target e = cc
there_is_not_deleted kinds.Symlink blocks target e = cc

pub content_of_deleted : (entry : Entry) → entry.deleted ≡ true → content_of entry ≡ Deleted
content_of_deleted entry deleted = cond-true _ _ _ deleted

pub content_of_there : (entry : Entry) → entry.deleted ≡ false → content_of entry ≡ content_of_kind entry.kind entry.blocks entry.target
content_of_there entry there = cond-false _ _ _ there

pub not_deleted : (entry : Entry) → entry.deleted ≡ false → content_of entry ≢ Deleted
not_deleted entry there e = there_is_not_deleted entry.kind entry.blocks entry.target (sym (content_of_there entry there) ∙ e)

pub deleted_where_same : (one other : Entry) → content_of one ≡ content_of other → other.deleted ≡ true → one.deleted ≡ true
deleted_where_same one other same deleted =
    ⊎_elim
    (λ is. is)
    (λ there. absurd (not_deleted one there (same ∙ content_of_deleted other deleted)))
    (cases_Bool one.deleted)

pub there_where_same : (one other : Entry) → content_of one ≡ content_of other → other.deleted ≡ false → one.deleted ≡ false
there_where_same one other same there =
    ⊎_elim
    (λ deleted. absurd (not_deleted other there (sym same ∙ content_of_deleted one deleted)))
    (λ is. is)
    (cases_Bool one.deleted)

-- ---- kind, blocks and target

same_kind : (kind more : Kind) (blocks others : List Block) (target link : List ℕ) → content_of_kind kind blocks target ≡ content_of_kind more others link → kind ≡ more
same_kind kinds.File kinds.File blocks others target link e = refl
same_kind kinds.File kinds.Directory blocks others target link e = absurd (cc)
same_kind kinds.File kinds.Symlink blocks others target link e = absurd (cc)
same_kind kinds.Directory kinds.File blocks others target link e = absurd (cc)
same_kind kinds.Directory kinds.Directory blocks others target link e = refl
same_kind kinds.Directory kinds.Symlink blocks others target link e = absurd (cc)
same_kind kinds.Symlink kinds.File blocks others target link e = absurd (cc)
same_kind kinds.Symlink kinds.Directory blocks others target link e = absurd (cc)
same_kind kinds.Symlink kinds.Symlink blocks others target link e = refl

same_blocks : (blocks others : List Block) (target link : List ℕ) → content_of_kind kinds.File blocks target ≡ content_of_kind kinds.File others link → blocks ≡ others
same_blocks blocks others target link e = cc

same_target : (blocks others : List Block) (target link : List ℕ) → content_of_kind kinds.Symlink blocks target ≡ content_of_kind kinds.Symlink others link → target ≡ link
same_target blocks others target link e = cc

-- two records that are there, of the same content
pub record AreAlike (one other : Entry) : Type 0 where
  pub kind : one.kind ≡ other.kind
  pub blocks : one.kind ≡ kinds.File → one.blocks ≡ other.blocks
  pub target : one.kind ≡ kinds.Symlink → one.target ≡ other.target

pub alike_where_same : (one other : Entry) → content_of one ≡ content_of other → one.deleted ≡ false → other.deleted ≡ false → AreAlike one other
alike_where_same one other same there too =
    let e : content_of_kind one.kind one.blocks one.target ≡ content_of_kind other.kind other.blocks other.target = sym (content_of_there one there) ∙ same ∙ content_of_there other too in
    let kind = same_kind one.kind other.kind one.blocks other.blocks one.target other.target e in
    let of_kind = λ (k : Kind) (is : one.kind ≡ k).
    subst₂ (λ (a b : Kind). content_of_kind a one.blocks one.target ≡ content_of_kind b other.blocks other.target) is (sym kind ∙ is) e in
    record {
      kind = kind;
      blocks = λ is. same_blocks one.blocks other.blocks one.target other.target (of_kind kinds.File is);
      target = λ is. same_target one.blocks other.blocks one.target other.target (of_kind kinds.Symlink is);
    }

pub has_blocks : (entry : Entry) → IsWellFormed entry → entry.deleted ≡ false → entry.kind ≡ kinds.File → HasBlocks entry
has_blocks entry formed there file =
    let body : HasBody false kinds.File entry = subst₂ (λ (deleted : Bool) (kind : Kind). HasBody deleted kind entry) there file formed.body in
    body.0

-- ---- the node of one is clean against the other, under the other's time

module _ (one_length : CutIsOfOneLength) where
  -- files of the same blocks have one size
  pub same_size : (one other : Entry) → IsWellFormed one → IsWellFormed other → one.deleted ≡ false → other.deleted ≡ false → AreAlike one other → one.kind ≡ kinds.File → one.size ≡ other.size
  same_size one other formed too there present alike file =
      let cut : CutWhole (block_size_of one.size) one.size one.blocks = (has_blocks one formed there file).blocks in
      let others : CutWhole (block_size_of other.size) other.size other.blocks = (has_blocks other too present (sym alike.kind ∙ file)).blocks in
      one_length one.size other.size one.blocks cut
      (subst (λ (blocks : List Block). CutWhole (block_size_of other.size) other.size blocks) (sym (alike.blocks file)) others)

  looks_same : (kind : Kind) (node : NodeParts) (own target : Entry) → kind ≡ target.kind → IsWellFormed own → IsWellFormed target → own.deleted ≡ false → target.deleted ≡ false → AreAlike target own → LooksSame kind node own → LooksSame kind (at_time node target.modified_s target.modified_ns) target
  looks_same kinds.File node own target is formed too there present alike looks =
      (looks.0 ∙ sym (same_size target own too formed present there alike (sym is)), refl, refl)
  looks_same kinds.Directory node own target is formed too there present alike looks = tt
  looks_same kinds.Symlink node own target is formed too there present alike looks = looks ∙ sym (alike.target (sym is))

  pub timed_is_clean : (node : Option NodeParts) (own target : Entry) → IsWellFormed own → IsWellFormed target → content_of target ≡ content_of own → IsClean node (Some own) → IsClean (timed node target) (Some target)
  timed_is_clean None own target formed too same clean = deleted_where_same target own same clean
  timed_is_clean (Some node) own target formed too same clean =
      let there : own.deleted ≡ false = clean.0 in
      let present = there_where_same target own same there in
      let alike = alike_where_same target own same present there in
      let is : node.kind ≡ target.kind = clean.1 ∙ sym alike.kind in
      (present, is, looks_same node.kind node own target is formed too there present alike clean.2)
