-- The file that the end of a pull leaves is clean against the target, and has its content or the one that it had.
use Rattle.std.proofs.Common.{◌≡◌, ◌≢◌, ◌⊎◌, ◌∙◌, ℕ, Bool, true, false, cond, List, length, Option, Some, None, refl, sym, ap, subst, subst₂, inl, inr, ⊎_elim}
use Rattle.bep_record.specs.declared.block.Block.{Block}
use Rattle.bep_record.specs.declared.entry.Entry.{Entry}
use Rattle.bep_record.specs.declared.kind.Kind.{Kind}
use Rattle.bep_record.specs.declared.kind.Kind.TheVariants as kinds
use Rattle.bep_record.specs.declared.node.NodeParts.{NodeParts}
use Rattle.bep_record.specs.Block.{block_size_of, CutWhole}
use Rattle.bep_record.specs.Content.{Deleted, content_of, content_of_kind}
use Rattle.bep_record.specs.Entry.{IsWellFormed, HasBody, HasBlocks}
use Rattle.bep_record.specs.Laws.{CutIsOfOneLength}
use Rattle.bep_record.specs.Node.{IsClean, LooksSame}
use Rattle.bep_blocks.specs.Plain.{file_blocks}
use Rattle.bep_index.specs.Good.{IsGood, IsGoodIfThere}
use Rattle.bep_index.specs.Index.{numbered}
use Rattle.bep_model.specs.Settled.{content_of_node}
use Rattle.bep_model.specs.Tables.{FileName}
use Rattle.bep_store.specs.Store.{at_time}
use Rattle.bep_machine.specs.Effects.{content_owned}
use Rattle.bep_machine.specs.Pull.{EndsWith, IsFile, IsMissingBlocks, timed, written}
use Rattle.bep_machine.specs.Replica.{Pull, HasContentOf}
use Rattle.bep_machine.specs.Sound.{IsSoundPull}
use Rattle.bep_converge.specs.Orderly.{HasTakenFile}
use Rattle.bep_converge.specs.Received.{HaveHashes}
use Rattle.bep_converge.proofs.ReceivedFile.{bytes_of, received_file}

-- ---- what equal contents say of two records

-- the parts of two records that are there, of one content
record AreOne (kind other : Kind) (blocks others : List Block) (target link : List ℕ) : Type 0 where
  kinds_same : kind ≡ other
  blocks_same : kind ≡ kinds.File → blocks ≡ others
  target_same : kind ≡ kinds.Symlink → target ≡ link

are_one : (kind other : Kind) (blocks others : List Block) (target link : List ℕ) → content_of_kind kind blocks target ≡ content_of_kind other others link → AreOne kind other blocks others target link
are_one kinds.File kinds.File blocks others target link e = record { kinds_same = refl; blocks_same = λ _. cc; target_same = λ no. absurd (cc) }
are_one kinds.File kinds.Directory blocks others target link e = absurd (cc)
are_one kinds.File kinds.Symlink blocks others target link e = absurd (cc)
are_one kinds.Directory kinds.File blocks others target link e = absurd (cc)
are_one kinds.Directory kinds.Directory blocks others target link e = record { kinds_same = refl; blocks_same = λ no. absurd (cc); target_same = λ no. absurd (cc) }
are_one kinds.Directory kinds.Symlink blocks others target link e = absurd (cc)
are_one kinds.Symlink kinds.File blocks others target link e = absurd (cc)
are_one kinds.Symlink kinds.Directory blocks others target link e = absurd (cc)
are_one kinds.Symlink kinds.Symlink blocks others target link e = record { kinds_same = refl; blocks_same = λ no. absurd (cc); target_same = λ _. cc }

never_deleted : (kind : Kind) (blocks : List Block) (target : List ℕ) → content_of_kind kind blocks target ≢ Deleted
never_deleted kinds.File blocks target e = cc
never_deleted kinds.Directory blocks target e = cc
never_deleted kinds.Symlink blocks target e = cc

-- both are deleted, or both are there with the same parts
same_content : (gone over : Bool) (kind other : Kind) (blocks others : List Block) (target link : List ℕ) →
    cond gone Deleted (content_of_kind kind blocks target) ≡ cond over Deleted (content_of_kind other others link) →
    ((gone ≡ true) × (over ≡ true)) ⊎ ((gone ≡ false) × (over ≡ false) × AreOne kind other blocks others target link)
same_content true true kind other blocks others target link e = inl (refl, refl)
same_content true false kind other blocks others target link e = absurd (never_deleted other others link (sym e))
same_content false true kind other blocks others target link e = absurd (never_deleted kind blocks target e)
same_content false false kind other blocks others target link e = inr (refl, refl, are_one kind other blocks others target link e)

blocks_of_file : (entry : Entry) → IsWellFormed entry → entry.deleted ≡ false → entry.kind ≡ kinds.File → HasBlocks entry
blocks_of_file entry formed there file =
    let body : HasBody false kinds.File entry = subst₂ (λ (deleted : Bool) (kind : Kind). HasBody deleted kind entry) there file formed.body in
    body.0

-- ---- where the own record has the target's content

module _ (one_length : CutIsOfOneLength) (own target : Entry) (formed : IsWellFormed own) (too : IsWellFormed target) where
  module _ (there : own.deleted ≡ false) (present : target.deleted ≡ false) (same : AreOne target.kind own.kind target.blocks own.blocks target.target own.target) where
    same_size : target.kind ≡ kinds.File → own.size ≡ target.size
    same_size file =
        one_length own.size target.size own.blocks (blocks_of_file own formed there (sym same.kinds_same ∙ file)).blocks
        (subst (λ (blocks : List Block). CutWhole (block_size_of target.size) target.size blocks) (same.blocks_same file) (blocks_of_file target too present file).blocks)

    looks_on : (kind : Kind) (node : NodeParts) → kind ≡ target.kind → LooksSame kind node own → LooksSame kind (at_time node target.modified_s target.modified_ns) target
    looks_on kinds.File node is looks = (looks.0 ∙ same_size (sym is), refl, refl)
    looks_on kinds.Directory node is looks = tt
    looks_on kinds.Symlink node is looks = looks ∙ sym (same.target_same (sym is))

  timed_clean : (node : Option NodeParts) → content_of target ≡ content_of own → IsClean node (Some own) → IsClean (timed node target) (Some target)
  timed_clean None same clean =
      ⊎_elim
      (λ gone. gone.0)
      (λ both. let deleted : own.deleted ≡ true = clean in let there = both.1 in absurd (cc))
      (same_content target.deleted own.deleted target.kind own.kind target.blocks own.blocks target.target own.target same)
  timed_clean (Some node) same clean =
      ⊎_elim
      (λ gone. let there = clean.0 in let over = gone.1 in absurd (cc))
      (λ both.
      let is : node.kind ≡ target.kind = clean.1 ∙ sym both.2.kinds_same in
      (both.0, is, looks_on both.1 both.0 both.2 node.kind node is clean.2))
      (same_content target.deleted own.deleted target.kind own.kind target.blocks own.blocks target.target own.target same)

content_stays : (node : Option NodeParts) (target : Entry) → content_of_node (timed node target) ≡ content_of_node node
content_stays None target = refl
content_stays (Some node) target = refl

-- ---- where it hasn't

-- the node that is written of a target that isn't deleted
abbrev node_of : Pull → NodeParts
node_of pull = record {
  kind = pull.target.kind;
  bytes = bytes_of pull.received;
  target = pull.target.target;
  modified_s = pull.target.modified_s;
  modified_ns = pull.target.modified_ns;
}

record IsWritten (node : Option NodeParts) (target : Entry) : Type 0 where
  clean : IsClean node (Some target)
  content : content_of_node node ≡ content_of target

module _ (pull : Pull) (whole : pull.target.kind ≡ kinds.File → (length (bytes_of pull.received) ≡ pull.target.size) × (file_blocks (bytes_of pull.received) ≡ pull.target.blocks)) where
  looks_written : (kind : Kind) → kind ≡ pull.target.kind → LooksSame kind (node_of pull) pull.target
  looks_written kinds.File is = ((whole (sym is)).0, refl, refl)
  looks_written kinds.Directory is = tt
  looks_written kinds.Symlink is = refl

  content_written : (kind : Kind) → kind ≡ pull.target.kind → content_of_kind kind (file_blocks (bytes_of pull.received)) pull.target.target ≡ content_of_kind kind pull.target.blocks pull.target.target
  content_written kinds.File is = ap (λ (blocks : List Block). content_of_kind kinds.File blocks pull.target.target) (whole (sym is)).1
  content_written kinds.Directory is = refl
  content_written kinds.Symlink is = refl

written_fits : (name : FileName) (pull : Pull) → IsSoundPull name pull → HaveHashes pull.target.blocks pull.received → ¬ (IsFile pull.target × IsMissingBlocks pull) → IsWritten (written pull) pull.target
written_fits name pull sound hashes received = cases pull.target.deleted refl
  where
    cases : (deleted : Bool) → pull.target.deleted ≡ deleted → IsWritten (cond deleted None (Some (node_of pull))) pull.target
    cases true deleted = record {
      clean = deleted;
      content = ap (λ (b : Bool). cond b Deleted (content_of_kind pull.target.kind pull.target.blocks pull.target.target)) (sym deleted);
    }
    cases false there =
        let whole : pull.target.kind ≡ kinds.File → (length (bytes_of pull.received) ≡ pull.target.size) × (file_blocks (bytes_of pull.received) ≡ pull.target.blocks) = λ file.
        received_file pull.target.size pull.target.blocks pull.received (blocks_of_file pull.target sound.good.formed there file).blocks sound.received hashes
        (λ missing. received ((there, file), missing)) in
        record {
          clean = (there, refl, looks_written pull whole pull.target.kind refl);
          content =
              content_written pull whole pull.target.kind refl
              ∙ ap (λ (b : Bool). cond b Deleted (content_of_kind pull.target.kind pull.target.blocks pull.target.target)) (sym there);
        }

-- ---- the whole

looks_taken : (kind : Kind) (node : NodeParts) (target : Entry) (version : List (ℕ × ℕ)) (sequence : ℕ) → LooksSame kind node target → LooksSame kind node (numbered (record target { version = version; invalid = false }) sequence)
looks_taken kinds.File node target version sequence looks = looks
looks_taken kinds.Directory node target version sequence looks = looks
looks_taken kinds.Symlink node target version sequence looks = looks

clean_taken : (node : Option NodeParts) (target : Entry) (version : List (ℕ × ℕ)) (sequence : ℕ) → IsClean node (Some target) → IsClean node (Some (numbered (record target { version = version; invalid = false }) sequence))
clean_taken None target version sequence clean = clean
clean_taken (Some node) target version sequence clean = (clean.0, clean.1, looks_taken node.kind node target version sequence clean.2)

-- a file of which the own record has the target's content
timed_taken : CutIsOfOneLength → (own : Option Entry) (node : Option NodeParts) (target : Entry) → IsGoodIfThere own → IsGood target → IsClean node own → HasContentOf own target →
    IsClean (timed node target) (Some target) × (content_owned own ≡ content_of target)
timed_taken one_length None held target formed good clean has = absurd has
timed_taken one_length (Some own) held target formed good clean has = (timed_clean one_length own target formed.formed good.formed held has clean, sym has)

pub end_is_taken : CutIsOfOneLength → (name : FileName) (own : Option Entry) (node : Option NodeParts) (pull : Pull) (after : Option NodeParts) (version : List (ℕ × ℕ)) (sequence : ℕ) →
    IsGoodIfThere own → IsSoundPull name pull → HaveHashes pull.target.blocks pull.received → IsClean node own →
    ¬ (IsFile pull.target × (¬ HasContentOf own pull.target) × IsMissingBlocks pull) → EndsWith own node pull after →
    HasTakenFile own node (numbered (record (pull.target) { version = version; invalid = false }) sequence) after
end_is_taken one_length name own node pull after version sequence formed sound hashes clean received ends =
    ⊎_elim
    (λ same.
    let taken = timed_taken one_length own node pull.target formed sound.good clean same.0 in
    record {
      clean = clean_taken after pull.target version sequence (subst (λ (n : Option NodeParts). IsClean n (Some pull.target)) (sym same.1) taken.0);
      content = inr (taken.1, ap content_of_node same.1 ∙ content_stays node pull.target);
    })
    (λ new.
    let fits = written_fits name pull sound hashes (λ missing. received (missing.0, new.0, missing.1)) in
    record {
      clean = clean_taken after pull.target version sequence (subst (λ (n : Option NodeParts). IsClean n (Some pull.target)) (sym new.1) fits.clean);
      content = inl (ap content_of_node new.1 ∙ fits.content);
    })
    ends
