-- What a device writes when it ends a pull is a node: the bytes that were received are no more than the record's size.
use Rattle.std.proofs.Common.{◌≡◌, ◌≤◌, ◌+◌, ◌-◌, ◌*◌, ℕ, zero, suc, Bool, true, false, cond, List, [], ◌∷◌, length, length-append, map, Option, Some, None, unwrap_or, refl, sym, ap, subst, ⊎_elim, arith}
use Rattle.std.specs.List.{concat, range_with_len}
use Rattle.bep_record.specs.declared.block.Block.{Block}
use Rattle.bep_record.specs.declared.kind.Kind.{Kind}
use Rattle.bep_record.specs.declared.kind.Kind.TheVariants.{File, Directory, Symlink}
use Rattle.bep_record.specs.declared.entry.Entry.{Entry}
use Rattle.bep_record.specs.declared.node.NodeParts.{NodeParts}
use Rattle.bep_record.specs.declared.limits.TheConstants.{MAX_FILE_SIZE}
use Rattle.bep_record.specs.Block.{block_count, cut_at, CutWhole}
use Rattle.bep_record.specs.Entry.{HasBody}
use Rattle.bep_record.specs.Node.{FitsKind, IsNode}
use Rattle.bep_model.specs.Tables.{FileName}
use Rattle.bep_store.specs.Store.{at_time}
use Rattle.bep_machine.specs.Replica.{Pull}
use Rattle.bep_machine.specs.Pull.{written, timed, EndsWith}
use Rattle.bep_index.specs.Good.{IsGood}
use Rattle.bep_machine.specs.Sound.{AreReceived, IsSoundPull}
use Rattle.bep_machine.proofs.SoundMaps.{IfAny}

-- the sizes of cuts, one after the other
unfoldable pub sizes : List (ℕ × ℕ) → ℕ
sizes [] = 0
sizes (cut ∷ cuts) = cut.1 + sizes cuts

-- the bytes that were received
abbrev pub bytes_of : List (Option (List ℕ)) → List ℕ
bytes_of received = concat (map (λ bytes. unwrap_or bytes []) received)

-- cuts from place k on cover no more than what is left of the file there
cuts_within : (size len k n : ℕ) → sizes (map (λ j. cut_at size len j) (range_with_len k n)) ≤ len - k * size
unfolding sizes
cuts_within size len k zero = omega arith
cuts_within size len k (suc n) =
    let later = cuts_within size len (k + 1) n in
    omega arith

received_within : (blocks : List Block) (received : List (Option (List ℕ))) → AreReceived blocks received →
    length (bytes_of received) ≤ sizes (map (λ (b : Block). (b.offset, b.size)) blocks)
unfolding sizes
received_within [] [] are = omega arith
received_within [] (one ∷ more) are = absurd are
received_within (block ∷ blocks) [] are = absurd are
received_within (block ∷ blocks) (None ∷ received) are = let later = received_within blocks received are in omega arith
received_within (block ∷ blocks) (Some bytes ∷ received) are =
    let later = received_within blocks received are.1 in
    let both = length-append bytes (bytes_of received) in
    let here = are.0 in
    omega arith

-- a file's received bytes are no more than its size
file_within : (size len : ℕ) (blocks : List Block) (received : List (Option (List ℕ))) → CutWhole size len blocks → AreReceived blocks received →
    length (bytes_of received) ≤ len
file_within size len blocks received whole are =
    let bytes = received_within blocks received are in
    let cuts = subst (λ c. sizes c ≤ len - 0 * size) (sym whole) (cuts_within size len 0 (block_count size len)) in
    omega arith

nothing_received : (blocks : List Block) (received : List (Option (List ℕ))) → blocks ≡ [] → AreReceived blocks received → bytes_of received ≡ []
nothing_received [] [] none are = refl
nothing_received [] (one ∷ more) none are = absurd are
nothing_received (block ∷ blocks) received none are = absurd (cc)

-- the node that is written of a target that isn't deleted
abbrev pub node_of : Pull → NodeParts
node_of pull = record {
  kind = pull.target.kind;
  bytes = bytes_of pull.received;
  target = pull.target.target;
  modified_s = pull.target.modified_s;
  modified_ns = pull.target.modified_ns;
}

written_fits : (kind : Kind) (pull : Pull) → HasBody false kind pull.target → AreReceived pull.target.blocks pull.received →
    (length (bytes_of pull.received) ≤ MAX_FILE_SIZE) × FitsKind kind (node_of pull)
written_fits File pull has are = (
  (let within = file_within _ _ pull.target.blocks pull.received has.0.blocks are in
      let most = has.0.size in
      omega arith),
  has.1,
)
written_fits Directory pull has are =
    let none = nothing_received pull.target.blocks pull.received has.0.blocks are in
    let len = ap length none in
    (omega arith, (none, has.1))
written_fits Symlink pull has are =
    let none = nothing_received pull.target.blocks pull.received has.0.blocks are in
    let len = ap length none in
    (omega arith, (none, has.1))

pub written_is_node : (name : FileName) (pull : Pull) → IsSoundPull name pull → IfAny IsNode (written pull)
written_is_node name pull sound = cases pull.target.deleted refl where
  cases : (b : Bool) → pull.target.deleted ≡ b → IfAny IsNode (cond b None (Some (node_of pull)))
  cases true deleted = tt
  cases false there =
      let fits = written_fits pull.target.kind pull (subst (λ b. HasBody b pull.target.kind pull.target) there sound.good.formed.body) sound.received in
      record { size = fits.0; nanoseconds = sound.good.formed.nanoseconds; body = fits.1 }

-- a node with another time is one
timed_fits : (kind : Kind) (node : NodeParts) (entry : Entry) → FitsKind kind node → FitsKind kind (at_time node entry.modified_s entry.modified_ns)
timed_fits File node entry fits = fits
timed_fits Directory node entry fits = fits
timed_fits Symlink node entry fits = fits

pub timed_is_node : (node : Option NodeParts) (entry : Entry) → IsGood entry → IfAny IsNode node → IfAny IsNode (timed node entry)
timed_is_node None entry good is = tt
timed_is_node (Some node) entry good is = record { size = is.size; nanoseconds = good.formed.nanoseconds; body = timed_fits node.kind node entry is.body }

-- what the name holds at the end
pub end_is_node : (name : FileName) (own : Option Entry) (node : Option NodeParts) (pull : Pull) (after : Option NodeParts) →
    IsSoundPull name pull → IfAny IsNode node → EndsWith own node pull after → IfAny IsNode after
end_is_node name own node pull after sound is ends =
    ⊎_elim
    (λ same. subst (IfAny IsNode) (sym same.1) (timed_is_node node pull.target sound.good is))
    (λ new. subst (IfAny IsNode) (sym new.1) (written_is_node name pull sound))
    ends
