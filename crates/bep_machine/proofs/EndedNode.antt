-- What stands at the name at the end of a pull: the node that stood there, nothing, what the target says, or the blocks that
-- were received.
use Rattle.std.proofs.Common.{◌≡◌, ◌≢◌, ◌∙◌, ◌++◌, Bool, true, false, cond, List, [], ◌∷◌, map, Contains, Option, Some, None, refl, sym, ap, subst, ⊎_elim, ℕ}
use Rattle.std.specs.List.{concat}
use Rattle.bep_facts.specs.Members.{Contains-first, Contains-more}
use Rattle.bep_record.specs.declared.entry.Entry.{Entry}
use Rattle.bep_record.specs.declared.kind.Kind.{Kind}
use Rattle.bep_record.specs.declared.kind.Kind.TheVariants as kinds
use Rattle.bep_record.specs.declared.node.NodeParts.{NodeParts}
use Rattle.bep_record.specs.Content.{content_of, content_of_kind, Symlink}
use Rattle.bep_record.specs.Node.{IsClean, LooksSame}
use Rattle.bep_blocks.specs.Plain.{file_blocks}
use Rattle.bep_model.specs.Calm.{SameFile}
use Rattle.bep_model.specs.Settled.{content_of_node}
use Rattle.bep_machine.specs.Replica.{Pull, HasContentOf}
use Rattle.bep_machine.specs.Pull.{EndsWith, IsFile, IsMissingBlocks}
use Rattle.bep_machine.specs.Effects.{IsJoined}
use Rattle.bep_machine.proofs.CalmFinish.{bytes_stay, timed_is_same_file}
use Rattle.bep_machine.proofs.ContentFacts.{content_of_deleted, content_of_there}
use Rattle.bep_machine.proofs.WrittenNode.{bytes_of, node_of}

-- where the content was there, the file stays
pub file_stays : (own : Option Entry) (node : Option NodeParts) (pull : Pull) (after : Option NodeParts) → EndsWith own node pull after → HasContentOf own pull.target → SameFile node after
file_stays own held pull after ends has =
    subst (λ (n : Option NodeParts). SameFile held n) (sym (bytes_stay own held pull after has ends)) (timed_is_same_file held pull.target)

-- ---- what is clean against the target

pub none_where_deleted : (node : Option NodeParts) (target : Entry) → IsClean node (Some target) → target.deleted ≡ true → node ≡ None
none_where_deleted None target clean deleted = refl
none_where_deleted (Some node) target clean deleted = let never : true ≡ false = sym deleted ∙ clean.0 in absurd (cc)

same_but_files : (kind : Kind) (node : NodeParts) (target : Entry) → kind ≢ kinds.File → LooksSame kind node target →
    content_of_kind kind (file_blocks node.bytes) node.target ≡ content_of_kind kind target.blocks target.target
same_but_files kinds.File node target no_file looks = absurd (no_file refl)
same_but_files kinds.Directory node target no_file looks = refl
same_but_files kinds.Symlink node target no_file looks = ap Symlink looks

-- what isn't a file has the target's content
pub has_target_content : (node : Option NodeParts) (target : Entry) → IsClean node (Some target) → ¬ IsFile target → content_of_node node ≡ content_of target
has_target_content None target clean no_file = sym (content_of_deleted target clean)
has_target_content (Some node) target clean no_file =
    same_but_files node.kind node target (λ file. no_file (clean.0, sym clean.1 ∙ file)) clean.2
    ∙ ap (λ (kind : Kind). content_of_kind kind target.blocks target.target) clean.1
    ∙ sym (content_of_there target clean.0)

-- ---- what was received

all_received : (received : List (Option (List ℕ))) → ¬ Contains received None → (pieces : List (List ℕ)) × (received ≡ map (λ bytes. Some bytes) pieces) × (bytes_of received ≡ concat pieces)
all_received [] whole = ([], refl, refl)
all_received (None ∷ more) whole = absurd (whole (Contains-first None more))
all_received (Some bytes ∷ more) whole =
    let rest = all_received more (λ missing. whole (Contains-more (Some bytes) more None missing)) in
    (bytes ∷ rest.0, ap (λ (later : List (Option (List ℕ))). Some bytes ∷ later) rest.1, ap (λ (later : List ℕ). bytes ++ later) rest.2)

-- a file of other content is what was received
pub file_is_joined : (own : Option Entry) (node : Option NodeParts) (pull : Pull) (after : Option NodeParts) → EndsWith own node pull after → IsFile pull.target → ¬ HasContentOf own pull.target → ¬ IsMissingBlocks pull → IsJoined pull after
file_is_joined own held pull after ends file differs whole =
    ⊎_elim
    (λ stays. absurd (differs stays.0))
    (λ new. subst (λ (n : Option NodeParts). IsJoined pull n) (sym new.1) (cases pull.target.deleted file.0))
    ends
  where
    cases : (deleted : Bool) → deleted ≡ false → IsJoined pull (cond deleted None (Some (node_of pull)))
    cases true there = absurd (cc)
    cases false there =
        let all = all_received pull.received whole in
        (all.0, all.1, file.1, all.2)
