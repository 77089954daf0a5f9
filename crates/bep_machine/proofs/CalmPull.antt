-- At a calm replica the beginning of a pull adds that pull alone, and its target was in a view.
use Rattle.std.proofs.Common.{◌≡◌, ◌∙◌, Option, Some, refl, sym, ap, subst, inl, inr, ⊎_elim}
use Rattle.bep_record.specs.declared.entry.Entry.{Entry}
use Rattle.bep_record.specs.Content.{Content}
use Rattle.bep_choice.specs.Need.{IsNeeded}
use Rattle.bep_model.specs.Tables.{Device, FileName}
use Rattle.bep_machine.specs.Answer.{Answer}
use Rattle.bep_machine.specs.Replica.{Replica, Pull, own_at, node_at, pull_at, target_at, with_pull, Chooses}
use Rattle.bep_machine.specs.Pull.{StartPullRow, new_pull}
use Rattle.bep_machine.specs.Sound.{IsSoundReplica}
use Rattle.bep_machine.proofs.CalmParts.{IsElsewhere, IsCalmReplica, IsQuietChange}
use Rattle.bep_machine.proofs.CalmRows.{at_answers, at_becomes}
use Rattle.bep_machine.proofs.CalmScan.{same_file, nothing_is_quiet}
use Rattle.bep_machine.proofs.ChoiceFacts.{chosen_is_known, chosen_is_valid, own_not_needed}
use Rattle.bep_machine.proofs.ReplicaFacts.{target_at_pull, target_says, with_pull_found}

-- what is chosen and needed was in a view
pub needed_is_viewed : (device : Device) (old : Replica) (name : FileName) (chosen : Entry) → Chooses device old name chosen → ¬ (¬ IsNeeded old.kind (own_at old name) chosen) → IsElsewhere old name chosen
needed_is_viewed device old name chosen choice needed =
    ⊎_elim
    (λ own. absurd (needed (own_not_needed old.kind (own_at old name) chosen (chosen_is_valid device old name chosen choice) own)))
    (λ viewed. inl viewed)
    (chosen_is_known device old name chosen choice)

-- the target of a pull that is there afterwards
pub target_before : (old : Replica) (name : FileName) (chosen : Entry) → IsElsewhere old name chosen → (other : FileName) (entry : Entry) → target_at (with_pull old name (new_pull chosen)) other ≡ Some entry → IsElsewhere old other entry
target_before old name chosen known other entry is =
    let found = target_says (pull_at (with_pull old name (new_pull chosen)) other) entry is in
    ⊎_elim
    (λ begun.
    let same : chosen ≡ entry = sym (ap (λ (p : Pull). p.target) begun.1) ∙ found.2 in
    subst (λ (n : FileName). IsElsewhere old n entry) (sym begun.0) (subst (λ (e : Entry). IsElsewhere old name e) same known))
    (λ before. inr (target_at_pull old other found.0 before ∙ ap (λ (e : Entry). Some e) found.2))
    (with_pull_found old name (new_pull chosen) other found.0 found.1)

abbrev pub StartPullIsQuiet : Type 1
StartPullIsQuiet = (reset receives : Type 0) (contents : FileName → Option Content) (device : Device) (name : FileName) (old new : Replica) (answer : Answer) →
    IsSoundReplica device old → IsCalmReplica reset receives contents old → StartPullRow device name old new answer → IsQuietChange receives old new

pub start_pull_is_quiet : StartPullIsQuiet
start_pull_is_quiet reset receives contents device name old new answer sound calm row =
    let stays = nothing_is_quiet reset receives contents old calm in
    at_answers (IsQuietChange receives old) row stays
    (λ _ chosen.
    at_answers (IsQuietChange receives old) chosen.2 stays
    (λ _ needed.
    at_answers (IsQuietChange receives old) needed stays
    (λ not_none full.
    at_answers (IsQuietChange receives old) full stays
    (λ _ begun.
    at_becomes (IsQuietChange receives old) begun
    (record {
      own = λ other. inl refl;
      file = λ other. same_file (node_at old other);
      clean = λ other. (calm other).node;
      viewed = λ device other. refl;
      target = target_before old name chosen.0 (needed_is_viewed device old name chosen.0 chosen.1 not_none);
    })))))
