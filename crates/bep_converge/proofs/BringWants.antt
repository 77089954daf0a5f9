-- A device that isn't at the top of a name, and has the top in a view, wants a record of the top's version and content.
use Rattle.std.proofs.Common.{◌≡◌, ◌≢◌, ◌↔◌, ◌∙◌, ℕ, Bool, true, false, cond, List, Option, Some, None, refl, sym, ap, subst, inl, inr, ⊎_elim, arith}
use Rattle.std.specs.FinMap.{get}
use Rattle.bep_record.specs.declared.entry.Entry.{Entry}
use Rattle.bep_record.specs.declared.folder_kind.FolderKind.TheVariants.{SendOnly}
use Rattle.bep_record.specs.Content.{Deleted, content_of, content_of_kind}
use Rattle.bep_record.specs.Vector.{IsAtMost}
use Rattle.bep_choice.specs.Choice.{Candidate, IsValidAmong, IsChoice}
use Rattle.bep_choice.specs.Need.{IsNeeded, NeedsBeside}
use Rattle.bep_model.specs.Tables.{Device, Folder, FileName}
use Rattle.bep_model.specs.Firm.{AreEqual}
use Rattle.bep_model.proofs.StaysFacts.{not_deleted}
use Rattle.bep_choice.proofs.VersionOrder.{at_most_or_not}
use Rattle.bep_machine.specs.Replica.{Replica, own_at, viewed_at, candidates, Wants}
use Rattle.bep_machine.specs.Cluster.{Cluster}
use Rattle.bep_machine.specs.Said.{tables_of_cluster}
use Rattle.bep_machine.specs.Sound.{IsSoundReplica, FitsFolder}
use Rattle.bep_converge.specs.Prevails.{IsAnywhere, IsNoLocalChange, IsAtTop, LetsIn}
use Rattle.bep_converge.proofs.Candidates.{viewed_is_candidate, candidate_is}
use Rattle.bep_converge.proofs.BringStage.{Stage, said_of, sound_peer}

-- where a candidate is valid there is a choice
abbrev pub SomeChoice : Type 0
SomeChoice = (chooser : ℕ) (candidates : List Candidate) → ((one : Candidate) × IsChoice chooser candidates one) ↔ ((one : Candidate) × IsValidAmong candidates one)

-- ---- the choice

pub record IsWanted (device : Device) (replica : Replica) (name : FileName) (top wanted : Entry) : Type 0 where
  pub wants : Wants device replica name wanted
  pub version : AreEqual wanted.version top.version
  pub content : content_of wanted ≡ content_of top
  pub valid : wanted.invalid ≡ false

there_if : (top wanted : Entry) → ¬ (top.deleted ≡ true) → content_of wanted ≡ content_of top → wanted.deleted ≡ false
there_if top wanted there same = by_test wanted.deleted refl
  where
    not_true : (b : Bool) → ¬ (b ≡ true) → b ≡ false
    not_true true never = absurd (never refl)
    not_true false never = refl

    by_test : (b : Bool) → wanted.deleted ≡ b → b ≡ false
    by_test true is =
        let gone : content_of wanted ≡ Deleted = ap (λ (b : Bool). cond b Deleted (content_of_kind wanted.kind wanted.blocks wanted.target)) is in
        absurd (not_deleted top (not_true top.deleted there) (sym same ∙ gone))
    by_test false is = refl

module _ (some_choice : SomeChoice) (device owner : Device) (folder : Folder) (name : FileName) (top : Entry) where
  module _ (c : Cluster) (stage : Stage device owner folder name top c) (replica : Replica) (there : get (c.peer device).replicas folder ≡ Some replica) where
    -- each candidate that isn't invalid is known
    anywhere : (one : Candidate) → IsValidAmong (candidates device replica name) one → IsAnywhere (tables_of_cluster c) folder name one.1
    anywhere one valid = (
      device,
      stage.near_shares,
      ⊎_elim
          (λ own. inl (said_of own_at c device folder replica name stage.near_shares there ∙ own.1, valid.1))
          (λ viewed. inr (record {
            known_by = inl (one.0, said_of (λ replica name. viewed_at replica one.0 name) c device folder replica name stage.near_shares there ∙ viewed.1);
            valid = valid.1;
          }))
          (candidate_is device replica name one valid.0),
    )

    -- the device takes changes
    receives : ¬ IsAtTop (own_at replica name) top → replica.kind ≢ SendOnly
    receives below sends =
        let fit : FitsFolder c.config device folder replica = (sound_peer c stage.sound device folder stage.near_shares).fit folder replica there in
        let lets : LetsIn (tables_of_cluster c) device folder name top = stage.prevails.everywhere device stage.near_shares in
        ⊎_elim
        (λ at. below (subst (λ (o : Option Entry). IsAtTop o top) (said_of own_at c device folder replica name stage.near_shares there) at))
        (λ takes. takes.2 (sym (stage.joined.once device folder replica.kind takes.0 fit.kind takes.1) ∙ sends))
        lets.takes

    -- whatever of the top's version is chosen is needed
    needs : ¬ IsAtTop (own_at replica name) top → (wanted : Entry) → AreEqual wanted.version top.version → content_of wanted ≡ content_of top → IsNeeded replica.kind (own_at replica name) wanted
    needs below wanted version content = by_own (own_at replica name) refl below
      where
        by_own : (own : Option Entry) → own_at replica name ≡ own → ¬ IsAtTop own top → IsNeeded replica.kind own wanted
        by_own None is not_top = (there_if top wanted not_top content, receives below)
        by_own (Some own) is not_top =
            let says : (tables_of_cluster c).own device folder name ≡ Some own = said_of own_at c device folder replica name stage.near_shares there ∙ is in
            let local : own.invalid ≡ false = subst (λ (o : Option Entry). IsNoLocalChange o) says (stage.prevails.everywhere device stage.near_shares).not_local in
            let within : IsAtMost own.version top.version = stage.prevails.top_of.above_all own (device, stage.near_shares, inl (says, local)) in
            subst (λ (b : Bool). NeedsBeside b replica.kind own wanted) (sym local) (
              (λ behind. not_top (within, λ id. let a = version.1 id in let b = behind id in omega arith)),
              (λ sends. absurd (receives below sends)),
            )

    pub wants_top : viewed_at replica owner name ≡ Some top → ¬ IsAtTop (own_at replica name) top → (wanted : Entry) × IsWanted device replica name top wanted
    wants_top has below =
        let sound : IsSoundReplica device replica = (sound_peer c stage.sound device folder stage.near_shares).replicas folder replica there in
        let valid_top : IsValidAmong (candidates device replica name) (owner, top) = (viewed_is_candidate device replica owner name top sound has, stage.prevails.top_of.owned.1) in
        let choice = (some_choice device (candidates device replica name)).1 ((owner, top), valid_top) in
        let wanted : Entry = choice.0.1 in
        let left = choice.1.left in
        let known : IsAnywhere (tables_of_cluster c) folder name wanted = anywhere choice.0 left.valid in
        let within : IsAtMost wanted.version top.version = stage.prevails.top_of.above_all wanted known in
        let above : IsAtMost top.version wanted.version =
        ⊎_elim (λ yes. yes) (λ no. absurd (left.undominated (owner, top) valid_top.0 (stage.prevails.top_of.owned.1, (within, no)))) (at_most_or_not top.version wanted.version) in
        let content : content_of wanted ≡ content_of top =
        stage.prevails.chain.agree wanted top known (stage.prevails.top_of.owner, stage.prevails.top_of.shares, inl stage.prevails.top_of.owned) (within, above) in (
          wanted,
          record {
            wants = record { chosen = (choice.0.0, choice.1); needed = needs below wanted (within, above) content };
            version = (within, above);
            content = content;
            valid = left.valid.1;
          },
        )
