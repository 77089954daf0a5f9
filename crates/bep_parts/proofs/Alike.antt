-- Two cuts that say the same of a name: it is known in both or in neither, and has the same winner.
use Rattle.std.proofs.Common.{◌≡◌, ◌↔◌, List, [], ◌∷◌, ◌++◌, Contains, Option, IsSome, refl, sym, subst, ◌∙◌, inl, inr, ⊎_elim}
use Rattle.bep_record.specs.declared.entry.Entry.{Entry}
use Rattle.bep_record.specs.declared.node.NodeParts.{NodeParts}
use Rattle.bep_record.specs.declared.folder_kind.FolderKind.{FolderKind}
use Rattle.bep_choice.specs.Choice.{Candidate, IsChoice}
use Rattle.bep_model.specs.Tables.{Tables, Device, Folder, FileName, Shares}
use Rattle.bep_model.specs.Foreign.{IsViewed, IsFlying, IsForeign, IsKnown}
use Rattle.bep_model.specs.Winner.{IsWinner, beside, owned, smallest}

-- both say the same of the name
pub record IsAlike (one other : Tables) (folder : Folder) (name : FileName) : Type 0 where
  pub sharing : one.sharing folder ≡ other.sharing folder
  pub own : (device : Device) → one.own device folder name ≡ other.own device folder name
  pub node : (device : Device) → one.node device folder name ≡ other.node device folder name
  pub viewed : (device of : Device) → one.viewed device of folder name ≡ other.viewed device of folder name
  pub target : (device : Device) → one.target device folder name ≡ other.target device folder name
  pub flying : (device : Device) (entry : Entry) → IsFlying one device folder name entry ↔ IsFlying other device folder name entry

pub turned : (one other : Tables) (folder : Folder) (name : FileName) → IsAlike one other folder name → IsAlike other one folder name
turned one other folder name alike = record {
  sharing = sym alike.sharing;
  own = λ device. sym (alike.own device);
  node = λ device. sym (alike.node device);
  viewed = λ device of. sym (alike.viewed device of);
  target = λ device. sym (alike.target device);
  flying = λ device entry. ((alike.flying device entry).1, (alike.flying device entry).0);
}

module _ (one other : Tables) (folder : Folder) (name : FileName) (alike : IsAlike one other folder name) where
  pub shares_there : (device : Device) → Shares one device folder → Shares other device folder
  shares_there device shares =
      (shares.0, subst (λ (s : List (Device × FolderKind)). Contains s (device, shares.0)) alike.sharing shares.1)

  pub viewed_there : (device : Device) (entry : Entry) → IsViewed one device folder name entry → IsViewed other device folder name entry
  viewed_there device entry viewed = (viewed.0, sym (alike.viewed device viewed.0) ∙ viewed.1)

  foreign_there : (device : Device) (entry : Entry) → IsForeign one device folder name entry → IsForeign other device folder name entry
  foreign_there device entry foreign = record {
    known_by =
        ⊎_elim
        (λ viewed. inl (viewed_there device entry viewed))
        (λ rest.
        inr
        (⊎_elim
        (λ flying. inl ((alike.flying device entry).0 flying))
        (λ target. inr (sym (alike.target device) ∙ target))
        rest))
        foreign.known_by;
    valid = foreign.valid;
  }

  pub known_there : IsKnown one folder name → IsKnown other folder name
  known_there known = (
    known.0,
    shares_there known.0 known.1,
    ⊎_elim
        (λ node. inl (subst (λ (n : Option NodeParts). IsSome n) (alike.node known.0) node))
        (λ rest.
        inr
        (⊎_elim
        (λ own. inl (subst (λ (o : Option Entry). IsSome o) (alike.own known.0) own))
        (λ foreign. inr (foreign.0, foreign_there known.0 foreign.0 foreign.1))
        rest))
        known.2,
  )

  owned_there : (shares : List (Device × FolderKind)) → owned one folder name shares ≡ owned other folder name shares
  owned_there [] = refl
  owned_there (share ∷ more) = λ i. beside share.0 (alike.own share.0 i) ++ owned_there more i

  pub winner_there : (winner : Candidate) → IsWinner one folder name winner → IsWinner other folder name winner
  winner_there winner wins =
      subst (λ (s : List (Device × FolderKind)). IsChoice (smallest s) (owned other folder name s) winner) alike.sharing
      (subst (λ (candidates : List Candidate). IsChoice (smallest (one.sharing folder)) candidates winner) (owned_there (one.sharing folder)) wins)
