-- A part says of the names that it keeps what the whole says, and nothing of other names.
use Rattle.std.proofs.Common.{◌≡◌, Bool, true, false, Contains, Option, Some, None, IsSome, refl, sym, ap, subst, ◌∙◌, ⊎_elim}
use Rattle.std.proofs.lemmas.Bool.{cond-true}
use Rattle.bep_facts.specs.Members.{Contains-image, Contains-from_image}
use Rattle.bep_record.specs.declared.entry.Entry.{Entry}
use Rattle.bep_model.specs.declared.flight.Flight.{Flight}
use Rattle.bep_model.specs.Tables.{Tables, Device, Folder, FileName}
use Rattle.bep_model.specs.Foreign.{IsFlying, IsForeign, IsKnown}
use Rattle.bep_parts.specs.Parts.{Keeps, flight_of, if_kept, only}
use Rattle.bep_parts.proofs.Alike.{IsAlike}
use Rattle.bep_parts.proofs.Kept.{kept_there, kept_was}

-- what is found under a name is kept, and was there
found_kept : {X : Type 0} (kept : Bool) (here : Option X) (x : X) → if_kept kept here ≡ Some x → (kept ≡ true) × (here ≡ Some x)
found_kept true here x found = (refl, found)
found_kept false here x found = absurd (let e : None ≡ Some x = found in cc)

some_kept : {X : Type 0} (kept : Bool) (here : Option X) → IsSome (if_kept kept here) → kept ≡ true
some_kept true here some = refl
some_kept false here some = absurd (cc)

module _ (keeps : Keeps) (t : Tables) (folder : Folder) (name : FileName) where
  found_at : {X : Type 0} (here : Option X) → keeps folder name ≡ true → if_kept (keeps folder name) here ≡ here
  found_at here kept = cond-true (keeps folder name) here None kept

  -- ---- on its way

  pub record HasFlown (device : Device) (entry : Entry) : Type 0 where
    pub kept : keeps folder name ≡ true
    pub flying : IsFlying t device folder name entry

  has_flown : (device : Device) (entry : Entry) → IsFlying (only keeps t) device folder name entry → HasFlown device entry
  has_flown device entry flying =
      let was = Contains-from_image (flight_of keeps) (t.flying flying.sender device) flying.flight flying.sent in
      let carried = subst (λ (f : Flight). Contains f.records entry) (sym was.2) flying.carried in
      let kept = kept_was (λ (e : Entry). keeps was.0.folder e.name) was.0.records entry carried in
      let same_folder : was.0.folder ≡ folder = ap (λ (f : Flight). f.folder) was.2 ∙ flying.same_folder in
      record {
        kept = sym (λ i. keeps (same_folder i) (flying.same_name i)) ∙ kept.1;
        flying = record {
          sender = flying.sender;
          shares = flying.shares;
          flight = was.0;
          sent = was.1;
          same_folder = same_folder;
          carried = kept.0;
          same_name = flying.same_name;
        };
      }

  flies_still : (device : Device) (entry : Entry) → keeps folder name ≡ true → IsFlying t device folder name entry → IsFlying (only keeps t) device folder name entry
  flies_still device entry kept flying = record {
    sender = flying.sender;
    shares = flying.shares;
    flight = flight_of keeps flying.flight;
    sent = Contains-image (flight_of keeps) (t.flying flying.sender device) flying.flight flying.sent;
    same_folder = flying.same_folder;
    carried = kept_there (λ (e : Entry). keeps flying.flight.folder e.name) flying.flight.records entry flying.carried ((λ i. keeps (flying.same_folder i) (flying.same_name i)) ∙ kept);
    same_name = flying.same_name;
  }

  -- ---- from elsewhere

  foreign_kept : (device : Device) (entry : Entry) → IsForeign (only keeps t) device folder name entry → keeps folder name ≡ true
  foreign_kept device entry foreign =
      ⊎_elim
      (λ viewed. (found_kept (keeps folder name) (t.viewed device viewed.0 folder name) entry viewed.1).0)
      (λ rest.
      ⊎_elim
      (λ flying. (has_flown device entry flying).kept)
      (λ target. (found_kept (keeps folder name) (t.target device folder name) entry target).0)
      rest)
      foreign.known_by

  -- ---- the whole

  pub only_alike : keeps folder name ≡ true → IsAlike (only keeps t) t folder name
  only_alike kept = record {
    sharing = refl;
    own = λ device. found_at (t.own device folder name) kept;
    node = λ device. found_at (t.node device folder name) kept;
    viewed = λ device of. found_at (t.viewed device of folder name) kept;
    target = λ device. found_at (t.target device folder name) kept;
    flying = λ device entry. (λ flying. (has_flown device entry flying).flying, flies_still device entry kept);
  }

  -- a name that is known in the part is kept
  pub known_kept : IsKnown (only keeps t) folder name → keeps folder name ≡ true
  known_kept known =
      ⊎_elim
      (λ node. some_kept (keeps folder name) (t.node known.0 folder name) node)
      (λ rest.
      ⊎_elim
      (λ own. some_kept (keeps folder name) (t.own known.0 folder name) own)
      (λ foreign. foreign_kept known.0 foreign.0 foreign.1)
      rest)
      known.2
