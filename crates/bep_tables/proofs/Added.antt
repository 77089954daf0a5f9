-- Which names each part of a cut adds.
use Rattle.std.proofs.Common.{◌≡◌, ◌⊎◌, ◌↔◌, Bool, true, false, cond, List, [], ◌∷◌, fold, Some, IsSome, IsTrue, is_some, Contains, refl, sym, ap, subst, ◌∙◌, inl, inr, ⊎_elim}
use Rattle.std.specs.Prelude.{nat_eq}
use Rattle.std.specs.Ordering.{nat_cmp, eq_by_cmp, is_eq}
use Rattle.std.specs.Cmp.Lexicographic.{slice_cmp, pointwise, bytes_decides, nat_list_cmp_total}
use Rattle.std.specs.FinMap.{get, contains_key, insert, empty, keys, values, get-empty, get-insert}
use Rattle.std.proofs.lemmas.Cmp.{tied_itself}
use Rattle.std.proofs.lemmas.Map.Lookups.{exact_bytes}
use Rattle.std.specs.Cmp.{Equal-is}
use Rattle.bep_facts.specs.Members.{Contains-cons_cases, Contains-first, Contains-more, not_in_none}
use Rattle.bep_map.specs.NameMap.{ByName}
use Rattle.bep_record.specs.declared.entry.Entry.{Entry}
use Rattle.bep_model.specs.declared.flight.Flight.{Flight}
use Rattle.bep_model.specs.Tables.{Folder, FileName}
use Rattle.bep_tables.specs.declared.share.Share.{Share}
use Rattle.bep_tables.specs.declared.share.PeerView.{PeerView}
use Rattle.bep_tables.specs.declared.link.LinkState.{LinkState}
use Rattle.bep_tables.specs.declared.cut.CutParts.{CutParts}
use Rattle.bep_tables.specs.Cut.{shares_of}
use Rattle.bep_tables.specs.Names.{Names, with_names, with_valid, with_view, with_share, with_flight, with_link, known_names}
use Rattle.bep_tables.proofs.Values.{key_has_value}

-- the name is in the set
abbrev pub Has : Names → FileName → Type 0
Has names name = IsTrue (contains_key names name)

-- a step adds the names of which this holds
pub record Adds (step : Names → Names) (P : FileName → Type 0) : Type 0 where
  pub only : (names : Names) (name : FileName) → Has (step names) name → Has names name ⊎ P name
  pub kept : (names : Names) (name : FileName) → Has names name → Has (step names) name
  pub added : (names : Names) (name : FileName) → P name → Has (step names) name

-- ---- steps in general
-- the same names, by another fact
adds_alike : {step : Names → Names} {P Q : FileName → Type 0} → Adds step P → ((name : FileName) → P name ↔ Q name) → Adds step Q
adds_alike a same = record {
  only = λ names name has. ⊎_elim (λ old. inl old) (λ new. inr ((same name).0 new)) (a.only names name has);
  kept = a.kept;
  added = λ names name new. a.added names name ((same name).1 new);
}

-- one step after another
adds_both : {first then : Names → Names} {P Q : FileName → Type 0} → Adds first P → Adds then Q → Adds (λ names. then (first names)) (λ name. P name ⊎ Q name)
adds_both {first = first} a b = record {
  only = λ names name has. ⊎_elim
      (λ before. ⊎_elim (λ old. inl old) (λ one. inr (inl one)) (a.only names name before))
      (λ other. inr (inr other))
      (b.only (first names) name has);
  kept = λ names name has. b.kept (first names) name (a.kept names name has);
  added = λ names name either. ⊎_elim
      (λ one. b.kept (first names) name (a.added names name one))
      (λ other. b.added (first names) name other)
      either;
}

-- a step for each of a list
adds_each : {X : Type 0} (step : Names → X → Names) (P : X → FileName → Type 0) → ((x : X) → Adds (λ names. step names x) (P x)) → (xs : List X) → Adds (λ names. fold step names xs) (λ name. (x : X) × Contains xs x × P x name)
adds_each step P each [] = record {
  only = λ names name has. inl has;
  kept = λ names name has. has;
  added = λ names name some. absurd (not_in_none some.0 some.1);
}
adds_each step P each (x ∷ xs) =
    let rest = adds_each step P each xs in record {
      only = λ names name has. ⊎_elim
          (λ before. ⊎_elim (λ old. inl old) (λ here. inr (x, Contains-first x xs, here)) ((each x).only names name before))
          (λ later. inr (later.0, Contains-more x xs later.0 later.1, later.2))
          (rest.only (step names x) name has);
      kept = λ names name has. rest.kept (step names x) name ((each x).kept names name has);
      added = λ names name some. ⊎_elim
          (λ same. rest.kept (step names x) name ((each x).added names name (subst (λ one. P one name) (sym same) some.2)))
          (λ later. rest.added (step names x) name (some.0, later, some.2))
          (Contains-cons_cases x xs some.0 some.1);
    }

-- ---- one name
adds_one : (new : FileName) → Adds (λ names. insert names new tt) (λ name. new ≡ name)
adds_one new = record {
  only = λ names name has. there names name (eq_by_cmp (slice_cmp nat_cmp) name new) refl (sym (inserted names name) ∙ has);
  kept = λ names name has. inserted names name ∙ still names name (eq_by_cmp (slice_cmp nat_cmp) name new) has;
  added = λ names name same.
      subst (λ n. Has (insert names new tt) n) same
      (inserted names new ∙ ap (λ b. is_some (cond b (Some tt) (get names new))) (ap is_eq (tied_itself nat_list_cmp_total new)));
}
  where
    inserted : (names : Names) (name : FileName) → contains_key (insert names new tt) name ≡ is_some (cond (eq_by_cmp (slice_cmp nat_cmp) name new) (Some tt) (get names name))
    inserted names name = ap is_some (get-insert nat_list_cmp_total names new tt name)

    there : (names : Names) (name : FileName) (b : Bool) → eq_by_cmp (slice_cmp nat_cmp) name new ≡ b → is_some (cond b (Some tt) (get names name)) ≡ true → Has names name ⊎ (new ≡ name)
    there names name true same e = inr (sym (exact_bytes name new ((Equal-is _).0 same)))
    there names name false apart e = inl e

    still : (names : Names) (name : FileName) (b : Bool) → Has names name → is_some (cond b (Some tt) (get names name)) ≡ true
    still names name true has = refl
    still names name false has = has

-- the names of a map
adds_keys : {V : Type 0} (m : ByName V) → Adds (λ names. with_names names (keys m)) (λ name. IsSome (get m name))
adds_keys m =
    adds_alike
    (adds_each (λ names new. insert names new tt) (λ new name. new ≡ name) adds_one (keys m))
    (λ name. (λ some. (key_has_value m name).0 (subst (Contains (keys m)) some.2 some.1), λ held. (name, (key_has_value m name).1 held, refl)))

-- ---- records of others
-- the record isn't invalid, and has the name
abbrev pub IsValidAt : Entry → FileName → Type 0
IsValidAt entry name = (entry.invalid ≡ false) × (entry.name ≡ name)

adds_valid : (entry : Entry) → Adds (λ names. with_valid names entry) (IsValidAt entry)
adds_valid entry = cases entry.invalid refl where
  cases : (invalid : Bool) → entry.invalid ≡ invalid → Adds (λ names. cond invalid names (insert names entry.name tt)) (IsValidAt entry)
  cases true e = record { only = λ names name has. inl has; kept = λ names name has. has; added = λ names name is. let valid = is.0 in absurd (cc) }
  cases false e = adds_alike (adds_one entry.name) (λ name. (λ same. (e, same), λ is. is.1))

-- one of these isn't invalid, and has the name
abbrev pub HasValid : List Entry → FileName → Type 0
HasValid entries name = (entry : Entry) × Contains entries entry × IsValidAt entry name

adds_valid_ones : (entries : List Entry) → Adds (λ names. fold with_valid names entries) (HasValid entries)
adds_valid_ones entries = adds_each with_valid IsValidAt adds_valid entries

-- ---- devices
-- the device recorded, holds, knows of others or pulls something at the name
abbrev pub HasName : Share → FileName → Type 0
HasName share name =
    ((IsSome (get share.own name) ⊎ IsSome (get share.store name)) ⊎ ((view : PeerView) × Contains share.views view × HasValid (values view.records) name))
    ⊎ IsSome (get share.pulls name)

adds_share : (share : Share) → Adds (λ names. with_share names share) (HasName share)
unfolding with_share
adds_share share =
    adds_both
    (adds_both
    (adds_both (adds_keys share.own) (adds_keys share.store))
    (adds_each with_view (λ view. HasValid (values view.records)) (λ view. adds_valid_ones (values view.records)) share.views))
    (adds_keys share.pulls)

-- ---- messages on their way
-- the message is of the folder, and has a valid record of the name
abbrev pub HasFlown : Folder → Flight → FileName → Type 0
HasFlown folder flight name = (flight.folder ≡ folder) × HasValid flight.records name

adds_flight : (folder : Folder) (flight : Flight) → Adds (λ names. with_flight folder names flight) (HasFlown folder flight)
unfolding with_flight
adds_flight folder flight = cases (pointwise nat_eq flight.folder folder) (bytes_decides flight.folder folder) where
  cases : (b : Bool) → (b ≡ true) ↔ (flight.folder ≡ folder) → Adds (λ names. cond b (fold with_valid names flight.records) names) (HasFlown folder flight)
  cases true same = adds_alike (adds_valid_ones flight.records) (λ name. (λ has. (same.0 refl, has), λ flown. flown.1))
  cases false same = record { only = λ names name has. inl has; kept = λ names name has. has; added = λ names name flown. let e = same.1 flown.0 in absurd (cc) }

-- a message on its way over the link
abbrev pub HasFlownOver : Folder → LinkState → FileName → Type 0
HasFlownOver folder link name =
    ((flight : Flight) × Contains link.to_a flight × HasFlown folder flight name) ⊎ ((flight : Flight) × Contains link.to_b flight × HasFlown folder flight name)

adds_link : (folder : Folder) (link : LinkState) → Adds (λ names. with_link folder names link) (HasFlownOver folder link)
unfolding with_link
adds_link folder link =
    adds_both
    (adds_each (with_flight folder) (HasFlown folder) (adds_flight folder) link.to_a)
    (adds_each (with_flight folder) (HasFlown folder) (adds_flight folder) link.to_b)

-- ---- a cut
in_empty : (name : FileName) → ¬ Has empty name
in_empty name h = let e = ap is_some (get-empty {X = Unit {0}} (slice_cmp nat_cmp) name) in absurd (cc)

-- a known name is one of a device's or of a message's
pub known : (cut : CutParts) (folder : Folder) (name : FileName) → Has (known_names cut folder) name ↔ (((share : Share) × Contains (shares_of folder cut.folders) share × HasName share name) ⊎ ((link : LinkState) × Contains cut.links link × HasFlownOver folder link name))
unfolding known_names
known cut folder name =
    let all =
    adds_both
    (adds_each with_share HasName adds_share (shares_of folder cut.folders))
    (adds_each (with_link folder) (HasFlownOver folder) (adds_link folder) cut.links)
    in (
      λ has. ⊎_elim (λ none. absurd (in_empty name none)) (λ new. new) (all.only empty name has),
      λ new. all.added empty name new,
    )
