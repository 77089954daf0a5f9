-- What a part of a part keeps, and the rows of two parts, one above the other.
use Rattle.std.proofs.Common.{◌≡◌, Bool, true, false, cond, List, [], ◌∷◌, ◌++◌, map, Contains, Option, None, refl, ap, ◌∙◌, ⊎_elim}
use Rattle.std.specs.declared.cmp.Ordering.TheVariants.{Less}
use Rattle.std.specs.List.{filter}
use Rattle.std.proofs.lemmas.Bool.{cond-true}
use Rattle.std.proofs.lemmas.List.Elements.{Contains-append_cases, filter-append}
use Rattle.bep_facts.specs.Members.{not_in_none, Contains-first, Contains-more}
use Rattle.bep_record.specs.declared.entry.Entry.{Entry}
use Rattle.bep_model.specs.declared.flight.Flight.{Flight}
use Rattle.bep_model.specs.declared.row.Row.{Row}
use Rattle.bep_model.specs.Tables.{Tables, Folder, FileName}
use Rattle.bep_model.specs.Firm.{IsFirm}
use Rattle.bep_model.specs.Foreign.{IsKnown}
use Rattle.bep_model.specs.Settled.{IsSettled, Rise, key_of, key_cmp}
use Rattle.bep_model.proofs.Winners.{first_is_below, tail_rises}
use Rattle.bep_parts.specs.Parts.{Keeps, flight_of, if_kept, only, rows_of}
use Rattle.bep_parts.proofs.Kept.{rises_below}

-- ---- a part of a part

kept_twice : {X : Type 0} (inner outer : Bool) → (inner ≡ true → outer ≡ true) → (here : Option X) → if_kept inner (if_kept outer here) ≡ if_kept inner here
kept_twice true outer within here = cond-true outer here None (within refl)
kept_twice false outer within here = refl

filter_twice : {X : Type 0} (p q : X → Bool) → ((x : X) → p x ≡ true → q x ≡ true) → (xs : List X) → filter p (filter q xs) ≡ filter p xs
filter_twice p q within [] = refl
filter_twice {X = X} p q within (x ∷ xs) = cases (q x) refl (p x) refl (filter_twice p q within xs)
  where
    cases : (b : Bool) → q x ≡ b → (c : Bool) → p x ≡ c → filter p (filter q xs) ≡ filter p xs → filter p (cond b (x ∷ filter q xs) (filter q xs)) ≡ cond c (x ∷ filter p xs) (filter p xs)
    cases true is_q true is_p rest = cond-true (p x) (x ∷ filter p (filter q xs)) (filter p (filter q xs)) is_p ∙ ap (λ (more : List X). x ∷ more) rest
    cases true is_q false is_p rest = ap (λ (c : Bool). cond c (x ∷ filter p (filter q xs)) (filter p (filter q xs))) is_p ∙ rest
    cases false is_q true is_p rest = let e = within x is_p in absurd (cc)
    cases false is_q false is_p rest = rest

module _ (inner outer : Keeps) (within : (folder : Folder) (name : FileName) → inner folder name ≡ true → outer folder name ≡ true) where
  flights_twice : (flights : List Flight) → map (flight_of inner) (map (flight_of outer) flights) ≡ map (flight_of inner) flights
  flights_twice [] = refl
  flights_twice (flight ∷ flights) =
      λ i. record {
        folder = flight.folder;
        full = flight.full;
        records = filter_twice (λ (entry : Entry). inner flight.folder entry.name) (λ (entry : Entry). outer flight.folder entry.name) (λ entry. within flight.folder entry.name) flight.records i;
      }
      ∷ flights_twice flights i

  -- the names of a part, kept of a part that has them, are those of the whole
  pub only_twice : (t : Tables) → only inner (only outer t) ≡ only inner t
  only_twice t = λ i. record {
    sharing = t.sharing;
    own = λ device folder name. kept_twice (inner folder name) (outer folder name) (within folder name) (t.own device folder name) i;
    node = λ device folder name. kept_twice (inner folder name) (outer folder name) (within folder name) (t.node device folder name) i;
    viewed = λ device other folder name. kept_twice (inner folder name) (outer folder name) (within folder name) (t.viewed device other folder name) i;
    target = λ device folder name. kept_twice (inner folder name) (outer folder name) (within folder name) (t.target device folder name) i;
    flying = λ sender receiver. flights_twice (t.flying sender receiver) i;
  }

-- ---- a part without names

pub settled_where_unknown : (t : Tables) → ((folder : Folder) (name : FileName) → ¬ IsKnown t folder name) → IsSettled t []
settled_where_unknown t unknown = record {
  certificate = record {
    rise = tt;
    names = λ folder name. (λ known. absurd (unknown folder name known), λ has. absurd (not_in_none has.0 has.1));
    winners = λ row member. absurd (not_in_none row member);
  };
  own = λ row device member shares. absurd (not_in_none row member);
  store = λ row device member shares. absurd (not_in_none row member);
  foreign = λ row device member shares. absurd (not_in_none row member);
}

pub firm_where_unknown : (t : Tables) → ((folder : Folder) (name : FileName) → ¬ IsKnown t folder name) → IsFirm t []
firm_where_unknown t unknown = record {
  settled = settled_where_unknown t unknown;
  own = λ row device member shares. absurd (not_in_none row member);
  foreign = λ row device member shares. absurd (not_in_none row member);
}

-- ---- rows

module _ (keeps : Keeps) where
  pub rows_all_kept : (rows : List Row) → ((row : Row) → Contains rows row → keeps row.folder row.entry.name ≡ true) → rows_of keeps rows ≡ rows
  rows_all_kept [] kept = refl
  rows_all_kept (row ∷ rows) kept =
      cond-true (keeps row.folder row.entry.name) (row ∷ rows_of keeps rows) (rows_of keeps rows) (kept row (Contains-first row rows))
      ∙ ap (λ (more : List Row). row ∷ more) (rows_all_kept rows (λ other member. kept other (Contains-more row rows other member)))

  pub rows_none_kept : (rows : List Row) → ((row : Row) → Contains rows row → keeps row.folder row.entry.name ≡ false) → rows_of keeps rows ≡ []
  rows_none_kept [] kept = refl
  rows_none_kept (row ∷ rows) kept =
      ap (λ (b : Bool). cond b (row ∷ rows_of keeps rows) (rows_of keeps rows)) (kept row (Contains-first row rows))
      ∙ rows_none_kept rows (λ other member. kept other (Contains-more row rows other member))

  pub rows_of_both : (rows others : List Row) → rows_of keeps (rows ++ others) ≡ rows_of keeps rows ++ rows_of keeps others
  rows_of_both = filter-append (λ (row : Row). keeps row.folder row.entry.name)

-- rows and others above all of them rise together
pub rise_both : (rows others : List Row) → Rise rows → Rise others → ((row later : Row) → Contains rows row → Contains others later → key_cmp (key_of row) (key_of later) ≡ Less) → Rise (rows ++ others)
rise_both [] others rise above below = above
rise_both (row ∷ rows) others rise above below =
    rises_below row (rows ++ others)
    (rise_both rows others (tail_rises row rows rise) above (λ one later member. below one later (Contains-more row rows one member)))
    (λ later member.
    ⊎_elim (first_is_below row rows rise later) (below row later (Contains-first row rows)) (Contains-append_cases rows others later member))
