-- Which record is chosen among those that are known of a name (this project's profile). Candidates are a finite set of pairs
-- of a device and its record; a list stands for the set of its members.
use Rattle.std.specs.Prelude.{◌≡◌, ◌≢◌, ◌==◌, ℕ, false, List, map, Contains, IsSomeAnd, slice_get}
use Rattle.std.specs.declared.cmp.Ordering.{Ordering}
use Rattle.std.specs.declared.cmp.Ordering.TheVariants.{Greater}
use Rattle.std.specs.Ordering.{nat_cmp, int_cmp, bool_cmp, on, flip_args, then_cmp}
use Rattle.std.specs.Borrow.{Bor}
use Rattle.bep_record.specs.declared.entry.Entry.{Entry}
use Rattle.bep_record.specs.Vector.{IsBelow}

-- a device and the record that it has
abbrev pub Candidate : Type 0
Candidate = ℕ × Entry

-- the candidates that are lent as pairs of a device and a reference to its record
abbrev pub candidate_of : ℕ × Bor Entry → Candidate
candidate_of lent = (lent.0, lent.1.now)

abbrev pub candidates_of : List (ℕ × Bor Entry) → List Candidate
candidates_of lent = map candidate_of lent

-- the other record isn't invalid, and its version is strictly above that of the first
abbrev pub IsDominated : Entry → Entry → Type 0
IsDominated one other = (other.invalid ≡ false) × IsBelow one.version other.version

-- the candidate is in the set, and its record isn't invalid
abbrev pub IsValidAmong : List Candidate → Candidate → Type 0
IsValidAmong candidates one = Contains candidates one × (one.1.invalid ≡ false)

-- what is left without invalid records, and then without each whose version is strictly below that of another
pub record IsLeft (candidates : List Candidate) (one : Candidate) : Type 0 where
  pub valid : IsValidAmong candidates one
  pub undominated : (other : Candidate) → Contains candidates other → ¬ IsDominated one.1 other.1

-- Which of two comes first for the device that chooses (the lesser does, and false is less than true): what isn't
-- deleted; the later time, by seconds and then nanoseconds; the smaller `modified_by`; the chooser's own; the smaller
-- device.
abbrev pub choice_cmp : ℕ → Candidate → Candidate → Ordering
choice_cmp chooser =
    then_cmp (on (λ one. one.1.deleted) bool_cmp)
    (then_cmp (flip_args (on (λ one. one.1.modified_s) int_cmp))
    (then_cmp (flip_args (on (λ one. one.1.modified_ns) nat_cmp))
    (then_cmp (on (λ one. one.1.modified_by) nat_cmp)
    (then_cmp (flip_args (on (λ one. one.0 == chooser) bool_cmp))
    (on (λ one. one.0) nat_cmp)))))

-- the other doesn't come before this one
abbrev pub IsNotBehind : ℕ → Candidate → Candidate → Type 0
IsNotBehind chooser one other = choice_cmp chooser one other ≢ Greater

-- the choice: of what is left, the pair that no other comes before
pub record IsChoice (chooser : ℕ) (candidates : List Candidate) (one : Candidate) : Type 0 where
  pub left : IsLeft candidates one
  pub first : (other : Candidate) → IsLeft candidates other → IsNotBehind chooser one other

-- the choice stands at this place of the list
abbrev pub IsChoiceAt : ℕ → List Candidate → ℕ → Type 0
IsChoiceAt chooser candidates place = IsSomeAnd (slice_get candidates place) (IsChoice chooser candidates)

-- each device has one record at most
abbrev pub HasOneEach : List Candidate → Type 0
HasOneEach candidates = (one other : Candidate) → Contains candidates one → Contains candidates other → one.0 ≡ other.0 → one ≡ other

-- the same set, whatever the order and however often each member stands
abbrev pub SameSet : List Candidate → List Candidate → Type 0
SameSet candidates others = (one : Candidate) → (Contains candidates one → Contains others one) × (Contains others one → Contains candidates one)

-- none that is left is the device's
abbrev pub HasNoneLeft : ℕ → List Candidate → Type 0
HasNoneLeft device candidates = (one : Candidate) → IsLeft candidates one → one.0 ≢ device
