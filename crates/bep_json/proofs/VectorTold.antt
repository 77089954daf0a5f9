-- Whether counters are a version vector may be asked first, or once all else is told: the same is told.
use Rattle.std.proofs.Common.{◌≡◌, ◌∙◌, ℕ, List, Bool, true, false, Option, Some, None, Result, Ok, Err, refl, ap}
use Rattle.serde_json.specs.Data.{Data}
use Rattle.bep_json.specs.declared.told.Misread.{Misread}
use Rattle.bep_json.specs.declared.told.Misread.TheVariants.{Shape, Range}
use Rattle.bep_json.specs.Reading.{◌>>=◌}
use Rattle.bep_json.specs.Lists.{read_pair, is_version, if_version, read_list, read_version}
use Rattle.bep_json.specs.Taking.{judged, both, told_as}
use Rattle.bep_json.specs.inner.Said.{if_so, told_by}

-- what is told of the counters, if they are a version vector
abbrev pub vector_told : Result (List (ℕ × ℕ)) Misread → Result (List (ℕ × ℕ)) Misread
vector_told told = told_by (λ counters. if_so (is_version counters) counters) told

-- ---- first

vector_by : (counters : List (ℕ × ℕ)) (is_one : Bool) → is_version counters ≡ is_one → vector_told (Ok counters) ≡ judged true (if_version counters)
vector_by counters true is = rw is
vector_by counters false is = rw is

vector_of_read : (shape : Bool) (read : Option (List (ℕ × ℕ))) → vector_told (judged shape read) ≡ judged shape (read >>= if_version)
vector_of_read false read = refl
vector_of_read true None = refl
vector_of_read true (Some counters) = vector_by counters (is_version counters) refl

-- what is told of a member that must be there, and be a version vector
pub vector_is : (shape : Bool) (found : Option Data) → vector_told (judged shape (found >>= read_list read_pair)) ≡ judged shape (found >>= read_version)
unfolding read_version
vector_is false found = refl
vector_is true None = refl
vector_is true (Some d) = vector_of_read true (read_list read_pair d)

-- ---- last

one_if : {A B : Type 0} (a : A) (so : Bool) (b : B) → if_so so (a, b) ≡ both (Ok a) (if_so so b)
one_if a true b = refl
one_if a false b = refl

range_if : {A B : Type 0} (so : Bool) (b : B) → Err Range ≡ both {A = A} (Err Range) (if_so so b)
range_if true b = refl
range_if false b = refl

-- what is asked of the second thing may be asked of both
pub asked_later : {A B : Type 0} (asked : B → Bool) (first : Result A Misread) (second : Result B Misread)
    → told_by (λ t. if_so (asked t.1) t) (both first second) ≡ both first (told_by (λ b. if_so (asked b) b) second)
asked_later asked (Ok a) (Ok b) = one_if a (asked b) b
asked_later asked (Ok a) (Err misread) = refl
asked_later asked (Err Shape) second = refl
asked_later asked (Err Range) (Ok b) = range_if (asked b) b
asked_later asked (Err Range) (Err Shape) = refl
asked_later asked (Err Range) (Err Range) = refl

by_asked : {A B : Type 0} (a : A) (so : Bool) (second : Result B Misread) → told_by (λ t. if_so so t) (both (Ok a) second) ≡ both (if_so so a) second
by_asked a true (Ok b) = refl
by_asked a true (Err misread) = refl
by_asked a false (Ok b) = refl
by_asked a false (Err Shape) = refl
by_asked a false (Err Range) = refl

-- the same of the first thing
pub first_asked_later : {A B : Type 0} (asked : A → Bool) (first : Result A Misread) (second : Result B Misread)
    → told_by (λ t. if_so (asked t.0) t) (both first second) ≡ both (told_by (λ a. if_so (asked a) a) first) second
first_asked_later asked (Ok a) (Ok b) = by_asked a (asked a) (Ok b)
first_asked_later asked (Ok a) (Err misread) = by_asked a (asked a) (Err misread)
first_asked_later asked (Err Shape) second = refl
first_asked_later asked (Err Range) (Ok b) = refl
first_asked_later asked (Err Range) (Err Shape) = refl
first_asked_later asked (Err Range) (Err Range) = refl

made_if : {A B : Type 0} (make : A → B) (so : Bool) (a : A) → if_so so (make a) ≡ told_as make (if_so so a)
made_if make true a = refl
made_if make false a = refl

-- what is made of the things is made of them once they were asked
pub made_later : {A B : Type 0} (make : A → B) (asked : A → Bool) (told : Result A Misread)
    → told_by (λ a. if_so (asked a) (make a)) told ≡ told_as make (told_by (λ a. if_so (asked a) a) told)
made_later make asked (Ok a) = made_if make (asked a) a
made_later make asked (Err misread) = refl

-- so the fifth of many things may be asked last
pub fifth_asked_last : {A B C D R E : Type 0} (make : A × (B × (C × (D × (List (ℕ × ℕ) × R)))) → E)
    (a : Result A Misread) (b : Result B Misread) (c : Result C Misread) (d : Result D Misread) (counters : Result (List (ℕ × ℕ)) Misread) (rest : Result R Misread)
    → told_by (λ t. if_so (is_version t.1.1.1.1.0) (make t)) (both a (both b (both c (both d (both counters rest)))))
    ≡ told_as make (both a (both b (both c (both d (both (vector_told counters) rest)))))
fifth_asked_last make a b c d counters rest =
    made_later make (λ t. is_version t.1.1.1.1.0) (both a (both b (both c (both d (both counters rest)))))
    ∙ ap (told_as make)
    (asked_later (λ t. is_version t.1.1.1.0) a (both b (both c (both d (both counters rest))))
    ∙ ap (both a) (asked_later (λ t. is_version t.1.1.0) b (both c (both d (both counters rest)))
    ∙ ap (both b) (asked_later (λ t. is_version t.1.0) c (both d (both counters rest))
    ∙ ap (both c) (asked_later (λ t. is_version t.0) d (both counters rest)
    ∙ ap (both d) (first_asked_later is_version counters rest)))))
