-- There is one winner at most, and so one list of winners.
use Rattle.std.proofs.Common.{◌≡◌, ◌⊎◌, ℕ, List, [], ◌∷◌, Contains, Option, Some, None, refl, sym, ap, subst, ◌∙◌, inl, inr, ⊎_elim}
use Rattle.std.specs.declared.cmp.Ordering.TheVariants.{Less}
use Rattle.std.proofs.lemmas.List.Elements.{Contains-append_cases}
use Rattle.bep_facts.specs.Members.{not_in_none, Contains-first, Contains-more, Contains-one, Contains-cons_cases}
use Rattle.bep_facts.specs.Orders.{texts_total, not_less_itself}
use Rattle.bep_facts.specs.Rising.{below_later, sorted_from_steps}
use Rattle.bep_record.specs.declared.entry.Entry.{Entry}
use Rattle.bep_record.specs.declared.folder_kind.FolderKind.{FolderKind}
use Rattle.bep_choice.specs.Choice.{Candidate, IsChoice, HasOneEach}
use Rattle.bep_model.specs.declared.row.Row.{Row}
use Rattle.bep_model.specs.Tables.{Tables, Device, Folder, FileName}
use Rattle.bep_model.specs.Winner.{beside, owned, own_candidates, IsWinner}
use Rattle.bep_model.specs.Settled.{HasRow, Rise, key_of, key_cmp, IsSettled}
use Rattle.bep_model.specs.Laws.{WinnerIsUnique, ListOfWinnersIsUnique, CertificateIsUnique, WinnersAreSettledIfAny}

-- the law of bep_choice: where each device has one record at most, there is one choice at most
abbrev pub OneChoice : Type 0
OneChoice = (chooser : ℕ) (candidates : List Candidate) (one other : Candidate) → HasOneEach candidates → IsChoice chooser candidates one → IsChoice chooser candidates other → one ≡ other

-- ---- one winner

pub beside_says : (device : Device) (own : Option Entry) (one : Candidate) → Contains (beside device own) one → (device ≡ one.0) × (own ≡ Some one.1)
beside_says device None one h = absurd (not_in_none one h)
beside_says device (Some entry) one h =
    let same = Contains-one (device, entry) one h in
    (ap (λ (c : Candidate). c.0) same, ap (λ (c : Candidate). Some c.1) same)

-- a candidate is its device's own record
pub owned_says : (t : Tables) (folder : Folder) (name : FileName) (shares : List (Device × FolderKind)) (one : Candidate) → Contains (owned t folder name shares) one → t.own one.0 folder name ≡ Some one.1
owned_says t folder name [] one h = absurd (not_in_none one h)
owned_says t folder name (share ∷ more) one h =
    ⊎_elim
    (λ here.
    let says = beside_says share.0 (t.own share.0 folder name) one here in
    subst (λ (device : Device). t.own device folder name ≡ Some one.1) says.0 says.1)
    (λ later. owned_says t folder name more one later)
    (Contains-append_cases (beside share.0 (t.own share.0 folder name)) (owned t folder name more) one h)

pub one_each : (t : Tables) (folder : Folder) (name : FileName) → HasOneEach (own_candidates t folder name)
one_each t folder name one other h k same =
    let of_one = owned_says t folder name (t.sharing folder) one h in
    let of_other = owned_says t folder name (t.sharing folder) other k in
    same_candidate one other same (sym of_one ∙ ap (λ (device : Device). t.own device folder name) same ∙ of_other)
  where
    same_candidate : (one other : Candidate) → one.0 ≡ other.0 → Some one.1 ≡ Some other.1 → one ≡ other
    same_candidate one other device entry =
        let e : one.1 ≡ other.1 = cc in
        λ i. (device i, e i)

pub same_winner : OneChoice → WinnerIsUnique
same_winner unique t folder name one other = unique _ (own_candidates t folder name) one other (one_each t folder name)

-- ---- one list

pub tail_rises : (row : Row) (more : List Row) → Rise (row ∷ more) → Rise more
tail_rises row [] rise = tt
tail_rises row (next ∷ more) rise = rise.1

-- each later row is above the first
pub first_is_below : (row : Row) (more : List Row) → Rise (row ∷ more) → (later : Row) → Contains more later → key_cmp (key_of row) (key_of later) ≡ Less
first_is_below row more rise =
    below_later key_cmp key_of row more (sorted_from_steps key_cmp key_of texts_total Rise (λ one next rest step. step) (row ∷ more) rise)

first_or_above : (row : Row) (more : List Row) → Rise (row ∷ more) → (folder : Folder) (name : FileName) → HasRow (row ∷ more) folder name → (key_of row ≡ (folder, name)) ⊎ (key_cmp (key_of row) (folder, name) ≡ Less)
first_or_above row more rise folder name has =
    ⊎_elim
    (λ same. inl (ap key_of same ∙ has.2))
    (λ later. inr (subst (λ (key : Folder × FileName). key_cmp (key_of row) key ≡ Less) has.2 (first_is_below row more rise has.0 later)))
    (Contains-cons_cases row more has.0 has.1)

HasRows : List Row → List Row → Type 0
HasRows rows others = (folder : Folder) (name : FileName) → HasRow rows folder name → HasRow others folder name

first_has : (row other : Row) (more others : List Row) → HasRows (row ∷ more) (other ∷ others) → HasRow (other ∷ others) row.folder row.entry.name
unfolding HasRows
first_has row other more others has = has row.folder row.entry.name (row, Contains-first row more, refl)

-- two rising lists about the same names begin with the same name
same_first : (row other : Row) (more others : List Row) → Rise (row ∷ more) → Rise (other ∷ others) → HasRows (row ∷ more) (other ∷ others) → HasRows (other ∷ others) (row ∷ more) → key_of row ≡ key_of other
same_first row other more others rise other_rise has back =
    ⊎_elim
    (λ same. sym same)
    (λ less.
    ⊎_elim
    (λ same. same)
    (λ greater. absurd (not_less_itself texts_total (key_of row) (texts_total.trans (key_of row) (key_of other) (key_of row) greater less)))
    (first_or_above row more rise other.folder other.entry.name (first_has other row others more back)))
    (first_or_above other others other_rise row.folder row.entry.name (first_has row other more others has))

-- and go on with the same names
same_rest : (row other : Row) (more others : List Row) → Rise (row ∷ more) → key_of row ≡ key_of other → HasRows (row ∷ more) (other ∷ others) → HasRows more others
unfolding HasRows
same_rest row other more others rise same has folder name has_row =
    let found = has folder name (has_row.0, Contains-more row more has_row.0 has_row.1, has_row.2) in
    ⊎_elim
    (λ here.
    let key : key_of row ≡ key_of has_row.0 = same ∙ ap key_of here ∙ found.2 ∙ sym has_row.2 in
    absurd
    (not_less_itself texts_total (key_of has_row.0)
    (subst (λ (k : Folder × FileName). key_cmp k (key_of has_row.0) ≡ Less) key (first_is_below row more rise has_row.0 has_row.1))))
    (λ later. (found.0, later, found.2))
    (Contains-cons_cases other others found.0 found.1)

-- rows of one key are one
SameAtKeys : List Row → List Row → Type 0
SameAtKeys rows others = (one other : Row) → Contains rows one → Contains others other → key_of one ≡ key_of other → one ≡ other

same_rows : (rows others : List Row) → Rise rows → Rise others → HasRows rows others → HasRows others rows → SameAtKeys rows others → rows ≡ others
unfolding HasRows SameAtKeys
same_rows [] [] rise other_rise has back same = refl
same_rows [] (other ∷ others) rise other_rise has back same =
    let found = back other.folder other.entry.name (other, Contains-first other others, refl) in
    absurd (not_in_none found.0 found.1)
same_rows (row ∷ more) [] rise other_rise has back same =
    let found = has row.folder row.entry.name (row, Contains-first row more, refl) in
    absurd (not_in_none found.0 found.1)
same_rows (row ∷ more) (other ∷ others) rise other_rise has back same =
    let key = same_first row other more others rise other_rise has back in
    let first : row ≡ other = same row other (Contains-first row more) (Contains-first other others) key in
    let rest : more ≡ others =
    same_rows more others (tail_rises row more rise) (tail_rises other others other_rise)
    (same_rest row other more others rise key has)
    (same_rest other row others more other_rise (sym key) back)
    (λ one two h k. same one two (Contains-more row more one h) (Contains-more other others two k)) in
    λ i. first i ∷ rest i

pub same_row : OneChoice → (t : Tables) (one other : Row) → key_of one ≡ key_of other → IsWinner t one.folder one.entry.name (one.device, one.entry) → IsWinner t other.folder other.entry.name (other.device, other.entry) → one ≡ other
same_row unique t one other key wins other_wins =
    let there = subst (λ (k : Folder × FileName). IsWinner t k.0 k.1 (one.device, one.entry)) key wins in
    let same = same_winner unique t other.folder other.entry.name (one.device, one.entry) (other.device, other.entry) there other_wins in
    λ i. record { folder = (key i).0; device = (same i).0; entry = (same i).1 }

pub list_of_winners_is_unique : OneChoice → ListOfWinnersIsUnique
unfolding HasRows SameAtKeys
list_of_winners_is_unique unique t rows others one two =
    same_rows rows others one.rise two.rise
    (λ folder name has. (two.names folder name).0 ((one.names folder name).1 has))
    (λ folder name has. (one.names folder name).0 ((two.names folder name).1 has))
    (λ row other h k key. same_row unique t row other key (one.winners row h) (two.winners other k))

pub certificate_is_unique_lem : OneChoice → CertificateIsUnique
certificate_is_unique_lem unique t rows others one two = list_of_winners_is_unique unique t rows others one.certificate two.certificate

pub winners_are_settled_if_any : OneChoice → WinnersAreSettledIfAny
winners_are_settled_if_any unique t rows others winners settled =
    subst (IsSettled t) (list_of_winners_is_unique unique t others rows settled.certificate winners) settled
