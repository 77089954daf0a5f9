-- A cut has a list of winners, or a first known name without winner, and never both.
use Rattle.std.proofs.Common.{◌≡◌, ◌⊎◌, List, [], ◌∷◌, Contains, refl, sym, ap, subst, ◌∙◌, inl, inr, ⊎_elim}
use Rattle.std.specs.Ordering.{ordering_reverse}
use Rattle.std.specs.declared.cmp.Ordering.TheVariants.{Less, Equal, Greater}
use Rattle.bep_facts.specs.Members.{not_in_none, Contains-first, Contains-more, Contains-cons_cases}
use Rattle.bep_facts.specs.Orders.{texts_total, texts_exact, order_cases}
use Rattle.bep_model.specs.declared.row.Row.{Row}
use Rattle.bep_model.specs.Tables.{Tables, Folder, FileName}
use Rattle.bep_model.specs.Foreign.{IsKnown}
use Rattle.bep_model.specs.Winner.{IsWinner}
use Rattle.bep_model.specs.Settled.{IsListOfWinners, HasRow, Rise, key_of, key_cmp}
use Rattle.bep_model.specs.WithoutWinner.{HasWinner, IsFirstWithoutWinner, OwnRecordsAreNamed}
use Rattle.bep_model.specs.Laws.{WinnersLeaveNoneOut, FirstWithoutIsUnique, WinnersOrFirstWithout}
use Rattle.bep_facts.specs.Decided.{OrNot, implies_or_not}
use Rattle.bep_model.proofs.FirstFault.{holds_or_first}
use Rattle.bep_model.proofs.Winners.{owned_says, first_is_below, tail_rises}
use Rattle.bep_model.proofs.CutDecided.{SomeChoice, known_or_not, has_winner_or_not}

-- ---- never both, and never two

pub winners_leave_none_out : WinnersLeaveNoneOut
winners_leave_none_out t rows folder name list without =
    let has = (list.names folder name).0 without.known in
    without.unwon (has.0.device, has.0.entry)
    (subst (λ (key : Folder × FileName). IsWinner t key.0 key.1 (has.0.device, has.0.entry)) has.2 (list.winners has.0 has.1))

-- no first name without winner comes before another
not_before : (t : Tables) (one other : Folder × FileName) → IsFirstWithoutWinner t one.0 one.1 → IsFirstWithoutWinner t other.0 other.1 → ¬ (key_cmp one other ≡ Less)
not_before t one other first_one first_other less =
    let wins = first_other.first one.0 one.1 first_one.without.known less in
    first_one.without.unwon wins.0 wins.1

pub first_without_is_unique : FirstWithoutIsUnique
first_without_is_unique t one other first_one first_other =
    ⊎_elim
    (λ less. absurd (not_before t one other first_one first_other less))
    (λ others.
    ⊎_elim
    (λ tied. texts_exact one other tied)
    (λ greater. absurd (not_before t other one first_other first_one (texts_total.antisymm other one ∙ ap ordering_reverse greater)))
    others)
    (order_cases (key_cmp one other))

-- ---- a row put into its place

-- the rows with this one among them, unless its name has one already
record IsPut (row : Row) (rows after : List Row) : Type 0 where
  rise : Rise after
  here : HasRow after row.folder row.entry.name
  kept : (other : Row) → Contains rows other → Contains after other
  only : (other : Row) → Contains after other → (row ≡ other) ⊎ Contains rows other

rises_below : (row : Row) (rows : List Row) → Rise rows → ((later : Row) → Contains rows later → key_cmp (key_of row) (key_of later) ≡ Less) → Rise (row ∷ rows)
rises_below row [] rise below = tt
rises_below row (next ∷ more) rise below = (below next (Contains-first next more), rise)

put_first : (row first : Row) (more : List Row) → Rise (first ∷ more) → key_cmp (key_of row) (key_of first) ≡ Less → IsPut row (first ∷ more) (row ∷ first ∷ more)
put_first row first more rise less = record {
  rise = (less, rise);
  here = (row, Contains-first row (first ∷ more), refl);
  kept = Contains-more row (first ∷ more);
  only = Contains-cons_cases row (first ∷ more);
}

put_nowhere : (row first : Row) (more : List Row) → Rise (first ∷ more) → key_cmp (key_of row) (key_of first) ≡ Equal → IsPut row (first ∷ more) (first ∷ more)
put_nowhere row first more rise tied = record {
  rise = rise;
  here = (first, Contains-first first more, sym (texts_exact (key_of row) (key_of first) tied));
  kept = λ other member. member;
  only = λ other member. inr member;
}

put_later : (row first : Row) (more after : List Row) → Rise (first ∷ more) → key_cmp (key_of row) (key_of first) ≡ Greater → IsPut row more after → IsPut row (first ∷ more) (first ∷ after)
put_later row first more after rise greater put = record {
  rise =
      rises_below first after put.rise
      (λ later member.
      ⊎_elim
      (λ same. subst (λ (r : Row). key_cmp (key_of first) (key_of r) ≡ Less) same (texts_total.antisymm (key_of first) (key_of row) ∙ ap ordering_reverse greater))
      (first_is_below first more rise later)
      (put.only later member));
  here = (put.here.0, Contains-more first after put.here.0 put.here.1, put.here.2);
  kept = λ other member.
      ⊎_elim
      (λ same. subst (Contains (first ∷ after)) same (Contains-first first after))
      (λ later. Contains-more first after other (put.kept other later))
      (Contains-cons_cases first more other member);
  only = λ other member.
      ⊎_elim
      (λ same. inr (subst (Contains (first ∷ more)) same (Contains-first first more)))
      (λ later. ⊎_elim inl (λ old. inr (Contains-more first more other old)) (put.only other later))
      (Contains-cons_cases first after other member);
}

put_somewhere : (row : Row) (rows : List Row) → Rise rows → (after : List Row) × IsPut row rows after
put_somewhere row [] rise = (
  row ∷ [],
  record {
    rise = tt;
    here = (row, Contains-first row [], refl);
    kept = λ other member. absurd (not_in_none other member);
    only = Contains-cons_cases row [];
  },
)
put_somewhere row (first ∷ more) rise =
    ⊎_elim
    (λ less. (row ∷ first ∷ more, put_first row first more rise less))
    (λ others.
    ⊎_elim
    (λ tied. (first ∷ more, put_nowhere row first more rise tied))
    (λ greater.
    let later = put_somewhere row more (tail_rises first more rise) in
    (first ∷ later.0, put_later row first more later.0 rise greater later.1))
    others)
    (order_cases (key_cmp (key_of row) (key_of first)))

-- ---- one of the two

module _ (t : Tables) (named : OwnRecordsAreNamed t) where
  -- the row holds the winner of a known name
  record IsWon (row : Row) : Type 0 where
    known : IsKnown t row.folder row.entry.name
    winner : IsWinner t row.folder row.entry.name (row.device, row.entry)

  -- the rows rise, and hold the winners of those of the keys that are known
  record AreWon (keys : List (Folder × FileName)) (rows : List Row) : Type 0 where
    rise : Rise rows
    won : (row : Row) → Contains rows row → IsWon row
    all : (key : Folder × FileName) → Contains keys key → IsKnown t key.0 key.1 → HasRow rows key.0 key.1

  won_row : (folder : Folder) (name : FileName) → IsKnown t folder name → HasWinner t folder name → (row : Row) × (IsWon row × (key_of row ≡ (folder, name)))
  won_row folder name known has =
      let own = owned_says t folder name (t.sharing folder) has.0 has.1.left.valid.0 in
      let same : has.0.1.name ≡ name = named has.0.0 folder name has.0.1 own in (
        record { folder = folder; device = has.0.0; entry = has.0.1 },
        (
          record {
            known = subst (IsKnown t folder) (sym same) known;
            winner = subst (λ (n : FileName). IsWinner t folder n has.0) (sym same) has.1;
          },
          λ i. (folder, same i),
        ),
      )

  won_more : (key : Folder × FileName) (keys : List (Folder × FileName)) (rows : List Row) → AreWon keys rows → (IsKnown t key.0 key.1 → HasRow rows key.0 key.1) → AreWon (key ∷ keys) rows
  won_more key keys rows won here = record {
    rise = won.rise;
    won = won.won;
    all = λ other member known.
        ⊎_elim
        (λ same. subst (λ (k : Folder × FileName). IsKnown t k.0 k.1 → HasRow rows k.0 k.1) same here known)
        (λ later. won.all other later known)
        (Contains-cons_cases key keys other member);
  }

  won_put : (row : Row) (keys : List (Folder × FileName)) (rows after : List Row) → AreWon keys rows → IsWon row → IsPut row rows after → AreWon keys after
  won_put row keys rows after won is_won put = record {
    rise = put.rise;
    won = λ other member. ⊎_elim (λ same. subst IsWon same is_won) (won.won other) (put.only other member);
    all = λ key member known. let has = won.all key member known in (has.0, put.kept has.0 has.1, has.2);
  }

  has_row_at : (rows : List Row) (one other : Folder × FileName) → one ≡ other → HasRow rows one.0 one.1 → HasRow rows other.0 other.1
  has_row_at rows one other same has = subst (λ (k : Folder × FileName). HasRow rows k.0 k.1) same has

  module _ (known : (key : Folder × FileName) → OrNot (IsKnown t key.0 key.1)) (wins : (key : Folder × FileName) → IsKnown t key.0 key.1 → HasWinner t key.0 key.1) where
    won_rows : (keys : List (Folder × FileName)) → (rows : List Row) × AreWon keys rows
    won_rows [] = ([], record { rise = tt; won = λ row member. absurd (not_in_none row member); all = λ key member. absurd (not_in_none key member) })
    won_rows (key ∷ keys) =
        let before = won_rows keys in
        ⊎_elim
        (λ is_known.
        let row = won_row key.0 key.1 is_known (wins key is_known) in
        let after = put_somewhere row.0 before.0 before.1.rise in (
          after.0,
          won_more key keys after.0 (won_put row.0 keys before.0 after.0 before.1 row.1.0 after.1)
              (λ _. has_row_at after.0 (key_of row.0) key row.1.1 after.1.here),
        ))
        (λ unknown. (before.0, won_more key keys before.0 before.1 (λ is_known. absurd (unknown is_known))))
        (known key)

    list_of : (keys : List (Folder × FileName)) (rows : List Row) → AreWon keys rows → ((folder : Folder) (name : FileName) → IsKnown t folder name → Contains keys (folder, name)) → IsListOfWinners t rows
    list_of keys rows won all_known = record {
      rise = won.rise;
      names = λ folder name. (
        λ is_known. won.all (folder, name) (all_known folder name is_known) is_known,
        λ has. subst (λ (k : Folder × FileName). IsKnown t k.0 k.1) has.2 (won.won has.0 has.1).known,
      );
      winners = λ row member. (won.won row member).winner;
    }

pub winners_or_first_without_lem : SomeChoice → WinnersOrFirstWithout
winners_or_first_without_lem some_choice t finite named =
    ⊎_elim
    (λ wins.
    let rows = won_rows t named known wins finite.names in
    inl (rows.0, list_of t named known wins finite.names rows.0 rows.1 finite.all_known))
    (λ found. inr (found.0, first_without found.0 found.1.0 found.1.1))
    (holds_or_first key_cmp texts_total IsWon-or_unknown decide finite.names covers)
  where
    IsWon-or_unknown : Folder × FileName → Type 0
    IsWon-or_unknown key = IsKnown t key.0 key.1 → HasWinner t key.0 key.1

    known : (key : Folder × FileName) → OrNot (IsKnown t key.0 key.1)
    known key = known_or_not t finite key.0 key.1

    decide : (key : Folder × FileName) → OrNot (IsWon-or_unknown key)
    decide key = implies_or_not (known key) (has_winner_or_not some_choice t key.0 key.1)

    must_be_known : (key : Folder × FileName) → ¬ IsWon-or_unknown key → IsKnown t key.0 key.1
    must_be_known key fails = ⊎_elim (λ is_known. is_known) (λ unknown. absurd (fails (λ is_known. absurd (unknown is_known)))) (known key)

    covers : (key : Folder × FileName) → ¬ IsWon-or_unknown key → Contains finite.names key
    covers key fails = finite.all_known key.0 key.1 (must_be_known key fails)

    first_without : (key : Folder × FileName) → ¬ IsWon-or_unknown key → ((other : Folder × FileName) → key_cmp other key ≡ Less → IsWon-or_unknown other) → IsFirstWithoutWinner t key.0 key.1
    first_without key fails earlier = record {
      without = record { known = must_be_known key fails; unwon = λ one wins. fails (λ _. (one, wins)) };
      first = λ folder name is_known less. earlier (folder, name) less is_known;
    }
