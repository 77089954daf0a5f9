-- What seats take from one another and give keeps the rule.
use Rattle.std.proofs.Common.{◌≡◌, ◌≢◌, ℕ, List, [], ◌∷◌, ◌++◌, length, set, Contains, refl, sym, ap, ◌∙◌, subst, inl, inr, ⊎_elim}
use Rattle.std.specs.List.{flat_map}
use Rattle.std.proofs.lemmas.List.Elements.{Contains-append_cases}
use Rattle.atomic_table.specs.Table.{Splits, Joins}
use Rattle.atomic_table.proofs.Lists.{set_else}
use Rattle.bep_facts.specs.Decided.{OrNot, same_or_not}
use Rattle.bep_facts.specs.Members.{Contains-first, Contains-from_flat_map, Contains-more, Contains-one, not_in_none}
use Rattle.bep_fit.specs.contracts.object.Object as object_row
use Rattle.bep_fit.specs.declared.object.Object.{Object}
use Rattle.bep_fit.specs.declared.stamped.Stamped.{Stamped}
use Rattle.bep_history.specs.declared.view.Row.{Row}
use Rattle.bep_history.specs.declared.view.View.{View}
use Rattle.bep_history.specs.Parts.{is_about, part_of}
use Rattle.bep_history.specs.inner.Rule.{IsKept, Knows}
use Rattle.bep_history.specs.View.{AreApart, HasRow, claims_of, first_of, first_row, joined, nothing, other_rows, rest_of, view}
use Rattle.bep_history.proofs.Filtered.{kept-passes}
use Rattle.bep_history.proofs.Apart.{apart_both}
use Rattle.bep_history.proofs.EachSeat.{each_push, each_set, turned, turned-here, turned-other}
use Rattle.bep_history.proofs.Moves.{knows_nothing}

-- the owner of an object, where the first one's is another
abbrev moved : Object → Object → ℕ → ℕ → ℕ
moved object first place was = ⊎_elim (λ _. place) (λ _. was) (same_or_not (object_row.the_row).coded object first)

moved-here : (object first : Object) (place was : ℕ) → object ≡ first → moved object first place was ≡ place
moved-here object first place was here = cases (same_or_not (object_row.the_row).coded object first)
  where
    cases : (d : OrNot (object ≡ first)) → ⊎_elim (λ _. place) (λ _. was) d ≡ place
    cases (inl is) = refl
    cases (inr apart) = absurd (apart here)

moved-other : (object first : Object) (place was : ℕ) → object ≢ first → moved object first place was ≡ was
moved-other object first place was other = cases (same_or_not (object_row.the_row).coded object first)
  where
    cases : (d : OrNot (object ≡ first)) → ⊎_elim (λ _. place) (λ _. was) d ≡ was
    cases (inl is) = absurd (other is)
    cases (inr apart) = refl

no_row : (object : Object) → ¬ HasRow [] object
no_row object has = not_in_none has.0 has.1

module _ (objects : List Object) where
  -- ---- what a seat knows is shown

  pub claims : (id : ℕ) (old : View) → Splits (IsKept objects) id old old (claims_of old)
  claims id old s kept at =
      let P = Knows objects kept.history kept.next kept.owner kept.drawer in
      let mine = kept.knows id old at in
      let in_row : (event : Stamped) → Contains (flat_map (λ one. one.events) old.rows) event → Contains kept.history event =
      λ event stands.
      let found = Contains-from_flat_map (λ (one : Row). one.events) old.rows event stands in
      (kept-passes (is_about found.0.object) kept.history event (subst (λ es. Contains es event) (mine.rows found.0 found.1).1 found.2)).0 in
      record {
        history = kept.history;
        next = kept.next;
        owner = kept.owner;
        drawer = kept.drawer;
        word = kept.word;
        begun = kept.begun;
        is_history = kept.is_history;
        below = kept.below;
        knows =
            each_push P (set s.views id old) (claims_of old) (each_set P s.views id old (λ j v _ there. kept.knows j v there) mine) (record {
              rows = λ one stands. absurd (not_in_none one stands);
              drawn = λ ticket stands. absurd (not_in_none ticket stands);
              claims = λ event stands. ⊎_elim (λ claimed. mine.claims event claimed) (in_row event) (Contains-append_cases old.claims (flat_map (λ one. one.events) old.rows) event stands);
              apart = tt;
            });
      }

  -- ---- rows go to another seat, and come back

  pub splits : (id : ℕ) (old : View) → Splits (IsKept objects) id old (other_rows old) (first_row old)
  splits id old s kept at = by_rows old.rows refl mine.apart
    where
      mine : Knows objects kept.history kept.next kept.owner kept.drawer id old
      mine = kept.knows id old at

      by_rows : (rows : List Row) → old.rows ≡ rows → AreApart rows
          → IsKept objects record { words = s.words; homes = s.homes; views = set s.views id (view (rest_of rows) old.drawn old.claims) ++ view (first_of rows) [] [] ∷ [] }
      by_rows [] is alone =
          let P = Knows objects kept.history kept.next kept.owner kept.drawer in
          let left : P id (view [] old.drawn old.claims) = record { rows = λ one stands. absurd (not_in_none one stands); drawn = mine.drawn; claims = mine.claims; apart = tt } in
          record {
            history = kept.history;
            next = kept.next;
            owner = kept.owner;
            drawer = kept.drawer;
            word = kept.word;
            begun = kept.begun;
            is_history = kept.is_history;
            below = kept.below;
            knows =
                each_push P (set s.views id (view [] old.drawn old.claims)) nothing
                (each_set P s.views id (view [] old.drawn old.claims) (λ j v _ there. kept.knows j v there) left)
                (knows_nothing objects _ _ _ _ _);
          }
      by_rows (first ∷ more) is alone =
          let left : View = view more old.drawn old.claims in
          let place : ℕ = length (set s.views id left) in
          let owner : Object → ℕ = λ object. moved object first.object place (kept.owner object) in
          let P : ℕ → View → Type 0 = Knows objects kept.history kept.next owner kept.drawer in
          let of_first = mine.rows first (subst (λ rows. Contains rows first) (sym is) (Contains-first first more)) in
          record {
            history = kept.history;
            next = kept.next;
            owner = owner;
            drawer = kept.drawer;
            word = kept.word;
            begun = kept.begun;
            is_history = kept.is_history;
            below = kept.below;
            knows =
                each_push P (set s.views id left) (view (first ∷ []) [] [])
                (each_set P s.views id left
                (λ j v other there.
                let theirs = kept.knows j v there in
                record {
                  rows = λ one stands.
                      let has = theirs.rows one stands in
                      (moved-other one.object first.object place (kept.owner one.object) (λ same. other (sym has.0 ∙ (ap kept.owner same ∙ of_first.0))) ∙ has.0, has.1, has.2);
                  drawn = theirs.drawn;
                  claims = theirs.claims;
                  apart = theirs.apart;
                })
                (record {
                  rows = λ one stands.
                      let has = mine.rows one (subst (λ rows. Contains rows one) (sym is) (Contains-more first more one stands)) in
                      (moved-other one.object first.object place (kept.owner one.object) (λ same. alone.0 (one, stands, same)) ∙ has.0, has.1, has.2);
                  drawn = mine.drawn;
                  claims = mine.claims;
                  apart = alone.1;
                }))
                (record {
                  rows = λ one stands.
                      subst (λ (z : Row). (owner z.object ≡ place) × (z.events ≡ part_of z.object kept.history) × Contains objects z.object) (Contains-one first one stands)
                      (moved-here first.object first.object place (kept.owner first.object) refl, of_first.1, of_first.2);
                  drawn = λ ticket stands. absurd (not_in_none ticket stands);
                  claims = λ event stands. absurd (not_in_none event stands);
                  apart = (no_row first.object, tt);
                });
          }

  pub joins : (id : ℕ) (old : View) (other : ℕ) (theirs : View) → Joins (IsKept objects) id old other theirs (joined old theirs) nothing
  joins id old other theirs s kept at apart there =
      let owner : Object → ℕ = λ object. turned other id (kept.owner object) in
      let drawer : ℕ → ℕ = λ ticket. turned other id (kept.drawer ticket) in
      let P : ℕ → View → Type 0 = Knows objects kept.history kept.next owner drawer in
      let mine = kept.knows id old at in
      let given = kept.knows other theirs (sym (set_else s.views id other (joined old theirs) apart) ∙ there) in
      let stays : (n : ℕ) → n ≡ id → turned other id n ≡ id = λ n is. turned-other other id n (λ e. apart (sym e ∙ is)) ∙ is in
      record {
        history = kept.history;
        next = kept.next;
        owner = owner;
        drawer = drawer;
        word = kept.word;
        begun = kept.begun;
        is_history = kept.is_history;
        below = kept.below;
        knows =
            each_set P (set s.views id (joined old theirs)) other nothing
            (λ j v no at'. each_set (λ k u. k ≢ other → P k u) s.views id (joined old theirs)
            (λ k u _ at'' not_it.
            let has = kept.knows k u at'' in
            record {
              rows = λ one stands. let is = has.rows one stands in (turned-other other id (kept.owner one.object) (λ e. not_it (sym is.0 ∙ e)) ∙ is.0, is.1, is.2);
              drawn = λ ticket stands. let is = has.drawn ticket stands in (turned-other other id (kept.drawer ticket) (λ e. not_it (sym is.0 ∙ e)) ∙ is.0, is.1, is.2);
              claims = has.claims;
              apart = has.apart;
            })
            (λ _. record {
              rows = λ one stands.
                  ⊎_elim
                  (λ new. let is = given.rows one new in (turned-here other id (kept.owner one.object) is.0, is.1, is.2))
                  (λ own. let is = mine.rows one own in (stays (kept.owner one.object) is.0, is.1, is.2))
                  (Contains-append_cases theirs.rows old.rows one stands);
              drawn = λ ticket stands.
                  ⊎_elim
                  (λ new. let is = given.drawn ticket new in (turned-here other id (kept.drawer ticket) is.0, is.1, is.2))
                  (λ own. let is = mine.drawn ticket own in (stays (kept.drawer ticket) is.0, is.1, is.2))
                  (Contains-append_cases theirs.drawn old.drawn ticket stands);
              claims = λ event stands. ⊎_elim (given.claims event) (mine.claims event) (Contains-append_cases theirs.claims old.claims event stands);
              apart =
                  apart_both theirs.rows old.rows given.apart mine.apart
                  (λ one own stands stands' same. apart (sym (given.rows one stands).0 ∙ (ap kept.owner same ∙ (mine.rows own stands').0)));
            })
            j v at' no)
            (knows_nothing objects _ _ _ _ _);
      }
