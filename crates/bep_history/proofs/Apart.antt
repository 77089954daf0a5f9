-- Rows of which no two are of one object.
use Rattle.std.proofs.Common.{◌≡◌, ◌≢◌, List, [], ◌∷◌, ◌++◌, map, Contains, sym, ap, ◌∙◌, subst, ⊎_elim}
use Rattle.std.proofs.lemmas.List.Elements.{Contains-append_cases}
use Rattle.bep_facts.specs.Members.{Contains-first, Contains-from_image, Contains-more}
use Rattle.bep_fit.specs.declared.object.Object.{Object}
use Rattle.bep_fit.specs.declared.stamped.Stamped.{Stamped}
use Rattle.bep_history.specs.declared.view.Row.{Row}
use Rattle.bep_history.specs.View.{AreApart, AreDistinct, HasRow, row, row_with}

pub apart_with : (event : Stamped) (rows : List Row) → AreApart rows → AreApart (map (row_with event) rows)
apart_with event [] apart = tt
apart_with event (one ∷ more) apart = (λ has. apart.0 (before has), apart_with event more apart.1)
  where
    before : HasRow (map (row_with event) more) one.object → HasRow more one.object
    before has = let found = Contains-from_image (row_with event) more has.0 has.1 in (found.0, found.1, ap (λ (z : Row). z.object) found.2 ∙ has.2)

pub apart_beginning : (objects : List Object) → AreDistinct objects → AreApart (map (λ object. row object []) objects)
apart_beginning [] distinct = tt
apart_beginning (object ∷ more) distinct = (λ has. distinct.0 (stands has), apart_beginning more distinct.1)
  where
    stands : HasRow (map (λ other. row other []) more) object → Contains more object
    stands has = let found = Contains-from_image (λ other. row other []) more has.0 has.1 in subst (Contains more) (ap (λ (z : Row). z.object) found.2 ∙ has.2) found.1

pub apart_both : (rows others : List Row) → AreApart rows → AreApart others → ((one other : Row) → Contains rows one → Contains others other → one.object ≢ other.object) → AreApart (rows ++ others)
apart_both [] others apart apart' differ = apart'
apart_both (one ∷ more) others apart apart' differ = (
  λ has. ⊎_elim
      (λ here. apart.0 (has.0, here, has.2))
      (λ there. differ one has.0 (Contains-first one more) there (sym has.2))
      (Contains-append_cases more others has.0 has.1),
  apart_both more others apart.1 apart' (λ one' other stands stands'. differ one' other (Contains-more one more one' stands) stands'),
)
