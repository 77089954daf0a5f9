-- What a cluster says of a name at a device, and what its cut has of it.
use Rattle.std.proofs.Common.{◌≡◌, ◌==◌, ◌&&◌, ◌∙◌, Bool, true, false, cond, List, [], ◌∷◌, ◌++◌, Option, Some, None, option_map, option_and_then, unwrap_or, Contains, refl, ap, sym, eqb-true, arith, ⊎_elim}
use Rattle.std.specs.Ordering.{nat_cmp}
use Rattle.std.specs.Cmp.Lexicographic.{slice_cmp}
use Rattle.std.specs.FinMap.{get, get-empty}
use Rattle.bep_facts.specs.Members.{Contains-cons_cases, not_in_none}
use Rattle.bep_record.specs.declared.entry.Entry.{Entry}
use Rattle.bep_index.specs.Index.{IsIndex}
use Rattle.bep_index.specs.Listing.{Listing}
use Rattle.bep_index.specs.View.{cleared}
use Rattle.bep_model.specs.Tables.{Device, FileName}
use Rattle.bep_machine.specs.Replica.{ByDevice, Replica}
use Rattle.bep_machine.specs.Said.{looked_up}
use Rattle.bep_tables.specs.declared.share.PeerView.{PeerView}
use Rattle.bep_tables.specs.declared.share.Share.{Share}
use Rattle.bep_tables.specs.Cut.{view_of}
use Rattle.bep_cut.specs.Share.{is_unknown, known_cut, share_cut, views_cut}
use Rattle.bep_cut.proofs.SaidDevices.{itself, tie_same}
use Rattle.bep_cut.proofs.ViewsCut.{shown}

-- a share's part is a replica's, where there is one
pub said_at : {X : Type 0} (part : Share → Option X) (look : Replica → FileName → Option X) (device : Device) (name : FileName) (found : Option Share) (o : Option Replica) →
    found ≡ option_map (share_cut device) o → ((replica : Replica) → o ≡ Some replica → part (share_cut device replica) ≡ look replica name) → option_and_then part found ≡ looked_up look name o
said_at part look device name found None is same = ap (option_and_then part) is
said_at part look device name found (Some replica) is same = ap (option_and_then part) is ∙ same replica refl

-- ---- views

-- at point (0, 0) there are no records
no_records : (view : Listing) (name : FileName) → IsIndex view → is_unknown view ≡ true → get view.records name ≡ None
no_records view name is unknown = cases (get view.records name) refl where
  both : (b c : Bool) → (b && c) ≡ true → c ≡ true
  both true c e = e
  both false c e = absurd (cc)

  cases : (o : Option Entry) → get view.records name ≡ o → get view.records name ≡ None
  cases None found = found
  cases (Some entry) found =
      let numbered = is.numbered name entry found in
      let first = numbered.1 in
      let last = numbered.2 in
      let none : view.sequence ≡ 0 = eqb-true view.sequence 0 (both (view.id == 0) (view.sequence == 0) unknown) in
      absurd (omega (arith, first, last, none))

module _ (views : ByDevice Listing) (other : Device) where
  skips : (one : Device) (o : Option Listing) (rest : List PeerView) → (one == other) ≡ false → view_of other (known_cut one o ++ rest) ≡ view_of other rest
  skips one None rest apart = refl
  skips one (Some view) rest apart = at (is_unknown view) where
    at : (b : Bool) → view_of other (cond b [] (shown one view ∷ []) ++ rest) ≡ view_of other rest
    at true = refl
    at false = ap (λ b. cond b (Some (shown one view)) (view_of other rest)) (tie_same one other ∙ apart)

  -- the cut has no view of a device of which nothing is known
  pub unknown_there : known_cut other (get views other) ≡ [] → (others : List Device) → view_of other (views_cut views others) ≡ None
  unknown_there none [] = refl
  unknown_there none (one ∷ others) = cases (one == other) refl (unknown_there none others) where
    cases : (b : Bool) → (one == other) ≡ b → view_of other (views_cut views others) ≡ None → view_of other (known_cut one (get views one) ++ views_cut views others) ≡ None
    cases true same rest =
        ap (λ (cut : List PeerView). view_of other (cut ++ views_cut views others)) (ap (λ (n : Device). known_cut n (get views n)) (eqb-true one other same) ∙ none) ∙ rest
    cases false apart rest = skips one (get views one) (views_cut views others) apart ∙ rest

  -- and else the device's, if it is one of the others
  pub known_there : (view : PeerView) → known_cut other (get views other) ≡ view ∷ [] → view.of ≡ other → (others : List Device) → Contains others other → view_of other (views_cut views others) ≡ Some view
  known_there view is of [] stands = absurd (not_in_none other stands)
  known_there view is of (one ∷ others) stands = cases (one == other) refl (known_there view is of others) where
    cases : (b : Bool) → (one == other) ≡ b → (Contains others other → view_of other (views_cut views others) ≡ Some view) → view_of other (known_cut one (get views one) ++ views_cut views others) ≡ Some view
    cases true same rest =
        ap (λ (cut : List PeerView). view_of other (cut ++ views_cut views others)) (ap (λ (n : Device). known_cut n (get views n)) (eqb-true one other same) ∙ is)
        ∙ ap (λ b. cond b (Some view) (view_of other (views_cut views others))) (tie_same view.of other ∙ ap (λ (n : Device). n == other) of ∙ itself other)
    cases false apart rest =
        skips one (get views one) (views_cut views others) apart
        ∙ rest (
        ⊎_elim
        (λ (same : one ≡ other). absurd (let e : true ≡ false = sym (ap (λ (n : Device). n == other) same ∙ itself other) ∙ apart in cc))
        (λ later. later)
        (Contains-cons_cases one others other stands))

  pub said_view : (others : List Device) (name : FileName) → ((view : Listing) → get views other ≡ Some view → IsIndex view × Contains others other) →
      option_and_then (λ (view : PeerView). get view.records name) (view_of other (views_cut views others)) ≡ get (unwrap_or (get views other) (cleared 0)).records name
  said_view others name sound = cases (get views other) refl where
    known : (view : Listing) → get views other ≡ Some view → (b : Bool) → is_unknown view ≡ b →
        option_and_then (λ (view : PeerView). get view.records name) (view_of other (views_cut views others)) ≡ get view.records name
    known view is true unknown =
        ap (option_and_then (λ (view : PeerView). get view.records name)) (unknown_there (ap (known_cut other) is ∙ ap (λ b. cond b [] (shown other view ∷ [])) unknown) others)
        ∙ sym (no_records view name (sound view is).0 unknown)
    known view is false there =
        ap (option_and_then (λ (view : PeerView). get view.records name))
        (known_there (shown other view) (ap (known_cut other) is ∙ ap (λ b. cond b [] (shown other view ∷ [])) there) refl others (sound view is).1)

    cases : (o : Option Listing) → get views other ≡ o →
        option_and_then (λ (view : PeerView). get view.records name) (view_of other (views_cut views others)) ≡ get (unwrap_or o (cleared 0)).records name
    cases None is =
        ap (option_and_then (λ (view : PeerView). get view.records name)) (unknown_there (ap (known_cut other) is) others) ∙ sym (get-empty (slice_cmp nat_cmp) name)
    cases (Some view) is = known view is (is_unknown view) refl
