-- The winner of a name's entries, and the count of the devices that aren't at it.
use Rattle.std.proofs.Common.{◌≡◌, ◌≢◌, ◌↔◌, ◌<◌, ◌≤◌, ◌+◌, ◌∙◌, ℕ, List, [], ◌∷◌, ◌++◌, Contains, Option, Some, None, length, map, get_or, take, drop, sym, ap, subst, ⊎_elim, arith}
use Rattle.std.specs.declared.cmp.Ordering.TheVariants.{Less}
use Rattle.std.specs.Ordering.{nat_cmp}
use Rattle.std.specs.FinMap.{get}
use Rattle.std.specs.List.Sorted.{IsStrictlyIncreasing, IsStrictlySortedBy}
use Rattle.std.proofs.lemmas.Bool.{cases_eq}
use Rattle.std.proofs.lemmas.Cmp.{ranked}
use Rattle.std.proofs.lemmas.List.{take_all}
use Rattle.std.proofs.lemmas.List.Elements.{Contains-push, Contains-push_cases, Contains-append_left}
use Rattle.std.proofs.lemmas.Map.Keys.{sorted_from_strictly_increasing}
use Rattle.bep_facts.specs.Members.{not_in_none}
use Rattle.bep_facts.specs.Places.{done_with, split_at}
use Rattle.bep_facts.specs.Rising.{front_is_below}
use Rattle.bep_record.specs.declared.entry.Entry.{Entry}
use Rattle.bep_record.specs.Vector.{IsAtMost}
use Rattle.bep_model.specs.Tables.{Device, FileName}
use Rattle.bep_tables.specs.declared.share.Share.{Share}
use Rattle.bep_tables.specs.Cut.{devices_of}
use Rattle.bep_tables.specs.Listed.{Listed}
use Rattle.bep_converge_check.specs.SoMany.{AreSoMany}
use Rattle.bep_converge_check.specs.inner.Records.{IsOwnIn, IsTopIn}
use Rattle.bep_converge_check.specs.inner.Behind.{AgreesIfAbove, AllAgree, FindsWinner, IsAtWinner, IsBehindAmong, IsUpAmong}
use Rattle.bep_converge_check.proofs.KnownFacts.{through, own_is_in}
use Rattle.bep_converge_check.proofs.SoManyFacts.{none_of, such_too, both_of, just_one}

-- ---- the winner

module _ (group : List Listed) where
  pub agree_each : (top : Entry) → ((one : Listed) → Contains group one → AgreesIfAbove top one) ↔ AllAgree group top
  agree_each top = (
    λ each entry own. each own.0 own.1 entry own.2,
    λ all one member entry is. all entry (one, member, is),
  )

  -- an own record that is above a top is one
  pub top_too : (top other : Entry) → IsTopIn group top → IsOwnIn group other → IsAtMost top.version other.version → IsTopIn group other
  top_too top other is own within = (own, λ entry has. through entry.version top.version other.version (is.1 entry has) within)

  pub top_wins : (top : Entry) → IsTopIn group top → AllAgree group top → FindsWinner group (Some top)
  top_wins top is all = (is, λ other too. all other too.0 (too.1 top (own_is_in group top is.0)))

  pub no_winner : (top : Entry) → IsTopIn group top → ¬ AllAgree group top → FindsWinner group None
  no_winner top is not other wins = not (λ entry own within. wins.1 entry (top_too top entry is own within) ∙ sym (wins.1 top is))

  pub none_wins : ((top : Entry) → ¬ IsTopIn group top) → FindsWinner group None
  none_wins none other wins = none other wins.0

-- ---- one device more

module _ (winner : Option Entry) (name : FileName) where
  pub count_starts : AreSoMany (IsBehindAmong winner name []) (IsUpAmong winner name []) 0
  count_starts = none_of (IsBehindAmong winner name []) (IsUpAmong winner name []) (λ device share member same. absurd (not_in_none share member))

  module _ (front : List Share) (share : Share) (count : ℕ) (so : AreSoMany (IsBehindAmong winner name front) (IsUpAmong winner name front) count) where
    up_after : IsAtWinner winner (get share.own name) → AreSoMany (IsBehindAmong winner name (front ++ share ∷ [])) (IsUpAmong winner name (front ++ share ∷ [])) count
    up_after up =
        such_too (IsBehindAmong winner name front) (IsUpAmong winner name front) (IsBehindAmong winner name (front ++ share ∷ [])) (IsUpAmong winner name (front ++ share ∷ [])) count
        (λ device behind. (behind.0, Contains-append_left front (share ∷ []) behind.0 behind.1, behind.2, behind.3))
        (λ device all other member same.
        ⊎_elim (λ before. all other before same) (λ here. subst (λ (s : Share). IsAtWinner winner (get s.own name)) here up) (Contains-push_cases front share other member))
        so

    behind_after : ((earlier : Share) → Contains front earlier → earlier.device ≢ share.device) → ¬ IsAtWinner winner (get share.own name) → AreSoMany (IsBehindAmong winner name (front ++ share ∷ [])) (IsUpAmong winner name (front ++ share ∷ [])) (count + 1)
    behind_after apart not =
        both_of
        (IsBehindAmong winner name front) (IsUpAmong winner name front)
        (λ (device : Device). device ≡ share.device) (λ (device : Device). device ≢ share.device)
        (IsBehindAmong winner name (front ++ share ∷ [])) (IsUpAmong winner name (front ++ share ∷ []))
        count 1 so (just_one share.device (λ device. cases_eq device share.device))
        (λ device behind same. apart behind.0 behind.1 (behind.2 ∙ same))
        (λ device behind. (behind.0, Contains-append_left front (share ∷ []) behind.0 behind.1, behind.2, behind.3))
        (λ device same. (share, Contains-push front share, sym same, not))
        (λ device all differs other member same.
        ⊎_elim
        (λ before. all other before same)
        (λ here. absurd (differs (sym same ∙ ap (λ (s : Share). s.device) (sym here))))
        (Contains-push_cases front share other member))

-- ---- the walk by its places

module _ (winner : Option Entry) (name : FileName) (shares : List Share) where
  pub count_ends : (place : ℕ) → length shares ≤ place → (count : ℕ) → AreSoMany (IsBehindAmong winner name (take place shares)) (IsUpAmong winner name (take place shares)) count → AreSoMany (IsBehindAmong winner name shares) (IsUpAmong winner name shares) count
  count_ends place past count so = subst (λ (all : List Share). AreSoMany (IsBehindAmong winner name all) (IsUpAmong winner name all) count) (take_all place shares past) so

  module _ (place : ℕ) (share : Share) (below : place < length shares) (is : share ≡ get_or shares place share) (count : ℕ) (so : AreSoMany (IsBehindAmong winner name (take place shares)) (IsUpAmong winner name (take place shares)) count) where
    pub up_at : IsAtWinner winner (get share.own name) → AreSoMany (IsBehindAmong winner name (take (place + 1) shares)) (IsUpAmong winner name (take (place + 1) shares)) count
    up_at up =
        subst (λ (front : List Share). AreSoMany (IsBehindAmong winner name front) (IsUpAmong winner name front) count) (sym (done_with shares place share below is))
        (up_after winner name (take place shares) share count so up)

    apart_at : IsStrictlyIncreasing (devices_of shares) → (earlier : Share) → Contains (take place shares) earlier → earlier.device ≢ share.device
    apart_at rise earlier member same =
        let sorted : IsStrictlySortedBy nat_cmp (map (λ (s : Share). s.device) (take place shares ++ share ∷ drop (place + 1) shares)) =
        subst (λ (all : List Share). IsStrictlySortedBy nat_cmp (map (λ (s : Share). s.device) all)) (sym (split_at shares place share below is)) (sorted_from_strictly_increasing (devices_of shares) rise) in
        let less = front_is_below nat_cmp (λ (s : Share). s.device) (take place shares) share (drop (place + 1) shares) sorted earlier member in
        let lower : earlier.device < share.device = ranked earlier.device share.device Less (sym less) in
        absurd (omega (arith, lower, same))

    pub behind_at : IsStrictlyIncreasing (devices_of shares) → ¬ IsAtWinner winner (get share.own name) → AreSoMany (IsBehindAmong winner name (take (place + 1) shares)) (IsUpAmong winner name (take (place + 1) shares)) (count + 1)
    behind_at rise not =
        subst (λ (front : List Share). AreSoMany (IsBehindAmong winner name front) (IsUpAmong winner name front) (count + 1)) (sym (done_with shares place share below is))
        (behind_after winner name (take place shares) share count so (apart_at rise) not)
