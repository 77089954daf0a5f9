-- What is known of a cut before its first name was read, after one more name, and after all.
use Rattle.std.proofs.Common.{◌≡◌, ◌⊎◌, Bool, true, false, List, [], ◌∷◌, Option, Some, None, refl, sym, subst, inl, inr, ⊎_elim}
use Rattle.std.specs.Prelude.{if◌then◌else◌}
use Rattle.std.specs.Cmp.{Equal-is}
use Rattle.std.specs.declared.cmp.Ordering.TheVariants.{Less}
use Rattle.bep_facts.specs.Orders.{texts_total, texts_exact}
use Rattle.bep_model.specs.Tables.{Tables, Folder, FileName}
use Rattle.bep_model.specs.Foreign.{IsKnown}
use Rattle.bep_model.specs.Settled.{key_cmp}
use Rattle.bep_parts.specs.Parts.{only}
use Rattle.bep_parts.proofs.OnlyFacts.{known_kept}
use Rattle.bep_rows.specs.declared.aim.Aim.{Aim}
use Rattle.bep_rows.specs.declared.aim.Aim.TheVariants as aims
use Rattle.bep_rows.specs.declared.standing.Standing.{Standing}
use Rattle.bep_rows.specs.declared.standing.Standing.TheVariants.{Met, Not, Loose, Unwon}
use Rattle.bep_rows.specs.declared.stream.Stream.{Stream}
use Rattle.bep_rows.specs.Names.{IsAbove, IsUpTo, Key, NamesAreAmong, among, is_name, nowhere}
use Rattle.bep_rows.specs.Standing.{IsJudged, IsStanding, joined}
use Rattle.bep_rows.specs.Stream.{IsReadTo}
use Rattle.bep_rows.proofs.Kept.{firm_where_unknown, only_twice, settled_where_unknown}
use Rattle.bep_rows.proofs.ThreeParts.{ByParts}
use Rattle.bep_rows.proofs.Whole.{whole_stands}

-- the test of a name finds this name alone
is_the_name : (key : Key) (folder : Folder) (name : FileName) → is_name key folder name ≡ true → key ≡ (folder, name)
is_the_name key folder name is = texts_exact key (folder, name) ((Equal-is _).0 is)

either_cases : (one other : Bool) → (if one then true else other) ≡ true → (one ≡ true) ⊎ (other ≡ true)
either_cases true other e = inl refl
either_cases false other e = inr e

pub in_first : (one other : Bool) → one ≡ true → (if one then true else other) ≡ true
in_first true other e = refl
in_first false other e = absurd (cc)

in_second : (one other : Bool) → other ≡ true → (if one then true else other) ≡ true
in_second true other e = refl
in_second false other e = e

-- all that is up to the last name is below one above it
pub up_to_below : (last : Option Key) (key one : Key) → IsAbove key last → IsUpTo last one → key_cmp one key ≡ Less
up_to_below None key one above up_to = absurd up_to
up_to_below (Some last) key one above up_to =
    ⊎_elim (λ same. subst (λ (k : Key). key_cmp k key ≡ Less) same above) (λ less. texts_total.trans one last key less above) up_to

-- the answer to nothing changes no answer
joined_with_none : (standing : Standing) → joined standing Met ≡ standing
joined_with_none Met = refl
joined_with_none (Not reason folder name device) = refl
joined_with_none (Loose reason folder name device) = refl
joined_with_none (Unwon folder name) = refl

-- a part without names is settled, and firm
nothing_is_known : (t : Tables) (folder : Folder) (name : FileName) → ¬ IsKnown (only nowhere t) folder name
nothing_is_known t folder name known = let e = known_kept nowhere t folder name known in cc

nothing_judged : (aim : Aim) (t : Tables) → IsJudged aim (only nowhere t) [] Met
nothing_judged aims.Settled t = settled_where_unknown (only nowhere t) (nothing_is_known t)
nothing_judged aims.Firm t = firm_where_unknown (only nowhere t) (nothing_is_known t)

nothing_stands : (aim : Aim) (t : Tables) → IsStanding aim (only nowhere t) Met
nothing_stands aim t = record {
  rows = [];
  winners = (settled_where_unknown (only nowhere t) (nothing_is_known t)).certificate;
  judged = nothing_judged aim t;
}

module _ (aim : Aim) (t : Tables) where
  pub none_read : IsReadTo aim t [] (record { last = None; standing = Met })
  none_read = record { up_to = λ folder name e. cc; standing = nothing_stands aim t }

  module _ (by_parts : ByParts) where
    pub one_more_read : (keys : List Key) (stream : Stream) (key : Key) (here : Standing) → IsReadTo aim t keys stream → IsAbove key stream.last → IsStanding aim (only (is_name key) t) here →
        IsReadTo aim t (key ∷ keys) (record { last = Some key; standing = joined stream.standing here })
    one_more_read keys stream key here read above is = record {
      up_to = λ folder name member.
          ⊎_elim
          (λ before. inr (up_to_below stream.last key (folder, name) above (read.up_to folder name before)))
          (λ now. inl (is_the_name key folder name now))
          (either_cases (among keys folder name) (is_name key folder name) member);
      standing =
          whole_stands by_parts (only (among (key ∷ keys)) t) (among keys) (is_name key)
          (λ folder name in_folder at_name before now.
          subst (λ (k : Key). key_cmp (folder, name) k ≡ Less) (is_the_name key in_folder at_name now) (up_to_below stream.last key (folder, name) above (read.up_to folder name before)))
          (λ folder name known. either_cases (among keys folder name) (is_name key folder name) (known_kept (among (key ∷ keys)) t folder name known))
          aim stream.standing here
          (subst (λ (part : Tables). IsStanding aim part stream.standing) (sym (only_twice (among keys) (among (key ∷ keys)) (λ folder name. in_first (among keys folder name) (is_name key folder name)) t)) read.standing)
          (subst (λ (part : Tables). IsStanding aim part here) (sym (only_twice (is_name key) (among (key ∷ keys)) (λ folder name. in_second (among keys folder name) (is_name key folder name)) t)) is);
    }

    pub all_read : (keys : List Key) (stream : Stream) → IsReadTo aim t keys stream → NamesAreAmong t keys → IsStanding aim t stream.standing
    all_read keys stream read names =
        subst (IsStanding aim t) (joined_with_none stream.standing)
        (whole_stands by_parts t (among keys) nowhere (λ folder name in_folder at_name before now. cc) (λ folder name known. inl (names folder name known)) aim stream.standing Met read.standing (nothing_stands aim t))
