-- A walk over records that are sorted by weight.
use Rattle.std.proofs.Common.{◌≡◌, ◌≤◌, ◌<◌, ◌+◌, ◌-◌, ℕ, false, List, Contains, length, get_or, map, sym, ap, subst, ◌∙◌, inl, inr, ⊎_elim, arith}
use Rattle.std.proofs.lemmas.Bool.{cases_lt, cases_order, cases_eq}
use Rattle.std.proofs.lemmas.List.{get_or_default}
use Rattle.std.specs.Ordering.{is_lt}
use Rattle.std.specs.List.Sorted.{IsSorted}
use Rattle.bep_facts.specs.Members.{Contains-image, Contains-from_image}
use Rattle.bep_record.specs.declared.entry.Entry.{Entry}
use Rattle.bep_record.specs.Content.{content_of}
use Rattle.bep_record.specs.Vector.{IsVersion, IsAtMost}
use Rattle.bep_model.specs.Firm.{AreEqual}
use Rattle.bep_converge_check.specs.declared.weight.Weighed.{Weighed}
use Rattle.bep_converge_check.specs.inner.Line.{AreInLine, Agree}
use Rattle.bep_converge_check.specs.inner.Weight.{weight, weighed_cmp, record_of}
use Rattle.bep_converge_check.specs.inner.Ascending.{AscendUpTo}
use Rattle.bep_converge_check.proofs.WeightFacts.{equal_where_as_heavy}
use Rattle.bep_converge_check.proofs.SameVersions.{same_counters, no_lighter, between_at}

at_most_through : (u v w : List (ℕ × ℕ)) → IsAtMost u v → IsAtMost v w → IsAtMost u w
at_most_through u v w one two id = let a = one id in let b = two id in omega (arith, a, b)

at_most_itself : (u v : List (ℕ × ℕ)) → u ≡ v → IsAtMost u v
at_most_itself u v same = subst (λ w. IsAtMost u w) same (λ id. omega arith)

-- the record that stands at a place
abbrev pub standing : List Weighed → Weighed → ℕ → Entry
standing ones d i = record_of (get_or ones i d)

-- equal versions before a place have equal contents, and those before the one before it are well formed
pub record AgreeUpTo (end : ℕ) (ones : List Weighed) : Type 0 where
  pub formed : (d : Weighed) (i : ℕ) → i + 1 < end → IsVersion (standing ones d i).version
  pub same : (d : Weighed) (i j : ℕ) → i < j → j < end → AreEqual (standing ones d i).version (standing ones d j).version → content_of (standing ones d i) ≡ content_of (standing ones d j)

module _ (ones : List Weighed) where
  abbrev At : Weighed → ℕ → Entry
  At = standing ones

  among : (d : Weighed) (i : ℕ) → i < length ones → Contains (map record_of ones) (At d i)
  among d i below = Contains-image record_of ones (get_or ones i d) (i, below, get_or_default ones i (get_or ones i d) d below)

  -- what stands at a place by any default
  stands : (place : ℕ) (one d : Weighed) → place < length ones → one ≡ get_or ones place one → record_of one ≡ At d place
  stands place one d below is = ap record_of (is ∙ get_or_default ones place one d below)

  pub none_yet : AscendUpTo 1 ones
  none_yet d i j before below = absurd (omega (arith, before, below))

  pub none_agrees : AgreeUpTo 1 ones
  none_agrees = record { formed = λ d i below. absurd (omega (arith, below)); same = λ d i j before below same. absurd (omega (arith, before, below)) }

  module _ (place : ℕ) (positive : 1 ≤ place) (one next : Weighed) (below : place < length ones) (one_is : one ≡ get_or ones (place - 1) one) (next_is : next ≡ get_or ones place next) where
    last_at : (d : Weighed) → record_of one ≡ At d (place - 1)
    last_at d = stands (place - 1) one d (omega (arith, positive, below)) one_is

    next_at : (d : Weighed) → record_of next ≡ At d place
    next_at d = stands place next d below next_is

    -- what stands before the place is at most the last of it
    up_to_last : AscendUpTo place ones → (d : Weighed) (i : ℕ) → i < place → IsAtMost (At d i).version (record_of one).version
    up_to_last so_far d i before =
        ⊎_elim
        (λ same. at_most_itself (At d i).version (record_of one).version (ap (λ (k : ℕ). (At d k).version) same ∙ ap (λ (e : Entry). e.version) (sym (last_at d))))
        (λ apart. subst (λ (e : Entry). IsAtMost (At d i).version e.version) (sym (last_at d)) (so_far d i (place - 1) (omega (arith, before, apart, positive)) (omega (arith, positive))))
        (cases_eq i (place - 1))

    -- one more
    pub ascend_more : IsAtMost (record_of one).version (record_of next).version → AscendUpTo place ones → AscendUpTo (place + 1) ones
    ascend_more within so_far d i j before up =
        ⊎_elim
        (λ less. so_far d i j before less)
        (λ not.
        let here : j ≡ place = omega (arith, up, not) in
        subst (λ (k : ℕ). IsAtMost (At d i).version (At d k).version) (sym here)
        (subst (λ (e : Entry). IsAtMost (At d i).version e.version) (next_at d)
        (at_most_through (At d i).version (record_of one).version (record_of next).version (up_to_last so_far d i (omega (arith, before, here))) within)))
        (cases_lt j place)

    -- the next is no lighter
    no_lighter_next : IsSorted weighed_cmp ones → weight (record_of one).version ≤ weight (record_of next).version
    no_lighter_next sorted =
        let back : place - 1 + 1 ≡ place = omega (arith, positive) in
        let heavier : weight (At one (place - 1)).version ≤ weight (At one place).version =
        no_lighter (At one (place - 1)).version (At one place).version
        (subst (λ (k : ℕ). is_lt (weighed_cmp (get_or ones k one) (get_or ones (place - 1) one)) ≡ false) back (sorted (place - 1) one (omega arith) (omega (arith, positive, below)))) in
        subst (λ (e : Entry). weight (record_of one).version ≤ weight e.version) (sym (next_at one))
        (subst (λ (e : Entry). weight e.version ≤ weight (At one place).version) (sym (last_at one)) heavier)

    -- where they don't ascend from one to the next they aren't in line
    pub not_in_line : IsSorted weighed_cmp ones → IsVersion (record_of one).version → IsVersion (record_of next).version → ¬ IsAtMost (record_of one).version (record_of next).version → ¬ AreInLine (Contains (map record_of ones))
    not_in_line sorted is_one is_next not in_line =
        let as_heavy = no_lighter_next sorted in
        ⊎_elim
        (λ within. not within)
        (λ behind. not (equal_where_as_heavy (record_of next).version (record_of one).version is_next is_one behind as_heavy))
        (in_line (record_of one) (record_of next)
        (subst (Contains (map record_of ones)) (sym (last_at one)) (among one (place - 1) (omega (arith, positive, below))))
        (subst (Contains (map record_of ones)) (sym (next_at next)) (among next place below)))

    -- ---- contents

    -- where two that stand one after the other are equal and differ
    pub not_agree : IsSorted weighed_cmp ones → IsVersion (record_of one).version → IsVersion (record_of next).version →
        ¬ (IsAtMost (record_of next).version (record_of one).version → content_of (record_of one) ≡ content_of (record_of next)) → ¬ Agree (Contains (map record_of ones))
    not_agree sorted is_one is_next unlike agree =
        unlike (λ back.
        agree (record_of one) (record_of next)
        (subst (Contains (map record_of ones)) (sym (last_at one)) (among one (place - 1) (omega (arith, positive, below))))
        (subst (Contains (map record_of ones)) (sym (next_at next)) (among next place below))
        (equal_where_as_heavy (record_of next).version (record_of one).version is_next is_one back (no_lighter_next sorted), back))

    last_agrees : AgreeUpTo place ones → (d : Weighed) (i : ℕ) → i < place → AreEqual (At d i).version (record_of one).version → content_of (At d i) ≡ content_of (record_of one)
    last_agrees so_far d i before equal =
        ⊎_elim
        (λ same. ap (λ (k : ℕ). content_of (At d k)) same ∙ ap content_of (sym (last_at d)))
        (λ apart.
        so_far.same d i (place - 1) (omega (arith, before, apart, positive)) (omega (arith, positive)) (subst (λ (e : Entry). AreEqual (At d i).version e.version) (last_at d) equal)
        ∙ ap content_of (sym (last_at d)))
        (cases_eq i (place - 1))

    -- what stands before the place is well formed
    formed_at : IsVersion (record_of one).version → AgreeUpTo place ones → (d : Weighed) (i : ℕ) → i < place → IsVersion (At d i).version
    formed_at is_one so_far d i before =
        ⊎_elim
        (λ same. subst (λ (e : Entry). IsVersion e.version) (last_at d ∙ ap (λ (k : ℕ). At d k) (sym same)) is_one)
        (λ apart. so_far.formed d i (omega (arith, before, apart, positive)))
        (cases_eq i (place - 1))

    -- so where it has the version of the next, all between have it
    from_last : IsSorted weighed_cmp ones → IsVersion (record_of one).version → IsVersion (record_of next).version → AgreeUpTo place ones →
        (d : Weighed) (i : ℕ) → i < place → AreEqual (At d i).version (record_of next).version → (At d i).version ≡ (record_of one).version
    from_last sorted is_one is_next so_far d i before equal =
        let lists : (At d i).version ≡ (record_of next).version = same_counters (At d i).version (record_of next).version (formed_at is_one so_far d i before) is_next equal in
        between_at ones sorted d i (place - 1) place (omega (arith, before)) (omega arith) below (lists ∙ ap (λ (e : Entry). e.version) (next_at d))
        ∙ ap (λ (e : Entry). e.version) (sym (last_at d))

    pub agree_more : IsSorted weighed_cmp ones → IsVersion (record_of one).version → IsVersion (record_of next).version →
        (AreEqual (record_of one).version (record_of next).version → content_of (record_of one) ≡ content_of (record_of next)) → AgreeUpTo place ones → AgreeUpTo (place + 1) ones
    agree_more sorted is_one is_next agrees so_far = record {
      formed = λ d i before. formed_at is_one so_far d i (omega (arith, before));
      same = λ d i j before up equal.
          ⊎_elim
          (λ less. so_far.same d i j before less equal)
          (λ not.
          let here : j ≡ place = omega (arith, up, not) in
          let i_before : i < place = omega (arith, before, here) in
          let to_next : AreEqual (At d i).version (record_of next).version =
          subst (λ (e : Entry). AreEqual (At d i).version e.version) (sym (next_at d)) (subst (λ (k : ℕ). AreEqual (At d i).version (At d k).version) here equal) in
          let of_one : (At d i).version ≡ (record_of one).version = from_last sorted is_one is_next so_far d i i_before to_next in
          let to_one : AreEqual (At d i).version (record_of one).version = subst (λ (v : List (ℕ × ℕ)). AreEqual (At d i).version v) of_one (λ id. omega arith, λ id. omega arith) in
          let of_next : AreEqual (record_of one).version (record_of next).version = subst (λ (v : List (ℕ × ℕ)). AreEqual v (record_of next).version) of_one to_next in
          last_agrees so_far d i i_before to_one ∙ agrees of_next ∙ ap content_of (next_at d) ∙ ap (λ (k : ℕ). content_of (At d k)) (sym here))
          (cases_lt j place);
    }

  -- ---- by membership

  -- what is among them stands at a place
  place_of : (entry : Entry) → Contains (map record_of ones) entry → (one : Weighed) × (i : ℕ) × (i < length ones) × (get_or ones i one ≡ one) × (record_of one ≡ entry)
  place_of entry member =
      let found = Contains-from_image record_of ones entry member in
      (found.0, found.1.0, found.1.1, found.1.2, found.2)

  pub in_line_from : (end : ℕ) → length ones ≤ end → AscendUpTo end ones → AreInLine (Contains (map record_of ones))
  in_line_from end all ascend one other here there =
      let p = place_of one here in
      let q = place_of other there in
      let one_is : At p.0 p.1 ≡ one = ap record_of p.3 ∙ p.4 in
      let other_is : At p.0 q.1 ≡ other = ap record_of (get_or_default ones q.1 p.0 q.0 q.2 ∙ q.3) ∙ q.4 in
      ⊎_elim
      (λ same. inl (at_most_itself one.version other.version (ap (λ (e : Entry). e.version) (sym one_is ∙ ap (λ (k : ℕ). At p.0 k) same ∙ other_is))))
      (⊎_elim
      (λ less. inl
      (subst (λ (e : Entry). IsAtMost e.version other.version) one_is
      (subst (λ (e : Entry). IsAtMost (At p.0 p.1).version e.version) other_is (ascend p.0 p.1 q.1 less (let b = q.2 in omega (arith, b, all))))))
      (λ less. inr
      (subst (λ (e : Entry). IsAtMost e.version one.version) other_is
      (subst (λ (e : Entry). IsAtMost (At p.0 q.1).version e.version) one_is (ascend p.0 q.1 p.1 less (let b = p.2 in omega (arith, b, all)))))))
      (cases_order p.1 q.1)

  pub agree_from : (end : ℕ) → length ones ≤ end → AgreeUpTo end ones → Agree (Contains (map record_of ones))
  agree_from end all agrees one other here there equal =
      let p = place_of one here in
      let q = place_of other there in
      let one_is : At p.0 p.1 ≡ one = ap record_of p.3 ∙ p.4 in
      let other_is : At p.0 q.1 ≡ other = ap record_of (get_or_default ones q.1 p.0 q.0 q.2 ∙ q.3) ∙ q.4 in
      let e : AreEqual (At p.0 p.1).version (At p.0 q.1).version =
      subst (λ (x : Entry). AreEqual x.version (At p.0 q.1).version) (sym one_is) (subst (λ (x : Entry). AreEqual one.version x.version) (sym other_is) equal) in
      ⊎_elim
      (λ same. ap content_of (sym one_is ∙ ap (λ (k : ℕ). At p.0 k) same ∙ other_is))
      (⊎_elim
      (λ less. ap content_of (sym one_is) ∙ agrees.same p.0 p.1 q.1 less (let b = q.2 in omega (arith, b, all)) e ∙ ap content_of other_is)
      (λ less. sym (ap content_of (sym other_is) ∙ agrees.same p.0 q.1 p.1 less (let b = p.2 in omega (arith, b, all)) (e.1, e.0) ∙ ap content_of one_is)))
      (cases_order p.1 q.1)
