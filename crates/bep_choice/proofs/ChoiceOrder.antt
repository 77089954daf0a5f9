-- The order in which candidates come.
use Rattle.std.proofs.Common.{◌≡◌, ◌≢◌, ◌⊎◌, ◌∙◌, ◌==◌, ℕ, true, false, refl, sym, ap, inl, inr}
use Rattle.std.specs.declared.cmp.Ordering.{Ordering}
use Rattle.std.specs.declared.cmp.Ordering.TheVariants.{Less, Equal, Greater}
use Rattle.std.specs.Cmp.{IsTotalOrder, bool_cmp_total}
use Rattle.std.specs.Ordering.{nat_cmp, int_cmp, bool_cmp, ordering_then, ordering_reverse, is_gt}
use Rattle.std.proofs.lemmas.Bool.{ne_eqb}
use Rattle.std.proofs.lemmas.Cmp.{ranked, tied_itself, upto, then_total, on_total, back_total, nat_cmp_total, int_cmp_total}
use Rattle.bep_facts.specs.Orders.{both_tied}
use Rattle.bep_choice.specs.Choice.{Candidate, choice_cmp, IsNotBehind}

pub choice_total : (chooser : ℕ) → IsTotalOrder (choice_cmp chooser)
choice_total chooser =
    then_total (on_total (λ (c : Candidate). c.1.deleted) bool_cmp_total)
    (then_total (back_total (on_total (λ (c : Candidate). c.1.modified_s) int_cmp_total))
    (then_total (back_total (on_total (λ (c : Candidate). c.1.modified_ns) nat_cmp_total))
    (then_total (on_total (λ (c : Candidate). c.1.modified_by) nat_cmp_total)
    (then_total (back_total (on_total (λ (c : Candidate). c.0 == chooser) bool_cmp_total))
    (on_total (λ (c : Candidate). c.0) nat_cmp_total)))))

greater_or_not : (o : Ordering) → (o ≡ Greater) ⊎ (o ≢ Greater)
greater_or_not Less = inr (λ e. cc)
greater_or_not Equal = inr (λ e. cc)
greater_or_not Greater = inl refl

not_gt : (o : Ordering) → o ≢ Greater → is_gt o ≡ false
not_gt Less ne = refl
not_gt Equal ne = refl
not_gt Greater ne = absurd (ne refl)

not_greater : (o : Ordering) → is_gt o ≡ false → o ≢ Greater
not_greater o h e = let g : is_gt o ≡ true = ap is_gt e in cc

reverse_not_greater : (o : Ordering) → o ≢ Less → ordering_reverse o ≢ Greater
reverse_not_greater Less ne e = ne refl
reverse_not_greater Equal ne e = cc
reverse_not_greater Greater ne e = cc

tied : (o : Ordering) → o ≢ Greater → ordering_reverse o ≢ Greater → o ≡ Equal
tied Less ne back = absurd (back refl)
tied Equal ne back = refl
tied Greater ne back = absurd (ne refl)

second_tied : (o p : Ordering) → ordering_then o p ≡ Equal → p ≡ Equal
second_tied o p e = (both_tied o p e).1

pub behind_or_not : (chooser : ℕ) (one other : Candidate) → (choice_cmp chooser one other ≡ Greater) ⊎ IsNotBehind chooser one other
behind_or_not chooser one other = greater_or_not (choice_cmp chooser one other)

pub not_behind_itself : (chooser : ℕ) (one : Candidate) → IsNotBehind chooser one one
not_behind_itself chooser one e = let t = tied_itself (choice_total chooser) one in let w = sym t ∙ e in cc

-- what doesn't come before another isn't before it the other way round
pub not_behind_back : (chooser : ℕ) (one other : Candidate) → choice_cmp chooser one other ≢ Less → IsNotBehind chooser other one
not_behind_back chooser one other ne e =
    reverse_not_greater (choice_cmp chooser one other) ne (sym ((choice_total chooser).antisymm other one) ∙ e)

pub not_behind_then : (chooser : ℕ) (one two three : Candidate) → IsNotBehind chooser one two → IsNotBehind chooser two three → IsNotBehind chooser one three
not_behind_then chooser one two three h k =
    not_greater (choice_cmp chooser one three) (upto (choice_total chooser) one two three (not_gt _ h) (not_gt _ k))

pub behind_then : (chooser : ℕ) (one two three : Candidate) → choice_cmp chooser one two ≡ Greater → choice_cmp chooser two three ≡ Greater → choice_cmp chooser one three ≡ Greater
behind_then chooser one two three h k =
    let o = choice_total chooser in
    o.antisymm one three
    ∙ ap ordering_reverse
    (o.trans three two one
    (o.antisymm three two ∙ ap ordering_reverse k)
    (o.antisymm two one ∙ ap ordering_reverse h))

-- two of which neither is behind the other are of one device
pub same_device : (chooser : ℕ) (one other : Candidate) → IsNotBehind chooser one other → IsNotBehind chooser other one → one.0 ≡ other.0
same_device chooser one other h k =
    let back = (choice_total chooser).antisymm other one in
    let e = tied (choice_cmp chooser one other) h (λ g. k (back ∙ g)) in
    ranked one.0 other.0 Equal
    (sym
    (second_tied (bool_cmp (other.0 == chooser) (one.0 == chooser)) _
    (second_tied (nat_cmp one.1.modified_by other.1.modified_by) _
    (second_tied (nat_cmp other.1.modified_ns one.1.modified_ns) _
    (second_tied (int_cmp other.1.modified_s one.1.modified_s) _
    (second_tied (bool_cmp one.1.deleted other.1.deleted) _ e))))))

-- the chooser is looked at where one of the two is its own
pub choice_cmp-others : (chooser other : ℕ) (one two : Candidate) → one.0 ≢ chooser → two.0 ≢ chooser → one.0 ≢ other → two.0 ≢ other → choice_cmp chooser one two ≡ choice_cmp other one two
choice_cmp-others chooser other one two a b c d =
    let ea = ne_eqb one.0 chooser a in
    let eb = ne_eqb two.0 chooser b in
    let ec = ne_eqb one.0 other c in
    let ed = ne_eqb two.0 other d in
    cc
