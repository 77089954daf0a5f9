-- What is told of the items behind a step's word is what is told of the step.
use Rattle.std.specs.Prelude.{⊤}
use Rattle.std.proofs.Common.{◌≡◌, ◌∙◌, [], ◌∷◌, ◌&&◌, Bool, true, false, Option, Some, None, refl, ap}
use Rattle.serde_json.specs.Data.{Data, array, Items, no_items, item}
use Rattle.bep_json.specs.Reading.{◌>>=◌}
use Rattle.bep_json.specs.Taking.{judged, told_as}
use Rattle.bep_json.specs.Tuples.{are_none, are_first, read_none, read_first}
use Rattle.bep_json.proofs.TakingFacts.{told_as_is, read_2, read_3, read_4, read_5}
use Rattle.bep_scenario.specs.Items.{has_items, read_item}

-- one item
pub one_told : {A P : Type 0} (s1 : Data → Bool) (r1 : Data → Option A) (make : A × ⊤ → P) (w : Data) (ds : Items)
    → told_as make (judged (are_first s1 are_none ds) (read_first r1 read_none ds)) ≡ judged (has_items 1 (s1 ∷ []) (array (item w ds))) (read_item 1 r1 (array (item w ds)) >>= λ a. Some (make (a, tt)))
one_told s1 r1 make w no_items = refl
one_told s1 r1 make w (item a no_items) =
    told_as_is make (s1 a && true) (read_first r1 read_none (item a no_items)) ∙ ap (judged (s1 a && true)) (read_2 make (r1 a) (Some tt))
one_told s1 r1 make w (item a (item b more)) =
    told_as_is make (s1 a && false) (read_first r1 read_none (item a (item b more))) ∙ ap (judged (s1 a && false)) (read_2 make (r1 a) (Some tt))

-- two items
pub two_told : {A B P : Type 0} (s1 s2 : Data → Bool) (r1 : Data → Option A) (r2 : Data → Option B) (make : A × (B × ⊤) → P) (w : Data) (ds : Items)
    → told_as make (judged (are_first s1 (are_first s2 are_none) ds) (read_first r1 (read_first r2 read_none) ds)) ≡ judged (has_items 1 (s1 ∷ s2 ∷ []) (array (item w ds))) (read_item 1 r1 (array (item w ds)) >>= λ a. read_item 2 r2 (array (item w ds)) >>= λ b. Some (make (a, (b, tt))))
two_told s1 s2 r1 r2 make w no_items = refl
two_told s1 s2 r1 r2 make w (item a no_items) =
    told_as_is make (s1 a && false) (read_first r1 (read_first r2 read_none) (item a no_items)) ∙ ap (judged (s1 a && false)) (read_2 make (r1 a) None)
two_told s1 s2 r1 r2 make w (item a (item b no_items)) =
    told_as_is make (s1 a && (s2 b && true)) (read_first r1 (read_first r2 read_none) (item a (item b no_items))) ∙ ap (judged (s1 a && (s2 b && true))) (read_3 make (r1 a) (r2 b) (Some tt))
two_told s1 s2 r1 r2 make w (item a (item b (item c more))) =
    told_as_is make (s1 a && (s2 b && false)) (read_first r1 (read_first r2 read_none) (item a (item b (item c more)))) ∙ ap (judged (s1 a && (s2 b && false))) (read_3 make (r1 a) (r2 b) (Some tt))

-- three items
pub three_told : {A B C P : Type 0} (s1 s2 s3 : Data → Bool) (r1 : Data → Option A) (r2 : Data → Option B) (r3 : Data → Option C) (make : A × (B × (C × ⊤)) → P) (w : Data) (ds : Items)
    → told_as make (judged (are_first s1 (are_first s2 (are_first s3 are_none)) ds) (read_first r1 (read_first r2 (read_first r3 read_none)) ds)) ≡ judged (has_items 1 (s1 ∷ s2 ∷ s3 ∷ []) (array (item w ds))) (read_item 1 r1 (array (item w ds)) >>= λ a. read_item 2 r2 (array (item w ds)) >>= λ b. read_item 3 r3 (array (item w ds)) >>= λ c. Some (make (a, (b, (c, tt)))))
three_told s1 s2 s3 r1 r2 r3 make w no_items = refl
three_told s1 s2 s3 r1 r2 r3 make w (item a no_items) =
    told_as_is make (s1 a && false) (read_first r1 (read_first r2 (read_first r3 read_none)) (item a no_items)) ∙ ap (judged (s1 a && false)) (read_2 make (r1 a) None)
three_told s1 s2 s3 r1 r2 r3 make w (item a (item b no_items)) =
    told_as_is make (s1 a && (s2 b && false)) (read_first r1 (read_first r2 (read_first r3 read_none)) (item a (item b no_items))) ∙ ap (judged (s1 a && (s2 b && false))) (read_3 make (r1 a) (r2 b) None)
three_told s1 s2 s3 r1 r2 r3 make w (item a (item b (item c no_items))) =
    told_as_is make (s1 a && (s2 b && (s3 c && true))) (read_first r1 (read_first r2 (read_first r3 read_none)) (item a (item b (item c no_items)))) ∙ ap (judged (s1 a && (s2 b && (s3 c && true)))) (read_4 make (r1 a) (r2 b) (r3 c) (Some tt))
three_told s1 s2 s3 r1 r2 r3 make w (item a (item b (item c (item d more)))) =
    told_as_is make (s1 a && (s2 b && (s3 c && false))) (read_first r1 (read_first r2 (read_first r3 read_none)) (item a (item b (item c (item d more))))) ∙ ap (judged (s1 a && (s2 b && (s3 c && false)))) (read_4 make (r1 a) (r2 b) (r3 c) (Some tt))

-- four items
pub four_told : {A B C D P : Type 0} (s1 s2 s3 s4 : Data → Bool) (r1 : Data → Option A) (r2 : Data → Option B) (r3 : Data → Option C) (r4 : Data → Option D) (make : A × (B × (C × (D × ⊤))) → P) (w : Data) (ds : Items)
    → told_as make (judged (are_first s1 (are_first s2 (are_first s3 (are_first s4 are_none))) ds) (read_first r1 (read_first r2 (read_first r3 (read_first r4 read_none))) ds)) ≡ judged (has_items 1 (s1 ∷ s2 ∷ s3 ∷ s4 ∷ []) (array (item w ds))) (read_item 1 r1 (array (item w ds)) >>= λ a. read_item 2 r2 (array (item w ds)) >>= λ b. read_item 3 r3 (array (item w ds)) >>= λ c. read_item 4 r4 (array (item w ds)) >>= λ d. Some (make (a, (b, (c, (d, tt))))))
four_told s1 s2 s3 s4 r1 r2 r3 r4 make w no_items = refl
four_told s1 s2 s3 s4 r1 r2 r3 r4 make w (item a no_items) =
    told_as_is make (s1 a && false) (read_first r1 (read_first r2 (read_first r3 (read_first r4 read_none))) (item a no_items)) ∙ ap (judged (s1 a && false)) (read_2 make (r1 a) None)
four_told s1 s2 s3 s4 r1 r2 r3 r4 make w (item a (item b no_items)) =
    told_as_is make (s1 a && (s2 b && false)) (read_first r1 (read_first r2 (read_first r3 (read_first r4 read_none))) (item a (item b no_items))) ∙ ap (judged (s1 a && (s2 b && false))) (read_3 make (r1 a) (r2 b) None)
four_told s1 s2 s3 s4 r1 r2 r3 r4 make w (item a (item b (item c no_items))) =
    told_as_is make (s1 a && (s2 b && (s3 c && false))) (read_first r1 (read_first r2 (read_first r3 (read_first r4 read_none))) (item a (item b (item c no_items)))) ∙ ap (judged (s1 a && (s2 b && (s3 c && false)))) (read_4 make (r1 a) (r2 b) (r3 c) None)
four_told s1 s2 s3 s4 r1 r2 r3 r4 make w (item a (item b (item c (item d no_items)))) =
    told_as_is make (s1 a && (s2 b && (s3 c && (s4 d && true)))) (read_first r1 (read_first r2 (read_first r3 (read_first r4 read_none))) (item a (item b (item c (item d no_items))))) ∙ ap (judged (s1 a && (s2 b && (s3 c && (s4 d && true))))) (read_5 make (r1 a) (r2 b) (r3 c) (r4 d) (Some tt))
four_told s1 s2 s3 s4 r1 r2 r3 r4 make w (item a (item b (item c (item d (item e more))))) =
    told_as_is make (s1 a && (s2 b && (s3 c && (s4 d && false)))) (read_first r1 (read_first r2 (read_first r3 (read_first r4 read_none))) (item a (item b (item c (item d (item e more)))))) ∙ ap (judged (s1 a && (s2 b && (s3 c && (s4 d && false))))) (read_5 make (r1 a) (r2 b) (r3 c) (r4 d) (Some tt))
