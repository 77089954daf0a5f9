-- What is told of members, of lists and of both of two things.
use Rattle.std.proofs.Common.{◌≡◌, ◌∙◌, ◌<◌, ℕ, length, arith, List, [], ◌∷◌, ◌++◌, ◌&&◌, ◌||◌, Bool, true, false, Option, Some, None, Result, Ok, Err, refl, sym, ap, subst}
use Rattle.std.specs.Prelude.{if◌then◌else◌, option_map, unwrap_or}
use Rattle.std.specs.Bool.{MatchBool}
use Rattle.std.specs.Str.{bytes_eq}
use Rattle.std.proofs.lemmas.List.{append_assoc}
use Rattle.std.proofs.lemmas.Slice.Eq.{bytes_eq-Decides}
use Rattle.json.specs.Token.{Token}
use Rattle.serde_json.specs.Data.{Data, Items, item, Members, put}
use Rattle.serde_json.specs.Find.{get, get_member}
use Rattle.serde_json.proofs.Views.{get_member-put, get_member-put_other}
use Rattle.bep_json.specs.declared.told.Misread.{Misread}
use Rattle.bep_json.specs.declared.told.Misread.TheVariants.{Shape, Range}
use Rattle.bep_tree.specs.Names.{is_among}
use Rattle.bep_json.specs.Reading.{◌>>=◌, read_member, read_or, read_member_or}
use Rattle.bep_json.specs.Tree.{has_member, may_have_member}
use Rattle.bep_json.specs.Lists.{have_shape, read_items}
use Rattle.bep_json.specs.Taking.{judged, misread_of, with_told, Known, with_member, slot, due, due_or, noted, both, told_as}
use Rattle.bep_json.specs.inner.Joined.{so_far, worse, joined, followed}

-- ---- members by their names

-- what stands at a name, once a value was put at the same or at another
pub put_by : (same : Bool) (key : List ℕ) (d : Data) (found : Members) (name : List ℕ) → bytes_eq key name ≡ same → get_member name (put key d found) ≡ (if same then Some d else get_member name found)
put_by true key d found name is =
    let one : key ≡ name = (bytes_eq-Decides key name).0 is in
    subst (λ k. get_member name (put k d found) ≡ Some d) (sym one) (get_member-put name d found)
put_by false key d found name is =
    get_member-put_other name key d found (λ one. (let other : bytes_eq key name ≡ true = (bytes_eq-Decides key name).1 (sym one) in cc))

-- what stands at each name once a member was put
pub look_put : (key : List ℕ) (d : Data) (found : Members) → with_member key d (λ name. get_member name found) ≡ (λ name. get_member name (put key d found))
look_put key d found = λ i name. sym (put_by (bytes_eq key name) key d found name refl) i

-- ---- lists, item by item

pub followed_first : {T : Type 0} (told : Result (List T) Misread) → followed (Ok []) told ≡ told
followed_first (Ok things) = refl
followed_first (Err misread) = refl

append_nil : {T : Type 0} (things : List T) → things ++ [] ≡ things
append_nil [] = refl
append_nil (thing ∷ things) = ap (λ more. thing ∷ more) (append_nil things)

pub followed_last : {T : Type 0} (told : Result (List T) Misread) → followed told (Ok []) ≡ told
followed_last (Ok things) = ap Ok (append_nil things)
followed_last (Err Shape) = refl
followed_last (Err Range) = refl

-- an item, and then the others
abbrev first_of : {T : Type 0} → Option T → Option (List T) → Option (List T)
first_of first others = first >>= λ thing. others >>= λ more. Some (thing ∷ more)

one_more : {T : Type 0} (told : Result (List T) Misread) (shape more_shape : Bool) (first : Option T) (others : Option (List T))
    → followed (joined told (judged shape first)) (judged more_shape others) ≡ followed told (judged (shape && more_shape) (first_of first others))
one_more (Ok things) true true (Some thing) (Some others) = ap Ok (append_assoc things (thing ∷ []) others)
one_more (Ok things) true true (Some thing) None = refl
one_more (Ok things) true true None (Some others) = refl
one_more (Ok things) true true None None = refl
one_more (Ok things) true false (Some thing) others = refl
one_more (Ok things) true false None others = refl
one_more (Ok things) false more_shape first others = refl
one_more (Err Shape) true true (Some thing) others = refl
one_more (Err Shape) true true None others = refl
one_more (Err Shape) true false (Some thing) others = refl
one_more (Err Shape) true false None others = refl
one_more (Err Shape) false more_shape first others = refl
one_more (Err Range) true true (Some thing) (Some others) = refl
one_more (Err Range) true true (Some thing) None = refl
one_more (Err Range) true true None (Some others) = refl
one_more (Err Range) true true None None = refl
one_more (Err Range) true false (Some thing) others = refl
one_more (Err Range) true false None others = refl
one_more (Err Range) false more_shape first others = refl

pub item_joined : {T : Type 0} (shape : Data → Bool) (reads : Data → Option T) (told : Result (List T) Misread) (d : Data) (more : Items)
    → followed (joined told (judged (shape d) (reads d))) (judged (have_shape shape more) (read_items reads more)) ≡ followed told (judged (have_shape shape (item d more)) (read_items reads (item d more)))
item_joined shape reads told d more = one_more told (shape d) (have_shape shape more) (reads d) (read_items reads more)

-- a thing that was put behind the others was joined to what is told of them
pub onto_joined : {T : Type 0} (misread : Option Misread) (things : List T) (told : Result T Misread) → so_far (worse misread (misread_of told)) (with_told things told) ≡ joined (so_far misread things) told
onto_joined None things (Ok thing) = refl
onto_joined None things (Err misread) = refl
onto_joined (Some Shape) things told = refl
onto_joined (Some Range) things (Ok thing) = refl
onto_joined (Some Range) things (Err misread) = refl

-- the one thing that was put is the one that is told
pub one_told : {T : Type 0} (told : Result T Misread) (left : List T) (thing : T) → with_told [] told ≡ left ++ thing ∷ [] → Ok thing ≡ told
one_told (Ok other) [] thing is = cc
one_told (Ok other) (first ∷ []) thing is = cc
one_told (Ok other) (first ∷ second ∷ left) thing is = cc
one_told (Err misread) [] thing is = cc
one_told (Err misread) (first ∷ left) thing is = cc

-- where none was put, none is told
pub none_told : {T : Type 0} (told : Result T Misread) (misread : Option Misread) → misread ≡ misread_of told → (0 < length (with_told [] told) → ⊥) → Err (unwrap_or misread Shape) ≡ told
none_told (Ok thing) misread is none = let one : 0 < length (thing ∷ []) = omega arith in absurd (none one)
none_told (Err misread) found is none = ap (λ m. Err (unwrap_or m Shape)) is

-- ---- members

due_of_found : {T : Type 0} (shape : Data → Bool) (reads : Data → Option T) (found : Option Data) → due (slot shape reads found) ≡ judged (unwrap_or (option_map shape found) false) (found >>= reads)
due_of_found shape reads None = refl
due_of_found shape reads (Some d) = refl

-- a member that must be there
pub due_is : {T : Type 0} (name : List ℕ) (shape : Data → Bool) (reads : Data → Option T) (d : Data) → due (slot shape reads (get name d)) ≡ judged (has_member name shape d) (read_member name reads d)
due_is name shape reads d = due_of_found shape reads (get name d)

due_or_of_found : {T : Type 0} (default : T) (shape : Data → Bool) (reads : Data → Option T) (found : Option Data)
    → due_or default (slot shape reads found) ≡ judged (unwrap_or (option_map shape found) true) (read_or reads default found)
due_or_of_found default shape reads None = refl
due_or_of_found default shape reads (Some d) = refl

-- a member that may be left out
pub due_or_is : {T : Type 0} (default : T) (name : List ℕ) (shape : Data → Bool) (reads : Data → Option T) (d : Data)
    → due_or default (slot shape reads (get name d)) ≡ judged (may_have_member name shape d) (read_member_or name reads default d)
due_or_is default name shape reads d = due_or_of_found default shape reads (get name d)

-- both things, where there are both
abbrev pub pair : {A B : Type 0} → Option A → Option B → Option (A × B)
pair first second = first >>= λ a. second >>= λ b. Some (a, b)

pub both_is : {A B : Type 0} (s t : Bool) (first : Option A) (second : Option B) → both (judged s first) (judged t second) ≡ judged (s && t) (pair first second)
both_is true true (Some a) (Some b) = refl
both_is true true (Some a) None = refl
both_is true true None (Some b) = refl
both_is true true None None = refl
both_is true false (Some a) second = refl
both_is true false None second = refl
both_is false t first second = refl

-- a slot of an object was filled, and the others are as before
pub fills : {S : Type 0} (names : List (List ℕ)) (known : (List ℕ → Option Data) → S) (key : List ℕ) (d : Data) (look : List ℕ → Option Data) (new : S) (after before rest : List Token) (filled : Bool)
    → filled ≡ true → is_among key names ≡ true → new ≡ known (with_member key d look) → after ≡ rest
    → MatchBool filled (Known names known key d look new after rest) ((is_among key names ≡ false) × (after ≡ before))
fills names known key d look new after before rest true is named kept passed = (named, kept, passed)
fills names known key d look new after before rest false is named kept passed = cc

pub told_as_is : {A B : Type 0} (make : A → B) (shape : Bool) (read : Option A) → told_as make (judged shape read) ≡ judged shape (option_map make read)
told_as_is make false read = refl
told_as_is make true None = refl
told_as_is make true (Some things) = refl

-- ---- what is made of several things is read one after another

pub paired : {A B C : Type 0} (make : A × B → C) (a : A) (more : Option B) → option_map make (pair (Some a) more) ≡ option_map (λ t. make (a, t)) more
paired make a None = refl
paired make a (Some b) = refl

pub read_2 : {A B P : Type 0} (make : A × B → P) (a : Option A) (b : Option B) → option_map make (pair a b) ≡ (a >>= λ x. b >>= λ y. Some (make (x, y)))
read_2 make None b = refl
read_2 make (Some x) None = refl
read_2 make (Some x) (Some y) = refl

pub read_3 : {A B C P : Type 0} (make : A × (B × C) → P) (a : Option A) (b : Option B) (c : Option C)
    → option_map make (pair a (pair b c)) ≡ (a >>= λ xa. b >>= λ xb. c >>= λ xc. Some (make (xa, (xb, xc))))
read_3 make None b c = refl
read_3 make (Some xa) b c = paired make xa (pair b c) ∙ read_2 (λ t. make (xa, t)) b c

pub read_4 : {A B C D P : Type 0} (make : A × (B × (C × D)) → P) (a : Option A) (b : Option B) (c : Option C) (d : Option D)
    → option_map make (pair a (pair b (pair c d))) ≡ (a >>= λ xa. b >>= λ xb. c >>= λ xc. d >>= λ xd. Some (make (xa, (xb, (xc, xd)))))
read_4 make None b c d = refl
read_4 make (Some xa) b c d = paired make xa (pair b (pair c d)) ∙ read_3 (λ t. make (xa, t)) b c d

pub read_5 : {A B C D E P : Type 0} (make : A × (B × (C × (D × E))) → P) (a : Option A) (b : Option B) (c : Option C) (d : Option D) (e : Option E)
    → option_map make (pair a (pair b (pair c (pair d e)))) ≡ (a >>= λ xa. b >>= λ xb. c >>= λ xc. d >>= λ xd. e >>= λ xe. Some (make (xa, (xb, (xc, (xd, xe))))))
read_5 make None b c d e = refl
read_5 make (Some xa) b c d e = paired make xa (pair b (pair c (pair d e))) ∙ read_4 (λ t. make (xa, t)) b c d e

pub read_6 : {A B C D E F P : Type 0} (make : A × (B × (C × (D × (E × F)))) → P) (a : Option A) (b : Option B) (c : Option C) (d : Option D) (e : Option E) (f : Option F)
    → option_map make (pair a (pair b (pair c (pair d (pair e f))))) ≡ (a >>= λ xa. b >>= λ xb. c >>= λ xc. d >>= λ xd. e >>= λ xe. f >>= λ xf. Some (make (xa, (xb, (xc, (xd, (xe, xf)))))))
read_6 make None b c d e f = refl
read_6 make (Some xa) b c d e f = paired make xa (pair b (pair c (pair d (pair e f)))) ∙ read_5 (λ t. make (xa, t)) b c d e f

pub read_7 : {A B C D E F G P : Type 0} (make : A × (B × (C × (D × (E × (F × G))))) → P) (a : Option A) (b : Option B) (c : Option C) (d : Option D) (e : Option E) (f : Option F) (g : Option G)
    → option_map make (pair a (pair b (pair c (pair d (pair e (pair f g)))))) ≡ (a >>= λ xa. b >>= λ xb. c >>= λ xc. d >>= λ xd. e >>= λ xe. f >>= λ xf. g >>= λ xg. Some (make (xa, (xb, (xc, (xd, (xe, (xf, xg))))))))
read_7 make None b c d e f g = refl
read_7 make (Some xa) b c d e f g = paired make xa (pair b (pair c (pair d (pair e (pair f g))))) ∙ read_6 (λ t. make (xa, t)) b c d e f g

pub read_8 : {A B C D E F G H P : Type 0} (make : A × (B × (C × (D × (E × (F × (G × H)))))) → P) (a : Option A) (b : Option B) (c : Option C) (d : Option D) (e : Option E) (f : Option F) (g : Option G) (h : Option H)
    → option_map make (pair a (pair b (pair c (pair d (pair e (pair f (pair g h))))))) ≡ (a >>= λ xa. b >>= λ xb. c >>= λ xc. d >>= λ xd. e >>= λ xe. f >>= λ xf. g >>= λ xg. h >>= λ xh. Some (make (xa, (xb, (xc, (xd, (xe, (xf, (xg, xh)))))))))
read_8 make None b c d e f g h = refl
read_8 make (Some xa) b c d e f g h = paired make xa (pair b (pair c (pair d (pair e (pair f (pair g h)))))) ∙ read_7 (λ t. make (xa, t)) b c d e f g h

pub read_9 : {A B C D E F G H I P : Type 0} (make : A × (B × (C × (D × (E × (F × (G × (H × I))))))) → P) (a : Option A) (b : Option B) (c : Option C) (d : Option D) (e : Option E) (f : Option F) (g : Option G) (h : Option H) (i : Option I)
    → option_map make (pair a (pair b (pair c (pair d (pair e (pair f (pair g (pair h i)))))))) ≡ (a >>= λ xa. b >>= λ xb. c >>= λ xc. d >>= λ xd. e >>= λ xe. f >>= λ xf. g >>= λ xg. h >>= λ xh. i >>= λ xi. Some (make (xa, (xb, (xc, (xd, (xe, (xf, (xg, (xh, xi))))))))))
read_9 make None b c d e f g h i = refl
read_9 make (Some xa) b c d e f g h i = paired make xa (pair b (pair c (pair d (pair e (pair f (pair g (pair h i))))))) ∙ read_8 (λ t. make (xa, t)) b c d e f g h i

pub read_10 : {A B C D E F G H I J P : Type 0} (make : A × (B × (C × (D × (E × (F × (G × (H × (I × J)))))))) → P) (a : Option A) (b : Option B) (c : Option C) (d : Option D) (e : Option E) (f : Option F) (g : Option G) (h : Option H) (i : Option I) (j : Option J)
    → option_map make (pair a (pair b (pair c (pair d (pair e (pair f (pair g (pair h (pair i j))))))))) ≡ (a >>= λ xa. b >>= λ xb. c >>= λ xc. d >>= λ xd. e >>= λ xe. f >>= λ xf. g >>= λ xg. h >>= λ xh. i >>= λ xi. j >>= λ xj. Some (make (xa, (xb, (xc, (xd, (xe, (xf, (xg, (xh, (xi, xj)))))))))))
read_10 make None b c d e f g h i j = refl
read_10 make (Some xa) b c d e f g h i j = paired make xa (pair b (pair c (pair d (pair e (pair f (pair g (pair h (pair i j)))))))) ∙ read_9 (λ t. make (xa, t)) b c d e f g h i j

pub read_11 : {A B C D E F G H I J K P : Type 0} (make : A × (B × (C × (D × (E × (F × (G × (H × (I × (J × K))))))))) → P) (a : Option A) (b : Option B) (c : Option C) (d : Option D) (e : Option E) (f : Option F) (g : Option G) (h : Option H) (i : Option I) (j : Option J) (k : Option K)
    → option_map make (pair a (pair b (pair c (pair d (pair e (pair f (pair g (pair h (pair i (pair j k)))))))))) ≡ (a >>= λ xa. b >>= λ xb. c >>= λ xc. d >>= λ xd. e >>= λ xe. f >>= λ xf. g >>= λ xg. h >>= λ xh. i >>= λ xi. j >>= λ xj. k >>= λ xk. Some (make (xa, (xb, (xc, (xd, (xe, (xf, (xg, (xh, (xi, (xj, xk))))))))))))
read_11 make None b c d e f g h i j k = refl
read_11 make (Some xa) b c d e f g h i j k = paired make xa (pair b (pair c (pair d (pair e (pair f (pair g (pair h (pair i (pair j k))))))))) ∙ read_10 (λ t. make (xa, t)) b c d e f g h i j k

pub read_12 : {A B C D E F G H I J K L P : Type 0} (make : A × (B × (C × (D × (E × (F × (G × (H × (I × (J × (K × L)))))))))) → P) (a : Option A) (b : Option B) (c : Option C) (d : Option D) (e : Option E) (f : Option F) (g : Option G) (h : Option H) (i : Option I) (j : Option J) (k : Option K) (l : Option L)
    → option_map make (pair a (pair b (pair c (pair d (pair e (pair f (pair g (pair h (pair i (pair j (pair k l))))))))))) ≡ (a >>= λ xa. b >>= λ xb. c >>= λ xc. d >>= λ xd. e >>= λ xe. f >>= λ xf. g >>= λ xg. h >>= λ xh. i >>= λ xi. j >>= λ xj. k >>= λ xk. l >>= λ xl. Some (make (xa, (xb, (xc, (xd, (xe, (xf, (xg, (xh, (xi, (xj, (xk, xl)))))))))))))
read_12 make None b c d e f g h i j k l = refl
read_12 make (Some xa) b c d e f g h i j k l = paired make xa (pair b (pair c (pair d (pair e (pair f (pair g (pair h (pair i (pair j (pair k l)))))))))) ∙ read_11 (λ t. make (xa, t)) b c d e f g h i j k l

pub read_13 : {A B C D E F G H I J K L M P : Type 0} (make : A × (B × (C × (D × (E × (F × (G × (H × (I × (J × (K × (L × M))))))))))) → P) (a : Option A) (b : Option B) (c : Option C) (d : Option D) (e : Option E) (f : Option F) (g : Option G) (h : Option H) (i : Option I) (j : Option J) (k : Option K) (l : Option L) (m : Option M)
    → option_map make (pair a (pair b (pair c (pair d (pair e (pair f (pair g (pair h (pair i (pair j (pair k (pair l m)))))))))))) ≡ (a >>= λ xa. b >>= λ xb. c >>= λ xc. d >>= λ xd. e >>= λ xe. f >>= λ xf. g >>= λ xg. h >>= λ xh. i >>= λ xi. j >>= λ xj. k >>= λ xk. l >>= λ xl. m >>= λ xm. Some (make (xa, (xb, (xc, (xd, (xe, (xf, (xg, (xh, (xi, (xj, (xk, (xl, xm))))))))))))))
read_13 make None b c d e f g h i j k l m = refl
read_13 make (Some xa) b c d e f g h i j k l m = paired make xa (pair b (pair c (pair d (pair e (pair f (pair g (pair h (pair i (pair j (pair k (pair l m))))))))))) ∙ read_12 (λ t. make (xa, t)) b c d e f g h i j k l m

-- ---- a member that must be there, whatever it says

-- that something stands at a name
abbrev pub stands : Option Data → Option Bool
stands found = found >>= λ _. Some true

noted_judged : {T : Type 0} (shape : Bool) (read : Option T) → noted (Some (judged shape read)) ≡ judged shape (Some true)
noted_judged false read = refl
noted_judged true None = refl
noted_judged true (Some thing) = refl

pub noted_is : {T : Type 0} (shape : Data → Bool) (reads : Data → Option T) (found : Option Data) → noted (slot shape reads found) ≡ judged (unwrap_or (option_map shape found) false) (stands found)
noted_is shape reads None = refl
noted_is shape reads (Some d) = noted_judged (shape d) (reads d)

-- where the member doesn't stand, the shape is another
pub as_if_there : {B P : Type 0} (shape : Data → Bool) (found : Option Data) (others : Bool) (make : Bool × B → P) (more : Option B)
    → judged (unwrap_or (option_map shape found) false && others) (option_map make (pair (stands found) more)) ≡ judged (unwrap_or (option_map shape found) false && others) (option_map (λ t. make (true, t)) more)
as_if_there shape None others make more = refl
as_if_there shape (Some d) others make more = ap (judged (shape d && others)) (paired make true more)

-- ---- a name that is none of several

-- a key of another name is told from it
pub other_name : (name key : List ℕ) → (key ≡ name → ⊥) → bytes_eq name key ≡ false
other_name name key other = by_same (bytes_eq name key) refl
  where
    by_same : (same : Bool) → bytes_eq name key ≡ same → bytes_eq name key ≡ false
    by_same true is = absurd (other (sym ((bytes_eq-Decides name key).0 is)))
    by_same false is = is

pub neither : (a b : Bool) → a ≡ false → b ≡ false → a || b ≡ false
neither false b is other = other
neither true b is other = cc
