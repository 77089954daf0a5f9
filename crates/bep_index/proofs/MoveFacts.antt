-- What writing a record in its place and moving it does to the entries of the map that holds the records.
use Rattle.std.proofs.Common.{◌≡◌, ◌∙◌, ℕ, zero, suc, ◌+◌, ◌<◌, ◌++◌, Bool, true, false, cond, nat_le, List, [], ◌∷◌, length, take, drop, slice_get, insert, remove, Some, refl, sym, ap, subst, arith}
use Rattle.std.specs.Option.{option_map, option_map_or}
use Rattle.std.proofs.lemmas.List.{map-append, take-map, drop-map, take_all, take_at, drop_all, length-append}
use Rattle.std.proofs.lemmas.List.Edits.{length-remove}
use Rattle.std.proofs.lemmas.Option.{same_Some, none-some, slice_get_within, slice_get-map}
use Rattle.indexmap.specs.IndexMap.{move_index}
use Rattle.indexmap.specs.Layout.{set_value_at}
use Rattle.bep_record.specs.declared.entry.Entry.{Entry}
use Rattle.bep_index.specs.Batch.{Rises, NamesDiffer, last_sequence}
use Rattle.bep_index.specs.Order.{AreInOrder, count_up_to, named, without, put_in}
use Rattle.bep_index.proofs.LawFacts.{from_leb_true, from_leb_false}
use Rattle.bep_index.proofs.OrderFacts.{none_of_name}
use Rattle.bep_index.proofs.AfterFacts.{count_none}
use Rattle.bep_index.proofs.PlaceFacts.{among_at}
use Rattle.bep_index.proofs.PutFacts.{without_here, without_apart, Rises-without}

-- ---- entries

module _ {K X : Type 0} (w : X) where
  written_here : (es : List (K × X)) (i : ℕ) (k : K) (v : X) → slice_get es i ≡ Some (k, v) → slice_get (set_value_at es i w) i ≡ Some (k, w)
  written_here [] i k v is = absurd (none-some (k, v) is)
  written_here (e ∷ es) zero k v is = ap (λ (p : K × X). Some (p.0, w)) (same_Some e (k, v) is)
  written_here (e ∷ es) (suc i) k v is = written_here es i k v is

  others_stay : (es : List (K × X)) (i : ℕ) → remove (set_value_at es i w) i ≡ remove es i
  others_stay [] i = refl
  others_stay (e ∷ es) zero = refl
  others_stay (e ∷ es) (suc i) = ap (λ more. e ∷ more) (others_stay es i)

  -- what is written and moved stands at its new place, and the others in their order
  pub moved : (es : List (K × X)) (i to : ℕ) (k : K) (v : X) → slice_get es i ≡ Some (k, v) → move_index (set_value_at es i w) i to ≡ insert (remove es i) to (k, w)
  moved es i to k v is =
      ap (λ o. option_map_or (λ x. insert (remove (set_value_at es i w) i) to x) o (set_value_at es i w)) (written_here es i k v is)
      ∙ ap (λ xs. insert xs to (k, w)) (others_stay es i)

insert-last : {X : Type 0} (xs : List X) (i : ℕ) (x : X) → length xs ≡ i → insert xs i x ≡ xs ++ x ∷ []
insert-last xs i x many = ap (λ ys. ys ++ x ∷ drop i xs) (take_all i xs (omega arith)) ∙ ap (λ ys. xs ++ x ∷ ys) (drop_all i xs (omega arith))

-- ---- records under their names

abbrev under : Entry → List ℕ × Entry
under e = (e.name, e)

pub named-remove : (es : List Entry) (i : ℕ) → remove (named es) i ≡ named (remove es i)
named-remove es i =
    ap (λ xs. xs ++ drop (suc i) (named es)) (take-map under i es) ∙ ap (λ xs. named (take i es) ++ xs) (drop-map under (suc i) es)
    ∙ sym (map-append under (take i es) (drop (suc i) es))

pub named-insert : (es : List Entry) (i : ℕ) (e : Entry) → insert (named es) i (under e) ≡ named (insert es i e)
named-insert es i e =
    ap (λ xs. xs ++ under e ∷ drop i (named es)) (take-map under i es) ∙ ap (λ xs. named (take i es) ++ under e ∷ xs) (drop-map under i es)
    ∙ sym (map-append under (take i es) (e ∷ drop i es))

pub named-at : (es : List Entry) (i : ℕ) (x : Entry) → slice_get es i ≡ Some x → slice_get (named es) i ≡ Some (x.name, x)
named-at es i x is = slice_get-map under es i ∙ ap (option_map under) is

-- without what stands at a place is without its name
pub remove-without : (n : List ℕ) (es : List Entry) (i : ℕ) (x : Entry) → NamesDiffer es → slice_get es i ≡ Some x → x.name ≡ n → remove es i ≡ without n es
remove-without n [] i x names is same = absurd (none-some x is)
remove-without n (e ∷ es) zero x names is same = sym (without_here n e es (sym same ∙ ap (λ (z : Entry). z.name) (sym (same_Some e x is))))
remove-without n (e ∷ es) (suc i) x names is same =
    ap (λ more. e ∷ more) (remove-without n es i x names.1 is same)
    ∙ sym (without_apart n e es (λ here. none_of_name es x e.name names.0 (among_at es i x is) (same ∙ here)))

-- the entries once the record at a place was written anew and moved last
pub moved_last : (es : List Entry) (i last : ℕ) (x w : Entry) → NamesDiffer es → slice_get es i ≡ Some x → x.name ≡ w.name → last + 1 ≡ length es → move_index (set_value_at (named es) i w) i last ≡ named (without w.name es ++ w ∷ [])
moved_last es i last x w names is same many =
    moved w (named es) i last x.name x (named-at es i x is)
    ∙ ap (λ k. insert (remove (named es) i) last (k, w)) same
    ∙ ap (λ xs. insert xs last (under w)) (named-remove es i)
    ∙ named-insert (remove es i) last w
    ∙ ap named (insert-last (remove es i) last w (let less = length-remove es i (slice_get_within es i x is) in omega arith) ∙ ap (λ xs. xs ++ w ∷ []) (remove-without w.name es i x names is same))

-- ---- at the end

last_at : (rest : List Entry) (e : Entry) (i : ℕ) → i ≡ length rest → slice_get (rest ++ e ∷ []) i ≡ Some e
last_at [] e zero many = refl
last_at [] e (suc i) many = absurd (omega arith)
last_at (f ∷ rest) e zero many = absurd (omega arith)
last_at (f ∷ rest) e (suc i) many = last_at rest e i (omega arith)

remove_last : (rest : List Entry) (e : Entry) (i : ℕ) → i ≡ length rest → remove (rest ++ e ∷ []) i ≡ rest
remove_last [] e zero many = refl
remove_last [] e (suc i) many = absurd (omega arith)
remove_last (f ∷ rest) e zero many = absurd (omega arith)
remove_last (f ∷ rest) e (suc i) many = ap (λ more. f ∷ more) (remove_last rest e i (omega arith))

pub without_last : (rest : List Entry) (e : Entry) (n : List ℕ) → NamesDiffer (rest ++ e ∷ []) → e.name ≡ n → without n (rest ++ e ∷ []) ≡ rest
without_last rest e n names same =
    sym (remove-without n (rest ++ e ∷ []) (length rest) e names (last_at rest e (length rest) refl) same) ∙ remove_last rest e (length rest) refl

insert-put_in : (low : ℕ) (old : Entry) (es : List Entry) → Rises low es → insert es (count_up_to old.sequence es) old ≡ put_in old es
insert-put_in low old [] rises = refl
insert-put_in low old (f ∷ es) rises =
    cases (nat_le f.sequence old.sequence) refl (insert-put_in f.sequence old es rises.2)
  where
    cases : (b : Bool) → nat_le f.sequence old.sequence ≡ b → insert es (count_up_to old.sequence es) old ≡ put_in old es
        → insert (f ∷ es) (cond b (suc (count_up_to old.sequence es)) (count_up_to old.sequence es)) old ≡ cond b (f ∷ put_in old es) (old ∷ f ∷ es)
    cases true t more = ap (λ xs. f ∷ xs) more
    cases false t more = ap (λ n. insert (f ∷ es) n old) (count_none old.sequence f.sequence es rises.2 (let above = from_leb_false _ _ t in omega arith))

-- the last one isn't counted where it is above the sequence
pub count-last : (low sequence : ℕ) (rest : List Entry) (e : Entry) → sequence < e.sequence → count_up_to sequence (rest ++ e ∷ []) ≡ count_up_to sequence rest
count-last low sequence [] e above = cases (nat_le e.sequence sequence) refl
  where
    cases : (b : Bool) → nat_le e.sequence sequence ≡ b → cond {A = ℕ} b 1 0 ≡ 0
    cases true t = let within = from_leb_true _ _ t in absurd (omega arith)
    cases false t = refl
count-last low sequence (f ∷ rest) e above = ap (λ n. cond (nat_le f.sequence sequence) (suc n) n) (count-last low sequence rest e above)

pub last_sequence-push : (low : ℕ) (es : List Entry) (e : Entry) → last_sequence low (es ++ e ∷ []) ≡ e.sequence
last_sequence-push low [] e = refl
last_sequence-push low (f ∷ es) e = last_sequence-push f.sequence es e

-- the entries once the last record was written anew and moved to the place of its sequence
pub moved_back : (rest : List Entry) (e old : Entry) (i place : ℕ) → AreInOrder (rest ++ e ∷ []) → e.name ≡ old.name → old.sequence < e.sequence → i ≡ length rest → place ≡ count_up_to old.sequence (rest ++ e ∷ [])
    → move_index (set_value_at (named (rest ++ e ∷ [])) i old) i place ≡ named (put_in old (without old.name (rest ++ e ∷ [])))
moved_back rest e old i place order same below many counted =
    let es : List Entry = rest ++ e ∷ [] in
    let at : slice_get es i ≡ Some e = last_at rest e i many in
    let left : without old.name es ≡ rest = without_last rest e old.name order.names same in
    let rises : Rises 0 rest = subst (Rises 0) left (Rises-without old.name 0 es order.rises) in
    moved old (named es) i place e.name e (named-at es i e at)
    ∙ ap (λ k. insert (remove (named es) i) place (k, old)) same
    ∙ ap (λ xs. insert xs place (under old)) (named-remove es i)
    ∙ named-insert (remove es i) place old
    ∙ ap named (ap (λ xs. insert xs place old) (remove_last rest e i many)
    ∙ ap (λ n. insert rest n old) (counted ∙ count-last 0 old.sequence rest e below)
    ∙ insert-put_in 0 old rest rises ∙ ap (put_in old) (sym left))

-- two lists with one more at the end
pub same_front : {X : Type 0} (xs ys : List X) (x y : X) → xs ++ x ∷ [] ≡ ys ++ y ∷ [] → length xs ≡ length ys → xs ≡ ys
same_front xs ys x y same many =
    sym (take_at xs (x ∷ []) (length xs) refl) ∙ ap (take (length xs)) same ∙ take_at ys (y ∷ []) (length xs) (sym many)

-- where there is a last one
module _ (es rest : List Entry) (e : Entry) (is : es ≡ rest ++ e ∷ []) where
  pub length-last : length es ≡ length rest + 1
  length-last = ap length is ∙ length-append rest (e ∷ [])

  pub below-last : (sequence : ℕ) → sequence < last_sequence 0 es → sequence < e.sequence
  below-last sequence below = subst (λ n. sequence < n) (ap (last_sequence 0) is ∙ last_sequence-push 0 rest e) below
