use Rattle.std.proofs.Common.{rules, tests, arith, ◌≡◌, ℕ, ◌<◌, List, All, Bool, true, false, MatchBool, length, lit<}
use Rattle.std.specs.List.{AllWithin, HoldsAt}
use Rattle.std.proofs.lemmas.Bool.{false≢true}
use Rattle.std.proofs.lemmas.Iterator.{cases_from_all}
use Rattle.std.proofs.lemmas.Iterator.Search.{true_from_All}
use Rattle.std.proofs.lemmas.Iterator.Splits.{YieldsList-from_str_split}
use Rattle.bep_record.specs.Name.{IsPart, parts_of}
use Rattle.bep_record.proofs.name.has_good_parts.Goals as goal

abbrev IsBad : List ℕ → Type 0
IsBad part = ¬ (IsPart part)

-- the way back from an answer `true`; `true_from_All` is the way to it
All-from_true : (parts : List (List ℕ)) (r : Bool) → MatchBool r (AllWithin IsPart parts 0 (length parts)) ((k : ℕ) × (k < length parts) × HoldsAt IsBad parts k) → r ≡ true → All IsPart parts
All-from_true parts true h e = λ k d l. h k d (omega arith) l
All-from_true parts false h e = absurd (false≢true e)

pub returns : goal.returns
returns c =
    let parts = parts_of c.args.text.now in
    let by_call = cases_from_all _ _ _ IsPart IsBad c.all.ensures.ran (YieldsList-from_str_split 47 c.args.text.now (lit< tt) c.split.ensures.text c.split.ensures.has_more c.split.ensures.pattern) (λ x q k. search (rules, tests)) (λ x q k. search (rules, tests)) in
    (All-from_true parts _ by_call, true_from_All IsPart IsBad _ parts (λ x p n. n p) by_call)
