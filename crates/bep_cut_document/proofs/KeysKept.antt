-- Keys that differ still do where a filter has taken some away.
use Rattle.std.proofs.Common.{Bool, true, false, cond, List, [], ◌∷◌}
use Rattle.std.specs.List.{filter}
use Rattle.bep_document.specs.Faultless.{HasNoKey, KeysDiffer}

no_key_kept : {X K : Type 0} (test : X → Bool) (key : X → K) (k : K) (xs : List X) → HasNoKey key k xs → HasNoKey key k (filter test xs)
no_key_kept test key k [] none = tt
no_key_kept test key k (x ∷ more) none = cases (test x) (no_key_kept test key k more none.1) where
  cases : (b : Bool) → HasNoKey key k (filter test more) → HasNoKey key k (cond b (x ∷ filter test more) (filter test more))
  cases true rest = (none.0, rest)
  cases false rest = rest

pub differ_kept : {X K : Type 0} (test : X → Bool) (key : X → K) (xs : List X) → KeysDiffer key xs → KeysDiffer key (filter test xs)
differ_kept test key [] differ = tt
differ_kept test key (x ∷ more) differ = cases (test x) (differ_kept test key more differ.1) where
  cases : (b : Bool) → KeysDiffer key (filter test more) → KeysDiffer key (cond b (x ∷ filter test more) (filter test more))
  cases true rest = (no_key_kept test key (key x) more differ.0, rest)
  cases false rest = rest
