-- The words by which scenarios name steps (this project's profile).
use Rattle.std.specs.Prelude.{ℕ, nat_eq, List, [], ◌∷◌, Option, Some, None, if◌then◌else◌, codes}
use Rattle.std.specs.Cmp.Lexicographic.{pointwise}
use Rattle.serde_json.specs.Data.{Data}
use Rattle.serde_json.specs.Find.{as_str}
use Rattle.bep_json.specs.Reading.{◌>>=◌}
use Rattle.bep_scenario.specs.declared.words.NameWord.TheVariants.{Remove, Scan, Override, Revert, Pull, Finish}
use Rattle.bep_scenario.specs.declared.words.PairWord.TheVariants.{Connect, Lose, Begin, Deliver}
use Rattle.bep_scenario.specs.declared.words.Word.{Word}
use Rattle.bep_scenario.specs.declared.words.Word.TheVariants.{Edit, OfName, OfPair, Announce, Ask, Restart, Reset}

-- the word whose text this is, in a table
abbrev pub word_in : List (List ℕ × Word) → List ℕ → Option Word
word_in [] text = None
word_in (entry ∷ more) text = if pointwise nat_eq text entry.0 then Some entry.1 else word_in more text

-- the step that a text names
unfoldable pub word_named : List ℕ → Option Word
word_named text =
    word_in
    ((codes "remove", OfName Remove) ∷ (codes "scan", OfName Scan) ∷ (codes "override", OfName Override) ∷
    (codes "revert", OfName Revert) ∷ (codes "pull", OfName Pull) ∷ (codes "finish", OfName Finish) ∷
    (codes "connect", OfPair Connect) ∷ (codes "lose", OfPair Lose) ∷ (codes "begin", OfPair Begin) ∷
    (codes "deliver", OfPair Deliver) ∷ (codes "edit", Edit) ∷ (codes "announce", Announce) ∷ (codes "ask", Ask) ∷
    (codes "restart", Restart) ∷ (codes "reset", Reset) ∷ [])
    text

-- the word that a text is
unfoldable pub read_word : Data → Option Word
read_word d = as_str d >>= word_named
