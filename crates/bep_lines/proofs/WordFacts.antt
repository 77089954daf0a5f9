-- Each reason has a word of its own.
use Rattle.std.proofs.Common.{◌≡◌, ℕ, ◌+◌, ◌*◌, ◌==◌, true, Option, Some, List, [], ◌∷◌, get_or, length, nat_le, refl, sym, ap, ◌∙◌}
use Rattle.std.specs.List.{find, list_all}
use Rattle.bep_model.specs.declared.firm_reason.FirmReason.{FirmReason}
use Rattle.bep_model.specs.declared.firm_reason.FirmReason.TheVariants.{VersionDiffers, ViewNotBelow, FlightNotBelow, PullNotBelow}
use Rattle.bep_model.specs.declared.reason.Reason.{Reason}
use Rattle.bep_model.specs.declared.reason.Reason.TheVariants.{CertificateOrder, NameMissing, NameUnknown, NotWinner, RecordMissing, RecordDiffers, LocalOnly, StoreDiffers, StoreUnclean, ViewAhead, FlightAhead, PullAhead}
use Rattle.bep_lines.specs.Lines.{firm_word_of, word_of}
use Rattle.bep_lines.proofs.Tokens.{AreSeen, seen_word}

-- a reason of either kind
pub data Why : Type 0 where
  Unsettles : Reason → Why
  Loosens : FirmReason → Why

abbrev pub why_word : Why → List ℕ
why_word (Unsettles reason) = word_of reason
why_word (Loosens reason) = firm_word_of reason

abbrev all_reasons : List Why
all_reasons = Unsettles CertificateOrder ∷ Unsettles NameMissing ∷ Unsettles NameUnknown ∷ Unsettles NotWinner ∷ Unsettles RecordMissing ∷ Unsettles RecordDiffers ∷ Unsettles LocalOnly ∷ Unsettles StoreDiffers ∷ Unsettles StoreUnclean ∷ Unsettles ViewAhead ∷ Unsettles FlightAhead ∷ Unsettles PullAhead ∷ Loosens VersionDiffers ∷ Loosens ViewNotBelow ∷ Loosens FlightNotBelow ∷ Loosens PullNotBelow ∷ []

-- a word's length and four of its letters, in one number
abbrev key_of : List ℕ → ℕ
key_of word = length word + 100 * (get_or word 0 0 + 1000 * (get_or word 4 0 + 1000 * (get_or word 5 0 + 1000 * get_or word 8 0)))

abbrev meant_by : List ℕ → Option Why
meant_by word = find (λ why. key_of (why_word why) == key_of word) all_reasons

read_back : (why : Why) → meant_by (why_word why) ≡ Some why
read_back (Unsettles CertificateOrder) = refl
read_back (Unsettles NameMissing) = refl
read_back (Unsettles NameUnknown) = refl
read_back (Unsettles NotWinner) = refl
read_back (Unsettles RecordMissing) = refl
read_back (Unsettles RecordDiffers) = refl
read_back (Unsettles LocalOnly) = refl
read_back (Unsettles StoreDiffers) = refl
read_back (Unsettles StoreUnclean) = refl
read_back (Unsettles ViewAhead) = refl
read_back (Unsettles FlightAhead) = refl
read_back (Unsettles PullAhead) = refl
read_back (Loosens VersionDiffers) = refl
read_back (Loosens ViewNotBelow) = refl
read_back (Loosens FlightNotBelow) = refl
read_back (Loosens PullNotBelow) = refl

pub words_tell : (one other : Why) → why_word one ≡ why_word other → one ≡ other
words_tell one other e =
    let same : Some one ≡ Some other = sym (read_back one) ∙ ap meant_by e ∙ read_back other in
    cc

letters : (why : Why) → list_all (nat_le 33) (why_word why) ≡ true
letters (Unsettles CertificateOrder) = refl
letters (Unsettles NameMissing) = refl
letters (Unsettles NameUnknown) = refl
letters (Unsettles NotWinner) = refl
letters (Unsettles RecordMissing) = refl
letters (Unsettles RecordDiffers) = refl
letters (Unsettles LocalOnly) = refl
letters (Unsettles StoreDiffers) = refl
letters (Unsettles StoreUnclean) = refl
letters (Unsettles ViewAhead) = refl
letters (Unsettles FlightAhead) = refl
letters (Unsettles PullAhead) = refl
letters (Loosens VersionDiffers) = refl
letters (Loosens ViewNotBelow) = refl
letters (Loosens FlightNotBelow) = refl
letters (Loosens PullNotBelow) = refl

pub words_are_seen : (why : Why) → AreSeen (why_word why)
words_are_seen why = seen_word (why_word why) (letters why)
