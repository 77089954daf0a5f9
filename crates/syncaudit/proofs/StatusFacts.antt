-- What comes of words where nothing was read, since memory ran out before.
use Rattle.std.proofs.Common.{◌≡◌, ◌∙◌, ℕ, List, [], ◌∷◌, Option, Err, inl, inr, refl, sym}
use Rattle.std.proofs.KnownBytes.{Appends-nil, Keeps-refl}
use Rattle.bep_answer.specs.Heard.{Hears}
use Rattle.bep_answer.specs.Status.{status_of}
use Rattle.bep_answer.specs.declared.person.Said.{Said}
use Rattle.bep_answer.specs.declared.person.Said.TheVariants.{Why}
use Rattle.bep_report.specs.declared.error.ReportError.TheVariants.{Memory}
use Rattle.clap.specs.Words.{Text, fault_of}
use Rattle.bep_words.specs.Mode.{FaultlessWordsAsk, program}
use Rattle.syncaudit.specs.Status.{IsDone, IsFollowed, IsProgramRun}
use Rattle.bep_words.specs.declared.mode.Ending.TheVariants.{Report, Document}
use Rattle.bep_words.specs.declared.mode.Extent.TheVariants.{All, Won}
use Rattle.bep_words.specs.declared.mode.Goal.TheVariants.{Settled}
use Rattle.bep_words.specs.declared.mode.Goal.TheVariants as goals
use Rattle.bep_words.specs.declared.mode.Mode.{Mode}
use Rattle.bep_words.specs.declared.mode.Mode.TheVariants.{Check, Firm, Converge, Certify, Explain, Rows, Run}
use Rattle.bep_words.specs.declared.mode.Reasons.TheVariants as reasons
use Rattle.bep_words.specs.declared.mode.Under.TheVariants.{Given, Winners}

module _ (heard hears : Option (List Said)) (said : Hears heard hears (Why Memory ∷ [])) where
  done_without_memory : (mode : Mode) (unread held : Option (List ℕ)) (status : ℕ) → status ≡ status_of (Err Memory) → IsDone mode unread unread held held heard hears status
  done_without_memory (Check Given) unread held status told = (record { answer = Err Memory; told = told; done = Keeps-refl held }, record { answer = Err Memory; told = told; tells = tt; hears = said })
  done_without_memory (Check Winners) unread held status told = (record { answer = Err Memory; told = told; done = Keeps-refl held }, record { answer = Err Memory; told = told; tells = tt; hears = said })
  done_without_memory (Firm Given) unread held status told = (record { answer = Err Memory; told = told; done = Keeps-refl held }, record { answer = Err Memory; told = told; tells = tt; hears = said })
  done_without_memory (Firm Winners) unread held status told = (record { answer = Err Memory; told = told; done = Keeps-refl held }, record { answer = Err Memory; told = told; tells = tt; hears = said })
  done_without_memory Converge unread held status told = (record { answer = Err Memory; told = told; done = Keeps-refl held }, record { answer = Err Memory; told = told; tells = tt; hears = said })
  done_without_memory (Certify All) unread held status told = (record { answer = Err Memory; told = told; done = Keeps-refl held }, record { answer = Err Memory; told = told; tells = tt; hears = said })
  done_without_memory (Certify Won) unread held status told = (record { answer = Err Memory; told = told; done = Keeps-refl held }, record { answer = Err Memory; told = told; tells = tt; hears = said })
  done_without_memory (Explain Settled Given form) unread held status told = (record { answer = Err Memory; told = told; done = Keeps-refl held }, record { answer = Err Memory; told = told; tells = tt; hears = said })
  done_without_memory (Explain Settled Winners form) unread held status told = (record { answer = Err Memory; told = told; done = Keeps-refl held }, record { answer = Err Memory; told = told; tells = tt; hears = said })
  done_without_memory (Explain goals.Firm Given form) unread held status told = (record { answer = Err Memory; told = told; done = Keeps-refl held }, record { answer = Err Memory; told = told; tells = tt; hears = said })
  done_without_memory (Explain goals.Firm Winners form) unread held status told = (record { answer = Err Memory; told = told; done = Keeps-refl held }, record { answer = Err Memory; told = told; tells = tt; hears = said })
  done_without_memory (Explain goals.Converging Given form) unread held status told = (record { answer = Err Memory; told = told; done = Keeps-refl held }, record { answer = Err Memory; told = told; tells = tt; hears = said })
  done_without_memory (Explain goals.Converging Winners form) unread held status told = (record { answer = Err Memory; told = told; done = Keeps-refl held }, record { answer = Err Memory; told = told; tells = tt; hears = said })
  done_without_memory (Rows Settled reasons.First) unread held status told = (record { answer = Err Memory; told = told; done = ([], Appends-nil held) }, record { answer = Err Memory; told = told; hears = said })
  done_without_memory (Rows Settled reasons.All) unread held status told = (record { answer = Err Memory; told = told; done = ([], Appends-nil held) }, record { answer = Err Memory; told = told; hears = said })
  done_without_memory (Rows goals.Firm reasons.First) unread held status told = (record { answer = Err Memory; told = told; done = ([], Appends-nil held) }, record { answer = Err Memory; told = told; hears = said })
  done_without_memory (Rows goals.Firm reasons.All) unread held status told = (record { answer = Err Memory; told = told; done = ([], Appends-nil held) }, record { answer = Err Memory; told = told; hears = said })
  done_without_memory (Rows goals.Converging reasons.First) unread held status told = (record { answer = Err Memory; told = told; done = ([], Appends-nil held) }, record { answer = Err Memory; told = told; hears = said })
  done_without_memory (Rows goals.Converging reasons.All) unread held status told = (record { answer = Err Memory; told = told; done = ([], Appends-nil held) }, record { answer = Err Memory; told = told; hears = said })
  done_without_memory (Run Report turns) unread held status told = record {
    at_rest = λ none. (record { answer = Err Memory; told = told; done = Keeps-refl held }, record { answer = Err Memory; told = told; tells = tt; hears = said });
    live = λ some. (record { answer = Err Memory; told = told; done = Keeps-refl held }, record { answer = Err Memory; told = told; tells = tt; hears = said });
  }
  done_without_memory (Run Document turns) unread held status told = record {
    at_rest = λ none. (record { answer = Err Memory; told = told; done = Keeps-refl held }, record { answer = Err Memory; told = told; tells = tt; hears = said });
    live = λ some. (record { answer = Err Memory; told = told; done = Keeps-refl held }, record { answer = Err Memory; told = told; tells = tt; hears = said });
  }

  -- words at which nothing is at fault are followed, also where memory ran out first
  pub followed_without_memory : FaultlessWordsAsk → (words : List Text) (unread held : Option (List ℕ)) (status : ℕ) → status ≡ status_of (Err Memory) → fault_of program words ≡ []
      → IsFollowed words unread unread held held heard hears status
  followed_without_memory ask words unread held status told none =
      let asked = ask words none in
      (asked.0, asked.1, done_without_memory asked.0 unread held status told)

  -- nothing is read where memory ran out first
  pub run_without_memory : FaultlessWordsAsk → (words : List Text) (unread held : Option (List ℕ)) (status : ℕ) → status ≡ status_of (Err Memory) → IsProgramRun words unread unread held held heard hears status
  run_without_memory ask words unread held status told =
      let isnt : status ≡ 0 → ⊥ = λ zero. (let e : 4 ≡ 0 = sym told ∙ zero in cc) in record {
        followed = followed_without_memory ask words unread held status told;
        unfollowed = λ at_fault. (inr told, refl, Keeps-refl held);
        end = inl (inr told, refl, Keeps-refl held);
        settled = λ asks zero. absurd (isnt zero);
        settled_under_winners = λ asks zero. absurd (isnt zero);
        firm = λ asks zero. absurd (isnt zero);
        firm_under_winners = λ asks zero. absurd (isnt zero);
        converging = λ asks zero. absurd (isnt zero);
        settled_rows = λ told_of asks zero. absurd (isnt zero);
        firm_rows = λ told_of asks zero. absurd (isnt zero);
        converging_rows = λ told_of asks zero. absurd (isnt zero);
        ends_settled = λ asks zero. absurd (isnt zero);
        lives_settled = λ turns asks some zero. absurd (isnt zero);
      }
