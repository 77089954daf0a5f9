-- What is known of a stream as its lines are read and answered.
use Rattle.std.proofs.Common.{◌≡◌, ◌∙◌, ◌+◌, ◌<◌, ℕ, List, [], ◌∷◌, ◌++◌, length, take, drop, Option, Some, None, refl, sym, ap, subst, inl, inr, ⊎_elim, arith, length-append}
use Rattle.std.specs.Io.KnownBytes.{Appends, Consumes}
use Rattle.std.proofs.KnownBytes.{Appends-nil, Appends-trans, Consumes-nil, Consumes-trans}
use Rattle.bep_document.specs.Fault.{nowhere}
use Rattle.bep_document.specs.declared.fault.Fault.TheVariants.{Range}
use Rattle.bep_rows_answer.specs.inner.Answered.{EndsOf, IsAnsweredLast, IsFrontAnswered, IsNextStreamed, IsRefusedNext, IsStreamedTo, IsWrittenNext, KnowsOf, TellsOf}
use Rattle.bep_rows_answer.specs.Input.{IsFound, IsGrown, newline_at}
use Rattle.bep_rows_answer.specs.Lines.{refusal_line}
use Rattle.bep_rows_answer.specs.Stream.{AreLines, IsAnswered, IsGrownText, IsNextLine, IsRefusedAnswer}
use Rattle.bep_rows_answer.specs.declared.input.Next.TheVariants.{Last, TooLong}
use Rattle.bep_rows_answer.specs.declared.outcome.RowsOutcome.{RowsOutcome}
use Rattle.bep_rows_answer.specs.declared.outcome.RowsOutcome.TheVariants as outcomes
use Rattle.bep_rows_answer.specs.declared.rows.Rows.{Rows}
use Rattle.bep_rows_answer.proofs.LineFacts.{more_rest, no_lines, one_more_line}
use Rattle.bep_rows_answer.proofs.SoFar.{so_far}

pub nothing_yet : {A : Type 0} (Tells : TellsOf A) (Knows : KnowsOf A) (asked : A) (unread held : Option (List ℕ)) → IsStreamedTo Tells Knows asked unread unread held held None asked [] 1
nothing_yet Tells Knows asked unread held = record {
  bytes = [];
  taken = Consumes-nil unread;
  lines = [];
  are = no_lines;
  text = [];
  written = Appends-nil held;
  known = (refl, refl, refl);
  numbered = refl;
}

-- what is written more is written behind what was
pub grown_more : (held now later : Option (List ℕ)) (text : List ℕ) → Appends held now text → IsGrownText now later → IsGrownText held later
grown_more held now later text written grown = (text ++ grown.0, Appends-trans held now later text grown.0 written grown.1)

module _ {A : Type 0} (Tells : TellsOf A) (Ends : EndsOf A) (Knows : KnowsOf A) (asked : A) (unread left held now : Option (List ℕ)) (state : Option Rows) (auditor : A) (pending : List ℕ) (number : ℕ) (streamed : IsStreamedTo Tells Knows asked unread left held now state auditor pending number) where
  pub more_read : (later : Option (List ℕ)) (all : List ℕ) → IsGrown left later pending all → IsStreamedTo Tells Knows asked unread later held now state auditor all number
  more_read later all grown = record {
    bytes = streamed.bytes ++ grown.more;
    taken = Consumes-trans unread left later streamed.bytes grown.more streamed.taken grown.taken;
    lines = streamed.lines;
    are = subst (λ (rest : List ℕ). AreLines (streamed.bytes ++ grown.more) streamed.lines rest) (sym grown.grown) (more_rest streamed.bytes streamed.lines pending grown.more streamed.are);
    text = streamed.text;
    written = streamed.written;
    known = streamed.known;
    numbered = streamed.numbered;
  }

  pub line_answered : (len : ℕ) (next : Option Rows) (after : A) (later : Option (List ℕ)) → newline_at pending ≡ Some len → IsWrittenNext Tells Knows (take len pending) state auditor next after now later → IsStreamedTo Tells Knows asked unread left held later next after (drop (len + 1) pending) (number + 1)
  line_answered len next after later is answered = record {
    bytes = streamed.bytes;
    taken = streamed.taken;
    lines = streamed.lines ++ take len pending ∷ [];
    are = one_more_line streamed.bytes streamed.lines pending len is streamed.are;
    text = streamed.text ++ answered.more;
    written = Appends-trans held now later streamed.text answered.more streamed.written answered.written;
    known = answered.taken asked streamed.lines streamed.text streamed.known;
    numbered = let longer = length-append streamed.lines (take len pending ∷ []) in let n = streamed.numbered in omega (arith, longer, n);
  }

  refused_by : (later : Option (List ℕ)) (text : List ℕ) → Appends now later text → (IsRefusedAnswer (Tells asked) streamed.lines pending outcomes.Refused (streamed.text ++ text)) → IsAnswered (Tells asked) (Ends asked) unread left held later outcomes.Refused
  refused_by later text written says = record {
    bytes = streamed.bytes;
    taken = streamed.taken;
    lines = streamed.lines;
    rest = pending;
    are = streamed.are;
    text = streamed.text ++ text;
    written = Appends-trans held now later streamed.text text streamed.written written;
    says = inr says;
  }

  pub line_refused : (line : List ℕ) (later : Option (List ℕ)) → IsNextLine pending line → IsRefusedNext line number state now later → IsAnswered (Tells asked) (Ends asked) unread left held later outcomes.Refused
  line_refused line later next refused =
      refused_by later (refusal_line number refused.fault) refused.written
      (record {
        so_far = streamed.text;
        state = state;
        known = so_far Tells Knows asked auditor streamed.lines streamed.text state streamed.known;
        fault = refused.fault;
        why = inl (record { line = line; next = next; refused = refused.refused });
        told = refl;
        written = ap (λ n. streamed.text ++ refusal_line n refused.fault) streamed.numbered;
      })

  pub line_too_long : (later : Option (List ℕ)) → IsFound left pending TooLong → Appends now later (refusal_line number (nowhere Range)) → IsAnswered (Tells asked) (Ends asked) unread left held later outcomes.Refused
  line_too_long later found written =
      refused_by later (refusal_line number (nowhere Range)) written
      (record {
        so_far = streamed.text;
        state = state;
        known = so_far Tells Knows asked auditor streamed.lines streamed.text state streamed.known;
        fault = nowhere Range;
        why = inr (record { long = found.0; no_end = found.1; is = refl });
        told = refl;
        written = ap (λ n. streamed.text ++ refusal_line n (nowhere Range)) streamed.numbered;
      })

  pub last_answered : (later : Option (List ℕ)) (outcome : RowsOutcome) → IsFound left pending Last → IsAnsweredLast Tells Ends Knows pending number state auditor now later outcome → IsAnswered (Tells asked) (Ends asked) unread left held later outcome
  last_answered later outcome found answered = record {
    bytes = streamed.bytes;
    taken = streamed.taken;
    lines = streamed.lines;
    rest = pending;
    are = streamed.are;
    text = streamed.text ++ answered.more;
    written = Appends-trans held now later streamed.text answered.more streamed.written answered.written;
    says =
        ⊎_elim
        (λ whole. inl (record { at_end = found.1; no_end = found.0; answer = whole }))
        (λ refused. inr refused)
        (answered.says asked streamed.lines streamed.text streamed.known found.0 streamed.numbered);
  }

-- the last line is refused, which has no end
module _ {A : Type 0} (Tells : TellsOf A) (Ends : EndsOf A) (Knows : KnowsOf A) (line : List ℕ) (number : ℕ) (state : Option Rows) (auditor : A) (held now : Option (List ℕ)) where
  pub last_refused : IsRefusedNext line number state held now → IsAnsweredLast Tells Ends Knows line number state auditor held now outcomes.Refused
  last_refused refused = record {
    more = refusal_line number refused.fault;
    written = refused.written;
    says = λ asked lines text given no_end numbered.
        inr
        (record {
          so_far = text;
          state = state;
          known = so_far Tells Knows asked auditor lines text state given;
          fault = refused.fault;
          why = inl (record { line = line; next = inr (no_end, refl); refused = refused.refused });
          told = refl;
          written = ap (λ n. text ++ refusal_line n refused.fault) numbered;
        });
  }

-- the first of the pending lines was answered, or refused
module _ {A : Type 0} (Tells : TellsOf A) (Ends : EndsOf A) (Knows : KnowsOf A) (asked : A) (unread before left held now later : Option (List ℕ)) (state next : Option Rows) (auditor after : A) (old pending rest : List ℕ) (number len : ℕ) where
  pub front_streamed : IsStreamedTo Tells Knows asked unread before held now state auditor old number → IsGrown before left old pending → newline_at pending ≡ Some len →
      (told : Option RowsOutcome) → IsFrontAnswered Tells Knows len number pending rest state auditor next after now later told → IsNextStreamed Tells Ends Knows asked unread left held later next after rest number told
  front_streamed streamed grown is None answered =
      subst (λ (bytes : List ℕ). IsStreamedTo Tells Knows asked unread left held later next after bytes (number + 1)) (sym answered.1)
      (line_answered Tells Ends Knows asked unread left held now state auditor pending number (more_read Tells Ends Knows asked unread before held now state auditor old number streamed left pending grown) len next after later is answered.0)
  front_streamed streamed grown is (Some outcome) answered =
      subst (λ (o : RowsOutcome). IsAnswered (Tells asked) (Ends asked) unread left held later o) (sym answered.1)
      (line_refused Tells Ends Knows asked unread left held now state auditor pending number (more_read Tells Ends Knows asked unread before held now state auditor old number streamed left pending grown) (take len pending) later (inl (len, is, refl)) answered.0)
