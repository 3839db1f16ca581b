-- The next line of the schedule, behind those of the events that were read.
use Rattle.std.proofs.Common.{◌≡◌, ◌≢◌, ◌≤◌, ◌+◌, ◌++◌, ℕ, List, [], ◌∷◌, length, refl, sym, ◌∙◌, append_assoc, subst, arith, inl, inr, Option}
use Rattle.bm_host.specs.Outside.{IfTold}
use Rattle.block_writes.proofs.Told.{IfTold-weaker}
use Rattle.schedule_text.specs.declared.Event.{Event}
use Rattle.schedule_text.specs.declared.LineFault.{LineFault}
use Rattle.schedule_text.specs.declared.LineFault.TheVariants as fault
use Rattle.schedule_text.specs.declared.TheConstants.{LAST_LINE}
use Rattle.schedule_text.specs.Line.{Says, HasFault}
use Rattle.schedule_text.specs.Schedule.{HasNoEnd, HasRead, MayGoOn}
use Rattle.schedule_text.specs.BadLine.{first_line, LineFails, FailsWith, FailsAt}
use Rattle.schedule_text.proofs.Lines.{some_bytes, cut_off, first_line-line, first_line-last, first_line-long}
use Rattle.bmcast.specs.declared.streams.Fetched.TheVariants as fetched
use Rattle.bmcast.specs.Streams.{Fetches}
use Rattle.bmcast.specs.Played.{IsNextLine}

-- the next line says an event, which then was read
pub read_next : (text line left : List ℕ) (e : Event) (events : List Event) → Says line e
    → IsNextLine text left events line
    → HasRead text left (e ∷ events)
read_next text line left e events says (old, (before, lines, inl goes), inl taken) =
    (before ++ line ++ 10 ∷ [], (before, line, lines, taken.0, says, refl), inl (goes ∙ rw taken.1 (simp append_assoc)))
read_next text line left e events says (old, (before, lines, inl goes), inr taken) = (
  before ++ line ++ 10 ∷ [],
  (before, line, lines, taken.0, says, refl),
  inr (taken.3, rw (goes, taken.2) refl, rw (goes, taken.2) (cut_off before line taken.1 taken.0)),
)
read_next text line left e events says (old, (before, lines, inr ended), inl taken) =
    absurd (some_bytes line left 10 (sym taken.1 ∙ ended.0))
read_next text line left e events says (old, (before, lines, inr ended), inr taken) =
    absurd (taken.1 (sym taken.2 ∙ ended.0))

-- a line's fault is how it fails, whatever its number
pub line_fails : (line : List ℕ) (kind : LineFault) (number : ℕ) → HasFault line kind → LineFails kind number line
line_fails line fault.TooMany number has = absurd has
line_fails line fault.Trailing number has = absurd has
line_fails line other number has = has

module _ (text : List ℕ) (events : List Event) (number : ℕ) (within : number ≤ LAST_LINE) (unended : HasNoEnd events)
    (next : length events + 1 ≡ number) where
  -- a line is due
  goes_on : MayGoOn events
  goes_on = (unended, omega arith)

  -- there is none
  pub fails_none : (left : List ℕ) → HasRead text left events → left ≡ [] → FailsAt text events number fault.NoEnd
  fails_none left read none = record { left = left; read = read; next = next; fails = (goes_on, none) }

  -- more is left than a line may have
  pub fails_long : (left line new : List ℕ) → HasRead text left events → Fetches fetched.TooLong line left new
      → FailsAt text events number fault.LongLine
  fails_long left line new read (one, full, (byte, other, is)) = record {
    left = left;
    read = read;
    next = next;
    fails = record {
      goes_on = goes_on;
      some = λ none. some_bytes line new byte (sym is ∙ none);
      fails = rw is (let longer = first_line-long line new byte one other in omega arith);
    };
  }

  -- the line that is left first fails
  due : (left : List ℕ) (kind : LineFault) → left ≢ [] → LineFails kind number (first_line left)
      → FailsWith kind number events left
  due left fault.NoEnd some fails = absurd fails
  due left fault.Trailing some fails = absurd fails
  due left other some fails = record { goes_on = goes_on; some = some; fails = fails }

  pub fails_next : (kind : LineFault) (line new : List ℕ) → LineFails kind number line → IsNextLine text new events line
      → FailsAt text events number kind
  fails_next kind line new fails (left, read, inl taken) = record {
    left = left;
    read = read;
    next = next;
    fails = due left kind (λ none. some_bytes line new 10 (sym taken.1 ∙ none))
        (subst (LineFails kind number) (sym (rw taken.1 (first_line-line line new taken.0))) fails);
  }
  fails_next kind line new fails (left, read, inr taken) = record {
    left = left;
    read = read;
    next = next;
    fails = due left kind (λ empty. taken.1 (sym taken.2 ∙ empty))
        (subst (LineFails kind number) (sym (rw taken.2 (first_line-last line taken.0))) fails);
  }

-- what the next line is, of a schedule that is told
module _ (told : Option (List ℕ)) (old new : List ℕ → List ℕ) (line : List ℕ) where
  pub told_line : IfTold told (λ text. Fetches fetched.Line line (old text) (new text))
      → IfTold told (λ text. (events : List Event) → HasRead text (old text) events
      → IsNextLine text (new text) events line)
  told_line taken = IfTold-weaker told _ _ (λ text one events read. (old text, read, inl one)) taken

  pub told_last : IfTold told (λ text. Fetches fetched.LastLine line (old text) (new text))
      → IfTold told (λ text. (events : List Event) → HasRead text (old text) events
      → IsNextLine text (new text) events line)
  told_last taken = IfTold-weaker told _ _ (λ text one events read. (old text, read, inr one)) taken

  pub told_none : (number : ℕ) → number ≤ LAST_LINE
      → IfTold told (λ text. Fetches fetched.Nothing line (old text) (new text))
      → IfTold told (λ text. (events : List Event) → HasNoEnd events → length events + 1 ≡ number
      → HasRead text (old text) events → FailsAt text events number fault.NoEnd)
  told_none number within taken = IfTold-weaker told _ _
      (λ text none events unended next read. fails_none text events number within unended next (old text) read none.0)
      taken

  pub told_long : (number : ℕ) → number ≤ LAST_LINE
      → IfTold told (λ text. Fetches fetched.TooLong line (old text) (new text))
      → IfTold told (λ text. (events : List Event) → HasNoEnd events → length events + 1 ≡ number
      → HasRead text (old text) events → FailsAt text events number fault.LongLine)
  told_long number within taken = IfTold-weaker told _ _
      (λ text long events unended next read. fails_long text events number within unended next (old text) line
      (new text) read long) taken
