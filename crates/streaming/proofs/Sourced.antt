-- What was read and what has come, one line later.
use Rattle.std.proofs.Common.{◌≡◌, ◌∷◌, ℕ, Bool, true, false, List, inl, inr, refl}
use Rattle.std.specs.Prelude.{◌||◌, ◌&&◌, not}
use Rattle.streaming.specs.Lines.{Line}
use Rattle.streaming.specs.Sources.{Brings, HasCome, is_power_on, one_asks, one_reads, takes_command_in, was_asked_for, was_read}

either : (now ended before : Bool) → ended ≡ false → before ≡ true → (now || (not ended && before)) ≡ true
either true ended before stays was = refl
either false false true stays was = refl
either false false false stays was = was
either false true before stays was = cc

at_once : (now later : Bool) → now ≡ true → (now || later) ≡ true
at_once true later is = refl
at_once false later is = cc

-- what was read stays read until a command is taken
pub stays_read : (s : ℕ) (line : Line) (lines : List Line) → takes_command_in line.call line.plain ≡ false
    → was_read s lines ≡ true → was_read s (line ∷ lines) ≡ true
stays_read s line lines none was =
    either (one_reads s line.items) (takes_command_in line.call line.plain) (was_read s lines) none was

pub told_read : (s : ℕ) (line : Line) (lines : List Line) → one_reads s line.items ≡ true
    → was_read s (line ∷ lines) ≡ true
told_read s line lines is = at_once (one_reads s line.items) _ is

pub stays_asked : (tag : ℕ) (line : Line) (lines : List Line) → is_power_on line.call ≡ false
    → was_asked_for tag lines ≡ true → was_asked_for tag (line ∷ lines) ≡ true
stays_asked tag line lines none was =
    either (one_asks tag line.items) (is_power_on line.call) (was_asked_for tag lines) none was

pub asks_now : (tag : ℕ) (line : Line) (lines : List Line) → one_asks tag line.items ≡ true
    → was_asked_for tag (line ∷ lines) ≡ true
asks_now tag line lines is = at_once (one_asks tag line.items) _ is

pub stays_come : (tag : ℕ) (line : Line) (lines : List Line) → is_power_on line.call ≡ false
    → HasCome tag lines → HasCome tag (line ∷ lines)
stays_come tag line lines none come = inr (none, come)

pub comes_now : (tag : ℕ) (line : Line) (lines : List Line) → Brings tag line.call
    → was_asked_for tag lines ≡ true → HasCome tag (line ∷ lines)
comes_now tag line lines brings was = inl (brings, was)
