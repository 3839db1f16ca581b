-- How long the parts of a report's line are at most.
use Rattle.std.specs.Prelude.{ℕ, ◌+◌, ◌*◌}
use Rattle.schedule_text.specs.declared.TheConstants.{ANSWER_BYTES}

-- the decimal text of a number of 64 bits
abbrev pub NUMBER_BYTES : ℕ
NUMBER_BYTES = 20

-- a line's number and the space behind it
abbrev pub FRONT_BYTES : ℕ
FRONT_BYTES = NUMBER_BYTES + 1

-- a line up to its line feed: the longest has its number, a space, `o `, and an answer with two digits a byte
abbrev pub TEXT_BYTES : ℕ
TEXT_BYTES = FRONT_BYTES + 2 + 2 * ANSWER_BYTES
