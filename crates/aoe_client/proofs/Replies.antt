-- A frame that answers a tag.
use Rattle.std.proofs.Common.{ℕ, ◌+◌, ◌≤◌, List, length, drop, ap, arith, length-drop}
use Rattle.aoe_frame.specs.declared.message.Argument.{Argument}
use Rattle.aoe_frame.specs.declared.message.Argument.TheVariants.{Ata, Config, Other}
use Rattle.aoe_frame.specs.declared.message.TheConstants.{ATA_BYTES, BODY_AT, HEADER_BYTES}
use Rattle.aoe_frame.specs.Layout.{HasArgument}
use Rattle.aoe_client.specs.declared.tags.TheConstants.{PART_BYTES}
use Rattle.aoe_client.specs.Messages.{Answers, IsReplyArgument}

long : (bytes : List ℕ) (a : Argument) (tag : ℕ) → HasArgument (drop HEADER_BYTES bytes) a → IsReplyArgument a tag
    → BODY_AT + PART_BYTES ≤ length bytes
long bytes (Ata a) tag has read =
    omega (
      arith,
      read.body,
      ap length has.2,
      length-drop ATA_BYTES (drop HEADER_BYTES bytes),
      length-drop HEADER_BYTES bytes,
    )
long bytes (Config a) tag has read = absurd read
long bytes Other tag has read = absurd read

-- a frame that answers a tag has room for the two sectors
pub answers_long : (bytes : List ℕ) (tag : ℕ) → Answers bytes tag → BODY_AT + PART_BYTES ≤ length bytes
answers_long bytes tag a = long bytes a.0.argument tag a.1.0.says.argument a.1.1.argument
