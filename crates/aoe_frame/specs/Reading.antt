-- What reading a frame answers: the message that it says, or the first fault that holds.
use Rattle.std.specs.Prelude.{ℕ, zero, suc, ◌≡◌, ◌≢◌, ◌<◌, ◌≤◌, ◌+◌, List, length, take, drop, Result, Ok, Err}
use Rattle.byteorder.specs.Endian.{big_bytes}
use Rattle.aoe_frame.specs.declared.message.TheConstants.{BODY_AT, CONFIG_BYTES, ETHER_TYPE, HEADER_BYTES, TYPE_AT, TYPE_END, VERSION}
use Rattle.aoe_frame.specs.declared.message.Header.{Header}
use Rattle.aoe_frame.specs.declared.message.Aoe.{Aoe}
use Rattle.aoe_frame.specs.declared.message.FrameFault.{FrameFault}
use Rattle.aoe_frame.specs.declared.message.FrameFault.TheVariants.{Short, NotAoe, Version}
use Rattle.aoe_frame.specs.Layout.{HasFrameHeader, SaysMessage}

-- the type behind the two addresses is that of ATA over Ethernet (AoE r11, common header)
abbrev pub IsAoe : List ℕ → Type 0
IsAoe bytes = take 2 (drop TYPE_AT bytes) ≡ big_bytes 2 ETHER_TYPE

-- how many bytes a frame of a command needs: command 0 has an ATA argument, 1 one of configuration, and every other
-- none (AoE r11)
abbrev pub bytes_needed : ℕ → ℕ
bytes_needed zero = BODY_AT
bytes_needed (suc zero) = HEADER_BYTES + CONFIG_BYTES
bytes_needed (suc (suc n)) = HEADER_BYTES

-- a frame is too short: for its type, for its header, or for the argument of its command
pub data IsShort (bytes : List ℕ) : Type 0 where
  BeforeType : length bytes < TYPE_END → IsShort bytes
  InHeader : IsAoe bytes → length bytes < HEADER_BYTES → IsShort bytes
  InArgument : (h : Header) → HasFrameHeader bytes h → h.version ≡ VERSION
      → length bytes < bytes_needed h.command → IsShort bytes

-- a frame is of another type, whatever follows
pub record IsOfOtherType (bytes : List ℕ) : Type 0 where
  pub long : TYPE_END ≤ length bytes
  pub other : ¬ IsAoe bytes

-- a frame says a message of the version that is spoken here
pub record IsMessage (bytes : List ℕ) (m : Aoe) : Type 0 where
  pub says : SaysMessage bytes m
  pub version : m.header.version ≡ VERSION

-- a frame has this header, of another version
pub record IsOfOtherVersion (bytes : List ℕ) (h : Header) : Type 0 where
  pub header : HasFrameHeader bytes h
  pub other : h.version ≢ VERSION

-- the reading of a frame, a line for each answer; they exclude each other
abbrev pub IsReading : List ℕ → Result Aoe FrameFault → Type 0
IsReading bytes (Ok m) = IsMessage bytes m
IsReading bytes (Err Short) = IsShort bytes
IsReading bytes (Err NotAoe) = IsOfOtherType bytes
IsReading bytes (Err (Version h)) = IsOfOtherVersion bytes h
