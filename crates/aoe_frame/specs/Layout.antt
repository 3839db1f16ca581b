-- The layout of a frame: its fields in wire order. Each number has its highest byte first, but for an ATA argument's
-- address.
use Rattle.std.specs.Prelude.{ℕ, ◌≡◌, ◌≢◌, ◌<◌, ◌≤◌, ◌+◌, ◌*◌, ◌^◌, List, [], ◌∷◌, ◌++◌, length, take, drop, ⊤}
use Rattle.byteorder.specs.Endian.{big_bytes, little_bytes}
use Rattle.aoe_frame.specs.declared.message.TheConstants.{ETHER_TYPE, ATA, CONFIG, HEADER_BYTES, ATA_BYTES, CONFIG_BYTES}
use Rattle.aoe_frame.specs.declared.message.Header.{Header}
use Rattle.aoe_frame.specs.declared.message.AtaPart.{AtaPart}
use Rattle.aoe_frame.specs.declared.message.ConfigPart.{ConfigPart}
use Rattle.aoe_frame.specs.declared.message.Argument.{Argument}
use Rattle.aoe_frame.specs.declared.message.Argument.TheVariants.{Ata, Config, Other}
use Rattle.aoe_frame.specs.declared.message.Aoe.{Aoe}

-- a byte of two numbers below 16: the first is its high four bits
abbrev pub halves : ℕ → ℕ → ℕ
halves high low = 16 * high + low

-- the bytes of a header, from the destination to the tag (AoE r11, common header)
abbrev pub header_bytes : Header → List ℕ
header_bytes h =
    -- 0 and 6: destination and source
    h.dest ++ h.source
    -- 12: type
    ++ big_bytes 2 ETHER_TYPE
    -- 14 and 15: version and flags; error
    ++ halves h.version h.flags ∷ h.error ∷ []
    -- 16: major address
    ++ big_bytes 2 h.major
    -- 18 and 19: minor address; command
    ++ h.minor ∷ h.command ∷ []
    -- 20: tag
    ++ big_bytes 4 h.tag

-- the 10 bytes of an ATA argument before the two reserved ones: the registers, and the address, its lowest byte first
-- (AoE r11, Issue ATA Command)
abbrev pub ata_bytes : AtaPart → List ℕ
ata_bytes a =
    -- 24 to 27: flags; err/feature; sector count; cmd/status
    a.flags ∷ a.feature ∷ a.count ∷ a.command ∷ []
    -- 28: lba0 to lba5
    ++ little_bytes 6 a.lba

-- the bytes of a configuration argument before its string (AoE r11, Query Config Information)
abbrev pub config_bytes : ConfigPart → List ℕ
config_bytes c =
    -- 24 and 26: buffer count; firmware version
    big_bytes 2 c.buffers ++ big_bytes 2 c.firmware
    -- 28 and 29: sector count; version and what to do
    ++ c.count ∷ halves c.version c.code ∷ []
    -- 30: string length
    ++ big_bytes 2 c.length

-- each number of a header fits its place
pub record HeaderFits (h : Header) : Type 0 where
  pub dest : length h.dest ≡ 6
  pub source : length h.source ≡ 6
  pub version : h.version < 16
  pub flags : h.flags < 16
  pub error : h.error < 256
  pub major : h.major < 65536
  pub minor : h.minor < 256
  pub command : h.command < 256
  pub tag : h.tag < 2 ^ 32

-- each number of an ATA argument fits its place
pub record AtaFits (a : AtaPart) : Type 0 where
  pub flags : a.flags < 256
  pub feature : a.feature < 256
  pub count : a.count < 256
  pub command : a.command < 256
  pub lba : a.lba < 2 ^ 48

-- each number of a configuration argument fits its place
pub record ConfigFits (c : ConfigPart) : Type 0 where
  pub buffers : c.buffers < 65536
  pub firmware : c.firmware < 65536
  pub count : c.count < 256
  pub version : c.version < 16
  pub code : c.code < 16
  pub length : c.length < 65536

-- each number of an argument fits its place
abbrev pub ArgumentFits : Argument → Type 0
ArgumentFits (Ata a) = AtaFits a
ArgumentFits (Config c) = ConfigFits c
ArgumentFits Other = ⊤

-- each number of a message fits its place
pub record Fits (m : Aoe) : Type 0 where
  pub header : HeaderFits m.header
  pub argument : ArgumentFits m.argument

-- an argument is the one that the command takes
abbrev pub IsArgumentOf : ℕ → Argument → Type 0
IsArgumentOf command (Ata a) = command ≡ ATA
IsArgumentOf command (Config c) = command ≡ CONFIG
IsArgumentOf command Other = (command ≢ ATA) × (command ≢ CONFIG)

-- an argument may be written beside a command: it is the one that the command takes, or no bytes
abbrev pub IsWritable : ℕ → Argument → Type 0
IsWritable command (Ata a) = command ≡ ATA
IsWritable command (Config c) = command ≡ CONFIG
IsWritable command Other = ⊤

-- a header stands in front of these bytes
pub record HasFrameHeader (bytes : List ℕ) (h : Header) : Type 0 where
  pub laid : take HEADER_BYTES bytes ≡ header_bytes h
  pub fits : HeaderFits h

-- an argument stands in front of these bytes. Behind an ATA argument come two reserved bytes, and the rest is its body;
-- what comes behind another means nothing
abbrev pub HasArgument : List ℕ → Argument → Type 0
HasArgument bytes (Ata a) =
    (take 10 bytes ≡ ata_bytes a) × (ATA_BYTES ≤ length bytes) × (drop ATA_BYTES bytes ≡ a.body)
HasArgument bytes (Config c) = take CONFIG_BYTES bytes ≡ config_bytes c
HasArgument bytes Other = ⊤

-- the bytes say a message, of whatever version (AoE r11)
pub record SaysMessage (bytes : List ℕ) (m : Aoe) : Type 0 where
  pub header : HasFrameHeader bytes m.header
  pub kind : IsArgumentOf m.header.command m.argument
  pub argument : HasArgument (drop HEADER_BYTES bytes) m.argument
  pub fits : ArgumentFits m.argument

-- the bytes of an argument as they are written: the reserved ones are 0, and nothing stands behind
abbrev pub argument_written : Argument → List ℕ
argument_written (Ata a) = ata_bytes a ++ 0 ∷ 0 ∷ a.body
argument_written (Config c) = config_bytes c
argument_written Other = []

-- the bytes of a message as they are written
abbrev pub frame_of : Aoe → List ℕ
frame_of m = header_bytes m.header ++ argument_written m.argument
