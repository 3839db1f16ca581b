-- The server's reply to a frame, over the bytes of an image.
use Rattle.std.specs.Prelude.{ℕ, ◌*◌, ◌==◌, if◌then◌else◌, bit_or, List, [], Option, Some, None, Result, Ok, Err}
use Rattle.bm_host.specs.Outside.{bytes_at}
use Rattle.ata_taskfile.specs.declared.registers.TheConstants.{ABRT, IDNF, SECTOR_BYTES}
use Rattle.aoe_frame.specs.declared.addresses.TheConstants.{MAJOR, MINOR, SERVER}
use Rattle.aoe_frame.specs.declared.message.TheConstants.{VERSION, REPLY, FAILED}
use Rattle.aoe_frame.specs.declared.message.Header.{Header}
use Rattle.aoe_frame.specs.declared.message.AtaPart.{AtaPart}
use Rattle.aoe_frame.specs.declared.message.ConfigPart.{ConfigPart}
use Rattle.aoe_frame.specs.declared.message.Argument.{Argument}
use Rattle.aoe_frame.specs.declared.message.Argument.TheVariants.{Ata, Config, Other}
use Rattle.aoe_frame.specs.declared.message.Aoe.{Aoe}
use Rattle.aoe_frame.specs.declared.message.FrameFault.{FrameFault}
use Rattle.aoe_frame.specs.declared.message.FrameFault.TheVariants.{Short, NotAoe, Version}
use Rattle.image_server.specs.declared.request.Asked.{Asked}
use Rattle.image_server.specs.declared.request.Asked.TheVariants.{Sectors, PastTheEnd, Identity, Refused}
use Rattle.image_server.specs.declared.reply.TheConstants.{BAD_ARGUMENT, FAILED_STATUS, FIRMWARE, GOOD_STATUS, MOST_SECTORS, NO_ERROR, OTHER_VERSION, READ_STRING, REQUESTS_KEPT, UNKNOWN_COMMAND}
use Rattle.image_server.specs.Request.{is_heard, asked_in}
use Rattle.image_server.specs.Identity.{server_identity}

-- the header of a reply: to the one who asked, from the server, with its major and minor address, and with the command
-- and the tag of the request (AoE r11, common header)
abbrev pub reply_header : Header → ℕ → ℕ → Header
reply_header h flags error = record {
  dest = h.source;
  source = SERVER;
  version = VERSION;
  flags = flags;
  error = error;
  major = MAJOR;
  minor = MINOR;
  command = h.command;
  tag = h.tag;
}

-- a reply with an argument
abbrev pub accepted : Header → Argument → Aoe
accepted h argument = record { header = reply_header h REPLY 0; argument = argument }

-- a reply that says why there is none (AoE r11, error codes)
abbrev pub refusal : Header → ℕ → Aoe
refusal h error = record { header = reply_header h (bit_or REPLY FAILED) error; argument = Other }

-- the registers of the request with Error, Status and a body
abbrev pub answered : AtaPart → ℕ → ℕ → List ℕ → AtaPart
answered a error status body = record a { feature = error; command = status; body = body }

-- the answer to an ATA argument, a line for each thing asked (own: which is served)
abbrev pub ata_answer : Asked → ℕ → List ℕ → AtaPart → AtaPart
ata_answer Sectors sectors image a =
    answered a NO_ERROR GOOD_STATUS (bytes_at (SECTOR_BYTES * a.lba) (SECTOR_BYTES * a.count) image)
ata_answer PastTheEnd sectors image a = answered a IDNF FAILED_STATUS []
ata_answer Identity sectors image a = answered a NO_ERROR GOOD_STATUS (server_identity sectors)
ata_answer Refused sectors image a = answered a ABRT FAILED_STATUS []

-- what the server says of its configuration: its room, its firmware, and that there is no string (AoE r11, Query Config
-- Information; own: each value)
abbrev pub configuration : ConfigPart
configuration = record {
  buffers = REQUESTS_KEPT;
  firmware = FIRMWARE;
  count = MOST_SECTORS;
  version = VERSION;
  code = READ_STRING;
  length = 0;
}

-- the reply to a header with an argument: of a configuration the string is only read (own)
abbrev pub reply_to : ℕ → List ℕ → Header → Argument → Aoe
reply_to sectors image h (Ata a) =
    accepted h (Ata (ata_answer (asked_in sectors a) sectors image a))
reply_to sectors image h (Config c) =
    if c.code == READ_STRING then accepted h (Config configuration) else refusal h BAD_ARGUMENT
reply_to sectors image h Other = refusal h UNKNOWN_COMMAND

-- silence where the header isn't heard
abbrev pub if_heard : Header → Aoe → Option Aoe
if_heard h m = if is_heard h then Some m else None

-- the server's reply to what a frame was read as, or silence, a line for each reading
abbrev pub reply : ℕ → List ℕ → Result Aoe FrameFault → Option Aoe
reply sectors image (Ok m) = if_heard m.header (reply_to sectors image m.header m.argument)
reply sectors image (Err Short) = None
reply sectors image (Err NotAoe) = None
reply sectors image (Err (Version h)) = if_heard h (refusal h OTHER_VERSION)

-- how many sectors of the image go into the answer to what is asked
abbrev pub sectors_answered : Asked → ℕ → ℕ
sectors_answered Sectors count = count
sectors_answered PastTheEnd count = 0
sectors_answered Identity count = 0
sectors_answered Refused count = 0

-- how many sectors of the image go into the reply to an argument
abbrev pub sectors_replied : ℕ → Argument → ℕ
sectors_replied sectors (Ata a) = sectors_answered (asked_in sectors a) a.count
sectors_replied sectors (Config c) = 0
sectors_replied sectors Other = 0

-- how many sectors of the image go into the reply to what a frame was read as
abbrev pub sectors_sent : ℕ → Result Aoe FrameFault → ℕ
sectors_sent sectors (Ok m) = if is_heard m.header then sectors_replied sectors m.argument else 0
sectors_sent sectors (Err Short) = 0
sectors_sent sectors (Err NotAoe) = 0
sectors_sent sectors (Err (Version h)) = 0
