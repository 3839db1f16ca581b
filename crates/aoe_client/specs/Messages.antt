-- The request for a tag, and what a frame has to say to be taken as its reply.
use Rattle.std.specs.Prelude.{ℕ, ◌≡◌, ◌≢◌, ◌≤◌, ◌*◌, bit_and, List, [], length, take, drop}
use Rattle.ata_taskfile.specs.declared.registers.TheConstants.{READ_SECTORS_EXT}
use Rattle.aoe_frame.specs.declared.addresses.TheConstants.{CLIENT, MAJOR, MINOR, SERVER}
use Rattle.aoe_frame.specs.declared.message.TheConstants.{ATA, BODY_AT, EXTENDED, FAILED, REPLY, VERSION}
use Rattle.aoe_frame.specs.declared.message.Header.{Header}
use Rattle.aoe_frame.specs.declared.message.AtaPart.{AtaPart}
use Rattle.aoe_frame.specs.declared.message.Argument.{Argument}
use Rattle.aoe_frame.specs.declared.message.Argument.TheVariants.{Ata, Config, Other}
use Rattle.aoe_frame.specs.declared.message.Aoe.{Aoe}
use Rattle.aoe_frame.specs.Layout.{frame_of}
use Rattle.aoe_frame.specs.Reading.{IsMessage}
use Rattle.image_server.specs.declared.reply.TheConstants.{GOOD_STATUS}
use Rattle.aoe_client.specs.declared.tags.TheConstants.{PART_BYTES, PART_SECTORS}

-- the first of a tag's two sectors: those of tag t are 2t and 2t + 1 (own)
abbrev pub first_sector : ℕ → ℕ
first_sector tag = PART_SECTORS * tag

-- the request for a tag: its two sectors, by an extended read (AoE r11, Issue ATA Command; own: the addresses)
abbrev pub request_for : ℕ → Aoe
request_for tag = record {
  header = record {
    dest = SERVER;
    source = CLIENT;
    version = VERSION;
    flags = 0;
    error = 0;
    major = MAJOR;
    minor = MINOR;
    command = ATA;
    tag = tag;
  };
  argument = Ata (record {
    flags = EXTENDED;
    feature = 0;
    count = PART_SECTORS;
    command = READ_SECTORS_EXT;
    lba = first_sector tag;
    body = [];
  });
}

-- the frame of the request for a tag
abbrev pub request_frame : ℕ → List ℕ
request_frame tag = frame_of (request_for tag)

-- a header is of a reply that didn't fail, from the server to the client, to an ATA command (AoE r11, common header)
pub record IsReplyHeader (h : Header) : Type 0 where
  pub dest : h.dest ≡ CLIENT
  pub source : h.source ≡ SERVER
  pub major : h.major ≡ MAJOR
  pub minor : h.minor ≡ MINOR
  pub reply : bit_and h.flags REPLY ≢ 0
  pub well : bit_and h.flags FAILED ≡ 0
  pub command : h.command ≡ ATA

-- an ATA argument answers the request for a tag: its registers are that request's, its status is that of a command that
-- was done, and its body has the two sectors (own: longer bodies too)
pub record IsReplyPart (a : AtaPart) (tag : ℕ) : Type 0 where
  pub flags : a.flags ≡ EXTENDED
  pub count : a.count ≡ PART_SECTORS
  pub status : a.command ≡ GOOD_STATUS
  pub lba : a.lba ≡ first_sector tag
  pub body : PART_BYTES ≤ length a.body

-- an argument answers the request for a tag: none but an ATA argument does
abbrev pub IsReplyArgument : Argument → ℕ → Type 0
IsReplyArgument (Ata a) tag = IsReplyPart a tag
IsReplyArgument (Config c) tag = ⊥
IsReplyArgument Other tag = ⊥

-- a message answers a tag
pub record IsAnswer (m : Aoe) (tag : ℕ) : Type 0 where
  pub header : IsReplyHeader m.header
  pub same : m.header.tag ≡ tag
  pub argument : IsReplyArgument m.argument tag

-- a frame answers a tag: it says a message that answers it
abbrev pub Answers : List ℕ → ℕ → Type 0
Answers frame tag = (m : Aoe) × (IsMessage frame m × IsAnswer m tag)

-- the two sectors of a frame that answers a tag: the first bytes of its body
abbrev pub sectors_carried : List ℕ → List ℕ
sectors_carried frame = take PART_BYTES (drop BODY_AT frame)
