-- What a request asks of the server.
use Rattle.std.specs.Prelude.{ℕ, ◌+◌, ◌==◌, ◌&&◌, ◌||◌, Bool, not, nat_le, bit_and, if◌then◌else◌}
use Rattle.ata_taskfile.specs.declared.registers.TheConstants.{IDENTIFY_DEVICE, READ_SECTORS_EXT}
use Rattle.aoe_frame.specs.declared.addresses.TheConstants.{ALL_MAJORS, ALL_MINORS, MAJOR, MINOR}
use Rattle.aoe_frame.specs.declared.message.TheConstants.{REPLY, EXTENDED, WRITE}
use Rattle.aoe_frame.specs.declared.message.Header.{Header}
use Rattle.aoe_frame.specs.declared.message.AtaPart.{AtaPart}
use Rattle.image_server.specs.declared.request.Asked.{Asked}
use Rattle.image_server.specs.declared.request.Asked.TheVariants.{Sectors, PastTheEnd, Identity, Refused}

-- a header is heard: it is no reply's, and its major and minor address are the server's or every server's (AoE r11,
-- common header); which Ethernet address it is sent to isn't looked at (own)
abbrev pub is_heard : Header → Bool
is_heard h =
    (bit_and h.flags REPLY == 0)
    && (((h.major == MAJOR) || (h.major == ALL_MAJORS))
    && ((h.minor == MINOR) || (h.minor == ALL_MINORS)))

-- READ SECTOR(S) EXT of one sector or two (own: no more)
abbrev pub is_read : AtaPart → Bool
is_read a =
    (a.command == READ_SECTORS_EXT)
    && (not (bit_and a.flags EXTENDED == 0)
    && ((bit_and a.flags WRITE == 0) && ((a.count == 1) || (a.count == 2))))

-- IDENTIFY DEVICE, which has no 48-bit address (ATA/ATAPI-6)
abbrev pub is_identify : AtaPart → Bool
is_identify a = (a.command == IDENTIFY_DEVICE) && (bit_and a.flags EXTENDED == 0)

-- what an ATA argument asks of a server of so many sectors, the first that holds (own)
abbrev pub asked_in : ℕ → AtaPart → Asked
asked_in sectors a =
    if is_read a then (if nat_le (a.lba + a.count) sectors then Sectors else PastTheEnd) else
    if is_identify a then Identity else
    Refused
