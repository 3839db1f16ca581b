-- Where the sectors came from that a guest was given. Lists of lines have the newest first.
use Rattle.std.specs.Prelude.{ℕ, zero, suc, ◌≡◌, ◌<◌, ◌+◌, ◌/◌, ◌⊎◌, ◌==◌, ◌||◌, ◌&&◌, not, nat_le, nat_lt, Bool, true, false, List, [], ◌∷◌, Option, Some, None}
use Rattle.ata_taskfile.specs.declared.Kind.{Kind}
use Rattle.ata_taskfile.specs.declared.Kind.TheVariants.{Read, Write, Verify, Flush, Identify, Features}
use Rattle.ata_taskfile.specs.declared.Taken.TheVariants.{Good, Bad}
use Rattle.ata_taskfile.specs.declared.Phase.{Phase}
use Rattle.ata_taskfile.specs.declared.Phase.TheVariants.{Reset, Idle, Busy, Ready}
use Rattle.ata_taskfile.specs.Order.{Row, row_of}
use Rattle.aoe_client.specs.declared.tags.TheConstants.{PART_SECTORS}
use Rattle.aoe_client.specs.Messages.{Answers}
use Rattle.plain_drive.specs.Alike.{gives_command, reads}
use Rattle.plain_drive.specs.Plain.{Plain}
use Rattle.plain_drive.specs.Step.{bad_step, went}
use Rattle.schedule_text.specs.declared.Item.{Item}
use Rattle.schedule_text.specs.declared.Item.TheVariants as item
use Rattle.streaming.specs.Lines.{Call, Line}
use Rattle.streaming.specs.Lines.Call.{of_access, of_frame, of_power_on}

-- a kind of command that reads sectors
abbrev pub is_read : Kind → Bool
is_read Read = true
is_read Write = false
is_read Verify = false
is_read Flush = false
is_read Identify = false
is_read Features = false

-- a kind of command that writes sectors
abbrev pub is_write : Kind → Bool
is_write Read = false
is_write Write = true
is_write Verify = false
is_write Flush = false
is_write Identify = false
is_write Features = false

-- the row of a command byte, where the table has one, is of such a kind
abbrev pub row_is : (Kind → Bool) → Option Row → Bool
row_is of None = false
row_is of (Some row) = of row.kind

-- an item tells of a command that reads this sector
abbrev pub reads_there : ℕ → Item → Bool
reads_there s (item.Command byte first count) =
    row_is is_read (row_of byte) && nat_le first s && nat_lt s (first + count)
reads_there s other = false

-- one of these items does
abbrev pub one_reads : ℕ → List Item → Bool
one_reads s [] = false
one_reads s (one ∷ items) = reads_there s one || one_reads s items

-- an item tells of a command that writes sectors
abbrev pub tells_write : Item → Bool
tells_write (item.Command byte first count) = row_is is_write (row_of byte)
tells_write other = false

-- one of these items does
abbrev pub one_writes : List Item → Bool
one_writes [] = false
one_writes (one ∷ items) = tells_write one || one_writes items

-- one of these items tells that this tag was asked for
abbrev pub one_asks : ℕ → List Item → Bool
one_asks tag [] = false
one_asks tag (item.Asked one ∷ items) = (one == tag) || one_asks tag items
one_asks tag (other ∷ items) = one_asks tag items

-- the power came on in a call
abbrev pub is_power_on : Call → Bool
is_power_on of_power_on = true
is_power_on other = false

-- in a call over this plain drive that took a command of the guest's
abbrev pub takes_command_in : Call → Plain → Bool
takes_command_in (of_access a) q = gives_command a q.device.file
takes_command_in other q = false

-- the drive read this sector since the plain drive took its command (own)
abbrev pub was_read : ℕ → List Line → Bool
was_read s [] = false
was_read s (line ∷ lines) = one_reads s line.items
    || (not (takes_command_in line.call line.plain) && was_read s lines)

-- this tag was asked for since the power came on (own)
abbrev pub was_asked_for : ℕ → List Line → Bool
was_asked_for tag [] = false
was_asked_for tag (line ∷ lines) = one_asks tag line.items
    || (not (is_power_on line.call) && was_asked_for tag lines)

-- a frame of the network came that answers this tag, and no stray one
abbrev pub Brings : ℕ → Call → Type 0
Brings tag (of_frame frame false) = Answers frame tag
Brings tag other = ⊥

-- such a frame came after the tag was asked for, since the power came on (own)
abbrev pub HasCome : ℕ → List Line → Type 0
HasCome tag [] = ⊥
HasCome tag (line ∷ lines) = (Brings tag line.call × (was_asked_for tag lines ≡ true))
    ⊎ ((is_power_on line.call ≡ false) × HasCome tag lines)

-- the tag of a sector: a tag means two (own)
abbrev pub tag_of : ℕ → ℕ
tag_of s = s / PART_SECTORS

-- a sector has a source: the drive read it for the guest's command, or it is one of an image of so many sectors, and
-- came from its server
abbrev pub IsSourced : ℕ → ℕ → List Line → Type 0
IsSourced image s lines =
    (was_read s lines ≡ true) ⊎ ((s < image) × HasCome (tag_of s) lines)

-- in a phase a good step loads or moves this sector for a read
abbrev pub loads : Phase → ℕ → Bool
loads Reset s = false
loads Idle s = false
loads (Busy (Good order) done) s = reads (Good order) s && (s == order.first + done)
loads (Busy (Bad reason) done) s = false
loads (Ready taken done left) s = false

-- the sector that a good step loads or moves, where it does, has a source
abbrev pub LoadsSourced : ℕ → Phase → List Line → Type 0
LoadsSourced image phase lines = (s : ℕ) → loads phase s ≡ true → IsSourced image s lines

-- so does each of so many good steps
abbrev pub AllLoadSourced : ℕ → ℕ → Plain → List Line → Type 0
AllLoadSourced image zero q lines = Unit {0}
AllLoadSourced image (suc n) q lines = AllLoadSourced image n q lines
    × LoadsSourced image (went n q).device.file.phase lines

-- so does each good step that these items tell of: no sector that a guest gets has a third source
abbrev pub HasSourcesAlong : ℕ → List Item → Plain → List Line → Type 0
HasSourcesAlong image [] q lines = Unit {0}
HasSourcesAlong image (item.Go n ∷ items) q lines =
    AllLoadSourced image n q lines × HasSourcesAlong image items (went n q) lines
HasSourcesAlong image (item.Bad ∷ items) q lines = HasSourcesAlong image items (bad_step q) lines
HasSourcesAlong image (other ∷ items) q lines = HasSourcesAlong image items q lines

-- a read of sectors is in hand
abbrev pub has_read : Phase → Bool
has_read Reset = false
has_read Idle = false
has_read (Busy (Good order) done) = is_read order.kind
has_read (Busy (Bad reason) done) = false
has_read (Ready (Good order) done left) = is_read order.kind
has_read (Ready (Bad reason) done left) = false

-- a read of the guest's has no sector written: while one is in hand of the plain drive no command is told that writes
abbrev pub SparesReads : List Item → Plain → Type 0
SparesReads items q = has_read q.device.file.phase ≡ true → one_writes items ≡ false
