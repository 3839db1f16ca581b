-- What a guest does in an event: its accesses, and its own memory.
use Rattle.std.specs.Prelude.{ℕ, Bool, true, false, ◌/◌, ◌%◌, List, [], ◌∷◌, length, map, replicate, Option, Some, None}
use Rattle.std.specs.List.{flat_map, range_with_len}
use Rattle.std.specs.Int.{w32, to_be_bytes}
use Rattle.ata_taskfile.specs.declared.Access.{Access}
use Rattle.ata_taskfile.specs.declared.Access.TheVariants as access
use Rattle.ata_taskfile.specs.declared.Answer.{Answer}
use Rattle.ata_taskfile.specs.declared.Answer.TheVariants as answer
use Rattle.ata_taskfile.specs.Device.{Device}
use Rattle.ata_taskfile.specs.Accesses.{all_accessed, all_answered}
use Rattle.bm_dma.specs.Memory.{byte_at, scattered}
use Rattle.plain_drive.specs.Plain.{Plain, words_of}
use Rattle.schedule_text.specs.declared.Event.{Event}
use Rattle.schedule_text.specs.declared.Event.TheVariants as event

-- the guest's accesses in an event, in order: its reads and writes of registers, one for each word of Data; none
-- reaches its own memory, and no other event has one
abbrev pub accesses_of : Event → List Access
accesses_of (event.Read8 r) = access.Read8 r ∷ []
accesses_of (event.Write8 r v) = access.Write8 r v ∷ []
accesses_of (event.ReadWords n) = replicate n access.ReadWord
accesses_of (event.WriteWords bytes) = map (λ w. access.WriteWord w) (words_of bytes)
accesses_of event.ReadPointer = access.ReadPointer ∷ []
accesses_of (event.WritePointer v) = access.WritePointer v ∷ []
accesses_of event.Line = access.Line ∷ []
accesses_of other = []

-- an event of the guest: an access to the drive, or to its own memory
abbrev pub is_guests : Event → Bool
is_guests (event.Read8 r) = true
is_guests (event.Write8 r v) = true
is_guests (event.ReadWords n) = true
is_guests (event.WriteWords bytes) = true
is_guests event.ReadPointer = true
is_guests (event.WritePointer v) = true
is_guests (event.ReadMemory address n) = true
is_guests (event.WriteMemory address bytes) = true
is_guests event.Line = true
is_guests other = false

-- the bytes that an access answers: a word has its low byte first, and the table pointer its most
-- significant one, as the schedule writes it (own)
abbrev pub bytes_answered : Answer → List ℕ
bytes_answered answer.Nothing = []
bytes_answered (answer.Byte v) = v ∷ []
bytes_answered (answer.Word w) = (w % 256) ∷ (w / 256) ∷ []
bytes_answered (answer.Long v) = to_be_bytes w32 v

-- those of several, joined
abbrev pub bytes_read : List Access → Device → List ℕ
bytes_read accesses d = flat_map bytes_answered (all_answered accesses d)

-- so many bytes of memory from an address on; FFh outside of it (own)
abbrev pub memory_read : ℕ → ℕ → List ℕ → List ℕ
memory_read address n memory = map (byte_at memory) (range_with_len address n)

-- memory after these bytes were written from an address on; what is outside of it goes nowhere
-- (own)
abbrev pub memory_written : ℕ → List ℕ → List ℕ → List ℕ
memory_written address bytes memory = scattered (range_with_len address (length bytes)) bytes memory

-- the bytes that an event reads: of the guest's memory, or by its accesses
abbrev pub event_reads : Event → Plain → List ℕ
event_reads (event.ReadMemory address n) p = memory_read address n p.memory
event_reads one p = bytes_read (accesses_of one) p.device

-- an answer of these bytes; none where there are none
abbrev pub answer_of : List ℕ → Option (List ℕ)
answer_of [] = None
answer_of (byte ∷ bytes) = Some (byte ∷ bytes)

-- what an event answers: the bytes that it reads, where it reads any
abbrev pub answer_due : Event → Plain → Option (List ℕ)
answer_due one p = answer_of (event_reads one p)

-- the plain drive with another device
abbrev pub with_device : Device → Plain → Plain
with_device d p = record p { device = d }

-- the plain drive after what a guest does in an event; no other event reaches it but by the plan,
-- or by a power cut
abbrev pub after_guest : Event → Plain → Plain
after_guest (event.WriteMemory address bytes) p =
    record p { memory = memory_written address bytes p.memory }
after_guest one p = with_device (all_accessed (accesses_of one) p.device) p
