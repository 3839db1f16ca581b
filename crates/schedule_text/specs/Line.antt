-- The grammar of one line of a schedule: by the text of each event.
use Rattle.std.specs.Prelude.{ℕ, Bool, true, false, ◌≡◌, ◌<◌, ◌≤◌, ◌+◌, ◌-◌, ◌&&◌, nat_le, ◌/◌, ◌%◌, ◌^◌, ◌++◌, ◌⊎◌, List, [], ◌∷◌, length, codes, decimal, nat_lt, if◌then◌else◌, Result, Ok, Err, MatchResult}
use Rattle.std.specs.List.{AllByRecursion, flat_map}
use Rattle.std.specs.Int.{w32, to_be_bytes}
use Rattle.std.specs.Str.Parse.{digits_value}
use Rattle.ata_taskfile.specs.declared.Reg.{Reg}
use Rattle.ata_taskfile.specs.declared.Reg.TheVariants as reg
use Rattle.ata_taskfile.specs.declared.Step.TheVariants as step
use Rattle.aoe_frame.specs.declared.frame.TheConstants.{MOST_BYTES}
use Rattle.aoe_net.specs.declared.way.Way.{Way}
use Rattle.aoe_net.specs.declared.way.Way.TheVariants.{ToServer, ToClient}
use Rattle.decimal_text.specs.Decimal.{IsDecimal}
use Rattle.schedule_text.specs.declared.Event.{Event}
use Rattle.schedule_text.specs.declared.Event.TheVariants as event
use Rattle.schedule_text.specs.declared.LineFault.{LineFault}
use Rattle.schedule_text.specs.declared.LineFault.TheVariants as fault
use Rattle.schedule_text.specs.declared.TheConstants.{LINE_BYTES, EVENT_WORDS, WORD_BYTES, EVENT_BYTES, ANSWER_BYTES, LAST_PLACE}

-- the name of a register in a schedule (own)
abbrev pub register_text : Reg → List ℕ
register_text reg.Error = codes "er"
register_text reg.Count = codes "sc"
register_text reg.Low = codes "ll"
register_text reg.Mid = codes "lm"
register_text reg.High = codes "lh"
register_text reg.Device = codes "dv"
register_text reg.Status = codes "st"
register_text reg.Alternate = codes "al"
register_text reg.BusCommand = codes "bc"
register_text reg.BusStatus = codes "bs"

-- the letter of a way in a schedule, by who is at its end: the server or the client (own)
abbrev pub way_text : Way → List ℕ
way_text ToServer = codes "s"
way_text ToClient = codes "c"

-- the letter of a stray frame, by the way at whose end it comes (own)
abbrev pub stray_text : Way → List ℕ
stray_text ToClient = codes "x"
stray_text ToServer = codes "y"

-- what stands behind the place of a frame that stays in its list, and of one that leaves it (own)
abbrev pub keep_text : Bool → List ℕ
keep_text true = codes " keep"
keep_text false = []

-- a hexadecimal digit in lower case
abbrev pub hex_digit : ℕ → ℕ
hex_digit n = if nat_lt n 10 then 48 + n else 87 + n

-- the value of a hexadecimal digit in lower case; 255 where it is none (own)
abbrev pub value_of : ℕ → ℕ
value_of c = if nat_le 48 c && nat_le c 57 then c - 48
    else if nat_le 97 c && nat_le c 102 then c - 87
    else 255

-- a byte in two hexadecimal digits
abbrev pub hex_byte : ℕ → List ℕ
hex_byte v = hex_digit (v / 16) ∷ hex_digit (v % 16) ∷ []

-- bytes in hexadecimal, two digits each
abbrev pub hex_text : List ℕ → List ℕ
hex_text bytes = flat_map hex_byte bytes

-- a number of 32 bits in eight hexadecimal digits, the most significant first
abbrev pub hex_long : ℕ → List ℕ
hex_long v = hex_text (to_be_bytes w32 v)

-- each is a byte
abbrev pub AreBytes : List ℕ → Type 0
AreBytes bytes = AllByRecursion (λ b. b < 256) bytes

-- one byte or more, and so many at most
abbrev pub AreSomeBytes : ℕ → List ℕ → Type 0
AreSomeBytes most bytes = AreBytes bytes × (1 ≤ length bytes) × (length bytes ≤ most)

-- the numbers and lengths of an event are those that a line can say (own)
abbrev pub IsInRange : Event → Type 0
IsInRange (event.Read8 r) = Unit {0}
IsInRange (event.Write8 r v) = v < 256
IsInRange (event.ReadWords n) = (1 ≤ n) × (n ≤ EVENT_WORDS)
IsInRange (event.WriteWords bytes) = AreSomeBytes WORD_BYTES bytes × (length bytes % 2 ≡ 0)
IsInRange event.ReadPointer = Unit {0}
IsInRange (event.WritePointer v) = v < 2 ^ 32
IsInRange (event.ReadMemory a n) = (a < 2 ^ 32) × (1 ≤ n) × (n ≤ EVENT_BYTES)
IsInRange (event.WriteMemory a bytes) = (a < 2 ^ 32) × AreSomeBytes ANSWER_BYTES bytes
IsInRange event.Line = Unit {0}
IsInRange (event.Deliver way k keep) = k ≤ LAST_PLACE
IsInRange (event.Lose way k) = k ≤ LAST_PLACE
IsInRange (event.Stray way frame) = AreSomeBytes MOST_BYTES frame
IsInRange (event.Drive s) = Unit {0}
IsInRange (event.Destage k) = k ≤ LAST_PLACE
IsInRange event.Turn = Unit {0}
IsInRange event.Tick = Unit {0}
IsInRange event.Cut = Unit {0}
IsInRange event.Remark = Unit {0}
IsInRange event.End = Unit {0}

-- an empty line, or one that begins with # (35)
abbrev pub IsRemark : List ℕ → Type 0
IsRemark [] = Unit {0}
IsRemark (c ∷ rest) = c ≡ 35

-- a line is the text of an event (own)
abbrev pub IsTextOf : Event → List ℕ → Type 0
IsTextOf (event.Read8 r) line = line ≡ codes "g r8 " ++ register_text r
IsTextOf (event.Write8 r v) line = line ≡ codes "g w8 " ++ register_text r ++ 32 ∷ hex_byte v
IsTextOf (event.ReadWords n) line = line ≡ codes "g rd " ++ decimal n
IsTextOf (event.WriteWords bytes) line = line ≡ codes "g wd " ++ hex_text bytes
IsTextOf event.ReadPointer line = line ≡ codes "g r32"
IsTextOf (event.WritePointer v) line = line ≡ codes "g w32 " ++ hex_long v
IsTextOf (event.ReadMemory a n) line = line ≡ codes "g mr " ++ hex_long a ++ 32 ∷ decimal n
IsTextOf (event.WriteMemory a bytes) line =
    line ≡ codes "g mw " ++ hex_long a ++ 32 ∷ hex_text bytes
IsTextOf event.Line line = line ≡ codes "g line"
IsTextOf (event.Deliver way k keep) line =
    line ≡ codes "n " ++ way_text way ++ 32 ∷ decimal k ++ keep_text keep
IsTextOf (event.Lose way k) line = line ≡ codes "n l" ++ way_text way ++ 32 ∷ decimal k
IsTextOf (event.Stray way frame) line = line ≡ codes "n " ++ stray_text way ++ 32 ∷ hex_text frame
IsTextOf (event.Drive step.Good) line = line ≡ codes "d ok"
IsTextOf (event.Drive step.Bad) line = line ≡ codes "d bad"
IsTextOf (event.Destage k) line = line ≡ codes "d put " ++ decimal k
IsTextOf event.Turn line = line ≡ codes "t"
IsTextOf event.Tick line = line ≡ codes "k"
IsTextOf event.Cut line = line ≡ codes "cut"
IsTextOf event.Remark line = IsRemark line × (length line ≤ LINE_BYTES)
IsTextOf event.End line = line ≡ codes "end"

-- a line says an event
abbrev pub Says : List ℕ → Event → Type 0
Says line e = IsInRange e × IsTextOf e line

-- a decimal number, however long, that isn't from low to high
abbrev pub IsBeyond : ℕ → ℕ → List ℕ → Type 0
IsBeyond low high text =
    IsDecimal text × ¬ ((low ≤ digits_value 10 text) × (digits_value 10 text ≤ high))

-- a read of words, but for a count of them that is out of range (own)
abbrev pub HasWordsBeyond : List ℕ → Type 0
HasWordsBeyond line =
    (text : List ℕ) × (line ≡ codes "g rd " ++ text) × IsBeyond 1 EVENT_WORDS text

-- the same of a read of the guest's memory and its count of bytes (own)
abbrev pub HasBytesBeyond : List ℕ → Type 0
HasBytesBeyond line = (a : ℕ) × (text : List ℕ) × (a < 2 ^ 32)
    × (line ≡ codes "g mr " ++ hex_long a ++ 32 ∷ text) × IsBeyond 1 EVENT_BYTES text

-- the same of a frame that is delivered and its place, whether or not the frame stays (own)
abbrev pub HasDeliveredBeyond : List ℕ → Type 0
HasDeliveredBeyond line = (way : Way) × (keep : Bool) × (text : List ℕ)
    × (line ≡ codes "n " ++ way_text way ++ 32 ∷ text ++ keep_text keep)
    × IsBeyond 0 LAST_PLACE text

-- the same of a frame that is lost and its place (own)
abbrev pub HasLostBeyond : List ℕ → Type 0
HasLostBeyond line = (way : Way) × (text : List ℕ)
    × (line ≡ codes "n l" ++ way_text way ++ 32 ∷ text) × IsBeyond 0 LAST_PLACE text

-- the same of an entry of the drive's cache and its place (own)
abbrev pub HasEntryBeyond : List ℕ → Type 0
HasEntryBeyond line =
    (text : List ℕ) × (line ≡ codes "d put " ++ text) × IsBeyond 0 LAST_PLACE text

-- a line has an event's shape, and its decimal number is out of range (own)
abbrev pub HasBeyond : List ℕ → Type 0
HasBeyond line = HasWordsBeyond line
    ⊎ HasBytesBeyond line
    ⊎ HasDeliveredBeyond line
    ⊎ HasLostBeyond line
    ⊎ HasEntryBeyond line

-- the same of a line that isn't too long
abbrev pub IsOutOfRange : List ℕ → Type 0
IsOutOfRange line = (length line ≤ LINE_BYTES) × HasBeyond line

-- a line of no event's shape
abbrev pub IsFormless : List ℕ → Type 0
IsFormless line =
    (length line ≤ LINE_BYTES) × ((event : Event) → ¬ Says line event) × ¬ IsOutOfRange line

-- a line has a fault, one of three at most; the others are a whole schedule's
abbrev pub HasFault : List ℕ → LineFault → Type 0
HasFault line fault.LongLine = LINE_BYTES < length line
HasFault line fault.Form = IsFormless line
HasFault line fault.Number = IsOutOfRange line
HasFault line fault.TooMany = ⊥
HasFault line fault.NoEnd = ⊥
HasFault line fault.Trailing = ⊥

-- the answer to a line that is read into an event: done where the line says that event now, or its
-- fault
abbrev pub ReadsInto : {U : Type 0} → List ℕ → Event → Result U LineFault → Type 0
ReadsInto line event answer = MatchResult answer (λ done. Says line event) (HasFault line)

-- the answer to a decimal number of a line that may be from low to high: the number, or its fault
abbrev pub ReadsNumber : ℕ → ℕ → List ℕ → Result ℕ LineFault → Type 0
ReadsNumber low high text (Ok n) = (low ≤ n) × (n ≤ high) × (text ≡ decimal n)
ReadsNumber low high text (Err fault.LongLine) = ⊥
ReadsNumber low high text (Err fault.Form) = ¬ IsDecimal text
ReadsNumber low high text (Err fault.Number) = IsBeyond low high text
ReadsNumber low high text (Err fault.TooMany) = ⊥
ReadsNumber low high text (Err fault.NoEnd) = ⊥
ReadsNumber low high text (Err fault.Trailing) = ⊥
