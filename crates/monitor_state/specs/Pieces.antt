-- The held piece, and what each call makes of it.
use Rattle.std.specs.Prelude.{ℕ, ◌+◌, ◌-◌, Bool, false, if◌then◌else◌, nat_le, slice_index, Option, Some, None}
use Rattle.ata_taskfile.specs.declared.registers.TheConstants.{BLOCK_WORDS}
use Rattle.ata_taskfile.specs.declared.Taken.TheVariants.{Good, Bad}
use Rattle.ata_taskfile.specs.declared.Phase.{Phase}
use Rattle.ata_taskfile.specs.declared.Phase.TheVariants.{Reset, Idle, Busy, Ready}
use Rattle.mon_pool.specs.Region.{Region, all_given, leased_bytes}
use Rattle.plain_drive.specs.Plain.{words_of}
use Rattle.redirect.specs.Piece.{piece_bytes}
use Rattle.monitor_state.specs.declared.held.HeldPiece.{HeldPiece}
use Rattle.monitor_state.specs.declared.held.Hand.{Hand}
use Rattle.monitor_state.specs.declared.parts.Parts.{Parts}
use Rattle.monitor_state.specs.State.{end_of_piece}
use Rattle.monitor_state.specs.Leases.{leases_held}

-- nothing is in hand
abbrev pub no_hand : Hand
no_hand = record { redirect = None; failed = false }

-- the parts once the held piece, where there is one, is let go
abbrev pub piece_let_go : Parts → Parts
piece_let_go p = record p { held = None; pool = all_given (leases_held p.held) p.pool }

-- a held piece ends at or before a sector
abbrev pub ends_before : ℕ → Option HeldPiece → Bool
ends_before sector None = false
ends_before sector (Some held) = nat_le (end_of_piece held) sector

-- the parts once a piece that ends at or before a sector is let go
abbrev pub let_go_before : ℕ → Parts → Parts
let_go_before sector p = if ends_before sector p.held then piece_let_go p else p

-- the parts once the view is in a phase: a piece is let go when its last sector is served, and all that is in hand when
-- the command has ended (own)
abbrev pub tidied : Phase → Parts → Parts
tidied Reset p = p
tidied Idle p = record (piece_let_go p) { hand = no_hand }
tidied (Busy (Good order) done) p = let_go_before (order.first + done) p
tidied (Busy (Bad reason) done) p = p
tidied (Ready order done left) p = p

-- the word of a held piece where a sector of it is offered and so many of its words are left
abbrev pub word_of_piece : HeldPiece → Region → ℕ → ℕ → ℕ
word_of_piece held pool sector left =
    slice_index (words_of (piece_bytes (leased_bytes held.lease pool) held.base sector))
    (BLOCK_WORDS - left)

-- the word that a read of Data gives in a phase: the held piece's where a block of it is offered, else FFFFh
abbrev pub word_offered : Phase → Option HeldPiece → Region → ℕ
word_offered Reset held pool = 65535
word_offered Idle held pool = 65535
word_offered (Busy order done) held pool = 65535
word_offered (Ready order done left) None pool = 65535
word_offered (Ready (Bad reason) done left) (Some held) pool = 65535
word_offered (Ready (Good order) done left) (Some held) pool =
    word_of_piece held pool (order.first + done) left
