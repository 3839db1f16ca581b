-- What the monitor does in a turn: the table of docs/monitor.md.
use Rattle.std.specs.Prelude.{◌≡◌, Bool, true, false, not, if◌then◌else◌}
use Rattle.ata_taskfile.specs.declared.Phase.{Phase}
use Rattle.ata_taskfile.specs.declared.Phase.TheVariants as phase
use Rattle.multiplex.specs.declared.turn.Turn.{Turn}
use Rattle.multiplex.specs.declared.turn.Turn.TheVariants.{PollOwn, Opening, Take, Restart, Command, Idle, Nothing}
use Rattle.multiplex.specs.declared.turn.TurnState.{TurnState}

-- on the monitor's side, by the view's phase: a reset that is held, words or an interrupt that wait for the guest are
-- left alone (own)
abbrev pub turn_by_phase : Phase → Bool → Bool → Turn
turn_by_phase phase.Reset reset_held pending = if reset_held then Nothing else Restart
turn_by_phase (phase.Busy taken done) reset_held pending = Command
turn_by_phase (phase.Ready taken done left) reset_held pending = Nothing
turn_by_phase phase.Idle reset_held pending = if pending then Nothing else Idle

-- a turn: the first row that holds (own)
abbrev pub turn_of : TurnState → Turn
turn_of s =
    if s.own then PollOwn
    else if s.dummy then Nothing
    else if not s.opened then Opening
    else if s.guest_side then Take
    else turn_by_phase s.phase s.reset_held s.pending

-- the view's phase is that of a command at which the drive, or the monitor for it, is at work
abbrev pub is_busy : Phase → Bool
is_busy phase.Reset = false
is_busy phase.Idle = false
is_busy (phase.Busy taken done) = true
is_busy (phase.Ready taken done left) = false

-- no command of the monitor's stands: neither an own one nor a dummy read
pub record IsUnengaged (s : TurnState) : Type 0 where
  pub own : s.own ≡ false
  pub dummy : s.dummy ≡ false

-- the monitor may work for the guest: no command of its own stands, opening has ended, and it has the drive
pub record MayServe (s : TurnState) : Type 0 where
  pub unengaged : IsUnengaged s
  pub opened : s.opened ≡ true
  pub side : s.guest_side ≡ false
