-- What a turn's line tells of steps.
use Rattle.std.specs.Prelude.{ℕ, ◌==◌, Bool, true, false, if◌then◌else◌, Option, Some, None}
use Rattle.schedule_text.specs.declared.Item.{Item}
use Rattle.schedule_text.specs.declared.Item.TheVariants.{Answer, Go, Bad, Command, Asked, Ready, Left, Reserved, Forged}

-- the line of so many good steps; none of no step
abbrev pub steps_told : ℕ → Option Item
steps_told steps = if steps == 0 then None else Some (Go steps)

-- a line tells of good steps
abbrev pub tells_steps : Option Item → Bool
tells_steps None = false
tells_steps (Some Answer) = false
tells_steps (Some (Go n)) = true
tells_steps (Some Bad) = false
tells_steps (Some (Command byte first count)) = false
tells_steps (Some (Asked tag)) = false
tells_steps (Some Ready) = false
tells_steps (Some Left) = false
tells_steps (Some Reserved) = false
tells_steps (Some Forged) = false
