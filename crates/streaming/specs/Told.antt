-- What an event under a monitor tells beside the guest's answer and the requests that it sends.
use Rattle.std.specs.Prelude.{ℕ, suc, ◌+◌, ◌<◌, ◌==◌, ◌||◌, Bool, true, false, List, [], ◌∷◌, Option, Some, None}
use Rattle.schedule_text.specs.declared.Item.{Item}
use Rattle.schedule_text.specs.declared.Item.TheVariants.{Answer, Go, Bad, Command, Asked, Ready, Left, Reserved, Forged}
use Rattle.plain_run.specs.Entry.{Entry}

-- the command that a line tells of
abbrev pub command_told : Option Item → List Item
command_told None = []
command_told (Some Answer) = []
command_told (Some (Go n)) = []
command_told (Some Bad) = []
command_told (Some (Command byte first count)) = Command byte first count ∷ []
command_told (Some (Asked tag)) = []
command_told (Some Ready) = []
command_told (Some Left) = []
command_told (Some Reserved) = []
command_told (Some Forged) = []

-- a line tells that opening has ended
abbrev pub tells_ready : Option Item → Bool
tells_ready None = false
tells_ready (Some Answer) = false
tells_ready (Some (Go n)) = false
tells_ready (Some Bad) = false
tells_ready (Some (Command byte first count)) = false
tells_ready (Some (Asked tag)) = false
tells_ready (Some Ready) = true
tells_ready (Some Left) = false
tells_ready (Some Reserved) = false
tells_ready (Some Forged) = false

-- what a turn may tell: good steps, one at least, a command, or that opening has ended (own)
abbrev pub MayTell : Option Item → Type 0
MayTell None = Unit {0}
MayTell (Some Answer) = ⊥
MayTell (Some (Go n)) = 0 < n
MayTell (Some Bad) = ⊥
MayTell (Some (Command byte first count)) = Unit {0}
MayTell (Some (Asked tag)) = ⊥
MayTell (Some Ready) = Unit {0}
MayTell (Some Left) = ⊥
MayTell (Some Reserved) = ⊥
MayTell (Some Forged) = ⊥

-- how often these items tell that opening has ended
abbrev pub readies_in : List Item → ℕ
readies_in [] = 0
readies_in (Ready ∷ items) = suc (readies_in items)
readies_in (other ∷ items) = readies_in items

-- and those of these entries
abbrev pub readies_along : List Entry → ℕ
readies_along [] = 0
readies_along (entry ∷ earlier) = readies_in entry.items + readies_along earlier

-- one of these items asks for the tag
abbrev pub asks : ℕ → List Item → Bool
asks tag [] = false
asks tag (Asked other ∷ items) = (other == tag) || asks tag items
asks tag (other ∷ items) = asks tag items

-- one of these entries does
abbrev pub was_asked : ℕ → List Entry → Bool
was_asked tag [] = false
was_asked tag (entry ∷ earlier) = asks tag entry.items || was_asked tag earlier
