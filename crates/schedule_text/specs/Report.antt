-- The lines of a report.
use Rattle.std.specs.Prelude.{ℕ, ◌++◌, List, [], ◌∷◌, codes, decimal}
use Rattle.schedule_text.specs.declared.Item.{Item}
use Rattle.schedule_text.specs.declared.Item.TheVariants as item
use Rattle.schedule_text.specs.Line.{hex_byte, hex_text}

-- what a report says of an item; `bytes` is the answer of its event (own)
abbrev pub item_text : Item → List ℕ → List ℕ
item_text item.Answer bytes = codes "o " ++ hex_text bytes
item_text (item.Go n) bytes = codes "p go " ++ decimal n
item_text item.Bad bytes = codes "p bad"
item_text (item.Command byte first count) bytes =
    codes "c " ++ hex_byte byte ++ 32 ∷ decimal first ++ 32 ∷ decimal count
item_text (item.Asked tag) bytes = codes "a " ++ decimal tag
item_text item.Ready bytes = codes "m ready"
item_text item.Left bytes = codes "m gone"
item_text item.Reserved bytes = codes "m reserved"
item_text item.Forged bytes = codes "m forged"

-- a report's line: the number of the event's line, a space, the item and a line feed (own)
abbrev pub line_text : ℕ → Item → List ℕ → List ℕ
line_text number item bytes = decimal number ++ 32 ∷ item_text item bytes ++ 10 ∷ []

-- the report's last line, which has the number of the schedule's line `end` (own)
abbrev pub end_text : ℕ → List ℕ
end_text number = codes "end " ++ decimal number ++ 10 ∷ []
