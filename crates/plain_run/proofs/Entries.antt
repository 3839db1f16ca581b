-- A history's events, and the text of an entry's items.
use Rattle.std.proofs.Common.{◌≡◌, ◌++◌, ℕ, List, [], ◌∷◌, length, suc, refl, sym, ◌∙◌, ap, append_assoc, append-nil}
use Rattle.schedule_text.specs.declared.Item.{Item}
use Rattle.schedule_text.specs.Report.{line_text}
use Rattle.plain_run.specs.Entry.{Entry, events_of, items_text}

-- a history has as many events as entries
pub events_length : (entries : List Entry) → length (events_of entries) ≡ length entries
events_length [] = refl
events_length (entry ∷ entries) = ap suc (events_length entries)

-- an item more has its line behind the others
pub items_text-push : (number : ℕ) (items : List Item) (one : Item) (bytes : List ℕ)
    → items_text number (items ++ one ∷ []) bytes ≡ items_text number items bytes ++ line_text number one bytes
items_text-push number [] one bytes = append-nil (line_text number one bytes)
items_text-push number (first ∷ items) one bytes =
    ap (λ xs. line_text number first bytes ++ xs) (items_text-push number items one bytes)
    ∙ sym (append_assoc (line_text number first bytes) (items_text number items bytes) (line_text number one bytes))
