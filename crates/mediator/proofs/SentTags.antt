-- No tag comes to be due where none is by a frame that is heard.
use Rattle.std.proofs.Common.{◌≡◌, ℕ, zero, suc, ◌+◌, ◌-◌, ◌*◌, Bool, true, false, List, [], ◌∷◌, ◌++◌, slice_set, Option, Some, None, if◌then◌else◌, refl, ap, ◌∙◌}
use Rattle.std.proofs.Math.ListN.{length-set}
use Rattle.aoe_client.specs.declared.client.Heard.{Heard}
use Rattle.aoe_client.specs.declared.client.Heard.TheVariants.{Took, Ignored}
use Rattle.aoe_client.specs.declared.tags.TagState.{TagState}
use Rattle.aoe_client.specs.declared.tags.TagState.TheVariants.{Due, Unanswered, Answered}
use Rattle.aoe_client.specs.Fetching.{Fetching, due_from, due_of, first_tag, is_open, state_of, with_tag}
use Rattle.aoe_client.specs.Asking.{Asking, due_tags, heard, slot_heard}
use Rattle.streaming.proofs.AllSent.{both_empty}

-- of tags of which none is due none is once one is answered
none_due : (tag : ℕ) (tags : List TagState) (i : ℕ) → due_from tag tags ≡ []
    → due_from tag (slice_set tags i Answered) ≡ []
none_due tag [] i none = refl
none_due tag (Due ∷ tags) i none = cc
none_due tag (Unanswered ∷ tags) zero none = none
none_due tag (Unanswered ∷ tags) (suc i) none = none_due (tag + 1) tags i none
none_due tag (Answered ∷ tags) zero none = none
none_due tag (Answered ∷ tags) (suc i) none = none_due (tag + 1) tags i none

answered_due : (yet : Bool) (tag : ℕ) (f : Fetching) → due_of (Some f) ≡ []
    → due_of (Some (if yet then with_tag Answered tag f else f)) ≡ []
answered_due false tag f none = none
answered_due true tag f none =
    let tags = slice_set f.tags (tag - first_tag f) Answered in
    ap (λ n. due_from (f.block * n) tags) (length-set f.tags (tag - first_tag f) Answered)
    ∙ none_due (first_tag f) f.tags (tag - first_tag f) none

slot_due : (what : Heard) (f : Option Fetching) → due_of f ≡ [] → due_of (slot_heard what f) ≡ []
slot_due Ignored f none = none
slot_due (Took tag) None none = none
slot_due (Took tag) (Some f) none = answered_due (is_open (state_of tag f)) tag f none

-- none is once a frame was heard
pub heard_due : (what : Heard) (c : Asking) → due_tags c ≡ [] → due_tags (heard what c) ≡ []
heard_due what c none =
    let both = both_empty (due_of c.demand) (due_of c.background) none in
    ap (λ tags. tags ++ due_of (slot_heard what c.background)) (slot_due what c.demand both.0)
    ∙ slot_due what c.background both.1
