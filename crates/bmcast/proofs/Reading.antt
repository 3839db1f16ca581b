-- A line of the schedule that is taken byte by byte.
use Rattle.std.proofs.Common.{◌≡◌, ◌≢◌, ◌++◌, ℕ, List, [], ◌∷◌, Some, drop, append_assoc, ◌∙◌, ap, sym}
use Rattle.bm_host.specs.Outside.{Outside, IfTold, SameCounts}
use Rattle.bm_host.proofs.OutsideLaws.{same_counts_trans}
use Rattle.bm_host.specs.declared.Role.TheVariants.{Schedule}
use Rattle.schedule_text.specs.Schedule.{IsOneLine}
use Rattle.schedule_text.proofs.Lines.{IsOneLine-push, IsOneLine-more}
use Rattle.bmcast.specs.declared.streams.Streams.{Streams}
use Rattle.block_writes.proofs.Told.{IfTold-weaker, IfTold-both, IfTold-same}
use Rattle.block_writes.specs.Kept.{KeepsLooked}
use Rattle.bmcast.specs.Kept.{KeepsFiles}
use Rattle.bmcast.specs.Streams.{unread, Takes, TakesBytes, KeepsSaid}

-- these bytes were taken, the front of a line, and nothing else happened
pub record TakesFront (from to : Streams) (old new : Outside) (front : List ℕ) : Type 0 where
  pub counts : SameCounts old new
  pub files : KeepsFiles old new
  pub looked : KeepsLooked old new
  pub said : KeepsSaid from to old new
  pub bytes : IfTold (old.told Schedule) (λ text. unread from old text ≡ front ++ unread to new text)
  pub one : IsOneLine front

-- one byte more was taken
pub TakesFront-push : (from mid to : Streams) (old now new : Outside) (front : List ℕ) (byte : ℕ)
    → TakesFront from mid old now front → SameCounts now new → KeepsFiles now new → KeepsLooked now new
    → KeepsSaid mid to now new
    → IfTold (now.told Schedule) (λ text. Takes (Some byte) (unread mid now text) (unread to new text))
    → byte ≢ 10 → TakesFront from to old new (front ++ byte ∷ [])
TakesFront-push from mid to old now new front byte so counts files looked said taken differs = record {
  counts = same_counts_trans old now new so.counts counts;
  looked = looked ∙ so.looked;
  files = λ role other. files role other ∙ so.files role other;
  said = λ text was. said text (so.said text was);
  bytes = IfTold-both (old.told Schedule) _ _ _
      (λ text was one. was ∙ ap (λ rest. front ++ rest) one ∙ sym (append_assoc front (byte ∷ []) (unread to new text)))
      so.bytes
      (IfTold-same _ (so.files Schedule (λ e. cc)) taken);
  one = IsOneLine-push front byte so.one differs;
}

-- bytes of the block more were taken
pub TakesFront-more : (from mid to : Streams) (old now : Outside) (line longer : List ℕ)
    → TakesFront from mid old now line → TakesBytes mid to line longer → TakesFront from to old now longer
TakesFront-more from mid to old now line longer so more = record {
  counts = so.counts;
  files = so.files;
  looked = so.looked;
  said = λ text was. rw more.pending (so.said text was);
  bytes = IfTold-weaker (old.told Schedule) _ _
      (λ text was. was ∙ ap (λ (rest : List ℕ). line ++ (rest ++ drop (now.given Schedule) text)) more.left_is
      ∙ rw more.line_is (simp append_assoc)) so.bytes;
  one = rw more.line_is (IsOneLine-more line more.front so.one more.one);
}
