-- The report's lines for one event, appended one by one.
use Rattle.std.proofs.Common.{◌≡◌, ◌++◌, ◌+◌, ◌<◌, ℕ, List, length, take, get_or, append_assoc, ◌∙◌, ap, sym, subst}
use Rattle.std.proofs.lemmas.List.{take_more}
use Rattle.bm_host.specs.Outside.{Outside, SameCounts}
use Rattle.bm_host.proofs.OutsideLaws.{same_counts_trans}
use Rattle.schedule_text.specs.declared.Item.{Item}
use Rattle.schedule_text.specs.Report.{line_text}
use Rattle.plain_run.specs.Entry.{items_text}
use Rattle.plain_run.proofs.Entries.{items_text-push}
use Rattle.bmcast.specs.declared.streams.Streams.{Streams}
use Rattle.block_writes.specs.Kept.{KeepsLooked}
use Rattle.bmcast.specs.Kept.{KeepsFiles}
use Rattle.bmcast.specs.Streams.{Said, Reports}

-- these lines were appended, and nothing else happened
pub record ReportsFront (from to : Streams) (old new : Outside) (lines : List ℕ) : Type 0 where
  pub counts : SameCounts old new
  pub files : KeepsFiles old new
  pub looked : KeepsLooked old new
  pub reports : Reports from to old new lines

pub ReportsFront-line : (from mid to : Streams) (old now new : Outside) (number i : ℕ) (items shown : List Item)
    (d : Item) (bytes : List ℕ)
    → shown ≡ items → i < length shown
    → ReportsFront from mid old now (items_text number (take i items) bytes)
    → SameCounts now new → KeepsFiles now new → KeepsLooked now new
    → Reports mid to now new (line_text number (get_or shown i d) bytes)
    → ReportsFront from to old new (items_text number (take (i + 1) items) bytes)
ReportsFront-line from mid to old now new number i items shown d bytes same below so counts files looked told = record {
  counts = same_counts_trans old now new so.counts counts;
  looked = looked ∙ so.looked;
  files = λ role other. files role other ∙ so.files role other;
  reports = (
    λ text was. subst (Said to new)
        (append_assoc text (items_text number (take i items) bytes) (line_text number (get_or shown i d) bytes)
        ∙ ap (λ xs. text ++ xs) (sym more))
        (told.0 (text ++ items_text number (take i items) bytes) (so.reports.0 text was)),
    λ text. told.1 text ∙ so.reports.1 text,
  );
}
  where
    more : items_text number (take (i + 1) items) bytes
        ≡ items_text number (take i items) bytes ++ line_text number (get_or shown i d) bytes
    more = let there : i < length items = subst (λ xs. i < length xs) same below in
        rw (same, take_more items i d) (items_text-push number (take i items) (get_or items i d) bytes)
