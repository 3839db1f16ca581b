-- The events that were read and done, one after the other.
use Rattle.std.proofs.Common.{◌≡◌, ◌≢◌, ◌+◌, ◌≤◌, ◌++◌, ℕ, zero, suc, true, false, List, [], ◌∷◌, length, refl, sym, ◌∙◌, ap, subst, arith, inl, inr}
use Rattle.bm_host.specs.declared.Role.TheVariants.{Image, Schedule}
use Rattle.bm_host.specs.Outside.{Outside, IfTold, SameCounts}
use Rattle.bm_host.proofs.OutsideLaws.{same_counts_trans}
use Rattle.schedule_text.specs.declared.Event.{Event}
use Rattle.schedule_text.specs.declared.Event.TheVariants as event
use Rattle.schedule_text.specs.declared.Item.{Item}
use Rattle.schedule_text.specs.declared.LineFault.{LineFault}
use Rattle.schedule_text.specs.declared.LineFault.TheVariants as fault
use Rattle.schedule_text.specs.declared.TheConstants.{LAST_LINE}
use Rattle.schedule_text.specs.Line.{Says}
use Rattle.schedule_text.specs.Schedule.{HasNoEnd, HasRead}
use Rattle.schedule_text.specs.BadLine.{LineFails, FailsAt}
use Rattle.plain_run.specs.Entry.{Entry, entry_of, events_of, history_text, items_text}
use Rattle.streaming.specs.World.{IsSceneRun, WorldEvent}
use Rattle.world.specs.Coupled.{KeepsPlain}
use Rattle.world.specs.WorldState.{WorldState}
use Rattle.streaming.proofs.Scenes.{scene_image}
use Rattle.block_writes.specs.Kept.{KeepsLooked}
use Rattle.plain_run.proofs.Entries.{events_length}
use Rattle.bmcast.specs.declared.play.Progress.{Progress}
use Rattle.bmcast.specs.declared.play.Progress.TheVariants as progress
use Rattle.bmcast.specs.declared.streams.Streams.{Streams}
use Rattle.bmcast.specs.GuestRuns.{GuestRuns}
use Rattle.bmcast.specs.Kept.{KeepsFiles}
use Rattle.bmcast.specs.Streams.{unread, Said, KeepsSaid, Reports}
use Rattle.bmcast.specs.Played.{Begun, HasPlayed, HasTaken, HasDone, HasDoneEnd, HasEnded, IsNextLine, IsPlayed, Leads, HasFailed, IsOver}
use Rattle.bmcast.specs.Known.{IsRefused, knows}
use Rattle.block_writes.proofs.Told.{IfTold-both, IfTold-weaker, IfTold-same}
use Rattle.bmcast.proofs.GuestRuns.{guests_on}
use Rattle.bmcast.proofs.Looks.{looks_after, looks_on}
use Rattle.bmcast.proofs.Lines.{read_next, fails_next}

-- what was reported stays reported, when nothing else was
still_played : (start : Begun) (from to : Streams) (old new : Outside) (now : WorldState) (entries : List Entry)
    → KeepsFiles old new → KeepsLooked old new → KeepsSaid from to old new
    → IsPlayed start from old now entries → IsPlayed start to new now entries
still_played start from to old new now entries files looked said was = record {
  count = was.count;
  run = subst (λ told. IsSceneRun told start.world.scene entries now.scene was.count) (sym (files Image (λ e. cc)))
      was.run;
  guests = subst (λ told. GuestRuns told start.world entries now) (sym (files Image (λ e. cc))) was.guests;
  known = was.known;
  looked = looks_on was.count start.outside old new looked was.looked;
  said = said (history_text entries) was.said;
}

-- the next line was taken
pub line_taken : (start : Begun) (from to : Streams) (old new : Outside) (now : WorldState) (line : List ℕ)
    (number : ℕ)
    → KeepsFiles old new → KeepsLooked old new → KeepsSaid from to old new
    → IfTold (old.told Schedule) (λ text. (events : List Event) → HasRead text (unread from old text) events
    → IsNextLine text (unread to new text) events line)
    → HasPlayed start from old now number → HasTaken start to new now line number
line_taken start from to old new now line number files looked said taken was = record {
  entries = was.entries;
  played = still_played start from to old new now was.entries files looked said was.played;
  unended = was.unended;
  taken = IfTold-same _ (sym (files Schedule (λ e. cc)))
      (IfTold-both (old.told Schedule) _ _ _ (λ text one read. one (events_of was.entries) read) taken was.read);
  next = was.next;
}

-- there is no next line: what was played before has failed there
pub none_taken : (start : Begun) (from to : Streams) (old new : Outside) (now : WorldState) (number : ℕ)
    (kind : LineFault)
    → KeepsFiles old new → KeepsLooked old new → KeepsSaid from to old new
    → IfTold (old.told Schedule) (λ text. (events : List Event) → HasNoEnd events → length events + 1 ≡ number
    → HasRead text (unread from old text) events → FailsAt text events number kind)
    → HasPlayed start from old now number → HasFailed start to new now number kind
none_taken start from to old new now number kind files looked said fails was = record {
  entries = was.entries;
  played = still_played start from to old new now was.entries files looked said was.played;
  fails = IfTold-same _ (sym (files Schedule (λ e. cc)))
      (IfTold-both (old.told Schedule) _ _ _ (λ text step read. (
        was.played.known,
        inl (step (events_of was.entries)
            was.unended (ap (λ k. k + 1) (events_length was.entries) ∙ was.next) read),
      )) fails was.read);
}

-- the line that was taken fails
pub taken_failed : (start : Begun) (s : Streams) (o : Outside) (now : WorldState) (line : List ℕ)
    (number bad : ℕ) (kind : LineFault)
    → number ≤ LAST_LINE → bad ≡ number → LineFails kind number line → HasTaken start s o now line number
    → HasFailed start s o now bad kind
taken_failed start s o now line number bad kind within is fails was = record {
  entries = was.entries;
  played = was.played;
  fails = subst (λ k. IfTold (o.told Schedule)
      (λ text. IsRefused start.world.scene.image text (events_of was.entries) k kind))
      (sym is)
      (IfTold-weaker (o.told Schedule) _ _
      (λ text taken. (
        was.played.known,
        inl (fails_next text (events_of was.entries) number within was.unended
            (ap (λ k. k + 1) (events_length was.entries) ∙ was.next) kind line (unread s o text) fails taken),
      ))
      was.taken);
}

-- the image of a run is the one that it began with
played_image : (start : Begun) (s : Streams) (o : Outside) (now : WorldState) (entries : List Entry)
    → IsPlayed start s o now entries → start.world.scene.image ≡ now.scene.image
played_image start s o now entries was =
    sym (scene_image (o.told Image) start.world.scene now.scene entries was.count was.run)

-- an event that isn't known isn't the line `end`, and its line isn't the last one
end_known : (image : ℕ) → knows image event.End ≡ true
end_known zero = refl
end_known (suc n) = refl

unknown_goes_on : (image number : ℕ) (e : Event) (goes : Progress) → Leads goes e number → knows image e ≡ false
    → (e ≢ event.End) × (number ≢ LAST_LINE)
unknown_goes_on image number e progress.More leads unknown = leads
unknown_goes_on image number e progress.Ended leads unknown =
    let known : knows image e ≡ true = rw leads (end_known image) in absurd (cc (known, unknown))

-- the line that was taken says an event that isn't known
pub unknown_taken : (start : Begun) (s : Streams) (o : Outside) (now : WorldState) (line : List ℕ) (number image : ℕ)
    (e : Event) (goes : Progress)
    → number ≤ LAST_LINE → Says line e → Leads goes e number → now.scene.image ≡ image → knows image e ≡ false
    → HasTaken start s o now line number → HasFailed start s o now number fault.Form
unknown_taken start s o now line number image e goes within says leads over unknown was =
    let on = unknown_goes_on image number e goes leads unknown in
    let same : start.world.scene.image ≡ image = played_image start s o now was.entries was.played ∙ over in
    record {
      entries = was.entries;
      played = was.played;
      fails = IfTold-weaker (o.told Schedule) _ _
          (λ text taken. (
            was.played.known,
            inr (
              refl,
              record {
                one = e;
                left = unread s o text;
                read = read_next text line (unread s o text) e (events_of was.entries) says taken;
                goes_on = (
                  (on.0, was.unended),
                  let many = events_length was.entries in let next = was.next in
                      let other = on.1 in omega arith,
                );
                unknown = rw same unknown;
                next = ap (λ k. k + 1) (events_length was.entries) ∙ was.next;
              },
            ),
          )) was.taken;
    }

-- it says an event, which was done and reported
module _ (start : Begun) (from to : Streams) (old new : Outside) (before after : WorldState) (line : List ℕ)
    (number image : ℕ)
    (e : Event) (items : List Item) (bytes : List ℕ) (says : Says line e)
    (over : before.scene.image ≡ image)
    (known : knows image e ≡ true) (files : KeepsFiles old new)
    (event : WorldEvent old new before.scene (entry_of e items bytes) after.scene)
    (keeps : IfTold (old.told Image) (λ image. KeepsPlain image before (entry_of e items bytes) after))
    (told : Reports from to old new (items_text number items bytes))
    (was : HasTaken start from old before line number) where
  run_done : IsSceneRun (new.told Image) start.world.scene (entry_of e items bytes ∷ was.entries) after.scene
      (was.played.count + event.count)
  run_done =
      subst (λ told. IsSceneRun told start.world.scene (entry_of e items bytes ∷ was.entries) after.scene
      (was.played.count + event.count)) (sym (files Image (λ e. cc)))
      (before.scene, was.played.count, event.count, was.played.run, event.scene, refl)

  event_done : IsPlayed start to new after (entry_of e items bytes ∷ was.entries)
  event_done = record {
    count = was.played.count + event.count;
    run = run_done;
    guests = subst (λ told. GuestRuns told start.world (entry_of e items bytes ∷ was.entries) after)
        (sym (files Image (λ e. cc)))
        (guests_on (old.told Image) start.world before after was.entries (entry_of e items bytes) event.count
        event.scene keeps was.played.guests);
    known = (rw (played_image start from old before was.entries was.played ∙ over) known, was.played.known);
    looked = looks_after was.played.count event.count start.outside old new was.played.looked event.looked;
    said = subst (λ k. Said to new (history_text was.entries ++ items_text k items bytes)) (sym was.next)
        (told.0 (history_text was.entries) was.played.said);
  }

  read_done : IfTold (new.told Schedule) (λ text. HasRead text (unread to new text) (e ∷ events_of was.entries))
  read_done = IfTold-same _ (sym (files Schedule (λ e. cc)))
      (IfTold-weaker (old.told Schedule) _ _
      (λ text taken. subst (λ left. HasRead text left (e ∷ events_of was.entries)) (sym (told.1 text))
      (read_next text line (unread from old text) e (events_of was.entries) says taken))
      was.taken)

  pub line_done : (goes : Progress) → number ≤ LAST_LINE → Leads goes e number → HasDone goes start to new after number
  line_done progress.More within leads = record {
    entries = entry_of e items bytes ∷ was.entries;
    played = event_done;
    unended = (leads.0, was.unended);
    read = read_done;
    next = let counted = was.next in omega arith;
  }
  line_done progress.Ended within leads = record {
    entries = entry_of e items bytes ∷ was.entries;
    played = event_done;
    read = read_done;
    ended = (leads, (was.unended, let counted = was.next in let events = events_length was.entries in omega arith));
    length = let counted = was.next in omega arith;
  }

-- the line `end` was done, and nothing is left behind it
pub played_out : (start : Begun) (s to : Streams) (o new : Outside) (now : WorldState) (number : ℕ)
    → KeepsFiles o new → KeepsLooked o new
    → IfTold (o.told Schedule) (λ text. unread s o text ≡ []) → KeepsSaid s to o new
    → HasDoneEnd start s o now number → HasEnded start to new now number
played_out start s to o new now number files looked nothing said done = record {
  entries = done.entries;
  played = still_played start s to o new now done.entries files looked said done.played;
  schedule = IfTold-same _ (sym (files Schedule (λ e. cc)))
      (IfTold-both (o.told Schedule) _ _ _
      (λ text read end. (done.ended, subst (λ left. HasRead text left (events_of done.entries)) end read))
      done.read nothing);
  length = done.length;
}

-- something follows it
pub failed_behind : (start : Begun) (s to : Streams) (o new : Outside) (now : WorldState) (number bad : ℕ)
    (kind : LineFault)
    → KeepsFiles o new → KeepsLooked o new → KeepsSaid s to o new
    → bad ≡ number + 1 → kind ≡ fault.Trailing → IfTold (o.told Schedule) (λ text. unread s o text ≢ [])
    → HasDoneEnd start s o now number → HasFailed start to new now bad kind
failed_behind start s to o new now number bad kind files looked said is trailing some done = record {
  entries = done.entries;
  played = still_played start s to o new now done.entries files looked said done.played;
  fails = subst (λ k. IfTold (new.told Schedule)
      (λ text. IsRefused start.world.scene.image text (events_of done.entries) bad k)) (sym trailing)
      (IfTold-same _ (sym (files Schedule (λ e. cc)))
      (IfTold-both (o.told Schedule) _ _ _ (λ text read left. (
        done.played.known,
        inl (record {
          left = unread s o text;
          read = read;
          next = ap (λ k. k + 1) (events_length done.entries ∙ done.length) ∙ sym is;
          fails = (done.ended, left);
        }),
      )) done.read some));
}

-- the report is written, and nothing else happens
pub failed_on : (start : Begun) (s to : Streams) (o new : Outside) (now : WorldState) (number : ℕ) (kind : LineFault)
    → KeepsFiles o new → KeepsLooked o new → KeepsSaid s to o new
    → HasFailed start s o now number kind → HasFailed start to new now number kind
failed_on start s to o new now number kind files looked said failed = record {
  entries = failed.entries;
  played = still_played start s to o new now failed.entries files looked said failed.played;
  fails = IfTold-same _ (sym (files Schedule (λ e. cc))) failed.fails;
}

-- so far in the loop over lines: no count rose, no file but the report changed, nothing of an empty image was looked
-- at, the world is over the same image, and the lines before this number were played
pub record PlaysOn (image : ℕ) (from to : Streams) (old new : Outside) (before after : WorldState)
    (number : ℕ) : Type 0 where
  pub counts : SameCounts old new
  pub files : KeepsFiles old new
  pub looked : image ≡ 0 → KeepsLooked old new
  pub over : IsOver image new after.scene
  pub played : (start : Begun) → HasPlayed start from old before 1 → HasPlayed start to new after number
  pub within : number ≤ LAST_LINE

pub PlaysOn-more : (image : ℕ) (from mid to : Streams) (old now new : Outside) (before between after : WorldState)
    (number : ℕ)
    → PlaysOn image from mid old now before between number → SameCounts now new → KeepsFiles now new
    → (image ≡ 0 → KeepsLooked now new) → IsOver image new after.scene
    → ((start : Begun) → HasPlayed start mid now between number → HasPlayed start to new after (number + 1))
    → number ≢ LAST_LINE → PlaysOn image from to old new before after (number + 1)
PlaysOn-more image from mid to old now new before between after number on counts files looked over more other = record {
  counts = same_counts_trans old now new on.counts counts;
  files = λ role other. files role other ∙ on.files role other;
  looked = λ empty. looked empty ∙ on.looked empty;
  over = over;
  played = λ start was. more start (on.played start was);
  within = let w = on.within in omega arith;
}
