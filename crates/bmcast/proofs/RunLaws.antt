-- A whole run, from its steps.
use Rattle.std.proofs.Common.{◌≡◌, ◌*◌, ◌/◌, ◌++◌, ◌≤◌, ◌<◌, ℕ, List, [], length, take, All, replicate, refl, sym, ◌∙◌, ap, subst, inl, arith, length-take}
use Rattle.std.proofs.Math.ListN.{drop_of_length-le}
use Rattle.bm_host.specs.declared.Role.TheVariants.{Image, Disk, Schedule, Report, Out, Console}
use Rattle.bm_host.specs.Outside.{Outside, IfTold, SameBytes, SameElsewhere}
use Rattle.std.specs.List.{concat}
use Rattle.fill_bitmap.specs.declared.area.Area.{Area}
use Rattle.plain_drive.specs.Plain.{sectors_in}
use Rattle.streaming.specs.World.{IsSceneRun, Scene, drive_over, started, watched_over}
use Rattle.streaming.proofs.Scenes.{drive_alone}
use Rattle.streaming.proofs.Untouched.{scene_length, unnamed_stays}
use Rattle.streaming.proofs.Whole.{scene_whole}
use Rattle.block_writes.specs.Kept.{KeepsFilesBut, KeepsLooked}
use Rattle.plain_drive.proofs.Sectors.{length-sectors, sectors_in-concat}
use Rattle.plain_drive.proofs.Standing.{fresh_stands, durable_are_outcome}
use Rattle.run_words.specs.Options.{Choice}
use Rattle.schedule_text.specs.Report.{end_text}
use Rattle.schedule_text.specs.declared.LineFault.{LineFault}
use Rattle.plain_run.specs.Entry.{Entry, events_of, history_text}
use Rattle.plain_run.specs.Run.{HasPlainRun}
use Rattle.plain_run.proofs.Standing.{drives_run}
use Rattle.bmcast.specs.declared.streams.Streams.{Streams}
use Rattle.bmcast.specs.Streams.{unread, Appends, KeepsSaid}
use Rattle.bmcast.specs.Known.{IsRefused, IsTaken}
use Rattle.bmcast.specs.Played.{Begun, HasPlayed, HasEnded, HasFailed, IsReported, IsStopped}
use Rattle.world.specs.Coupled.{BeginsAsPlain, BeginsOver}
use Rattle.world.specs.WorldState.{WorldState}
use Rattle.bmcast.specs.Guest.{HasGuestRun}
use Rattle.bmcast.specs.GuestRuns.{GuestRuns}
use Rattle.bmcast.specs.Run.{WasRun, DoneRun, BadLineRun, RunIsBad, deployment_of, plain_over, sectors_of_disk}
use Rattle.bmcast.specs.Files.{IsLeft, IsOpened, LeavesFiles}
use Rattle.bmcast.specs.Kept.{KeepsAllFiles, KeepsFiles}
use Rattle.bmcast.specs.Lengths.{HasLength, IsAreaOf}
use Rattle.bmcast.proofs.GuestRuns.{guest_has, guests_none}
use Rattle.bmcast.proofs.Looks.{looks_on, looks_since}
use Rattle.bmcast.specs.declared.Status.TheVariants as status
use Rattle.block_writes.proofs.Told.{IfTold-weaker, IfTold-all, IfTold-both, IfTold-same}
use Rattle.block_writes.proofs.WaitingLaws.{Waits-none, Waits-all}

-- a run begins
abbrev pub begun_at : WorldState → Outside → Begun
begun_at world outside = record { world = world; outside = outside }

-- before the first line
played_none : (s : Streams) (o : Outside) (p : WorldState) → IsOpened o → s.pending.items ≡ []
    → s.at ≡ s.end → HasPlayed (begun_at p o) s o p 1
played_none s o p ready none taken = record {
  entries = [];
  played = record {
    count = 0;
    run = (refl, refl);
    guests = guests_none (o.told Image) p;
    known = tt;
    looked = record { most = omega arith; none = λ e. refl };
    said = Waits-none Report o s.pending.items none ready.report;
  };
  unended = tt;
  read = IfTold-all (o.told Schedule) _ (λ text. ([], refl, inl (sym (all text))));
  next = refl;
}
  where
    all : (text : List ℕ) → unread s o text ≡ text
    all text =
        let short : length (take s.end s.block) ≤ s.at = omega (arith, length-take s.end s.block) in
        rw (drop_of_length-le (take s.end s.block) short, ready.given) refl

-- the schedule was played, and its report written
pub reported : (s0 s1 s2 s3 : Streams) (o0 o1 o2 o3 : Outside) (before after : WorldState) (number : ℕ)
    → IsOpened o0 → s0.pending.items ≡ [] → s0.at ≡ s0.end
    → ((start : Begun) → HasPlayed start s0 o0 before 1 → HasEnded start s1 o1 after number)
    → KeepsFiles o0 o1 → KeepsLooked o1 o2 → KeepsLooked o2 o3
    → Appends s1 s2 o1 o2 (end_text number) → KeepsSaid s2 s3 o2 o3 → s3.pending.items ≡ []
    → IsReported o0 o3 before after
reported s0 s1 s2 s3 o0 o1 o2 o3 before after number ready none taken ended files looked unlooked end_said
    flushed empty =
    let h = ended (begun_at before o0) (played_none s0 o0 before ready none taken) in
    record {
      entries = h.entries;
      count = h.played.count;
      run = subst (λ told. IsSceneRun told before.scene h.entries after.scene h.played.count) (files Image (λ e. cc))
          h.played.run;
      guests = subst (λ told. GuestRuns told before h.entries after) (files Image (λ e. cc)) h.played.guests;
      looked = looks_on h.played.count o0 o1 o3 (unlooked ∙ looked) h.played.looked;
      schedule = IfTold-same _ (files Schedule (λ e. cc))
          (IfTold-weaker (o1.told Schedule) _ _ (λ text whole. (whole, h.played.known)) h.schedule);
      report = subst (λ n. IfTold (o3.told Report) (λ text. text ≡ history_text h.entries ++ end_text n)) (sym h.length)
          (Waits-all Report o3 s3.pending.items (history_text h.entries ++ end_text number) empty
          (flushed (history_text h.entries ++ end_text number) (end_said (history_text h.entries) h.played.said)));
    }

-- the schedule was played to its first line that is refused, and the report before it is written
pub stopped : (s0 s1 : Streams) (o0 o1 : Outside) (before after : WorldState) (number : ℕ) (kind : LineFault)
    → IsOpened o0 → s0.pending.items ≡ [] → s0.at ≡ s0.end
    → ((start : Begun) → HasPlayed start s0 o0 before 1 → HasFailed start s1 o1 after number kind)
    → KeepsFiles o0 o1 → s1.pending.items ≡ []
    → IsStopped o0 o1 before after number kind
stopped s0 s1 o0 o1 before after number kind ready none taken failed files empty =
    let h = failed (begun_at before o0) (played_none s0 o0 before ready none taken) in
    record {
      entries = h.entries;
      count = h.played.count;
      run = subst (λ told. IsSceneRun told before.scene h.entries after.scene h.played.count) (files Image (λ e. cc))
          h.played.run;
      guests = subst (λ told. GuestRuns told before h.entries after) (files Image (λ e. cc)) h.played.guests;
      looked = h.played.looked;
      schedule = IfTold-same _ (files Schedule (λ e. cc)) h.fails;
      report = Waits-all Report o1 s1.pending.items (history_text h.entries) empty h.played.said;
    }

-- a run that is done leaves what it read
read_image : IsLeft status.Done Image
read_image = (λ e. cc, λ e. cc)

read_disk : IsLeft status.Done Disk
read_disk = (λ e. cc, λ e. cc)

read_schedule : IsLeft status.Done Schedule
read_schedule = (λ e. cc, λ e. cc)

-- the world was started over the disk's sectors, with the numbers of a choice and an image of so many sectors
pub record IsStarted (choice : Choice) (image : ℕ) (o : Outside) (before : WorldState) : Type 0 where
  pub began : before.scene ≡ started choice.sizes.block choice.sizes.memory image before.scene.drive.kept.durable
  pub sectors : All (λ sector. length sector ≡ 512) before.scene.drive.kept.durable
  pub disk : IfTold (o.told Disk) (λ disk. before.scene.drive.kept.durable ≡ sectors_of_disk disk)
  pub image_length : HasLength Image o (512 * image)
  pub begins : IfTold (o.told Image) (λ bytes. 0 < image
      → BeginsAsPlain (deployment_of choice image (length before.scene.drive.kept.durable) bytes) before)

-- the world was started over the files of this area, for the run of a choice
pub started_over : (choice : Choice) (area : Area) (id : ℕ) (o1 o2 : Outside) (before : WorldState)
    → LeavesFiles status.Done o1 o2 → IsAreaOf choice area o1 → id ≡ choice.id
    → before.scene ≡ started area.block choice.sizes.memory area.image before.scene.drive.kept.durable
    → length before.scene.drive.kept.durable ≡ area.sectors
    → All (λ sector. length sector ≡ 512) before.scene.drive.kept.durable
    → IfTold (o2.told Disk) (λ disk. before.scene.drive.kept.durable ≡ sectors_in area.sectors disk)
    → BeginsOver (o2.told Image) area id before
    → IsStarted choice area.image o2 before
started_over choice area id o1 o2 before left is named began many sectors disk stands = record {
  began = subst (λ block. before.scene ≡ started block choice.sizes.memory area.image
      before.scene.drive.kept.durable) is.block began;
  sectors = sectors;
  disk = IfTold-both (o2.told Disk) _ _ _
      (λ bytes long made. made ∙ ap (λ n. sectors_in n bytes) (count bytes long))
      (IfTold-same _ (sym (left Disk read_disk)) is.disk) disk;
  image_length = IfTold-same _ (sym (left Image read_image)) is.image;
  begins = IfTold-weaker (o2.told Image) _ _ (λ bytes begins some. deploys bytes (begins some)) stands.stands;
}
  where
    deploys : (bytes : List ℕ) → BeginsAsPlain (record { area = area; id = id; image = bytes }) before
        → BeginsAsPlain (deployment_of choice area.image (length before.scene.drive.kept.durable) bytes) before
    deploys bytes begins =
        subst (λ (block : ℕ). BeginsAsPlain (record {
          area = record { image = area.image; sectors = length before.scene.drive.kept.durable; block = block };
          id = choice.id;
          image = bytes;
        }) before) is.block
        (subst (λ (n : ℕ). BeginsAsPlain (record {
          area = record { image = area.image; sectors = n; block = area.block };
          id = choice.id;
          image = bytes;
        }) before) (sym many)
        (subst (λ (n : ℕ). BeginsAsPlain (record { area = area; id = n; image = bytes }) before) named begins))

    count : (bytes : List ℕ) → length bytes ≡ 512 * area.sectors → area.sectors ≡ length bytes / 512
    count bytes long = omega (long, arith)

-- out has the sectors that were durable at the end
out_sectors : (out : List ℕ) (sectors : List (List ℕ)) → All (λ sector. length sector ≡ 512) sectors
    → out ≡ concat sectors → sectors_of_disk out ≡ sectors
out_sectors out sectors whole written =
    let long : length out ≡ 512 * length sectors = ap length written ∙ length-sectors sectors whole in
    let count : length out / 512 ≡ length sectors = omega arith in
    rw (count, written) (sectors_in-concat sectors whole)

-- what was run from the world that was started over the disk
module _ (choice : Choice) (image : ℕ) (o1 o2 o3 : Outside) (before after : WorldState) (entries : List Entry)
    (count : ℕ) (left : LeavesFiles status.Done o1 o2) (same : SameBytes o2 o3) (was : IsStarted choice image o2 before)
    (run : IsSceneRun (o3.told Image) before.scene entries after.scene count)
    (guests : GuestRuns (o3.told Image) before entries after) where
  run_since : IsSceneRun (o1.told Image)
      (started choice.sizes.block choice.sizes.memory image before.scene.drive.kept.durable) entries after.scene count
  run_since =
      subst (λ (start : Scene). IsSceneRun (o1.told Image) start entries after.scene count) was.began
      (subst (λ told. IsSceneRun told before.scene entries after.scene count) (same.told Image ∙ left Image read_image)
      run)

  -- without an image there is no monitor, and the plain drive that began with the sectors has the physical one's run
  plain_since : image ≡ 0 → HasPlainRun (plain_over choice.sizes.memory before.scene.drive.kept.durable)
      (drive_over choice.sizes.memory before.scene.drive.kept.durable) entries after.scene.drive
  plain_since empty =
      let sectors = before.scene.drive.kept.durable in
      let memory = choice.sizes.memory in
      let start = started choice.sizes.block memory image sectors in
      drives_run (plain_over memory sectors) (drive_over memory sectors) after.scene.drive entries
      (fresh_stands sectors 64 (length sectors) (replicate memory 0))
      (drive_alone (o1.told Image) start after.scene entries count run_since
      (ap (watched_over choice.sizes.block) empty))

  -- with one the guest of its deployment has its run
  guest_since : IfTold (o1.told Image) (λ bytes. 0 < image
      → HasGuestRun (deployment_of choice image (length before.scene.drive.kept.durable) bytes)
      (started choice.sizes.block choice.sizes.memory image before.scene.drive.kept.durable) entries after.scene)
  guest_since =
      let deploys = deployment_of choice image (length before.scene.drive.kept.durable) in
      IfTold-weaker (o1.told Image) _ _
      (λ bytes has some. subst (λ (start : Scene). HasGuestRun (deploys bytes) start entries after.scene) was.began
      (has some))
      (guest_has (o1.told Image) image deploys (λ bytes. refl) before after entries
      (IfTold-same _ (left Image read_image) was.begins)
      (subst (λ told. GuestRuns told before entries after) (same.told Image ∙ left Image read_image) guests))

  abbrev was_run : WasRun choice o1
  was_run = record {
    sectors = before.scene.drive.kept.durable;
    image = image;
    entries = entries;
    read = IfTold-same _ (left Disk read_disk) was.disk;
    image_length = IfTold-same _ (left Image read_image) was.image_length;
    end = after.scene;
    count = count;
    run = run_since;
    plain = plain_since;
    guest = guest_since;
  }

  image_began : before.scene.image ≡ image
  image_began = ap (λ (scene : Scene). scene.image) was.began

-- all steps of a run from the moment at which image and disk are known
pub done : (o1 o2 o3 o4 o5 : Outside) (before after : WorldState) (choice : Choice) (image : ℕ)
    → LeavesFiles status.Done o1 o2 → SameBytes o2 o3 → KeepsFiles o3 o4 → KeepsFilesBut Out o4 o5
    → o3.looked ≡ o1.looked → KeepsLooked o4 o5
    → IsStarted choice image o2 before → IsReported o3 o4 before after
    → IfTold (o5.told Out) (λ out. out ≡ concat after.scene.drive.kept.durable)
    → DoneRun choice o1 o5
done o1 o2 o3 o4 o5 before after choice image left loaded played written unlooked kept was told out =
    let sectors = before.scene.drive.kept.durable in
    let now = after.scene in
    let block = choice.sizes.block in
    let memory = choice.sizes.memory in
    let run = run_since choice image o1 o2 o3 before after told.entries told.count left loaded was told.run
    told.guests in
    let whole = scene_whole (o1.told Image) block memory image sectors told.entries now told.count was.sectors run in
    let many = scene_length (o1.told Image) (started block memory image sectors) now told.entries told.count run in
    let plain = plain_since choice image o1 o2 o3 before after told.entries told.count left loaded was told.run
    told.guests in
    record {
      was = was_run choice image o1 o2 o3 before after told.entries told.count left loaded was told.run told.guests;
      schedule = IfTold-same _ (loaded.told Schedule ∙ left Schedule read_schedule)
          (subst (λ n. IfTold (o3.told Schedule) (λ text. IsTaken n text (events_of told.entries)))
          (image_began choice image o1 o2 o3 before after told.entries told.count left loaded was told.run told.guests)
          told.schedule);
      report = IfTold-same _ (sym (written Report (λ e. cc))) told.report;
      out = IfTold-weaker (o5.told Out) _ _ (λ bytes e. out_sectors bytes now.drive.kept.durable whole e) out;
      whole = IfTold-weaker (o5.told Out) _ _
          (λ bytes e. ap length e ∙ length-sectors now.drive.kept.durable whole ∙ ap (λ n. 512 * n) many) out;
      outcome = λ empty. durable_are_outcome now.drive (plain empty).plain (plain empty).stands;
      looked = looks_since told.count o1 o3 o5 unlooked (looks_on told.count o3 o4 o5 kept told.looked);
      unnamed = λ s unnamed. unnamed_stays (o1.told Image) block memory image sectors told.entries now told.count s
          was.sectors run unnamed;
    }

-- the same up to a line that is refused
pub bad_line : (o1 o2 o3 o4 : Outside) (before after : WorldState) (choice : Choice) (image number : ℕ)
    (kind : LineFault)
    → LeavesFiles status.Done o1 o2 → IsOpened o2 → SameBytes o2 o3 → KeepsFiles o3 o4 → o3.looked ≡ o1.looked
    → IsStarted choice image o2 before → IsStopped o3 o4 before after number kind
    → BadLineRun choice o1 o4 number kind
bad_line o1 o2 o3 o4 before after choice image number kind left opened loaded played unlooked was told = record {
  was = was_run choice image o1 o2 o3 before after told.entries told.count left loaded was told.run told.guests;
  schedule = IfTold-same _ (loaded.told Schedule ∙ left Schedule read_schedule)
      (subst (λ n. IfTold (o3.told Schedule) (λ text. IsRefused n text (events_of told.entries) number kind))
      (image_began choice image o1 o2 o3 before after told.entries told.count left loaded was told.run told.guests)
      told.schedule);
  report = told.report;
  out = IfTold-same _ (sym (played Out (λ e. cc) ∙ loaded.told Out)) opened.out;
  looked = looks_since told.count o1 o3 o4 unlooked told.looked;
}

-- the same from the start of the run, when no file had changed and nothing was looked at
abbrev was_run_from : (choice : Choice) (o0 o1 : Outside) → KeepsAllFiles o0 o1 → WasRun choice o1 → WasRun choice o0
was_run_from choice o0 o1 kept was = record {
  sectors = was.sectors;
  image = was.image;
  entries = was.entries;
  read = IfTold-same _ (kept Disk) was.read;
  image_length = IfTold-same _ (kept Image) was.image_length;
  end = was.end;
  count = was.count;
  run = subst (λ told. IsSceneRun told
      (started choice.sizes.block choice.sizes.memory was.image was.sectors) was.entries was.end was.count)
      (kept Image) was.run;
  plain = was.plain;
  guest = IfTold-same _ (kept Image) was.guest;
}

pub done_from : (choice : Choice) (o0 o1 o5 : Outside) → KeepsAllFiles o0 o1 → KeepsLooked o0 o1 → DoneRun choice o1 o5
    → DoneRun choice o0 o5
done_from choice o0 o1 o5 kept unlooked done = record {
  was = was_run_from choice o0 o1 kept done.was;
  schedule = IfTold-same _ (kept Schedule) done.schedule;
  report = done.report;
  out = done.out;
  whole = done.whole;
  outcome = done.outcome;
  looked = looks_since done.was.count o0 o1 o5 unlooked done.looked;
  unnamed = done.unnamed;
}

pub bad_line_since : (choice : Choice) (o0 o1 o4 : Outside) (number : ℕ) (kind : LineFault) → KeepsAllFiles o0 o1
    → KeepsLooked o0 o1 → BadLineRun choice o1 o4 number kind → BadLineRun choice o0 o4 number kind
bad_line_since choice o0 o1 o4 number kind kept unlooked bad = record {
  was = was_run_from choice o0 o1 kept bad.was;
  schedule = IfTold-same _ (kept Schedule) bad.schedule;
  report = bad.report;
  out = bad.out;
  looked = looks_since bad.was.count o0 o1 o4 unlooked bad.looked;
}

-- the same after the line on Console
pub bad_line_told : (words : List (List ℕ)) (o0 o4 o5 : Outside) (number : ℕ) (kind : LineFault)
    → SameElsewhere Console o4 o5 → KeepsLooked o4 o5
    → RunIsBad words o0 o4 number kind → RunIsBad words o0 o5 number kind
bad_line_told words o0 o4 o5 number kind kept unlooked bad = record {
  choice = bad.choice;
  says = bad.says;
  holds = record {
    was = bad.holds.was;
    schedule = bad.holds.schedule;
    report = IfTold-same _ (sym (kept.told Report (λ e. cc))) bad.holds.report;
    out = IfTold-same _ (sym (kept.told Out (λ e. cc))) bad.holds.out;
    looked = looks_on bad.holds.was.count o0 o4 o5 unlooked bad.holds.looked;
  };
}
