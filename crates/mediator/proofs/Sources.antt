-- What a call leaves of where the sectors came from.
use Rattle.std.proofs.Common.{◌≡◌, ◌⊎◌, ℕ, zero, suc, ◌+◌, ◌-◌, ◌*◌, ◌<◌, ◌≤◌, Bool, true, false, List, [], ◌∷◌, ◌++◌, length, replicate, slice_get, Option, Some, None, inl, inr, refl, sym, ap, ◌∙◌, subst, arith}
use Rattle.std.specs.Prelude.{◌||◌, ◌==◌, nat_lt, if◌then◌else◌}
use Rattle.std.proofs.lemmas.Bool.{cases_lt, eq-eqb, lt-ltb, true≢false}
use Rattle.std.proofs.lemmas.List.{length-replicate}
use Rattle.ata_taskfile.specs.declared.Access.{Access}
use Rattle.ata_taskfile.specs.declared.Access.TheVariants as access
use Rattle.ata_taskfile.specs.declared.Reg.{Reg}
use Rattle.ata_taskfile.specs.declared.Reg.TheVariants as reg
use Rattle.ata_taskfile.specs.declared.task_file.TaskFile.{TaskFile}
use Rattle.ata_taskfile.specs.Device.{Device}
use Rattle.aoe_client.specs.declared.tags.TagState.{TagState}
use Rattle.aoe_client.specs.declared.tags.TagState.TheVariants.{Due}
use Rattle.aoe_client.specs.Fetching.{Fetching, asked_for, due_from, due_of, first_tag, is_open}
use Rattle.aoe_client.specs.Asking.{Asking, HasTags, due_tags, is_open_in, tags_in}
use Rattle.plain_drive.specs.Alike.{gives_command, without_command}
use Rattle.plain_drive.specs.Plain.{Plain}
use Rattle.plain_drive.specs.Step.{bad_step, went}
use Rattle.schedule_text.specs.declared.Item.{Item}
use Rattle.schedule_text.specs.declared.Item.TheVariants.{Answer, Go, Bad, Command, Asked, Ready, Left, Reserved, Forged}
use Rattle.streaming.specs.Client.{ClientTurned, IsJustAsked, TakesFor}
use Rattle.streaming.specs.Lines.{Call, Line, line_of}
use Rattle.streaming.specs.Lines.Call.{of_frame}
use Rattle.streaming.specs.Monitor.{asked_items, item_of}
use Rattle.streaming.specs.Sources.{Brings, HasCome, HasSourcesAlong, SparesReads, has_read, is_power_on, one_asks, one_reads, one_writes, takes_command_in, was_asked_for}
use Rattle.streaming.proofs.Sourced.{asks_now, comes_now, stays_asked, stays_come, stays_read, told_read}
use Rattle.monitor_state.specs.declared.state.State.{State}
use Rattle.monitor_state.specs.declared.parts.Parts.{Parts}
use Rattle.monitor_state.specs.Seen.{Shows, file_seen}
use Rattle.monitor_state.specs.Sourced.{GoesOnTo, HasSources, KeepsSources, SlotAsked, WereAsked}
use Rattle.monitor_state.proofs.SourcesStay.{lines_asked, lines_keep}

-- a request is no command
asks_write_none : (tags : List ℕ) → one_writes (asked_items tags) ≡ false
asks_write_none [] = refl
asks_write_none (tag ∷ tags) = asks_write_none tags

or_none : (x y : Bool) → (x || false) ≡ false → y ≡ false → (x || y) ≡ false
or_none false y none other = other
or_none true y none other = cc

or_one : (x y : Bool) → (x || false) ≡ true → (x || y) ≡ true
or_one true y one = refl
or_one false y one = cc

pub or_first : (x y : Bool) → x ≡ true → (x || y) ≡ true
or_first true y one = refl
or_first false y one = cc

pub or_other : (x y : Bool) → y ≡ true → (x || y) ≡ true
or_other true y one = refl
or_other false y one = one

told_writes_none : (told : Option Item) (tags : List ℕ) → one_writes (item_of told) ≡ false
    → one_writes (item_of told ++ asked_items tags) ≡ false
told_writes_none None tags none = asks_write_none tags
told_writes_none (Some one) tags none =
    or_none _ (one_writes (asked_items tags)) none (asks_write_none tags)

told_reads : (s : ℕ) (told : Option Item) (tags : List ℕ) → one_reads s (item_of told) ≡ true
    → one_reads s (item_of told ++ asked_items tags) ≡ true
told_reads s None tags one = cc
told_reads s (Some one) tags is = or_one _ (one_reads s (asked_items tags)) is

told_asks : (tag : ℕ) (told : Option Item) (tags : List ℕ) → one_asks tag (asked_items tags) ≡ true
    → one_asks tag (item_of told ++ asked_items tags) ≡ true
told_asks tag None tags one = one
told_asks tag (Some Answer) tags one = one
told_asks tag (Some (Go n)) tags one = one
told_asks tag (Some Bad) tags one = one
told_asks tag (Some (Command byte first count)) tags one = one
told_asks tag (Some (Asked other)) tags one = or_other (other == tag) (one_asks tag (asked_items tags)) one
told_asks tag (Some Ready) tags one = one
told_asks tag (Some Left) tags one = one
told_asks tag (Some Reserved) tags one = one
told_asks tag (Some Forged) tags one = one

asked_sources : (image : ℕ) (tags : List ℕ) (q : Plain) (lines : List Line)
    → HasSourcesAlong image (asked_items tags) q lines
asked_sources image [] q lines = tt
asked_sources image (tag ∷ tags) q lines = asked_sources image tags q lines

told_sources : (image : ℕ) (told : Option Item) (tags : List ℕ) (q : Plain) (lines : List Line)
    → HasSourcesAlong image (item_of told) q lines → HasSourcesAlong image (item_of told ++ asked_items tags) q lines
told_sources image None tags q lines has = asked_sources image tags q lines
told_sources image (Some Answer) tags q lines has = asked_sources image tags q lines
told_sources image (Some (Go n)) tags q lines has = (has.0, asked_sources image tags (went n q) lines)
told_sources image (Some Bad) tags q lines has = asked_sources image tags (bad_step q) lines
told_sources image (Some (Command byte first count)) tags q lines has = asked_sources image tags q lines
told_sources image (Some (Asked tag)) tags q lines has = asked_sources image tags q lines
told_sources image (Some Ready) tags q lines has = asked_sources image tags q lines
told_sources image (Some Left) tags q lines has = asked_sources image tags q lines
told_sources image (Some Reserved) tags q lines has = asked_sources image tags q lines
told_sources image (Some Forged) tags q lines has = asked_sources image tags q lines

-- the lines go on with a call in which the power didn't come on, and which took a command only where this says so
pub line_goes_on : (taken : Bool) (call : Call) (q : Plain) (given : List Item) (lines : List Line)
    → is_power_on call ≡ false → takes_command_in call q ≡ taken
    → GoesOnTo taken lines (line_of call q given ∷ lines)
line_goes_on taken call q given lines on takes = record {
  came = λ tag. stays_come tag (line_of call q given) lines on;
  read = λ none s. stays_read s (line_of call q given) lines (takes ∙ none);
}

-- of a turn or a step that told this and sent these requests: its steps have sources, and it writes nothing of a read
pub along_sources : (s t : State) (p r : Parts) (d e : Device) (memory : List ℕ) (told : Option Item)
    (tags : List ℕ) (q : Plain) (lines : List Line) → KeepsSources s p d told t r e
    → Shows s p d memory q → HasSources s p d lines
    → HasSourcesAlong p.area.image (item_of told ++ asked_items tags) q lines
along_sources s t p r d e memory told tags q lines keeps shows has =
    told_sources p.area.image told tags q lines (keeps.loads lines memory q shows has)

pub along_spares : (s t : State) (p r : Parts) (d e : Device) (memory : List ℕ) (told : Option Item)
    (tags : List ℕ) (q : Plain) → KeepsSources s p d told t r e → Shows s p d memory q
    → SparesReads (item_of told ++ asked_items tags) q
along_spares s t p r d e memory told tags q keeps shows = λ reads.
    told_writes_none told tags
    (keeps.spares (ap (λ (f : TaskFile). has_read f.phase) (sym shows.file) ∙ reads))

-- and what is there for the guest has its source
pub along_has : (s t : State) (p r : Parts) (d e : Device) (told : Option Item) (tags : List ℕ)
    (call : Call) (q : Plain) (lines : List Line) → is_power_on call ≡ false → takes_command_in call q ≡ false
    → KeepsSources s p d told t r e → HasSources s p d lines
    → HasSources t r e (line_of call q (item_of told ++ asked_items tags) ∷ lines)
along_has s t p r d e told tags call q lines on takes keeps has =
    let line = line_of call q (item_of told ++ asked_items tags) in
    keeps.keeps (line ∷ lines) (λ sector is. told_read sector line lines (told_reads sector told tags is))
    (lines_keep s p d lines (line ∷ lines) (line_goes_on false call q line.items lines on takes) has)

-- what is asked for was asked for while the lines go on
pub still_asked : (c : Asking) (call : Call) (q : Plain) (given : List Item) (lines : List Line)
    → is_power_on call ≡ false → WereAsked c lines → WereAsked c (line_of call q given ∷ lines)
still_asked c call q given lines on asked =
    lines_asked c lines (line_of call q given ∷ lines) (λ tag. stays_asked tag (line_of call q given) lines on) asked

same_number : (n m : ℕ) → n ≡ m → (n == m) ≡ true
same_number n m same = eq-eqb n m same

due_asks : (count first i : ℕ) (more : List ℕ) → i < count
    → one_asks (first + i) (asked_items (due_from first (replicate count Due) ++ more)) ≡ true
due_asks zero first i more below = absurd (omega (arith, below))
due_asks (suc count) first zero more below =
    or_first (first == first + 0) _ (same_number first (first + 0) (omega arith))
due_asks (suc count) first (suc i) more below =
    let next : first + suc i ≡ (first + 1) + i = omega arith in
    or_other (first == first + suc i) _
    (subst (λ n. one_asks n (asked_items (due_from (first + 1) (replicate count Due) ++ more)) ≡ true) (sym next)
    (due_asks count (first + 1) i more (omega (arith, below))))

fresh_asks : (f : Fetching) (count i : ℕ) (more : List ℕ) → f ≡ asked_for count f.block f.lease → i < count
    → one_asks (f.block * count + i) (asked_items (due_of (Some f) ++ more)) ≡ true
fresh_asks f count i more is below =
    let due : due_of (Some f) ≡ due_from (f.block * count) (replicate count Due) =
    ap (λ (g : Fetching). due_from (f.block * length g.tags) g.tags) is
    ∙ ap (λ n. due_from (f.block * n) (replicate count Due)) (length-replicate count Due) in
    subst (λ tags. one_asks (f.block * count + i) (asked_items (tags ++ more)) ≡ true) (sym due)
    (due_asks count (f.block * count) i more below)

just_asked : (count : ℕ) (slot : Option Fetching) (more : List ℕ) (told : Option Item) (call : Call) (q : Plain)
    (lines : List Line) → IsJustAsked count slot
    → SlotAsked count slot (line_of call q (item_of told ++ asked_items (due_of slot ++ more)) ∷ lines)
just_asked count None more told call q lines is = tt
just_asked count (Some f) more told call q lines is = λ i below.
    asks_now (f.block * count + i) (line_of call q (item_of told ++ asked_items (due_of (Some f) ++ more))) lines
    (told_asks (f.block * count + i) told (due_of (Some f) ++ more) (fresh_asks f count i more is below))

-- what a turn asks for it tells
pub turned_asked : (old new : Asking) (told : Option Item) (call : Call) (q : Plain) (lines : List Line)
    → is_power_on call ≡ false → ClientTurned old new → WereAsked old lines
    → WereAsked new (line_of call q (item_of told ++ asked_items (due_tags new)) ∷ lines)
turned_asked old new told call q lines on (inl same) asked =
    subst (λ c. WereAsked c (line_of call q (item_of told ++ asked_items (due_tags new)) ∷ lines)) (sym same)
    (still_asked old call q (item_of told ++ asked_items (due_tags new)) lines on asked)
turned_asked old new told call q lines on (inr (inl is)) asked =
    let given = item_of told ++ asked_items (due_tags new) in
    subst (λ (c : Asking). SlotAsked (tags_in c.block) new.demand (line_of call q given ∷ lines)
    × SlotAsked (tags_in c.block) c.background (line_of call q given ∷ lines)) (sym is.others) (
      just_asked (tags_in old.block) new.demand (due_of new.background) told call q lines is.asked,
      (still_asked old call q given lines on asked).1,
    )
turned_asked old new told call q lines on (inr (inr is)) asked =
    let given = item_of told ++ asked_items (due_tags new) in
    subst (λ (c : Asking). SlotAsked (tags_in c.block) c.demand (line_of call q given ∷ lines)
    × SlotAsked (tags_in c.block) c.background (line_of call q given ∷ lines)) (sym is.freed)
    (tt, (still_asked old call q given lines on asked).1)

open_below : (tags : List TagState) (k : ℕ) → is_open (slice_get tags k) ≡ true → k < length tags
open_below [] k is = cc
open_below (x ∷ tags) zero is = omega arith
open_below (x ∷ tags) (suc k) is = omega (arith, open_below tags k is)

not_below : (n m : ℕ) → nat_lt n m ≡ false → (n < m) ⊎ (m ≤ n) → m ≤ n
not_below n m is (inl below) = absurd (true≢false (sym (lt-ltb n m below) ∙ is))
not_below n m is (inr from) = from

open_where : (below : Bool) (tag : ℕ) (f : Fetching) (lines : List Line) → SlotAsked (length f.tags) (Some f) lines
    → nat_lt tag (first_tag f) ≡ below
    → is_open (if below then None else slice_get f.tags (tag - first_tag f)) ≡ true
    → was_asked_for tag lines ≡ true
open_where true tag f lines asked below is = cc
open_where false tag f lines asked below is =
    let from = not_below tag (first_tag f) below (cases_lt tag (first_tag f)) in
    let here : first_tag f + (tag - first_tag f) ≡ tag = omega (arith, from) in
    subst (λ n. was_asked_for n lines ≡ true) here
    (asked (tag - first_tag f) (open_below f.tags (tag - first_tag f) is))

abbrev HasCount : ℕ → Option Fetching → Type 0
HasCount count None = Unit {0}
HasCount count (Some f) = length f.tags ≡ count

count_of : (block : ℕ) (slot : Option Fetching) → HasTags block slot → HasCount (tags_in block) slot
count_of block None has = tt
count_of block (Some f) has = has

open_asked : (count tag : ℕ) (slot : Option Fetching) (lines : List Line) → HasCount count slot
    → SlotAsked count slot lines → is_open_in tag slot ≡ true → was_asked_for tag lines ≡ true
open_asked count tag None lines has asked is = cc
open_asked count tag (Some f) lines has asked is =
    open_where (nat_lt tag (first_tag f)) tag f lines (subst (λ n. SlotAsked n (Some f) lines) (sym has) asked) refl is

either_open : (x y : Bool) → (x || y) ≡ true → (x ≡ true) ⊎ (y ≡ true)
either_open true y is = inl refl
either_open false y is = inr is

awaited_asked : (tag : ℕ) (c : Asking) (lines : List Line) → HasTags c.block c.demand → HasTags c.block c.background
    → WereAsked c lines → (is_open_in tag c.demand ≡ true) ⊎ (is_open_in tag c.background ≡ true)
    → was_asked_for tag lines ≡ true
awaited_asked tag c lines demand background asked (inl is) =
    open_asked (tags_in c.block) tag c.demand lines (count_of c.block c.demand demand) asked.0 is
awaited_asked tag c lines demand background asked (inr is) =
    open_asked (tags_in c.block) tag c.background lines (count_of c.block c.background background) asked.1 is

-- a frame that is taken and is no stray one has come for a tag that was asked for
pub heard_come : (c : Asking) (frame : List ℕ) (stray : Bool) (q : Plain) (given : List Item) (lines : List Line)
    → HasTags c.block c.demand → HasTags c.block c.background → WereAsked c lines
    → ((tag : ℕ) → TakesFor tag frame c → stray ≡ false)
    → (tag : ℕ) → TakesFor tag frame c → HasCome tag (line_of (of_frame frame stray) q given ∷ lines)
heard_come c frame stray q given lines demand background asked honest tag takes =
    comes_now tag (line_of (of_frame frame stray) q given) lines
    (subst (λ b. Brings tag (of_frame frame b)) (sym (honest tag takes)) takes.0)
    (awaited_asked tag c lines demand background asked
    (either_open (is_open_in tag c.demand) (is_open_in tag c.background) takes.1))

written_beside : (r : Reg) (v : ℕ) (f : TaskFile)
    → gives_command (access.Write8 r v) (without_command f) ≡ gives_command (access.Write8 r v) f
written_beside reg.Error v f = refl
written_beside reg.Count v f = refl
written_beside reg.Low v f = refl
written_beside reg.Mid v f = refl
written_beside reg.High v f = refl
written_beside reg.Device v f = refl
written_beside reg.Status v f = refl
written_beside reg.Alternate v f = refl
written_beside reg.BusCommand v f = refl
written_beside reg.BusStatus v f = refl

-- whether an access takes a command goes by no last one
gives_beside : (a : Access) (f : TaskFile) → gives_command a (without_command f) ≡ gives_command a f
gives_beside (access.Read8 r) f = refl
gives_beside (access.Write8 r v) f = written_beside r v f
gives_beside access.ReadWord f = refl
gives_beside (access.WriteWord w) f = refl
gives_beside access.ReadPointer f = refl
gives_beside (access.WritePointer v) f = refl
gives_beside access.Line f = refl

-- an access of the guest's takes a command of the plain drive exactly where it does over the registers that it sees
pub gives_seen : (a : Access) (s : State) (p : Parts) (d : Device) (memory : List ℕ) (q : Plain)
    → Shows s p d memory q → gives_command a q.device.file ≡ gives_command a (file_seen s d)
gives_seen a s p d memory q shows =
    sym (gives_beside a q.device.file) ∙ ap (gives_command a) shows.file ∙ gives_beside a (file_seen s d)
