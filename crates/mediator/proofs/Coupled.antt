-- What a call leaves of the plain drives for which a mediator stands.
use Rattle.std.proofs.Common.{◌≡◌, ℕ, ◌<◌, length, false, List, [], ◌∷◌, ◌++◌, Option, refl, sym, ap, ◌∙◌, subst}
use Rattle.std.proofs.lemmas.List.{append_cancel_left}
use Rattle.ata_taskfile.specs.Accesses.{Reaches}
use Rattle.ata_taskfile.specs.Device.{Cell, Device, powered_on}
use Rattle.ata_taskfile.specs.Lawful.{IsLawful}
use Rattle.aoe_client.specs.Asking.{Asking, HasTags}
use Rattle.mon_pool.specs.Region.{HasWholeBuffers}
use Rattle.aoe_client.specs.Buffers.{BothAskOn, BothHold}
use Rattle.plain_drive.specs.Alike.{block_matters, without_command}
use Rattle.fill_bitmap.specs.declared.area.Area.{Area}
use Rattle.fill_bitmap.specs.Area.{IsSuitable}
use Rattle.fill_bitmap.specs.Disk.{guest_view, sector_at, stored_blocks}
use Rattle.plain_drive.specs.Plain.{Plain, plain, stored}
use Rattle.port_lease.specs.declared.view.View.{View}
use Rattle.port_lease.specs.Seen.{bus_beside}
use Rattle.port_lease.specs.Sides.{view_held}
use Rattle.schedule_text.specs.declared.Item.{Item}
use Rattle.schedule_text.specs.Taken.{commands_due}
use Rattle.plain_run.specs.Entry.{commands_in}
use Rattle.plain_run.specs.Plan.{planned}
use Rattle.streaming.specs.Helpful.{is_good_step, is_turn}
use Rattle.streaming.specs.Lines.{Call, IsTold, Line, line_of}
use Rattle.streaming.specs.Sources.{is_power_on, takes_command_in}
use Rattle.streaming.specs.Monitor.{asked_items, item_of}
use Rattle.streaming.proofs.ToldCommands.{accessed_told}
use Rattle.streaming.proofs.Untold.{none_due}
use Rattle.monitor_state.specs.declared.state.State.{State}
use Rattle.monitor_state.specs.declared.state.State.TheVariants.{Guest, Monitor, Running, Raising, Moving}
use Rattle.monitor_state.specs.declared.parts.Parts.{Parts}
use Rattle.monitor_state.specs.Fits.{Fits}
use Rattle.monitor_state.specs.GoesOn.{GoesOn}
use Rattle.monitor_state.specs.Overlaid.{HasSectors, Known}
use Rattle.monitor_state.specs.Buffered.{HasBuffers, image_part}
use Rattle.monitor_state.specs.Sectors.{IsPieceOf}
use Rattle.monitor_state.specs.Seen.{Shows, is_refused_in}
use Rattle.monitor_state.specs.SameAsks.{BothAskTheSame}
use Rattle.monitor_state.specs.Requests.{HasRequests}
use Rattle.monitor_state.specs.Sourced.{HasSources, HeldSourced, KeepsSources, SlotCame, WereAsked}
use Rattle.monitor_state.specs.Start.{IsBegun}
use Rattle.monitor_state.proofs.Openings.{begun_sectors}
use Rattle.monitor_state.proofs.Shown.{same_refused, same_seen}
use Rattle.monitor_state.proofs.SourcesStay.{asking_asked, asking_keeps, lines_keep}
use Rattle.mediator.specs.declared.mediator.Mediator.{Mediator}
use Rattle.mediator.specs.Couples.{GoesAlong, KeepsAll, KeepsAlong, StandsAtPowerOn}
use Rattle.mediator.specs.Mediator.{IsAtPowerOn, StartsWith, client_of, parts_of, state_of, with_client}
use Rattle.mediator.specs.Ready.{BecomesReady}
use Rattle.mediator.proofs.Buffers.{client_buffers}
use Rattle.mediator.proofs.Ready.{line_ready, others_ready, started_ready}
use Rattle.mediator.proofs.Requests.{started_requests}
use Rattle.mediator.proofs.Sectors.{client_sectors, sectors_agree}
use Rattle.mediator.proofs.Sources.{along_has, along_sources, along_spares, line_goes_on, still_asked}
use Rattle.mediator.proofs.Told.{told_acts, told_planned}

reached_itself : (d : Device) → Reaches d d
reached_itself d = record { accesses = []; leads = refl }

-- register accesses under a call that gave these items
pub reached_told : (call : Call) (q : Plain) (given : List Item) (d e : Device) (lines : List Line)
    → ((origin : Device) → Reaches origin d → Reaches origin e) → commands_in given ≡ commands_due d.file e.file
    → IsTold d.file lines → IsTold e.file (line_of call q given ∷ lines)
reached_told call q given d e lines reached is told =
    accessed_told d e lines (line_of call q given) (reached d (reached_itself d)) is told

-- a call that reached no drive
pub unmoved_told : (call : Call) (q : Plain) (given : List Item) (d : Device) (lines : List Line)
    → commands_in given ≡ [] → IsTold d.file lines → IsTold d.file (line_of call q given ∷ lines)
unmoved_told call q given d lines none told =
    reached_told call q given d d lines (λ origin was. was) (none ∙ none_due d.file d.file (λ taken. taken)) told

-- a call that told this, and sent these requests
pub along_kept : (call : Call) (m n : Mediator) (d e : Device) (memory left : List ℕ) (told : Option Item)
    (tags : List ℕ) (before after : List Item) → after ≡ before ++ (item_of told ++ asked_items tags)
    → IsLawful d → Fits (state_of m) (parts_of m) d → HasTags (client_of m).block (client_of m).demand
    → HasWholeBuffers (parts_of m).pool
    → GoesOn (state_of m) (parts_of m) d memory (item_of told) (state_of n) (parts_of n) e left
    → ((k : Known) (q : Plain) → Shows (state_of m) (parts_of m) d memory q
    → HasSectors k (state_of m) (parts_of m) d q.device.cells
    → HasSectors k (state_of n) (parts_of n) e (planned (item_of told) q).device.cells)
    → ((k : Known) (q : Plain) → Shows (state_of m) (parts_of m) d memory q
    → HasSectors k (state_of m) (parts_of m) d q.device.cells
    → HasBuffers k.image (state_of m) (parts_of m) d q.device
    → HasBuffers k.image (state_of n) (parts_of n) e (planned (item_of told) q).device)
    → ((q : Plain) (lines : List Line) (given : List Item) → given ≡ item_of told ++ asked_items tags
    → IsTold d.file lines → IsTold e.file (line_of call q given ∷ lines))
    → is_power_on call ≡ false → ((q : Plain) → takes_command_in call q ≡ false)
    → KeepsSources (state_of m) (parts_of m) d told (state_of n) (parts_of n) e
    → ((q : Plain) (lines : List Line) → WereAsked (client_of m) lines
    → WereAsked (client_of n) (line_of call q (item_of told ++ asked_items tags) ∷ lines))
    → ((q : Plain) (lines : List Line) → HasRequests (state_of m) (parts_of m) lines
    → HasRequests (state_of n) (parts_of n) (line_of call q (item_of told ++ asked_items tags) ∷ lines))
    → ((q : Plain) (lines : List Line) → BecomesReady (state_of m) (parts_of m) d lines
    → BecomesReady (state_of n) (parts_of n) e (line_of call q (item_of told ++ asked_items tags) ∷ lines))
    → KeepsAlong call before after m d memory n e left
along_kept call m n d e memory left told tags before after items lawful fits has_tags whole goes_on sectors
    buffers is_told on takes keeps asks requests ready = λ k q lines given is couples.
    let same : given ≡ item_of told ++ asked_items tags = append_cancel_left before _ _ (sym is ∙ items) in
    let made : planned given q ≡ planned (item_of told) q =
    ap (λ xs. planned xs q) same ∙ told_planned told tags q in
    let agree = sectors_agree k (state_of m) (parts_of m) d q lawful fits couples.sectors
    couples.buffers has_tags whole in
    let goes = goes_on q couples.shows agree in (
      subst (λ xs. GoesAlong (parts_of m).area.image xs q lines) (sym same) (record {
        acts = told_acts told tags q goes.0;
        sources = along_sources (state_of m) (state_of n) (parts_of m) (parts_of n) d e memory told tags q lines keeps
            couples.shows couples.sources;
        spares = along_spares (state_of m) (state_of n) (parts_of m) (parts_of n) d e memory told tags q keeps
            couples.shows;
      }),
      record {
        shows = subst (λ r. Shows (state_of n) (parts_of n) e left r) (sym made) goes.1;
        sectors = subst (λ (r : Plain). HasSectors k (state_of n) (parts_of n) e r.device.cells) (sym made)
            (sectors k q couples.shows couples.sectors);
        buffers = subst (λ (r : Plain). HasBuffers k.image (state_of n) (parts_of n) e r.device) (sym made)
            (buffers k q couples.shows couples.sectors couples.buffers);
        sources = subst (λ xs. HasSources (state_of n) (parts_of n) e (line_of call q xs ∷ lines)) (sym same)
            (along_has (state_of m) (state_of n) (parts_of m) (parts_of n) d e told tags call q lines on (takes q) keeps
            couples.sources);
        asked = subst (λ xs. WereAsked (client_of n) (line_of call q xs ∷ lines)) (sym same)
            (asks q lines couples.asked);
        requests = subst (λ xs. HasRequests (state_of n) (parts_of n) (line_of call q xs ∷ lines)) (sym same)
            (requests q lines couples.requests);
        told = is_told q lines given same couples.told;
        ready = subst (λ xs. BecomesReady (state_of n) (parts_of n) e (line_of call q xs ∷ lines)) (sym same)
            (ready q lines couples.ready);
      },
    )

-- what the client asks for is nothing that the guest sees
pub client_shown : (s : State) (p : Parts) (c : Asking) (d : Device) (memory : List ℕ) (q : Plain)
    → Shows s p d memory q → Shows s (record p { client = c }) d memory q
client_shown (Guest side) p c d memory q shows =
    same_seen (Guest side) (Guest side) p (record p { client = c }) d d memory q refl refl (λ matters. refl) refl
    shows.served shows
client_shown (Monitor side) p c d memory q shows =
    same_seen (Monitor side) (Monitor side) p (record p { client = c }) d d memory q refl refl (λ matters. refl) refl
    (same_refused (view_held side).file.phase p (record p { client = c }) refl refl ∙ shows.served) shows
client_shown (Running side own why) p c d memory q shows =
    same_seen (Running side own why) (Running side own why) p (record p { client = c }) d d memory q refl refl
    (λ matters. refl) refl
    (same_refused (view_held side).file.phase p (record p { client = c }) refl refl ∙ shows.served) shows
client_shown (Raising side dummy kind) p c d memory q shows =
    same_seen (Raising side dummy kind) (Raising side dummy kind) p (record p { client = c }) d d memory q refl refl
    (λ matters. refl) refl
    (same_refused (view_held side).file.phase p (record p { client = c }) refl refl ∙ shows.served) shows
client_shown Moving p c d memory q shows =
    same_seen Moving Moving p (record p { client = c }) d d memory q refl refl (λ matters. refl) refl
    shows.served shows

-- a call in which no more changed than what the client asks for
pub client_kept : (call : Call) (m n : Mediator) (c : Asking) (given before after : List Item) → n ≡ with_client c m
    → after ≡ before ++ given → commands_in given ≡ []
    → ((source : ℕ → List ℕ) → BothHold source (client_of m) (parts_of m).pool → BothHold source c (parts_of m).pool)
    → is_power_on call ≡ false → is_turn call ≡ false → is_good_step call ≡ false
    → ((q : Plain) → takes_command_in call q ≡ false) → BothAskOn (client_of m) c → BothAskTheSame (client_of m) c
    → ((q : Plain) (lines : List Line) → HasRequests (state_of m) (parts_of m) lines
    → HasRequests (state_of m) (record (parts_of m) { client = c }) (line_of call q given ∷ lines))
    → KeepsAll call before after m n
client_kept call m n c gave before after is items none outlast on turn good takes asks_on asks requests = λ k d memory q
    lines given says couples.
    let same : given ≡ gave = append_cancel_left before _ _ (sym says ∙ items) in
    record {
      shows = subst (λ (x : Mediator). Shows (state_of x) (parts_of x) d memory q) (sym is)
          (client_shown (state_of m) (parts_of m) c d memory q couples.shows);
      sectors = subst (λ (x : Mediator). HasSectors k (state_of x) (parts_of x) d q.device.cells) (sym is)
          (client_sectors k (state_of m) (parts_of m) c (parts_of m).pool d q.device.cells couples.sectors);
      buffers = subst (λ (x : Mediator). HasBuffers k.image (state_of x) (parts_of x) d q.device) (sym is)
          (client_buffers k.image (state_of m) (parts_of m) c d q.device
          (outlast (image_part k.image) couples.buffers.asked) couples.buffers);
      sources = subst (λ (x : Mediator). HasSources (state_of x) (parts_of x) d (line_of call q given ∷ lines)) (sym is)
          (asking_keeps (state_of m) (parts_of m) c d (line_of call q given ∷ lines) asks_on
          (lines_keep (state_of m) (parts_of m) d lines (line_of call q given ∷ lines)
          (line_goes_on false call q given lines on (takes q)) couples.sources));
      asked = subst (λ (x : Mediator). WereAsked (client_of x) (line_of call q given ∷ lines)) (sym is)
          (asking_asked (client_of m) c (line_of call q given ∷ lines) asks
          (still_asked (client_of m) call q given lines on couples.asked));
      requests = subst (λ (x : Mediator). HasRequests (state_of x) (parts_of x) (line_of call q given ∷ lines)) (sym is)
          (subst (λ xs. HasRequests (state_of m) (record (parts_of m) { client = c }) (line_of call q xs ∷ lines))
          (sym same) (requests q lines couples.requests));
      told = unmoved_told call q given d lines (ap commands_in same ∙ none) couples.told;
      ready = subst (λ (x : Mediator). BecomesReady (state_of x) (parts_of x) d (line_of call q given ∷ lines)) (sym is)
          (line_ready (state_of m) (record (parts_of m) { client = c }) d (line_of call q given) lines on turn good
          (others_ready (state_of m) (parts_of m) (record (parts_of m) { client = c }) d lines refl refl
          couples.ready));
    }

-- at power-on the guest sees the registers of power-on
started_shown : (s : State) (p : Parts) (cells shown : List Cell) (memory : List ℕ) → StartsWith s
    → Shows s p (powered_on cells p.area.sectors) memory (plain (powered_on shown p.area.sectors) memory)
started_shown (Guest side) p cells shown memory starts = absurd starts
started_shown (Running side own why) p cells shown memory starts = absurd starts
started_shown (Raising side dummy kind) p cells shown memory starts = absurd starts
started_shown Moving p cells shown memory starts = absurd starts
started_shown (Monitor side) p cells shown memory starts = record {
  file = sym (ap (λ (v : View). without_command v.file) starts.view);
  bus = sym (ap (λ (v : View). bus_beside v.bus (powered_on cells p.area.sectors).bus) starts.view);
  block = λ matters. let none = ap (λ (v : View). block_matters v.file.phase) starts.view in absurd cc;
  sectors = refl;
  memory_is = refl;
  served = ap (λ (v : View). is_refused_in v.file.phase p) starts.view;
}

-- and its sectors are those that it finds on the disk
started_sectors : (image disk : List (List ℕ)) (s : State) (p : Parts) (buffers : ℕ) → StartsWith s
    → IsSuitable p.area → 0 < p.area.image → length disk ≡ p.area.sectors → IsBegun p.area p.id buffers p
    → HasSectors (record { image = image; disk = disk; durable = stored_blocks p.area p.id disk }) s p
    (powered_on (stored disk) p.area.sectors) (stored (guest_view p.area p.id image disk))
started_sectors image disk (Guest side) p buffers starts suitable some long begun = absurd starts
started_sectors image disk (Running side own why) p buffers starts suitable some long begun = absurd starts
started_sectors image disk (Raising side dummy kind) p buffers starts suitable some long begun = absurd starts
started_sectors image disk Moving p buffers starts suitable some long begun = absurd starts
started_sectors image disk (Monitor side) p buffers starts suitable some long begun =
    begun_sectors image disk p.area p.id buffers p side suitable some long begun

-- and nothing is held or asked
started_buffers : (image : List (List ℕ)) (s : State) (area : Area) (id buffers : ℕ) (p : Parts) (d g : Device)
    → StartsWith s → IsBegun area id buffers p
    → ((s : ℕ) → s < length image → length (sector_at s image) ≡ 512) → HasBuffers image s p d g
started_buffers image (Guest side) area id buffers p d g starts begun whole = absurd starts
started_buffers image (Running side own why) area id buffers p d g starts begun whole = absurd starts
started_buffers image (Raising side dummy kind) area id buffers p d g starts begun whole = absurd starts
started_buffers image Moving area id buffers p d g starts begun whole = absurd starts
started_buffers image (Monitor side) area id buffers p d g starts begun whole = record {
  whole = whole;
  held = subst (IsPieceOf g p.pool) (sym begun.held) tt;
  asked = subst (λ (c : Asking). BothHold (image_part image) c p.pool) (sym begun.client) (tt, tt);
  read = tt;
}

-- so all that is there has a source
started_sources : (s : State) (area : Area) (id buffers : ℕ) (p : Parts) (d : Device) (lines : List Line)
    → StartsWith s → IsBegun area id buffers p → HasSources s p d lines
started_sources (Guest side) area id buffers p d lines starts begun = absurd starts
started_sources (Running side own why) area id buffers p d lines starts begun = absurd starts
started_sources (Raising side dummy kind) area id buffers p d lines starts begun = absurd starts
started_sources Moving area id buffers p d lines starts begun = absurd starts
started_sources (Monitor side) area id buffers p d lines starts begun = record {
  held = subst (λ held. HeldSourced p.area.image held lines) (sym begun.held) tt;
  demand = subst (λ (c : Asking). SlotCame c.demand lines) (sym begun.client) tt;
  background = subst (λ (c : Asking). SlotCame c.background lines) (sym begun.client) tt;
  read = tt;
}

-- parts that are begun over an area, for a run, are so over their own
own_begun : (area : Area) (id buffers : ℕ) (p : Parts) → IsBegun area id buffers p → IsBegun p.area p.id buffers p
own_begun area id buffers p begun =
    subst (λ (a : Area). IsBegun a p.id buffers p) (sym begun.area_is)
    (subst (λ (i : ℕ). IsBegun area i buffers p) (sym begun.id_is) begun)

pub stands_at_power_on : (area : Area) (id buffers : ℕ) (m : Mediator) → IsSuitable area → 0 < area.image
    → IsAtPowerOn area id buffers m → StandsAtPowerOn m
stands_at_power_on area id buffers m suitable some begun = λ image disk memory lines on whole long.
    let p = parts_of m in record {
      shows = started_shown (state_of m) p (stored disk) (stored (guest_view p.area p.id image disk)) memory
          begun.state;
      sectors = started_sectors image disk (state_of m) p buffers begun.state
          (subst IsSuitable (sym begun.parts.area_is) suitable)
          (subst (λ (a : Area). 0 < a.image) (sym begun.parts.area_is) some) long
          (own_begun area id buffers p begun.parts);
      buffers = started_buffers image (state_of m) area id buffers p (powered_on (stored disk) p.area.sectors)
          (powered_on (stored (guest_view p.area p.id image disk)) p.area.sectors) begun.state begun.parts whole;
      sources = started_sources (state_of m) area id buffers p (powered_on (stored disk) p.area.sectors) lines
          begun.state begun.parts;
      asked = subst (λ (c : Asking). WereAsked c lines) (sym begun.parts.client) (tt, tt);
      requests = started_requests (state_of m) p area.block lines on begun.parts.client;
      told = tt;
      ready = started_ready area id buffers (state_of m) p (powered_on (stored disk) p.area.sectors) lines some
          begun.state begun.parts on;
    }
