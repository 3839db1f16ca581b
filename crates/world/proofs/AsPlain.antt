-- An event under a monitor is one of the plain drive that it stands for.
use Rattle.std.proofs.Common.{◌≡◌, ℕ, true, false, List, [], ◌∷◌, Option, refl, sym, ap, ◌∙◌, arith}
use Rattle.aoe_net.specs.Wire.{Wire}
use Rattle.fill_bitmap.specs.Area.{bitmap_sectors_of}
use Rattle.plain_drive.specs.Physical.{Physical}
use Rattle.plain_drive.specs.Plain.{Plain}
use Rattle.schedule_text.specs.declared.Event.{Event}
use Rattle.schedule_text.specs.declared.Event.TheVariants as event
use Rattle.schedule_text.specs.declared.Item.{Item}
use Rattle.schedule_text.specs.Line.{IsInRange}
use Rattle.plain_run.specs.Entry.{answer_bytes, answer_items, entry_of, plan_in}
use Rattle.plain_run.specs.Event.{LeadsTo, may_step}
use Rattle.plain_run.specs.Guest.{after_guest, answer_due, answer_of, event_reads}
use Rattle.plain_run.specs.Plan.{planned}
use Rattle.plain_run.proofs.Guest.{memory_due, words_due}
use Rattle.plain_run.proofs.Plans.{planned_is_followed}
use Rattle.streaming.specs.Asks.{AsksSeldom}
use Rattle.streaming.specs.Built.{is_built}
use Rattle.streaming.specs.Helpful.{IsReadyInTime}
use Rattle.streaming.specs.Lines.{Line}
use Rattle.streaming.specs.Monitor.{MayTellUnder, MonitorEvent, Watched, answer_if, item_of, reads}
use Rattle.streaming.proofs.Lines.{event_answers, event_plan}
use Rattle.monitor_state.specs.Overlaid.{Known}
use Rattle.mediator.specs.declared.mediator.Mediator.{Mediator}
use Rattle.mediator.specs.Mediator.{parts_of}
use Rattle.world.specs.Coupled.{IsAsPlain}
use Rattle.world.specs.Keeping.{HasKept}
use Rattle.world.proofs.EventLaws.{write_due}

-- an event has an answer where the guest reads in it
answered_where_read : (one : Event) (q : Plain) → IsInRange one
    → answer_items (answer_due one q) ≡ answer_if (reads one)
answered_where_read (event.Read8 reg) q range = refl
answered_where_read (event.Write8 reg v) q range = refl
answered_where_read (event.ReadWords n) q range = ap answer_items (words_due n q range.0)
answered_where_read (event.WriteWords bytes) q range = ap answer_items (write_due bytes q)
answered_where_read event.ReadPointer q range = refl
answered_where_read (event.WritePointer v) q range = refl
answered_where_read (event.ReadMemory address n) q range = ap answer_items (memory_due address n q range.1)
answered_where_read (event.WriteMemory address bytes) q range = refl
answered_where_read event.Line q range = refl
answered_where_read (event.Deliver way k keep) q range = refl
answered_where_read (event.Lose way k) q range = refl
answered_where_read (event.Stray way frame) q range = refl
answered_where_read (event.Drive k) q range = refl
answered_where_read (event.Destage k) q range = refl
answered_where_read event.Turn q range = refl
answered_where_read event.Tick q range = refl
answered_where_read event.Cut q range = refl
answered_where_read event.Remark q range = refl
answered_where_read event.End q range = refl

-- the bytes that an event reads are those of its answer
read_answered : (bytes : List ℕ) → bytes ≡ answer_bytes (answer_of bytes)
read_answered [] = refl
read_answered (byte ∷ bytes) = refl

-- an event that isn't a power cut leads a plain drive to where the guest does
leads : (one : Event) (q : Plain) → is_built one ≡ true → LeadsTo one q (after_guest one q)
leads event.Cut q built = absurd cc
leads (event.Read8 reg) q built = refl
leads (event.Write8 reg v) q built = refl
leads (event.ReadWords n) q built = refl
leads (event.WriteWords bytes) q built = refl
leads event.ReadPointer q built = refl
leads (event.WritePointer v) q built = refl
leads (event.ReadMemory address n) q built = refl
leads (event.WriteMemory address bytes) q built = refl
leads event.Line q built = refl
leads (event.Deliver way k keep) q built = refl
leads (event.Lose way k) q built = refl
leads (event.Stray way frame) q built = refl
leads (event.Drive k) q built = refl
leads (event.Destage k) q built = refl
leads event.Turn q built = refl
leads event.Tick q built = refl
leads event.Remark q built = refl
leads event.End q built = refl

-- steps are told under a step of the drive or a turn alone
unplanned : (one : Event) (told : Option Item) → MayTellUnder one told → may_step one ≡ false
    → plan_in (item_of told) ≡ []
unplanned one told may still = grind arith

-- an event that keeps a plain drive is one of it
pub as_plain : (one : Event) (wire : Wire) (k : Known) (m n : Mediator) (p r : Physical) (items : List Item)
    (bytes : List ℕ) (q : Plain) (lines : List Line) (told : Option Item) (old new : Watched) → IsInRange one
    → is_built one ≡ true → MonitorEvent wire told old (entry_of one items bytes) new
    → HasKept one wire k m p items bytes n r q lines → (later : List Line) → AsksSeldom later
    → IsReadyInTime (parts_of m).area.block (bitmap_sectors_of (parts_of m).area) later
    → IsAsPlain (parts_of m).area q lines (entry_of one items bytes) later
as_plain one wire k m n p r items bytes q lines told old new range built monitored kept later seldom ready = record {
  plain = record {
    answered = event_answers wire told old new (entry_of one items bytes) monitored
        ∙ sym (answered_where_read one q range);
    bytes = kept.answered ∙ read_answered (event_reads one q);
    between = after_guest one q;
    reached = leads one q built;
    placed = λ still. event_plan wire told old new (entry_of one items bytes) monitored
        ∙ unplanned one told monitored.may still;
    followed = planned_is_followed items (after_guest one q) (planned items (after_guest one q))
        (record { acts = kept.goes.acts; after = refl });
  };
  sources = kept.goes.sources;
  spares = kept.goes.spares;
  asks = kept.asks;
  seldom = seldom;
  ready = ready;
}
