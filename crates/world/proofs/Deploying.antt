-- An event of a drive, its monitor and the network together.
use Rattle.std.proofs.Common.{◌≡◌, ◌++◌, ℕ, Bool, true, false, List, [], ◌∷◌, Option, Some, None, Result, Ok, Err, OnOk, refl, sym, ap, ◌∙◌, subst}
use Rattle.std.specs.Prelude.{◌&&◌, not}
use Rattle.std.proofs.lemmas.Bool.{true≢false}
use Rattle.bm_host.specs.Outside.{IfTold, Outside}
use Rattle.block_writes.proofs.Told.{IfTold-weaker}
use Rattle.fill_bitmap.specs.declared.area.Area.{Area}
use Rattle.fill_bitmap.specs.Area.{bitmap_sectors_of}
use Rattle.fill_bitmap.specs.Disk.{HasHeader}
use Rattle.aoe_net.specs.Wire.{Wire}
use Rattle.plain_drive.specs.Physical.{Physical, seen}
use Rattle.plain_drive.specs.Plain.{Plain}
use Rattle.schedule_text.specs.declared.Event.{Event}
use Rattle.schedule_text.specs.declared.Item.{Item}
use Rattle.schedule_text.specs.declared.Item.TheVariants as item
use Rattle.plain_run.specs.Entry.{Entry, entry_of}
use Rattle.streaming.specs.Built.{is_built}
use Rattle.streaming.specs.Client.{all_sent}
use Rattle.streaming.specs.Monitor.{MayAnswer, MonitorEvent, Watched, answer_if, asked_items, item_of, reads}
use Rattle.streaming.specs.Told.{tells_ready}
use Rattle.schedule_text.specs.Line.{IsInRange}
use Rattle.streaming.specs.Helpful.{IsReadyInTime, one_readies}
use Rattle.streaming.specs.Lines.{Line, lines_after}
use Rattle.streaming.specs.Lists.{HoldsReplies}
use Rattle.streaming.specs.Network.{NetworkEvent, handed_to_server, requests_in, requests_sent, taken_out}
use Rattle.streaming.proofs.Lists.{event_replies}
use Rattle.monitor_state.specs.Overlaid.{Known}
use Rattle.monitor_state.specs.State.{is_opened}
use Rattle.monitor_state.proofs.Openings.{opened_header}
use Rattle.mediator.specs.declared.mediator.Mediator.{Mediator}
use Rattle.mediator.specs.Mediator.{FitsDrive, parts_of, state_of}
use Rattle.mediator.proofs.Between.{ready_in_time}
use Rattle.mediator.proofs.Requests.{asked_seldom}
use Rattle.streaming.specs.World.{Scene}
use Rattle.streaming.proofs.Lines.{event_requests}
use Rattle.world.specs.Acting.{HasActed, IsDeployed, delivered}
use Rattle.world.specs.Coupled.{Deployment, IsAsPlain, KeepsPlain, StandsIn, effect_in, plain_after}
use Rattle.world.specs.Deployed.{watched_in, watched_of}
use Rattle.world.specs.Keeping.{IsHonestIfAny, KeepsEvent, StandBy, world_of}
use Rattle.world.specs.Reserved.{IsMarkedRight, MarksRightly}
use Rattle.world.specs.WorldState.{WorldState}
use Rattle.world.proofs.AsPlain.{as_plain}
use Rattle.world.proofs.HonestReplies.{delivered_is_honest}
use Rattle.world.proofs.Cuts.{durable_left}
use Rattle.world.proofs.Refused.{marks_rightly}
use Rattle.world.specs.Conveying.{Conveys}
use Rattle.world.proofs.Sending.{due_sent}

-- what an event made of them, once the requests that are due are sent
module _ (sectors : ℕ) (outside after : Outside) (wire mid left : Wire) (p q : Physical) (old now new : Watched)
    (one : Event) (items : List Item) (bytes : List ℕ) (built : is_built one ≡ true)
    (answers : MayAnswer one p.memory bytes) (acted : HasActed one wire p q old now items)
    (conveys : Conveys sectors outside after (handed_to_server one wire) (taken_out one wire) mid)
    (is : new ≡ record now { asking = all_sent now.asking }) (left_is : left ≡ due_sent now.asking mid) where
  monitored : MonitorEvent wire acted.told old (entry_of one items bytes) new
  monitored = record {
    due = now.asking;
    acts = acted.acts;
    sent = ap (λ (w : Watched). w.asking) is;
    items = acted.items_are;
    may = acted.may;
    ready = acted.ready ∙ ap (λ (w : Watched). not old.opened && w.opened) (sym is);
    stays = λ was. ap (λ (w : Watched). w.opened) is ∙ acted.stays was;
    forged = acted.forged;
  }

  pub deployed : IsDeployed sectors outside after wire left p q old (entry_of one items bytes) new
  unfolding monitored
  deployed = record {
    monitored = record { built = built; told = acted.told; drive = acted.traced; monitor = monitored; bytes = answers };
    count = conveys.count;
    network = record {
      answer = conveys.answer;
      serves = conveys.serves;
      after = left_is
          ∙ ap (λ frames. requests_sent frames mid)
          (sym (event_requests wire acted.told old new (entry_of one items bytes) monitored))
          ∙ ap (requests_sent (requests_in items)) conveys.joined;
    };
    looked = conveys.looked;
  }

-- the replies under way go on to be the server's
replies_stay : (told : Option (List ℕ)) (sectors : ℕ) (wire left : Wire) (entry : Entry) (count : ℕ)
    → NetworkEvent sectors told wire entry left count
    → IfTold told (λ image. HoldsReplies sectors image wire → HoldsReplies sectors image left)
replies_stay None sectors wire left entry count network = tt
replies_stay (Some image) sectors wire left entry count network =
    event_replies sectors image wire left entry count network

-- that the monitor is ready is told where its item stands
asked_readies : (tags : List ℕ) → one_readies (asked_items tags) ≡ false
asked_readies [] = refl
asked_readies (tag ∷ tags) = asked_readies tags

readies_behind : (told : Option Item) (tags : List ℕ) → one_readies (item_of told ++ asked_items tags) ≡ true
    → tells_ready told ≡ true
readies_behind (Some item.Ready) tags is = refl
readies_behind None tags is = absurd (true≢false (sym is ∙ asked_readies tags))
readies_behind (Some item.Answer) tags is = absurd (true≢false (sym is ∙ asked_readies tags))
readies_behind (Some (item.Go n)) tags is = absurd (true≢false (sym is ∙ asked_readies tags))
readies_behind (Some item.Bad) tags is = absurd (true≢false (sym is ∙ asked_readies tags))
readies_behind (Some (item.Command byte first count)) tags is = absurd (true≢false (sym is ∙ asked_readies tags))
readies_behind (Some (item.Asked tag)) tags is = absurd (true≢false (sym is ∙ asked_readies tags))
readies_behind (Some item.Left) tags is = absurd (true≢false (sym is ∙ asked_readies tags))
readies_behind (Some item.Reserved) tags is = absurd (true≢false (sym is ∙ asked_readies tags))
readies_behind (Some item.Forged) tags is = absurd (true≢false (sym is ∙ asked_readies tags))

readies_told : (answers : Bool) (told : Option Item) (tags : List ℕ)
    → one_readies (answer_if answers ++ item_of told ++ asked_items tags) ≡ true → tells_ready told ≡ true
readies_told true told tags is = readies_behind told tags is
readies_told false told tags is = readies_behind told tags is

and_right : (a b : Bool) → (a && b) ≡ true → b ≡ true
and_right true b both = both
and_right false b both = absurd cc

-- an event that keeps each plain drive up to the requests that are due keeps it whole
pub plain_kept : (told : Option (List ℕ)) (sectors : ℕ) (m mid n : Mediator) (p r : Physical) (wire left : Wire)
    (one : Event) (items : List Item) (bytes : List ℕ) (count : ℕ) (note : Option Item) → IsInRange one
    → is_built one ≡ true
    → MonitorEvent wire note (watched_of m) (entry_of one items bytes) (watched_of n)
    → NetworkEvent sectors told wire (entry_of one items bytes) left count → IsMarkedRight one m p items
    → KeepsEvent one wire m p items bytes mid r → (parts_of n).area ≡ (parts_of m).area
    → (parts_of n).id ≡ (parts_of m).id → FitsDrive n (seen r).device
    → ((k : Known) (q : Plain) (lines : List Line) → StandBy k mid r q lines → StandBy k n r q lines)
    → IfTold told (λ image. KeepsPlain image (world_of sectors m p wire) (entry_of one items bytes)
    (world_of sectors n r left))
plain_kept told sectors m mid n p r wire left one items bytes count note range built monitored network marked keeps
    area id fits sent =
    IfTold-weaker told _ _ (λ image stays deployed of k q lines stands.
    let entry = entry_of one items bytes in
    let honest = subst (λ list. IsHonestIfAny list m (delivered one wire)) (sym stands.image_is)
    (delivered_is_honest sectors deployed.image m one wire stands.replies) in
    let later = lines_after one wire (effect_in one p) q items lines in
    let after = plain_after entry q in
    record {
      marks = subst (λ (a : Area). MarksRightly a k.durable entry q) stands.area
          (marks_rightly k m p q lines stands.fits stands.coupled one items bytes (marked q stands.coupled.shows));
      memory = sym stands.coupled.shows.memory_is;
      plain = λ not. let kept = keeps not k q lines honest stands.coupled in
          let stand = sent k after later kept.stand in
          subst (λ (a : Area). IsAsPlain a q lines entry later) stands.area
          (as_plain one wire k m mid p r items bytes q lines note (watched_of m) (watched_of n) range built monitored
          kept later (asked_seldom (state_of mid) (parts_of mid) later kept.stand.requests.once)
          (subst (λ (a : Area). IsReadyInTime a.block (bitmap_sectors_of a) later) area
          (ready_in_time k n (seen r).device r.memory after later stand)));
      stands = λ not. let kept = keeps not k q lines honest stands.coupled in
          record {
            coupled = sent k after later kept.stand;
            area = area ∙ stands.area;
            id = id ∙ stands.id;
            fits = fits;
            watched = refl;
            sectors = stands.sectors;
            image_is = stands.image_is;
            replies = subst (λ (list : List ℕ). HoldsReplies sectors list left) (sym of)
                (stays (subst (λ (list : List ℕ). HoldsReplies sectors list wire) of stands.replies));
          };
      header = λ none told. let kept = keeps none k q lines honest stands.coupled in
          let own = parts_of n in
          let stand = sent k after later kept.stand in
          let readies = readies_told (reads one) note _
          (subst (λ list. one_readies list ≡ true) monitored.items told) in
          subst (λ (number : ℕ). HasHeader deployed.area number r.kept.durable) (id ∙ stands.id)
          (subst (λ (a : Area). HasHeader a own.id r.kept.durable) (area ∙ stands.area)
          (opened_header k (state_of n) own (seen r).device after.device.cells r.kept.durable
          (and_right (not (watched_of m).opened) (is_opened own) (sym monitored.ready ∙ readies)) stand.sectors
          (durable_left r)));
    })
    (replies_stay told sectors wire left (entry_of one items bytes) count network)

-- so does the world that has the monitor
pub kept_in : (image : List ℕ) (sectors : ℕ) (p : Physical) (wire : Wire) (own : Option Mediator) (m : Mediator)
    (entry : Entry) (new : WorldState) → own ≡ Some m → KeepsPlain image (world_of sectors m p wire) entry new
    → KeepsPlain image (record {
      scene = record { drive = p; wire = wire; image = sectors; watched = watched_in own };
      mediator = own;
    }) entry new
kept_in image sectors p wire own m entry new is =
    subst (λ (o : Option Mediator). KeepsPlain image (record {
      scene = record { drive = p; wire = wire; image = sectors; watched = watched_in o };
      mediator = o;
    }) entry new) (sym is)

-- and one without a monitor stands for no plain drive
pub no_stands : (deployed : Deployment) (k : Known) (own : Option Mediator) (scene : Scene) (q : Plain)
    (lines : List Line) → own ≡ None → StandsIn deployed k own scene q lines → ⊥
no_stands deployed k own scene q lines is = subst (λ o. StandsIn deployed k o scene q lines) is

-- a fact for what goes well, and what follows from it
pub on_ok : {T E : Type 0} {P Q : Type 0} (r : Result T E) → (P → Q) → OnOk r P → OnOk r Q
on_ok (Ok x) follows fact = follows fact
on_ok (Err e) follows fact = tt
