-- What the server answers, as an event of the network, and an event of drive and network together.
use Rattle.std.proofs.Common.{◌≡◌, ℕ, List, Option, Some, None, Result, refl, sym, ap, ◌∙◌, subst, option_map}
use Rattle.bm_host.specs.Outside.{Outside}
use Rattle.bm_host.specs.declared.Role.TheVariants.{Image}
use Rattle.aoe_frame.specs.declared.message.Aoe.{Aoe}
use Rattle.aoe_frame.specs.declared.message.FrameFault.{FrameFault}
use Rattle.aoe_frame.specs.Layout.{frame_of}
use Rattle.aoe_frame.specs.Reading.{IsReading}
use Rattle.aoe_net.specs.Wire.{Wire}
use Rattle.image_server.specs.Reply.{reply}
use Rattle.image_server.specs.Serving.{IsReply, LooksAtSent, OverImage}
use Rattle.plain_run.specs.Entry.{Entry}
use Rattle.plain_run.specs.Run.{DriveEvent}
use Rattle.streaming.specs.Network.{handed_to_server, reply_sent, requests_sent, taken_out}
use Rattle.streaming.specs.World.{IsActed, Scene, WorldEvent}
use Rattle.streaming.proofs.Requests.{drive_asks_none}
use Rattle.world.specs.Conveying.{Conveys}

-- an answer that replies to a frame is that to one reading of it, over the image
record Replies (sectors : ℕ) (told : Option (List ℕ)) (frame : List ℕ) (answer : Option (List ℕ)) : Type 0 where
  reading : Result Aoe FrameFault
  reads : IsReading frame reading
  over : OverImage sectors told (λ image. answer ≡ option_map frame_of (reply sectors image reading))

replies : (sectors : ℕ) (told : Option (List ℕ)) (frame : List ℕ) (answer : Option (List ℕ))
    → OverImage sectors told (λ image. IsReply sectors image frame answer) → Replies sectors told frame answer
replies sectors None frame answer over = record {
  reading = over.2.reading;
  reads = over.2.reads;
  over = (over.0, over.1, over.2.written);
}
replies sectors (Some image) frame answer over = record {
  reading = over.reading;
  reads = over.reads;
  over = over.written;
}

-- a frame that is served, whose reply joins the network
pub answered : (sectors : ℕ) (outside after : Outside) (frame : List ℕ) (answer : Option (List ℕ)) (old new : Wire)
    → OverImage sectors (outside.told Image) (λ image. IsReply sectors image frame answer)
    → LooksAtSent sectors frame outside after → new ≡ reply_sent answer old
    → Conveys sectors outside after (Some frame) old new
answered sectors outside after frame answer old new over looks joined =
    let one = replies sectors (outside.told Image) frame answer over in
    record {
      answer = answer;
      count = _;
      serves = record { reading = one.reading; reads = one.reads; replies = one.over; counts = refl };
      joined = joined;
      looked = looks one.reading one.reads;
    }

-- an event of the drive, and of the network, is one of both where there is no monitor: the drive asks for nothing
pub both : (outside after : Outside) (old : Scene) (entry : Entry) (new : Scene)
    → old.watched ≡ None → new.watched ≡ None → DriveEvent old.drive entry new.drive
    → Conveys old.image outside after (handed_to_server entry.event old.wire) (taken_out entry.event old.wire) new.wire
    → new.image ≡ old.image → WorldEvent outside after old entry new
both outside after old entry new none still drive conveys image = record {
  count = conveys.count;
  scene = record {
    acted = subst (λ w. IsActed old.wire old.drive new.drive w entry new.watched) (sym none)
        (subst (λ w. IsActed old.wire old.drive new.drive None entry w) (sym still) drive);
    network = record {
      answer = conveys.answer;
      serves = conveys.serves;
      after = conveys.joined ∙ ap (λ frames. requests_sent frames
          (reply_sent conveys.answer (taken_out entry.event old.wire)))
          (sym (drive_asks_none old.drive new.drive entry drive));
    };
    image = image;
  };
  looked = conveys.looked;
}
