-- Inner: what an event does to the network, where no monitor asks for anything.
use Rattle.std.specs.Prelude.{ℕ, ◌≡◌, ◌<◌, List, Option, Some, Result}
use Rattle.bm_host.specs.Outside.{Outside}
use Rattle.bm_host.specs.declared.Role.TheVariants.{Image}
use Rattle.aoe_frame.specs.declared.message.Aoe.{Aoe}
use Rattle.aoe_frame.specs.declared.message.FrameFault.{FrameFault}
use Rattle.aoe_frame.specs.Reading.{IsReading}
use Rattle.aoe_net.specs.Wire.{Wire}
use Rattle.image_server.specs.Reply.{sectors_sent}
use Rattle.image_server.specs.Serving.{LooksAtMost}
use Rattle.streaming.specs.Network.{Serves, reply_sent}

-- the frame that the server is handed is served, if any, and its reply joins those that are left
pub record Conveys (sectors : ℕ) (outside after : Outside) (handed : Option (List ℕ))
    (left new : Wire) : Type 0 where
  pub answer : Option (List ℕ)
  pub count : ℕ
  pub serves : Serves sectors (outside.told Image) handed answer count
  pub joined : new ≡ reply_sent answer left
  pub looked : LooksAtMost count outside after

-- sectors of the image go into the reply to the frame that the server is handed
pub record NeedsSectors (sectors : ℕ) (given : Option (List ℕ)) : Type 0 where
  pub frame : List ℕ
  pub reading : Result Aoe FrameFault
  pub handed : given ≡ Some frame
  pub reads : IsReading frame reading
  pub some : 0 < sectors_sent sectors reading
