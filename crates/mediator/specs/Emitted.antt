-- The items that the mediator's calls give.
use Rattle.std.specs.Prelude.{◌≡◌, List, ◌++◌, Option}
use Rattle.ata_taskfile.specs.Device.{Device}
use Rattle.aoe_client.specs.Asking.{due_tags}
use Rattle.schedule_text.specs.declared.Item.{Item}
use Rattle.streaming.specs.Told.{MayTell}
use Rattle.streaming.specs.Monitor.{asked_items, item_of}
use Rattle.monitor_turn.specs.Turned.{TellsCommand, TellsReady}
use Rattle.mediator.specs.declared.mediator.Mediator.{Mediator}
use Rattle.mediator.specs.Mediator.{client_of, parts_of}

-- what a turn of the mediator gives behind these items: what its own line tells, then the requests that are due (own)
pub record GivesTurn (old new : Mediator) (d e : Device) (before after : List Item) : Type 0 where
  pub told : Option Item
  pub items : after ≡ before ++ (item_of told ++ asked_items (due_tags (client_of new)))
  pub commands : TellsCommand d e told
  pub ready : TellsReady (parts_of old) (parts_of new) told
  pub may : MayTell told
