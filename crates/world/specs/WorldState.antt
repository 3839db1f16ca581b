-- What contracts see of a world.
use Rattle.std.specs.Prelude.{Option}
use Rattle.streaming.specs.World.{Scene}
use Rattle.mediator.specs.declared.mediator.Mediator.{Mediator}

-- its scene, and the monitor itself, where there is one
pub record WorldState : Type 0 where
  pub scene : Scene
  pub mediator : Option Mediator
