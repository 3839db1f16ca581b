-- A frame that was heard: the client asks for what it asked for, and one that it took is marked where it was injected.
use Rattle.std.proofs.Common.{◌≡◌, ℕ, Bool, true, false, List, Some, refl, sym, subst}
use Rattle.std.specs.Prelude.{◌↔◌}
use Rattle.aoe_client.specs.declared.client.Heard.{Heard}
use Rattle.aoe_client.specs.declared.client.Heard.TheVariants.{Took, Ignored}
use Rattle.aoe_client.specs.Asking.{Asking, heard}
use Rattle.mon_pool.specs.Region.{Region}
use Rattle.monitor_state.specs.declared.parts.Parts.{Parts}
use Rattle.monitor_state.specs.SameAsks.{BothAskTheSame, HaveSameAsks}
use Rattle.schedule_text.specs.declared.Item.TheVariants.{Forged}
use Rattle.streaming.specs.Client.{TakesFor, TakesFrame}
use Rattle.monitor_events.specs.Hearing.{mark_of}

-- of the parts in which the client heard a frame, client and pool alone changed
pub heard_asks : (p : Parts) (what : Heard) (c : Asking) (pool : Region) → BothAskTheSame p.client (heard what p.client)
    → c ≡ heard what p.client → pool ≡ record p.pool { block = pool.block }
    → HaveSameAsks p (record p { client = c; pool = pool })
heard_asks p what c pool same is only =
    record { asks = subst (BothAskTheSame p.client) (sym is) same; pool = only; others = refl }

-- the mark stands exactly where the frame was injected and taken
pub marked : (what : Heard) (injected : Bool) (frame : List ℕ) (c : Asking)
    → ((tag : ℕ) → (what ≡ Took tag) ↔ TakesFor tag frame c)
    → (mark_of what injected ≡ Some Forged) ↔ ((injected ≡ true) × TakesFrame frame c)
marked (Took tag) true frame c took = (λ is. (refl, (tag, (took tag).0 refl)), λ forged. refl)
marked (Took tag) false frame c took = (λ is. cc, λ forged. cc)
marked Ignored injected frame c took = (
  λ is. cc,
  λ forged. let none = (took forged.1.0).1 forged.1.1 in cc,
)
