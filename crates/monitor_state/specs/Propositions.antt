-- What fits has one proof at most, so a ghost field may say it.
use Rattle.std.specs.Prelude.{ℕ, ◌≡◌, ◌⊎◌, ◌==◌, true, false, List, [], ◌∷◌, Option, Some, None}
use Rattle.std.proofs.Common.{inl, inr, refl, sym, ap, ◌∙◌}
use Rattle.std.proofs.lemmas.Bool.{true≢false}
use Rattle.std.proofs.Props.{props}
use Rattle.ata_taskfile.specs.declared.Taken.{Taken}
use Rattle.ata_taskfile.specs.declared.Taken.TheVariants.{Good, Bad}
use Rattle.ata_taskfile.specs.declared.Phase.{Phase}
use Rattle.ata_taskfile.specs.declared.Phase.TheVariants.{Reset, Idle, Busy, Ready}
use Rattle.ata_taskfile.specs.Device.{Device}
use Rattle.fill_bitmap.specs.Area.{IsBlock}
use Rattle.mon_pool.specs.Region.{Held, Region, AreOf, given}
use Rattle.port_lease.specs.declared.view.View.{View}
use Rattle.own_pio.specs.declared.own.Own.{Own}
use Rattle.own_pio.specs.Own.{done_of, job_of}
use Rattle.own_pio.specs.Running.{IsRunning-prop}
use Rattle.dummy_read.specs.Flight.{IsInFlight-prop}
use Rattle.guest_view.specs.Fits.{FitsView}
use Rattle.redirect.specs.declared.redirect.Redirect.{Redirect}
use Rattle.monitor_state.specs.declared.state.State.{State}
use Rattle.monitor_state.specs.declared.state.State.TheVariants.{Guest, Monitor, Running, Raising, Moving}
use Rattle.monitor_state.specs.declared.state.Purpose.{Purpose}
use Rattle.monitor_state.specs.declared.state.Purpose.TheVariants as purpose
use Rattle.monitor_state.specs.declared.state.Plan.{Plan}
use Rattle.monitor_state.specs.declared.state.Plan.TheVariants as plan
use Rattle.monitor_state.specs.declared.parts.Parts.{Parts}
use Rattle.monitor_state.specs.Hand.{HasInHand, Serves, WorksOn}
use Rattle.monitor_state.specs.Drive.{RestsIn}
use Rattle.monitor_state.specs.Fits.{Fits, FitsArea, FitsDevice, FitsParts, FitsPlan, FitsPurpose, FitsState, IsBetweenEvents, ReadsIn}

-- leases are of a pool
AreOf-prop : (leases : List Held) (pool : Region) → IsProp (AreOf leases pool)
AreOf-prop [] pool = hlevel props
AreOf-prop (lease ∷ leases) pool =
    let rest = AreOf-prop leases (given lease pool) in hlevel (props, rest)

-- how a drive stands
RestsIn-prop : (phase : Phase) (v : View) (d : Device) → IsProp (RestsIn phase v d)
RestsIn-prop Reset v d = hlevel props
RestsIn-prop Idle v d = hlevel props
RestsIn-prop (Busy order done) v d = hlevel props
RestsIn-prop (Ready order done left) v d = hlevel props

-- a view
FitsView-prop : (v : View) (sectors : ℕ) → IsProp (FitsView v sectors)
FitsView-prop v sectors = hlevel props

-- an order in hand
WorksOn-prop : (redirect : Option Redirect) (v : View) (p : Parts) (order : Taken) (done : ℕ)
    → IsProp (WorksOn redirect v p order done)
WorksOn-prop None v p order done = hlevel props
WorksOn-prop (Some redirect) v p order done = hlevel props

-- a block that is offered
Serves-prop : (redirect : Option Redirect) (p : Parts) (order : Taken) (done : ℕ)
    → IsProp (Serves redirect p order done)
Serves-prop None p order done = hlevel props
Serves-prop (Some redirect) p order done = hlevel props

-- what is in hand
HasInHand-prop : (phase : Phase) (v : View) (p : Parts) → IsProp (HasInHand phase v p)
HasInHand-prop Reset v p = hlevel props
HasInHand-prop Idle v p = hlevel props
HasInHand-prop (Busy order done) v p = hlevel (props, WorksOn-prop)
HasInHand-prop (Ready order done left) v p = hlevel (props, Serves-prop)

-- an own read
ReadsIn-prop : (phase : Phase) (own : Own) (first count : ℕ) (v : View) (p : Parts)
    → IsProp (ReadsIn phase own first count v p)
ReadsIn-prop Reset own first count v p = hlevel props
ReadsIn-prop Idle own first count v p = hlevel props
ReadsIn-prop (Busy order done) own first count v p = hlevel props
ReadsIn-prop (Ready order done left) own first count v p = hlevel props

-- a purpose
FitsPurpose-prop : (why : Purpose) (own : Own) (v : View) (p : Parts)
    → IsProp (FitsPurpose why own v p)
FitsPurpose-prop purpose.Opening own v p = hlevel props
FitsPurpose-prop (purpose.Piece first count lease) own v p = hlevel (props, ReadsIn-prop)

-- a plan
FitsPlan-prop : (planned : Plan) (phase : Phase) (p : Parts) → IsProp (FitsPlan planned phase p)
FitsPlan-prop plan.Serve (Busy (Good request) done) p = hlevel props
FitsPlan-prop plan.End (Busy (Good request) done) p = hlevel props
FitsPlan-prop plan.Fail (Busy (Good request) done) p = hlevel props
FitsPlan-prop plan.Serve (Busy (Bad reason) done) p = hlevel props
FitsPlan-prop plan.End (Busy (Bad reason) done) p = hlevel props
FitsPlan-prop plan.Fail (Busy (Bad reason) done) p = hlevel props
FitsPlan-prop plan.Reserved (Busy order done) p = hlevel props
FitsPlan-prop plan.Serve Reset p = hlevel props
FitsPlan-prop plan.End Reset p = hlevel props
FitsPlan-prop plan.Fail Reset p = hlevel props
FitsPlan-prop plan.Reserved Reset p = hlevel props
FitsPlan-prop plan.Serve Idle p = hlevel props
FitsPlan-prop plan.End Idle p = hlevel props
FitsPlan-prop plan.Fail Idle p = hlevel props
FitsPlan-prop plan.Reserved Idle p = hlevel props
FitsPlan-prop plan.Serve (Ready order done left) p = hlevel props
FitsPlan-prop plan.End (Ready order done left) p = hlevel props
FitsPlan-prop plan.Fail (Ready order done left) p = hlevel props
FitsPlan-prop plan.Reserved (Ready order done left) p = hlevel props

-- a state
FitsState-prop : (s : State) (p : Parts) → IsProp (FitsState s p)
FitsState-prop (Guest side) p = hlevel props
FitsState-prop (Monitor side) p = hlevel (props, FitsView-prop, HasInHand-prop)
FitsState-prop (Running side own why) p =
    hlevel (props, FitsView-prop, HasInHand-prop, FitsPurpose-prop)
FitsState-prop (Raising side dummy planned) p =
    hlevel (props, FitsView-prop, HasInHand-prop, FitsPlan-prop)
FitsState-prop Moving p = hlevel props

-- one of two that exclude each other
either_prop : {A B : Type 0} → IsProp A → IsProp B → (A → B → ⊥) → IsProp (A ⊎ B)
either_prop one other apart (inl x) (inl y) = ap inl (one x y)
either_prop one other apart (inl x) (inr y) = absurd (apart x y)
either_prop one other apart (inr x) (inl y) = absurd (apart y x)
either_prop one other apart (inr x) (inr y) = ap inr (other x y)

-- a number isn't two others
apart : (m n b : ℕ) → (m == m) ≡ true → (m == n) ≡ false → b ≡ m → b ≡ n → ⊥
apart m n b same other x y = true≢false (sym same ∙ ap (λ k. m == k) (sym x ∙ y) ∙ other)

-- the length of a block
IsBlock-prop : (b : ℕ) → IsProp (IsBlock b)
IsBlock-prop b = either_prop (hlevel props)
    (either_prop (hlevel props)
    (either_prop (hlevel props) (hlevel props) (apart 32 64 b refl refl))
    (λ x. elim [ inl y ↦ apart 16 32 b refl refl x y | inr y ↦ apart 16 64 b refl refl x y ]))
    (λ x. elim [
      | inl y ↦ apart 8 16 b refl refl x y
      | inr (inl y) ↦ apart 8 32 b refl refl x y
      | inr (inr y) ↦ apart 8 64 b refl refl x y
    ])

-- the area's parts
FitsArea-prop : (p : Parts) → IsProp (FitsArea p)
FitsArea-prop p = hlevel (props, IsBlock-prop)

-- state and parts
pub FitsParts-prop : (s : State) (p : Parts) → IsProp (FitsParts s p)
FitsParts-prop s p = hlevel (props, FitsArea-prop, AreOf-prop, FitsState-prop)

-- the drive
pub FitsDevice-prop : (s : State) (p : Parts) (d : Device) → IsProp (FitsDevice s p d)
FitsDevice-prop (Guest side) p d = hlevel props
FitsDevice-prop (Monitor side) p d = hlevel (props, RestsIn-prop)
FitsDevice-prop (Running side own why) p d = IsRunning-prop (job_of own) (done_of own) d
FitsDevice-prop (Raising side dummy planned) p d = hlevel (props, IsInFlight-prop)
FitsDevice-prop Moving p d = hlevel props

-- all of them
pub Fits-prop : (s : State) (p : Parts) (d : Device) → IsProp (Fits s p d)
Fits-prop s p d = hlevel (props, FitsParts-prop, FitsDevice-prop)

-- and how they are between two events
pub IsBetweenEvents-prop : (s : State) (d : Device) → IsProp (IsBetweenEvents s d)
IsBetweenEvents-prop (Guest side) d = hlevel props
IsBetweenEvents-prop (Monitor side) d = hlevel props
IsBetweenEvents-prop (Running side own why) d = hlevel props
IsBetweenEvents-prop (Raising side dummy planned) d = hlevel props
IsBetweenEvents-prop Moving d = hlevel props
