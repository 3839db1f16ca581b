-- What an access on the monitor's side makes of the plain drive that the guest sees.
use Rattle.std.proofs.Common.{◌≡◌, ℕ, ◌+◌, zero, suc, Bool, true, false, if◌then◌else◌, List, Option, Some, None}
use Rattle.std.proofs.Common.{refl, sym, ap, ◌∙◌, arith}
use Rattle.ata_taskfile.specs.declared.Access.{Access}
use Rattle.ata_taskfile.specs.declared.Kind.TheVariants as kind
use Rattle.ata_taskfile.specs.declared.Request.{Request}
use Rattle.ata_taskfile.specs.declared.Taken.{Taken}
use Rattle.ata_taskfile.specs.declared.Taken.TheVariants.{Good, Bad}
use Rattle.ata_taskfile.specs.declared.Phase.{Phase}
use Rattle.ata_taskfile.specs.declared.Phase.TheVariants.{Reset, Idle, Busy, Ready}
use Rattle.ata_taskfile.specs.Access.{accessed}
use Rattle.ata_taskfile.specs.declared.task_file.TaskFile.{TaskFile}
use Rattle.ata_taskfile.specs.Device.{Device}
use Rattle.ata_taskfile.specs.Lawful.{is_just_taken, position_of}
use Rattle.mon_pool.specs.Region.{Region}
use Rattle.plain_drive.specs.Alike.{after_access, block_matters, without_command}
use Rattle.plain_drive.specs.Plain.{Plain}
use Rattle.port_lease.specs.declared.view.View.{View}
use Rattle.port_lease.specs.Seen.{bus_beside}
use Rattle.guest_view.specs.Seen.{on_monitor_side}
use Rattle.guest_view.specs.View.{takes_command, view_after}
use Rattle.guest_view.proofs.Commands.{others_stay, taken_phase}
use Rattle.fill_bitmap.specs.declared.area.Area.{Area}
use Rattle.io_interpret.specs.declared.class.Class.TheVariants as class
use Rattle.io_interpret.specs.Class.{class_of_kind, reaches_reserved, touches}
use Rattle.redirect.specs.declared.redirect.Redirect.{Redirect}
use Rattle.redirect.specs.Next.{request_of}
use Rattle.redirect.specs.Read.{goes_inward}
use Rattle.schedule_text.specs.declared.Item.TheVariants as item
use Rattle.monitor_state.specs.declared.held.HeldPiece.{HeldPiece}
use Rattle.monitor_state.specs.declared.state.State.{State}
use Rattle.monitor_state.specs.declared.parts.Parts.{Parts}
use Rattle.monitor_state.specs.Classes.{is_refused, is_refused_class}
use Rattle.monitor_state.specs.Hand.{HasInHand, WorksOn}
use Rattle.monitor_state.specs.Pieces.{ends_before, piece_let_go, tidied}
use Rattle.monitor_state.specs.Seen.{Shows, block_offered, block_seen, bus_seen, file_seen, is_refused_in, refuses}
use Rattle.monitor_state.proofs.Shown.{same_refused}
use Rattle.monitor_access.specs.Marks.{mark_over, order_written}
use Rattle.monitor_access.specs.Parts.{KeepsOthers}
use Rattle.monitor_access.proofs.Beside.{accessed_as}
use Rattle.monitor_access.proofs.Commands.{marked}

-- a block waits in Data, or is wanted there
abbrev is_ready : Phase → Bool
is_ready Reset = false
is_ready Idle = false
is_ready (Busy order done) = false
is_ready (Ready order done left) = true

-- the order with which one does
abbrev order_there : Phase → Option Taken
order_there Reset = None
order_there Idle = None
order_there (Busy order done) = None
order_there (Ready order done left) = Some order

-- where one does after an access it did before, with the same order at the same position
same_order : (a : Access) (x : Device) → is_ready (accessed a x).file.phase ≡ true
    → order_there (accessed a x).file.phase ≡ order_there x.file.phase
same_order a x ready = grind arith

same_position : (a : Access) (x : Device) → is_ready (accessed a x).file.phase ≡ true
    → position_of (accessed a x).file.phase ≡ position_of x.file.phase
same_position a x ready = grind arith

same_words : (order : Taken) (done left more : ℕ) (held : Option HeldPiece) (pool : Region)
    → block_offered (Ready order done more) held pool ≡ block_offered (Ready order done left) held pool
same_words order done left more None pool = refl
same_words (Good order) done left more (Some held) pool = refl
same_words (Bad reason) done left more (Some held) pool = refl

-- its words are told by these alone
offered_by : (phase was : Phase) (held : Option HeldPiece) (pool : Region) → is_ready phase ≡ true
    → order_there phase ≡ order_there was → position_of phase ≡ position_of was
    → block_offered was held pool ≡ block_offered phase held pool
offered_by Reset was held pool ready order position = absurd cc
offered_by Idle was held pool ready order position = absurd cc
offered_by (Busy one done) was held pool ready order position = absurd cc
offered_by (Ready one done left) Reset held pool ready order position = absurd cc
offered_by (Ready one done left) Idle held pool ready order position = absurd cc
offered_by (Ready one done left) (Busy other at) held pool ready order position = absurd cc
offered_by (Ready one done left) (Ready other at more) held pool ready order position =
    let order_is : other ≡ one = cc in
    rw (order_is, sym position) (same_words one done left more held pool)

-- nothing is let go while one is offered
offered_tidied : (phase was : Phase) (p : Parts) → is_ready phase ≡ true
    → block_offered was p.held p.pool ≡ block_offered phase p.held p.pool
    → block_offered was p.held p.pool ≡ block_offered phase (tidied phase p).held (tidied phase p).pool
offered_tidied Reset was p ready same = absurd cc
offered_tidied Idle was p ready same = absurd cc
offered_tidied (Busy order done) was p ready same = absurd cc
offered_tidied (Ready order done left) was p ready same = same

-- on the monitor's side a block matters only where one is offered
fresh_matters : (order : Taken) → block_matters (Busy order 0) ≡ false
fresh_matters order = grind arith

inward_matters : (request : Request) (done : ℕ) → goes_inward request.form ≡ true
    → block_matters (Busy (Good request) done) ≡ false
inward_matters request done inward = grind arith

works_matters : (redirect : Option Redirect) (v : View) (p : Parts) (order : Taken) (done : ℕ)
    → WorksOn redirect v p order done → block_matters (Busy order done) ≡ false
works_matters None v p order done works = ap (λ n. block_matters (Busy order n)) works.1 ∙ fresh_matters order
works_matters (Some redirect) v p order done works =
    ap (λ o. block_matters (Busy o done)) works.0 ∙ inward_matters (request_of redirect) done works.1.read.inward

matters_ready : (phase : Phase) (v : View) (p : Parts) → HasInHand phase v p → block_matters phase ≡ true
    → is_ready phase ≡ true
matters_ready Reset v p has matters = absurd cc
matters_ready Idle v p has matters = absurd cc
matters_ready (Busy order done) v p has matters =
    let none = works_matters p.hand.redirect v p order done has in absurd cc
matters_ready (Ready order done left) v p has matters = refl

-- a read that is redirected is none that the monitor refuses
unreserved_served : (reserved redirects : Bool) → reserved ≡ false
    → is_refused_class (if reserved then class.Reserved else (if redirects then class.Redirected else class.Local))
    ≡ false
unreserved_served true redirects is = absurd cc
unreserved_served false true is = refl
unreserved_served false false is = refl

redirected_served : (request : Request) (p : Parts) → request.kind ≡ kind.Read
    → reaches_reserved request p.area ≡ false → is_refused (Good request) p ≡ false
redirected_served request p read unreserved =
    ap (λ k. is_refused_class (class_of_kind k request p.area p.bitmap)) read
    ∙ unreserved_served (reaches_reserved request p.area) (touches request p.area p.bitmap) unreserved

-- a command behind its start is redirected
works_served : (redirect : Option Redirect) (v : View) (p : Parts) (order : Taken) (done : ℕ)
    → WorksOn redirect v p order (suc done) → is_refused order p ≡ false
works_served None v p order done works = let start = works.1 in absurd cc
works_served (Some redirect) v p order done works =
    ap (λ o. is_refused o p) works.0
    ∙ redirected_served (request_of redirect) p works.1.read.kind works.1.unreserved

-- after an access that takes no command none is refused where none was
others_served : (phase was : Phase) (v : View) (p : Parts) → HasInHand phase v p
    → (is_just_taken phase ≡ true → phase ≡ was) → is_refused_in was p ≡ false → is_refused_in phase p ≡ false
others_served Reset was v p has stays served = refl
others_served Idle was v p has stays served = refl
others_served (Busy order zero) was v p has stays served = ap (λ f. is_refused_in f p) (stays refl) ∙ served
others_served (Busy order (suc done)) was v p has stays served = works_served p.hand.redirect v p order done has
others_served (Ready order done left) was v p has stays served = refl

-- an order without a mark isn't refused
unmarked_served : (refused : Bool) → (if refused then Some item.Reserved else None) ≡ None → refused ≡ false
unmarked_served true none = absurd cc
unmarked_served false none = refl

-- what is let go is of the hand alone
go_others : (ends : Bool) (p : Parts) → KeepsOthers p (if ends then piece_let_go p else p)
go_others true p = refl
go_others false p = refl

pub left_others : (phase : Phase) (p : Parts) → KeepsOthers p (tidied phase p)
left_others Reset p = refl
left_others Idle p = refl
left_others (Busy (Good order) done) p = go_others (ends_before (order.first + done) p.held) p
left_others (Busy (Bad reason) done) p = refl
left_others (Ready order done left) p = refl

left_area : (phase : Phase) (p : Parts) → (tidied phase p).area ≡ p.area
left_area phase p = ap (λ (r : Parts). r.area) (left_others phase p)

left_bitmap : (phase : Phase) (p : Parts) → (tidied phase p).bitmap ≡ p.bitmap
left_bitmap phase p = ap (λ (r : Parts). r.bitmap) (left_others phase p)

-- on the monitor's side the guest sees a view
pub record HasView (s : State) (v : View) (p : Parts) (d : Device) : Type 0 where
  pub file : file_seen s d ≡ v.file
  pub bus : bus_seen s d ≡ bus_beside v.bus d.bus
  pub block : block_seen s p d ≡ block_offered v.file.phase p.held p.pool
  pub refused : refuses s p ≡ is_refused_in v.file.phase p

module _ (a : Access) (s t : State) (v w : View) (p : Parts) (d e : Device) (before : HasView s v p d)
    (behind : HasView t w (tidied w.file.phase p) e) (view : w ≡ view_after a p.area.sectors v)
    (seen : (g : Device) → g.sectors ≡ p.area.sectors
    → accessed a (on_monitor_side v d g) ≡ on_monitor_side w e g)
    (in_hand : HasInHand w.file.phase w (tidied w.file.phase p)) where
  abbrev phase : Phase
  phase = w.file.phase

  abbrev left : Parts
  left = tidied phase p

  served_taken : (takes : Bool) → takes_command a v.file ≡ takes → mark_over v.file p a ≡ None
      → is_refused_in v.file.phase p ≡ false → is_refused_in phase left ≡ false
  served_taken true takes none served =
      let order = order_written a v.file p.area.sectors in
      ap (λ f. is_refused_in f left) (ap (λ (u : View). u.file.phase) view ∙ taken_phase a p.area.sectors v takes)
      ∙ same_refused (Busy order 0) p left (left_area phase p) (left_bitmap phase p)
      ∙ unmarked_served (is_refused order p) (sym (marked v.file p a takes) ∙ none)
  served_taken false takes none served =
      others_served phase v.file.phase w left in_hand
      (λ fresh. ap (λ (u : View). u.file.phase) view
      ∙ others_stay a p.area.sectors v takes (ap (λ (u : View). is_just_taken u.file.phase) (sym view) ∙ fresh))
      (same_refused v.file.phase p left (left_area phase p) (left_bitmap phase p) ∙ served)

  -- an access without a mark leads a plain drive that the guest sees to the one that it sees afterwards
  pub viewed_shown : (memory : List ℕ) (q : Plain) → Shows s p d memory q → mark_over v.file p a ≡ None
      → Shows t left e memory (after_access a q)
  viewed_shown memory q shows none =
      let g : Device = record q.device { block = block_offered v.file.phase p.held p.pool } in
      let is = seen g shows.sectors in
      accessed_as (on_monitor_side v d g) q (shows.file ∙ ap without_command before.file)
      (shows.bus ∙ before.bus)
      (λ matters. shows.block (ap (λ (f : TaskFile). block_matters f.phase) before.file ∙ matters) ∙ before.block)
      refl a (on_monitor_side w e g) t left e memory is (sym behind.file) (sym behind.bus)
      (λ matters.
      let ready = matters_ready phase w left in_hand matters in
      let there : is_ready (accessed a (on_monitor_side v d g)).file.phase ≡ true
      = ap (λ (x : Device). is_ready x.file.phase) is ∙ ready in
      let order : order_there phase ≡ order_there v.file.phase
      = ap (λ (x : Device). order_there x.file.phase) (sym is) ∙ same_order a (on_monitor_side v d g) there in
      let position : position_of phase ≡ position_of v.file.phase
      = ap (λ (x : Device). position_of x.file.phase) (sym is) ∙ same_position a (on_monitor_side v d g) there in
      offered_tidied phase v.file.phase p ready (offered_by phase v.file.phase p.held p.pool ready order position)
      ∙ sym behind.block)
      (shows.sectors ∙ ap (λ (r : Area). r.sectors) (sym (left_area phase p)))
      (behind.refused ∙ served_taken (takes_command a v.file) refl none (sym before.refused ∙ shows.served))
      shows.memory_is
