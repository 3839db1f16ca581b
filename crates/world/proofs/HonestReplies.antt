-- The replies of an image's server are honest to each monitor of that image.
use Rattle.std.proofs.Common.{◌≡◌, ℕ, ◌+◌, ◌*◌, ◌≤◌, ◌++◌, false, List, [], take, drop, Option, Some, None, refl, sym, ap, ◌∙◌, subst, arith}
use Rattle.std.specs.Prelude.{All, slice_get}
use Rattle.std.proofs.Math.Seq.{take-add}
use Rattle.std.proofs.lemmas.List.{drop-drop}
use Rattle.std.proofs.lemmas.Option.{get_or_from_slice_get, slice_get_within}
use Rattle.bm_host.specs.Outside.{bytes_at}
use Rattle.aoe_client.proofs.ServerReplies.{honest_sectors}
use Rattle.aoe_net.specs.declared.way.Way.TheVariants.{ToClient, ToServer}
use Rattle.aoe_net.specs.Wire.{Wire}
use Rattle.fill_bitmap.specs.Disk.{sector_at}
use Rattle.image_server.specs.Serving.{IsReply}
use Rattle.plain_drive.specs.Plain.{sectors_in}
use Rattle.plain_drive.proofs.Sectors.{sector_of_bytes}
use Rattle.schedule_text.specs.declared.Event.{Event}
use Rattle.schedule_text.specs.declared.Event.TheVariants as event
use Rattle.streaming.specs.Lists.{HoldsReplies}
use Rattle.monitor_state.specs.Buffered.{image_part}
use Rattle.mediator.specs.declared.mediator.Mediator.{Mediator}
use Rattle.mediator.specs.Couples.{IsHonestTo}
use Rattle.world.specs.Acting.{delivered}
use Rattle.world.specs.Keeping.{IsHonestIfAny}

-- the two sectors of a tag are the image's bytes at its place
part_of_bytes : (sectors tag : ℕ) (image : List ℕ) → 2 * tag + 2 ≤ sectors
    → image_part (sectors_in sectors image) tag ≡ bytes_at (1024 * tag) 1024 image
part_of_bytes sectors tag image within =
    let first : 512 * (2 * tag) ≡ 1024 * tag = omega arith in
    let second : 512 * (2 * tag + 1) ≡ 1024 * tag + 512 = omega arith in
    ap (λ x. x ++ sector_at (2 * tag + 1) (sectors_in sectors image))
    (sector_of_bytes sectors (2 * tag) image (omega (arith, within)) ∙ ap (λ place. take 512 (drop place image)) first)
    ∙ ap (λ x. take 512 (drop (1024 * tag) image) ++ x)
    (sector_of_bytes sectors (2 * tag + 1) image (omega (arith, within))
    ∙ ap (λ place. take 512 (drop place image)) second
    ∙ ap (λ rest. take 512 rest) (sym (drop-drop 512 (1024 * tag) image)))
    ∙ sym (take-add 512 512 (drop (1024 * tag) image))

module _ (sectors : ℕ) (image : List ℕ) (m : Mediator) where
  is_honest : (request frame : List ℕ) → IsReply sectors image request (Some frame)
      → IsHonestTo (sectors_in sectors image) m frame false
  is_honest request frame reply tag takes =
      let part = honest_sectors sectors image tag request frame reply takes.0 in
      (refl, part_of_bytes sectors tag image part.0 ∙ sym part.1)

  picked_is_honest : (frames : List (List ℕ)) (k : ℕ) (picked : Option (List ℕ)) → slice_get frames k ≡ picked
      → All (λ frame. (request : List ℕ) × IsReply sectors image request (Some frame)) frames
      → IsHonestIfAny (sectors_in sectors image) m picked
  picked_is_honest frames k None is replies = tt
  picked_is_honest frames k (Some frame) is replies =
      let one = subst (λ x. (request : List ℕ) × IsReply sectors image request (Some x))
      (get_or_from_slice_get frames k frame [] is) (replies k [] (slice_get_within frames k frame is)) in
      is_honest one.0 frame one.1

  -- a reply that is delivered is honest
  pub delivered_is_honest : (one : Event) (wire : Wire) → HoldsReplies sectors image wire
      → IsHonestIfAny (sectors_in sectors image) m (delivered one wire)
  delivered_is_honest (event.Deliver ToClient k keep) wire replies =
      picked_is_honest wire.to_client k (slice_get wire.to_client k) refl replies
  delivered_is_honest (event.Deliver ToServer k keep) wire replies = tt
  delivered_is_honest (event.Read8 reg) wire replies = tt
  delivered_is_honest (event.Write8 reg v) wire replies = tt
  delivered_is_honest (event.ReadWords n) wire replies = tt
  delivered_is_honest (event.WriteWords bytes) wire replies = tt
  delivered_is_honest event.ReadPointer wire replies = tt
  delivered_is_honest (event.WritePointer v) wire replies = tt
  delivered_is_honest (event.ReadMemory address n) wire replies = tt
  delivered_is_honest (event.WriteMemory address bytes) wire replies = tt
  delivered_is_honest event.Line wire replies = tt
  delivered_is_honest (event.Lose way k) wire replies = tt
  delivered_is_honest (event.Stray way frame) wire replies = tt
  delivered_is_honest (event.Drive k) wire replies = tt
  delivered_is_honest (event.Destage k) wire replies = tt
  delivered_is_honest event.Turn wire replies = tt
  delivered_is_honest event.Tick wire replies = tt
  delivered_is_honest event.Cut wire replies = tt
  delivered_is_honest event.Remark wire replies = tt
  delivered_is_honest event.End wire replies = tt
