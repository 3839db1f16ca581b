-- The answer to an ATA argument over an image, and what a served frame was read as.
use Rattle.std.proofs.Common.{◌≡◌, ℕ, ◌+◌, ◌*◌, ◌≤◌, ◌<◌, List, length, Option, Result, Ok, Err, IfOk, OnErr, option_map, arith, sym, ap, ◌∙◌, subst}
use Rattle.image_server.specs.declared.reply.TheConstants.{GOOD_STATUS, NO_ERROR}
use Rattle.ata_taskfile.specs.declared.registers.TheConstants.{SECTOR_BYTES}
use Rattle.std.proofs.lemmas.Bool.Decides.{nat_tests}
use Rattle.bm_host.specs.Outside.{IfTold, bytes_at}
use Rattle.aoe_frame.specs.declared.message.AtaPart.{AtaPart}
use Rattle.aoe_frame.specs.declared.message.Aoe.{Aoe}
use Rattle.aoe_frame.specs.declared.message.FrameFault.{FrameFault}
use Rattle.aoe_frame.specs.Layout.{frame_of}
use Rattle.aoe_frame.specs.Reading.{IsReading}
use Rattle.aoe_frame.proofs.Readings.{one_reading}
use Rattle.image_server.specs.declared.request.Asked.{Asked}
use Rattle.image_server.specs.declared.request.Asked.TheVariants.{Sectors}
use Rattle.image_server.specs.Request.{asked_in}
use Rattle.image_server.specs.Reply.{answered, ata_answer, reply, sectors_sent}
use Rattle.image_server.specs.Serving.{HasSectors, IsReply, OverImage}
use Rattle.image_server.proofs.Images.{over_any, over_map, over_bytes}

asked_sectors : (sectors : ℕ) (a : AtaPart) → asked_in sectors a ≡ Sectors → a.lba + a.count ≤ sectors
asked_sectors sectors a e = grind (arith, nat_tests)

-- an answer without sectors
pub answer_plain : (sectors : ℕ) (told : Option (List ℕ)) (a r : AtaPart) (kind : Asked) → asked_in sectors a ≡ kind
    → ((image : List ℕ) → r ≡ ata_answer kind sectors image a)
    → OverImage sectors told (λ image. r ≡ ata_answer (asked_in sectors a) sectors image a)
answer_plain sectors told a r kind asked is =
    over_any sectors told (λ image. r ≡ ata_answer (asked_in sectors a) sectors image a)
    (λ image. is image ∙ ap (λ k. ata_answer k sectors image a) (sym asked))

-- an answer with sectors
pub answer_sectors : (sectors : ℕ) (told : Option (List ℕ)) (a r : AtaPart) (body : List ℕ)
    → asked_in sectors a ≡ Sectors
    → r ≡ answered a NO_ERROR GOOD_STATUS body → length body ≡ SECTOR_BYTES * a.count
    → IfTold told (λ image. body ≡ bytes_at (SECTOR_BYTES * a.lba) (SECTOR_BYTES * a.count) image)
    → OverImage sectors told (λ image. r ≡ ata_answer (asked_in sectors a) sectors image a)
answer_sectors sectors told a r body asked is many read =
    let inside = asked_sectors sectors a asked in
    over_map sectors told
    (λ image. r ≡ answered a NO_ERROR GOOD_STATUS (bytes_at (SECTOR_BYTES * a.lba) (SECTOR_BYTES * a.count) image))
    (λ image. r ≡ ata_answer (asked_in sectors a) sectors image a)
    (λ image e. e ∙ ap (λ k. ata_answer k sectors image a) (sym asked))
    (over_bytes sectors (SECTOR_BYTES * a.lba) (SECTOR_BYTES * a.count) told body
    (λ bytes. r ≡ answered a NO_ERROR GOOD_STATUS bytes)
    (omega arith) many read is)

-- what is answered to a reading of a frame is answered to the frame
pub answer_read : (sectors : ℕ) (told : Option (List ℕ)) (frame : List ℕ) (read : Result Aoe FrameFault)
    (answer : Option (List ℕ))
    → IsReading frame read
    → OverImage sectors told (λ image. answer ≡ option_map frame_of (reply sectors image read))
    → OverImage sectors told (λ image. IsReply sectors image frame answer)
answer_read sectors told frame read answer is over =
    over_map sectors told (λ image. answer ≡ option_map frame_of (reply sectors image read))
    (λ image. IsReply sectors image frame answer)
    (λ image e. record { reading = read; reads = is; written = e })
    over

pub answer_result : {E : Type 0} (sectors : ℕ) (told : Option (List ℕ)) (frame : List ℕ) (read : Result Aoe FrameFault)
    (result : Result (Option (List ℕ)) E)
    → IsReading frame read
    → IfOk result (λ answer. OverImage sectors told (λ image. answer ≡ option_map frame_of (reply sectors image read)))
    → IfOk result (λ answer. OverImage sectors told (λ image. IsReply sectors image frame answer))
answer_result sectors told frame read (Ok answer) is over = answer_read sectors told frame read answer is over
answer_result sectors told frame read (Err e) is over = tt

-- what holds of the sectors sent to the one reading of a frame
pub sent_read : (sectors : ℕ) (frame : List ℕ) (read : Result Aoe FrameFault) (P : ℕ → Type 0) → IsReading frame read
    → P (sectors_sent sectors read)
    → (r : Result Aoe FrameFault) → IsReading frame r → P (sectors_sent sectors r)
sent_read sectors frame read P is holds r other = subst (λ x. P (sectors_sent sectors x))
    (one_reading frame read r is other) holds

pub needed_result : {T E : Type 0} (sectors : ℕ) (frame : List ℕ) (read : Result Aoe FrameFault) (result : Result T E)
    → IsReading frame read
    → OnErr result (0 < sectors_sent sectors read) → OnErr result (HasSectors sectors frame)
needed_result sectors frame read (Ok answer) is needed = tt
needed_result sectors frame read (Err e) is needed = sent_read sectors frame read (λ n. 0 < n) is needed
