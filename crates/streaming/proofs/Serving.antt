-- What the server makes of what it is handed.
use Rattle.std.proofs.Common.{◌≡◌, ℕ, ◌≤◌, List, Option, Some, None, Result, Ok, Err, option_map, arith, sym, ap, ◌∙◌}
use Rattle.std.specs.Prelude.{Bool, true, false, if◌then◌else◌}
use Rattle.std.proofs.lemmas.Bool.Decides.{nat_tests}
use Rattle.aoe_frame.specs.declared.message.AtaPart.{AtaPart}
use Rattle.aoe_frame.specs.declared.message.Argument.{Argument}
use Rattle.aoe_frame.specs.declared.message.Argument.TheVariants.{Ata, Config, Other}
use Rattle.aoe_frame.specs.declared.message.Aoe.{Aoe}
use Rattle.aoe_frame.specs.declared.message.FrameFault.{FrameFault}
use Rattle.aoe_frame.specs.declared.message.FrameFault.TheVariants.{Short, NotAoe, Version}
use Rattle.aoe_frame.specs.Layout.{frame_of}
use Rattle.aoe_frame.proofs.Readings.{one_reading}
use Rattle.image_server.specs.declared.reply.TheConstants.{MOST_SECTORS}
use Rattle.image_server.specs.Request.{asked_in, is_heard}
use Rattle.image_server.specs.Reply.{reply, sectors_answered, sectors_replied, sectors_sent}
use Rattle.image_server.specs.Serving.{IsReply}
use Rattle.streaming.specs.Network.{IsServed, Serves}

-- what is handed over is served in one way
pub served_once : (sectors : ℕ) (image : List ℕ) (handed one other : Option (List ℕ)) (m n : ℕ)
    → Serves sectors (Some image) handed one m → Serves sectors (Some image) handed other n
    → (one ≡ other) × (m ≡ n)
served_once sectors image None one other m n serves also = (serves.0 ∙ sym also.0, serves.1 ∙ sym also.1)
served_once sectors image (Some frame) one other m n serves also =
    let same = one_reading frame serves.reading also.reading serves.reads also.reads in (
      serves.replies ∙ ap (λ r. option_map frame_of (reply sectors image r)) same ∙ sym also.replies,
      serves.counts ∙ ap (sectors_sent sectors) same ∙ sym also.counts,
    )

-- an answer is the server's reply to the frame that it was handed
pub served_reply : (sectors : ℕ) (image frame : List ℕ) (answer : Option (List ℕ)) (count : ℕ)
    → IsServed sectors (Some image) frame answer count → IsReply sectors image frame answer
served_reply sectors image frame answer count served =
    record { reading = served.reading; reads = served.reads; written = served.replies }

-- where the server is handed nothing, it says nothing
pub unserved : (sectors : ℕ) (told handed answer : Option (List ℕ)) (count : ℕ) → handed ≡ None
    → Serves sectors told handed answer count → (answer ≡ None) × (count ≡ 0)
unserved sectors told None answer count none serves = serves
unserved sectors told (Some frame) answer count none serves = (cc, cc)

-- an argument that is a read names as many sectors as are sent at most
part_most : (sectors : ℕ) (a : AtaPart) → sectors_answered (asked_in sectors a) a.count ≤ MOST_SECTORS
part_most sectors a = grind (arith, nat_tests)

argument_most : (sectors : ℕ) (a : Argument) → sectors_replied sectors a ≤ MOST_SECTORS
argument_most sectors (Ata a) = part_most sectors a
argument_most sectors (Config c) = omega arith
argument_most sectors Other = omega arith

heard_most : (heard : Bool) (sectors : ℕ) (a : Argument)
    → (if heard then sectors_replied sectors a else 0) ≤ MOST_SECTORS
heard_most true sectors a = argument_most sectors a
heard_most false sectors a = omega arith

pub sent_most : (sectors : ℕ) (reading : Result Aoe FrameFault) → sectors_sent sectors reading ≤ MOST_SECTORS
sent_most sectors (Ok m) = heard_most (is_heard m.header) sectors m.argument
sent_most sectors (Err Short) = omega arith
sent_most sectors (Err NotAoe) = omega arith
sent_most sectors (Err (Version h)) = omega arith

pub served_most : (sectors : ℕ) (told handed answer : Option (List ℕ)) (count : ℕ)
    → Serves sectors told handed answer count → count ≤ MOST_SECTORS
served_most sectors told None answer count serves = omega (serves.1, arith)
served_most sectors told (Some frame) answer count serves = rw serves.counts (sent_most sectors serves.reading)
