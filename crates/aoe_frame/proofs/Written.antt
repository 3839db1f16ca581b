-- What a message's frame says, and how long it is.
use Rattle.std.proofs.Common.{◌≡◌, ℕ, ◌≤◌, List, length, drop, Ok, arith, refl, sym, ap, subst, length-append, length-take, length-drop}
use Rattle.std.proofs.lemmas.List.{take_at, drop_at}
use Rattle.aoe_frame.specs.declared.message.TheConstants.{ATA_BYTES, CONFIG_BYTES, HEADER_BYTES, VERSION}
use Rattle.aoe_frame.specs.declared.message.Argument.{Argument}
use Rattle.aoe_frame.specs.declared.message.Argument.TheVariants.{Ata, Config, Other}
use Rattle.aoe_frame.specs.declared.message.Aoe.{Aoe}
use Rattle.aoe_frame.specs.Layout.{Fits, HasArgument, IsArgumentOf, SaysMessage, argument_written, frame_of, header_bytes}
use Rattle.aoe_frame.specs.Reading.{IsReading}
use Rattle.aoe_frame.proofs.Layouts.{header_long, length-header_bytes}

argument_says : (a : Argument) → HasArgument (argument_written a) a
argument_says (Ata a) = (refl, omega arith, refl)
argument_says (Config c) = refl
argument_says Other = tt

-- a frame that is written says its message
pub written_says : (m : Aoe) → Fits m → IsArgumentOf m.header.command m.argument → SaysMessage (frame_of m) m
written_says m fits of =
    let long = length-header_bytes m.header fits.header.dest fits.header.source in
    let front = take_at (header_bytes m.header) (argument_written m.argument) HEADER_BYTES long in
    let rest = drop_at (header_bytes m.header) (argument_written m.argument) HEADER_BYTES long in
    record {
      header = record { laid = front; fits = fits.header };
      kind = of;
      argument = subst (λ bytes. HasArgument bytes m.argument) (sym rest) (argument_says m.argument);
      fits = fits.argument;
    }

-- a frame that is written in the version that is spoken here is read as its message
pub written_reads : (m : Aoe) → Fits m → IsArgumentOf m.header.command m.argument → m.header.version ≡ VERSION
    → IsReading (frame_of m) (Ok m)
written_reads m fits of version = record { says = written_says m fits of; version = version }

shortest_argument : (bytes : List ℕ) (a : Argument) → HasArgument bytes a → length (argument_written a) ≤ length bytes
shortest_argument bytes (Ata a) has = omega (arith, ap length has.2, has.1, length-drop ATA_BYTES bytes)
shortest_argument bytes (Config c) has = omega (arith, ap length has, length-take CONFIG_BYTES bytes)
shortest_argument bytes Other has = omega arith

-- no bytes of a message are fewer than those that are written
pub written_shortest : (bytes : List ℕ) (m : Aoe) → SaysMessage bytes m → length (frame_of m) ≤ length bytes
written_shortest bytes m says =
    let long = header_long bytes m.header says.header in
    let header = length-header_bytes m.header says.header.fits.dest says.header.fits.source in
    let argument = shortest_argument (drop HEADER_BYTES bytes) m.argument says.argument in
    omega (arith, length-append (header_bytes m.header) (argument_written m.argument), length-drop HEADER_BYTES bytes)

-- without an argument there is a header
pub written_other : (m : Aoe) → Fits m → m.argument ≡ Other → length (frame_of m) ≡ HEADER_BYTES
written_other m fits none =
    let nothing : length (argument_written m.argument) ≡ 0 = ap (λ a. length (argument_written a)) none in
    let header = length-header_bytes m.header fits.header.dest fits.header.source in
    omega (arith, length-append (header_bytes m.header) (argument_written m.argument))
