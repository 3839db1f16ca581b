-- A reply of the server that is taken has the image's sectors.
use Rattle.std.proofs.Common.{◌≡◌, ℕ, ◌+◌, ◌*◌, ◌^◌, ◌<◌, ◌≤◌, Bool, true, false, cond, List, [], length, take, drop, Option, Some, None, Result, Ok, Err, refl, sym, ap, ◌∙◌, arith, lit<, inl, inr}
use Rattle.ata_taskfile.specs.declared.registers.TheConstants.{IDENTIFY_DEVICE, SECTOR_BYTES}
use Rattle.std.specs.Prelude.{◌==◌, ◌&&◌, bit_and, nat_le, option_map}
use Rattle.std.proofs.lemmas.Bool.{and_right, cases_Bool, leb-true}
use Rattle.std.proofs.lemmas.List.{drop_at, drop-drop, take-take}
use Rattle.byteorder.specs.Endian.{little_bytes}
use Rattle.bm_host.specs.Outside.{bytes_at}
use Rattle.aoe_frame.specs.declared.message.TheConstants.{ATA_BYTES, EXTENDED, HEADER_BYTES}
use Rattle.aoe_frame.specs.declared.message.Header.{Header}
use Rattle.aoe_frame.specs.declared.message.AtaPart.{AtaPart}
use Rattle.aoe_frame.specs.declared.message.Argument.{Argument}
use Rattle.aoe_frame.specs.declared.message.Argument.TheVariants.{Ata, Config, Other}
use Rattle.aoe_frame.specs.declared.message.Aoe.{Aoe}
use Rattle.aoe_frame.specs.declared.message.FrameFault.{FrameFault}
use Rattle.aoe_frame.specs.declared.message.FrameFault.TheVariants.{Short, NotAoe, Version}
use Rattle.aoe_frame.specs.Layout.{ArgumentFits, AtaFits, HasArgument, argument_written, frame_of, header_bytes}
use Rattle.aoe_frame.specs.Reading.{IsReading}
use Rattle.aoe_frame.proofs.Layouts.{length-header_bytes, same_little}
use Rattle.image_server.specs.declared.reply.TheConstants.{GOOD_STATUS}
use Rattle.image_server.specs.Request.{asked_in, is_heard, is_identify, is_read}
use Rattle.image_server.specs.Reply.{ata_answer, configuration, refusal, reply, reply_to}
use Rattle.image_server.specs.Serving.{IsReply}
use Rattle.aoe_client.specs.declared.tags.TheConstants.{PART_BYTES, PART_SECTORS}
use Rattle.aoe_client.specs.Messages.{Answers, IsReplyArgument, sectors_carried}

-- a request of 48-bit addresses doesn't ask what the server is
identify_extended : (a : AtaPart) → a.flags ≡ EXTENDED → is_identify a ≡ false
identify_extended a extended = ap (λ f. (a.command == IDENTIFY_DEVICE) && (bit_and f EXTENDED == 0)) extended
    ∙ and_right (a.command == IDENTIFY_DEVICE) false refl

-- an answer of status 50h to a request of 48-bit addresses has the sectors that were asked for, and the image has these
good_answer : (sectors : ℕ) (image : List ℕ) (a x : AtaPart) → ata_answer (asked_in sectors a) sectors image a ≡ x
    → a.flags ≡ EXTENDED → x.command ≡ GOOD_STATUS
    → (a.lba + a.count ≤ sectors) × (x.body ≡ bytes_at (SECTOR_BYTES * a.lba) (SECTOR_BYTES * a.count) image)
good_answer sectors image a x is extended good = elim (cases_Bool (is_read a)) [
  | inl reads ↦ elim (cases_Bool (nat_le (a.lba + a.count) sectors)) [
    | inl fits ↦ let it = rw (reads, fits) at is in (leb-true (a.lba + a.count) sectors fits, sym (ap (λ y. y.body) it))
    | inr past ↦ let it = rw (reads, past) at is in let bad = ap (λ y. y.command) it in
        absurd (omega (arith, bad, good))
  ]
  | inr other ↦
      let it = rw (other, identify_extended a extended) at is in
      let bad = ap (λ y. y.command) it in
      absurd (omega (arith, bad, good))
]

if_heard_is : (heard : Bool) (x m : Aoe) → cond heard (Some x) None ≡ Some m → x ≡ m
if_heard_is true x m is = cc
if_heard_is false x m is = cc

-- what an answer keeps of the request
kept_registers : (sectors : ℕ) (image : List ℕ) (a : AtaPart)
    → ((ata_answer (asked_in sectors a) sectors image a).lba ≡ a.lba)
    × ((ata_answer (asked_in sectors a) sectors image a).count ≡ a.count)
    × ((ata_answer (asked_in sectors a) sectors image a).flags ≡ a.flags)
kept_registers sectors image a = elim (cases_Bool (is_read a)) [
  | inl reads ↦ elim (cases_Bool (nat_le (a.lba + a.count) sectors)) [
    | inl fits ↦ rw (reads, fits) (refl, refl, refl)
    | inr past ↦ rw (reads, past) (refl, refl, refl)
  ]
  | inr other ↦ elim (cases_Bool (is_identify a)) [
    | inl asks ↦ rw (other, asks) (refl, refl, refl)
    | inr not ↦ rw (other, not) (refl, refl, refl)
  ]
]

module _ (sectors : ℕ) (image : List ℕ) (tag : ℕ) where
  -- these are the tag's sectors of the image, which has them
  abbrev IsPart : List ℕ → Type 0
  IsPart bytes = (PART_SECTORS * tag + PART_SECTORS ≤ sectors) × (bytes ≡ bytes_at (PART_BYTES * tag) PART_BYTES image)

  nothing_read : (taken : Argument) (written : List ℕ) → length written < ATA_BYTES → HasArgument written taken
      → IsReplyArgument taken tag → ⊥
  nothing_read (Ata t) written few has read = omega (arith, few, has.1)
  nothing_read (Config c) written few has read = read
  nothing_read Other written few has read = read

  -- the sectors of an answer to a command, by what is read of it
  ata_sectors : (a : AtaPart) (taken : Argument) → AtaFits a → ArgumentFits taken
      → HasArgument (argument_written (Ata (ata_answer (asked_in sectors a) sectors image a))) taken
      → IsReplyArgument taken tag
      → IsPart (drop ATA_BYTES (argument_written (Ata (ata_answer (asked_in sectors a) sectors image a))))
  ata_sectors a (Config c) fits fits_t has read = absurd read
  ata_sectors a Other fits fits_t has read = absurd read
  ata_sectors a (Ata t) fits fits_t has read =
      let x = ata_answer (asked_in sectors a) sectors image a in
      let kept = kept_registers sectors image a in
      let heads = has.0 in
      let flags : x.flags ≡ t.flags = cc in
      let count : x.count ≡ t.count = cc in
      let status : x.command ≡ t.command = cc in
      let bytes : little_bytes 6 x.lba ≡ little_bytes 6 t.lba = cc in
      let fits_x : x.lba < 2 ^ 48 = omega (arith, kept.0, fits.lba) in
      let lba = same_little 6 x.lba t.lba fits_x fits_t.lba bytes in
      let place : SECTOR_BYTES * a.lba ≡ PART_BYTES * tag = omega (arith, kept.0, lba, read.lba) in
      let many : SECTOR_BYTES * a.count ≡ PART_BYTES = omega (arith, kept.1, count, read.count) in
      let good = good_answer sectors image a x refl (sym kept.2 ∙ flags ∙ read.flags) (status ∙ read.status) in (
        omega (arith, good.0, kept.0, lba, read.lba, kept.1, count, read.count),
        good.1 ∙ (λ i. take (many i) (drop (place i) image)),
      )

  -- the sectors of a reply to a header with an argument, by what is read of it
  reply_sectors : (h : Header) (asked taken : Argument) → ArgumentFits asked → ArgumentFits taken
      → HasArgument (argument_written (reply_to sectors image h asked).argument) taken → IsReplyArgument taken tag
      → IsPart (drop ATA_BYTES (argument_written (reply_to sectors image h asked).argument))
  reply_sectors h (Ata a) taken fits fits_t has read = ata_sectors a taken fits fits_t has read
  reply_sectors h Other taken fits fits_t has read = absurd (nothing_read taken [] (omega arith) has read)
  reply_sectors h (Config c) taken fits fits_t has read = elim (cases_Bool (c.code == 0)) [
    | inl first ↦ let has_first = rw first at has in
        absurd (nothing_read taken (argument_written (Config configuration)) (lit< tt) has_first read)
    | inr other ↦ let has_other = rw other at has in absurd (nothing_read taken [] (lit< tt) has_other read)
  ]

  -- the sectors of a reply to what a request was read as, by what is read of it
  read_sectors : (r : Result Aoe FrameFault) (asked : List ℕ) (m : Aoe) (taken : Argument) → IsReading asked r
      → reply sectors image r ≡ Some m
      → ArgumentFits taken → HasArgument (argument_written m.argument) taken → IsReplyArgument taken tag
      → IsPart (drop ATA_BYTES (argument_written m.argument))
  read_sectors (Err Short) asked m taken reads is fits has read = cc
  read_sectors (Err NotAoe) asked m taken reads is fits has read = cc
  read_sectors (Err (Version h)) asked m taken reads is fits has read =
      let it = if_heard_is (is_heard h) (refusal h 5) m is in
      let has_it = rw (← it) at has in
      absurd (nothing_read taken [] (lit< tt) has_it read)
  read_sectors (Ok q) asked m taken reads is fits has read =
      let it : reply_to sectors image q.header q.argument ≡ m = if_heard_is (is_heard q.header) _ m is in
      let has_it = rw (← it) at has in
      rw (← it) (reply_sectors q.header q.argument taken reads.says.fits fits has_it read)

  sizes_to : (h : Header) (asked : Argument) → length h.source ≡ 6
      → (length (reply_to sectors image h asked).header.dest ≡ 6) × (length
      (reply_to sectors image h asked).header.source ≡ 6)
  sizes_to h (Ata a) long = (long, refl)
  sizes_to h Other long = (long, refl)
  sizes_to h (Config c) long = elim (cases_Bool (c.code == 0)) [
    | inl first ↦ rw first (long, refl)
    | inr other ↦ rw other (long, refl)
  ]

  sizes : (r : Result Aoe FrameFault) (asked : List ℕ) (m : Aoe) → IsReading asked r → reply sectors image r ≡ Some m
      → (length m.header.dest ≡ 6) × (length m.header.source ≡ 6)
  sizes (Err Short) asked m reads is = cc
  sizes (Err NotAoe) asked m reads is = cc
  sizes (Err (Version h)) asked m reads is =
      rw (← if_heard_is (is_heard h) (refusal h 5) m is) (reads.header.fits.source, refl)
  sizes (Ok q) asked m reads is =
      let it : reply_to sectors image q.header q.argument ≡ m = if_heard_is (is_heard q.header) _ m is in
      rw (← it) (sizes_to q.header q.argument reads.says.header.fits.source)

  -- a frame of the server that is taken for a tag has the tag's sectors of the image
  image_sectors : (r : Result Aoe FrameFault) (asked bytes : List ℕ) (m : Aoe) → IsReading asked r
      → reply sectors image r ≡ Some m
      → bytes ≡ frame_of m → Answers bytes tag → IsPart (sectors_carried bytes)
  image_sectors r asked bytes m reads is frame taken =
      let size = sizes r asked m reads is in
      let behind : drop HEADER_BYTES bytes ≡ argument_written m.argument =
      ap (drop HEADER_BYTES) frame ∙ drop_at (header_bytes m.header) (argument_written m.argument) HEADER_BYTES
      (length-header_bytes m.header size.0 size.1) in
      let says = taken.1.0.says in
      let has = rw behind at says.argument in
      let part = read_sectors r asked m taken.0.argument reads is says.fits has taken.1.1.argument in (
        part.0,
        ap (take PART_BYTES) (sym (drop-drop ATA_BYTES HEADER_BYTES bytes) ∙ ap (drop ATA_BYTES) behind ∙ part.1)
            ∙ take-take PART_BYTES PART_BYTES (drop (PART_BYTES * tag) image) (omega arith),
      )

  honest_where : (asked bytes : List ℕ) (r : Result Aoe FrameFault) (o : Option Aoe) → IsReading asked r
      → reply sectors image r ≡ o → Some bytes ≡ option_map frame_of o → Answers bytes tag
      → IsPart (sectors_carried bytes)
  honest_where asked bytes r None reads is written taken = cc
  honest_where asked bytes r (Some m) reads is written taken = image_sectors r asked bytes m reads is (cc) taken

  -- an honest reply that answers a tag has the tag's sectors of the image, which has these
  pub honest_sectors : (asked bytes : List ℕ) → IsReply sectors image asked (Some bytes) → Answers bytes tag
      → IsPart (sectors_carried bytes)
  honest_sectors asked bytes honest taken =
      honest_where asked bytes honest.reading (reply sectors image honest.reading) honest.reads refl
      honest.written taken
