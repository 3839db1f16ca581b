-- The row of the table of commands that an order came of, and what is told of it.
use Rattle.std.proofs.Common.{◌≡◌, ◌+◌, ℕ, Bool, true, false, if◌then◌else◌, nat_lt, [], ◌∷◌, Ok, Err, Option, Some, None, refl, ap, ◌∙◌, arith}
use Rattle.ata_taskfile.specs.declared.Kind.TheVariants as kind
use Rattle.ata_taskfile.specs.declared.Refused.TheVariants.{Abort, NotFound}
use Rattle.ata_taskfile.specs.declared.Request.{Request}
use Rattle.ata_taskfile.specs.declared.Taken.TheVariants.{Good}
use Rattle.ata_taskfile.specs.Order as orders
use Rattle.ata_taskfile.specs.Order.{Inputs, Row, is_accepted, order_in, row_of, taken}
use Rattle.plain_drive.specs.Alike.{gives_data, gives_identity, reads}
use Rattle.schedule_text.specs.Taken.{command_item}
use Rattle.streaming.specs.Sources.{is_read, one_reads, tells_write}

taken_by : (accepted late : Bool) (asked request : Request)
    → taken (if accepted then (if late then Err NotFound else Ok asked) else Err Abort) ≡ Good request → asked ≡ request
taken_by true true asked request is = absurd cc
taken_by true false asked request is = cc
taken_by false late asked request is = absurd cc

-- an order that is taken asks for what its row asks for
pub row_by : (row : Option Row) (i : Inputs) (n : ℕ) (request : Request) → taken (order_in row i n) ≡ Good request
    → (one : Row) × (row ≡ Some one) × (orders.request_of one i ≡ request)
row_by None i n request order = absurd cc
row_by (Some row) i n request order =
    let asked = orders.request_of row i in (
      row,
      refl,
      taken_by (is_accepted row.kind row.extended i) (nat_lt n (asked.first + asked.count)) asked request order,
    )

-- a row that gives data, and no identity, is a read's
row_reads : (byte : ℕ) (row : Row) → row_of byte ≡ Some row → gives_data row.form ≡ true
    → gives_identity row.kind ≡ false → row.kind ≡ kind.Read
row_reads byte row is gives sectors = grind arith

told_read : (byte s : ℕ) (row : Row) (request : Request) → row_of byte ≡ Some row → row.kind ≡ request.kind
    → row.kind ≡ kind.Read → reads (Good request) s ≡ true
    → one_reads s (command_item byte (Good request) ∷ []) ≡ true
told_read byte s row request is same read gives = grind (arith, is, same, read, gives)

unwritten : (byte : ℕ) (row : Row) (request : Request) → row_of byte ≡ Some row → row.kind ≡ request.kind
    → is_read request.kind ≡ true → tells_write (command_item byte (Good request)) ≡ false
unwritten byte row request is same read = grind (arith, is, same, read)

-- what an order reads is told of it
pub reads_told : (byte n s : ℕ) (i : Inputs) (request : Request)
    → taken (order_in (row_of byte) i n) ≡ Good request → reads (Good request) s ≡ true
    → one_reads s (command_item byte (Good request) ∷ []) ≡ true
reads_told byte n s i request order gives =
    let by = row_by (row_of byte) i n request order in
    let row = by.0 in
    let kinds = ap (λ (r : Request). r.kind) by.2 in
    let forms = ap (λ (r : Request). r.form) by.2 in
    let form : gives_data row.form ≡ true = ap gives_data forms ∙ grind (arith, gives) in
    let sectors : gives_identity row.kind ≡ false = ap gives_identity kinds ∙ grind (arith, gives) in
    told_read byte s row request by.1 kinds (row_reads byte row by.1 form sectors) gives

-- and of an order that reads sectors no write is told
pub reads_unwritten : (byte n : ℕ) (i : Inputs) (request : Request)
    → taken (order_in (row_of byte) i n) ≡ Good request → is_read request.kind ≡ true
    → tells_write (command_item byte (Good request)) ≡ false
reads_unwritten byte n i request order read =
    let by = row_by (row_of byte) i n request order in
    let kinds = ap (λ (r : Request). r.kind) by.2 in
    unwritten byte by.0 request by.1 kinds read
