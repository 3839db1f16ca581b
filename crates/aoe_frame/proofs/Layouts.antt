-- What stands in a frame is one message's.
use Rattle.std.proofs.Common.{◌≡◌, ℕ, zero, suc, ◌+◌, ◌^◌, ◌<◌, ◌≤◌, List, [], ◌∷◌, ◌++◌, length, take, drop, arith, refl, sym, ap, ◌∙◌, length-append, length-take, append_assoc, subst}
use Rattle.std.proofs.lemmas.List.{take_at, drop_at, drop-take}
use Rattle.byteorder.specs.Endian.{big_bytes, little_bytes, big_from, little_from}
use Rattle.byteorder.specs.Numbers.{big_number-reads_back, little_number-reads_back}
use Rattle.aoe_frame.specs.declared.message.TheConstants.{CONFIG_BYTES, ETHER_TYPE, HEADER_BYTES, TYPE_AT}
use Rattle.aoe_frame.specs.declared.message.Header.{Header}
use Rattle.aoe_frame.specs.declared.message.AtaPart.{AtaPart}
use Rattle.aoe_frame.specs.declared.message.ConfigPart.{ConfigPart}
use Rattle.aoe_frame.specs.declared.message.Argument.{Argument}
use Rattle.aoe_frame.specs.declared.message.Argument.TheVariants.{Ata, Config, Other}
use Rattle.aoe_frame.specs.declared.message.Aoe.{Aoe}
use Rattle.aoe_frame.specs.Layout.{halves, header_bytes, ata_bytes, config_bytes, HeaderFits, AtaFits, ConfigFits, ArgumentFits, IsArgumentOf, HasFrameHeader, HasArgument, SaysMessage}
use Rattle.aoe_frame.specs.Reading.{IsAoe, bytes_needed}

-- two lists with fronts of one length
same_front : (n : ℕ) (a b x y : List ℕ) → length a ≡ n → length b ≡ n → a ++ x ≡ b ++ y → (a ≡ b) × (x ≡ y)
same_front n a b x y la lb e = (
  sym (take_at a x n la) ∙ ap (take n) e ∙ take_at b y n lb,
  sym (drop_at a x n la) ∙ ap (drop n) e
      ∙ drop_at b y n lb,
)

-- a number's bytes, the highest first, are no other's that fits
same_big : (n x y : ℕ) → x < 256 ^ n → y < 256 ^ n → big_bytes n x ≡ big_bytes n y → x ≡ y
same_big n x y fits_x fits_y e =
    sym (big_number-reads_back n x [] fits_x) ∙ ap (λ bytes. big_from 0 n (bytes ++ [])) e
    ∙ big_number-reads_back n y [] fits_y

-- a number's bytes, the lowest first, are no other's that fits
pub same_little : (n x y : ℕ) → x < 256 ^ n → y < 256 ^ n → little_bytes n x ≡ little_bytes n y → x ≡ y
same_little n x y fits_x fits_y e =
    sym (little_number-reads_back n x [] fits_x) ∙ ap (λ bytes. little_from 0 n (bytes ++ [])) e
    ∙ little_number-reads_back n y [] fits_y

same_halves : (a b x y : ℕ) → b < 16 → y < 16 → halves a b ≡ halves x y → (a ≡ x) × (b ≡ y)
same_halves a b x y fits_b fits_y e = (omega arith, omega arith)

-- the header behind its two addresses
behind : Header → List ℕ
behind h =
    big_bytes 2 ETHER_TYPE ++ (halves h.version
    h.flags ∷ h.error ∷ (big_bytes 2 h.major ++ (h.minor ∷ h.command ∷ big_bytes 4 h.tag)))

same_behind : (a b : Header) → HeaderFits a → HeaderFits b → a.dest ≡ b.dest → a.source ≡ b.source
    → behind a ≡ behind b → a ≡ b
unfolding behind
same_behind a b fits_a fits_b dest source e =
    let versions = same_halves a.version a.flags b.version b.flags fits_a.flags fits_b.flags (cc) in
    let errors : a.error ≡ b.error = cc in
    let majors = same_big 2 a.major b.major fits_a.major fits_b.major (cc) in
    let minors : a.minor ≡ b.minor = cc in
    let commands : a.command ≡ b.command = cc in
    let tags = same_big 4 a.tag b.tag fits_a.tag fits_b.tag (cc) in
    λ i. record {
      dest = dest i;
      source = source i;
      version = versions.0 i;
      flags = versions.1 i;
      error = errors i;
      major = majors i;
      minor = minors i;
      command = commands i;
      tag = tags i;
    }

laid_apart : (h : Header) → header_bytes h ≡ h.dest ++ (h.source ++ behind h)
unfolding behind
laid_apart h = simp append_assoc

pub same_header : (a b : Header) → HeaderFits a → HeaderFits b → header_bytes a ≡ header_bytes b → a ≡ b
same_header a b fits_a fits_b e =
    let apart = sym (laid_apart a) ∙ e ∙ laid_apart b in
    let first = same_front 6 a.dest b.dest (a.source ++ behind a) (b.source ++ behind b) fits_a.dest
    fits_b.dest apart in
    let second = same_front 6 a.source b.source (behind a) (behind b) fits_a.source fits_b.source first.1 in
    same_behind a b fits_a fits_b first.0 second.0 second.1

same_ata : (a b : AtaPart) → AtaFits a → AtaFits b → ata_bytes a ≡ ata_bytes b → a.body ≡ b.body → a ≡ b
same_ata a b fits_a fits_b e bodies =
    let all_flags : a.flags ≡ b.flags = cc in
    let features : a.feature ≡ b.feature = cc in
    let counts : a.count ≡ b.count = cc in
    let commands : a.command ≡ b.command = cc in
    let addresses = same_little 6 a.lba b.lba fits_a.lba fits_b.lba (cc) in
    λ i. record {
      flags = all_flags i;
      feature = features i;
      count = counts i;
      command = commands i;
      lba = addresses i;
      body = bodies i;
    }

same_config : (a b : ConfigPart) → ConfigFits a → ConfigFits b → config_bytes a ≡ config_bytes b → a ≡ b
same_config a b fits_a fits_b e =
    let buffers = same_big 2 a.buffers b.buffers fits_a.buffers fits_b.buffers (cc) in
    let firmwares = same_big 2 a.firmware b.firmware fits_a.firmware fits_b.firmware (cc) in
    let counts : a.count ≡ b.count = cc in
    let versions = same_halves a.version a.code b.version b.code fits_a.code fits_b.code (cc) in
    let lengths = same_big 2 a.length b.length fits_a.length fits_b.length (cc) in
    λ i. record {
      buffers = buffers i;
      firmware = firmwares i;
      count = counts i;
      version = versions.0 i;
      code = versions.1 i;
      length = lengths i;
    }

-- one argument stands in front of bytes, for a command
same_argument : (bytes : List ℕ) (command : ℕ) (a b : Argument) → IsArgumentOf command a → IsArgumentOf command b
    → HasArgument bytes a → HasArgument bytes b
    → ArgumentFits a → ArgumentFits b → a ≡ b
same_argument bytes command (Ata a) (Ata b) of_a of_b has_a has_b fits_a fits_b =
    ap Ata (same_ata a b fits_a fits_b (sym has_a.0 ∙ has_b.0) (sym has_a.2 ∙ has_b.2))
same_argument bytes command (Ata a) (Config b) of_a of_b has_a has_b fits_a fits_b = absurd (omega arith)
same_argument bytes command (Ata a) Other of_a of_b has_a has_b fits_a fits_b = absurd (of_b.0 of_a)
same_argument bytes command (Config a) (Ata b) of_a of_b has_a has_b fits_a fits_b = absurd (omega arith)
same_argument bytes command (Config a) (Config b) of_a of_b has_a has_b fits_a fits_b =
    ap Config (same_config a b fits_a fits_b (sym has_a ∙ has_b))
same_argument bytes command (Config a) Other of_a of_b has_a has_b fits_a fits_b = absurd (of_b.1 of_a)
same_argument bytes command Other (Ata b) of_a of_b has_a has_b fits_a fits_b = absurd (of_a.0 of_b)
same_argument bytes command Other (Config b) of_a of_b has_a has_b fits_a fits_b = absurd (of_a.1 of_b)
same_argument bytes command Other Other of_a of_b has_a has_b fits_a fits_b = refl

-- one header stands in front of bytes
pub one_header : (bytes : List ℕ) (a b : Header) → HasFrameHeader bytes a → HasFrameHeader bytes b → a ≡ b
one_header bytes a b has_a has_b = same_header a b has_a.fits has_b.fits (sym has_a.laid ∙ has_b.laid)

-- bytes say one message
pub one_message : (bytes : List ℕ) (a b : Aoe) → SaysMessage bytes a → SaysMessage bytes b → a ≡ b
one_message bytes a b says_a says_b =
    let headers = one_header bytes a.header b.header says_a.header says_b.header in
    let of_b : IsArgumentOf a.header.command b.argument = subst (λ (h : Header). IsArgumentOf h.command b.argument)
    (sym headers) says_b.kind in
    let arguments = same_argument (drop HEADER_BYTES bytes) a.header.command a.argument b.argument says_a.kind of_b
    says_a.argument says_b.argument says_a.fits says_b.fits in
    λ i. record { header = headers i; argument = arguments i }

-- a header has 24 bytes
pub length-header_bytes : (h : Header) → length h.dest ≡ 6 → length h.source ≡ 6
    → length (header_bytes h) ≡ HEADER_BYTES
length-header_bytes h dest source = simp (length-append, dest, source)

-- bytes with a header are as many as it has
pub header_long : (bytes : List ℕ) (h : Header) → HasFrameHeader bytes h → HEADER_BYTES ≤ length bytes
header_long bytes h has = omega (
  arith,
  ap length has.laid,
  length-header_bytes h has.fits.dest
      has.fits.source,
  length-take HEADER_BYTES bytes,
)

take_fewer : (xs : List ℕ) → take 2 (take TYPE_AT xs) ≡ take 2 xs
take_fewer [] = refl
take_fewer (x ∷ []) = refl
take_fewer (x ∷ (y ∷ xs)) = refl

-- the type stands behind the two addresses
pub header_type : (bytes : List ℕ) (h : Header) → HasFrameHeader bytes h → IsAoe bytes
unfolding behind
header_type bytes h has =
    let left : drop TYPE_AT (take HEADER_BYTES bytes) ≡ take TYPE_AT (drop TYPE_AT bytes) =
    drop-take TYPE_AT TYPE_AT bytes in
    let addresses : length (h.dest ++ h.source) ≡ TYPE_AT = simp (length-append, has.fits.dest, has.fits.source) refl in
    let apart : header_bytes h ≡ (h.dest ++ h.source) ++ behind h = laid_apart h
    ∙ sym (append_assoc h.dest h.source (behind h)) in
    let right : drop TYPE_AT (header_bytes h) ≡ behind h = ap (drop TYPE_AT) apart ∙ drop_at (h.dest ++ h.source)
    (behind h) TYPE_AT addresses in
    sym (take_fewer (drop TYPE_AT bytes)) ∙ ap (take 2) (sym left ∙ ap (drop TYPE_AT) has.laid ∙ right)

-- bytes behind a header that have an argument are as many as it needs
pub argument_long : (bytes : List ℕ) (command : ℕ) (a : Argument) → IsArgumentOf command a → HasArgument bytes a
    → bytes_needed command ≤ HEADER_BYTES + length bytes
argument_long bytes command (Ata a) of has = rw of (omega (arith, has.1))
argument_long bytes command (Config c) of has = rw of (omega (arith, ap length has, length-take CONFIG_BYTES bytes))
argument_long bytes zero Other of has = absurd (of.0 refl)
argument_long bytes (suc zero) Other of has = absurd (of.1 refl)
argument_long bytes (suc (suc n)) Other of has = omega arith
