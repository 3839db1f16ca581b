-- What is known of one role's bytes.
use Rattle.std.specs.Prelude.{ℕ, List, Option, option_map}
use Rattle.bm_host.specs.declared.quiet_file.QuietFile.{QuietFile}

-- the bytes, where they are known (own)
abbrev pub bytes_in : QuietFile → Option (List ℕ)
bytes_in file = option_map (λ bytes. bytes.items) file.bytes
