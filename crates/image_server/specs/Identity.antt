-- The sector that the server answers to IDENTIFY DEVICE, the low byte of each word first (ATA/ATAPI-6, IDENTIFY DEVICE;
-- own: each value).
use Rattle.std.specs.Prelude.{ℕ, List, [], ◌∷◌, ◌++◌, codes, replicate}
use Rattle.std.specs.Int.{bytes_low_first}
use Rattle.image_server.specs.declared.identity.TheConstants.{CAPABILITIES, COMMAND_SETS}

-- a text in words: the first character of each pair is the high byte, and so comes second (ATA/ATAPI-6, IDENTIFY
-- DEVICE)
abbrev pub in_words : List ℕ → List ℕ
in_words [] = []
in_words (last ∷ []) = last ∷ []
in_words (first ∷ (second ∷ rest)) = second ∷ first ∷ in_words rest

-- the sector that a server of so many sectors says of itself
abbrev pub server_identity : ℕ → List ℕ
server_identity sectors =
    -- words 0 to 9
    replicate 20 0
    -- 10 to 19: serial number
    ++ in_words (codes "BMC00000000000000002")
    -- 20 to 22
    ++ replicate 6 0
    -- 23 to 26: firmware revision
    ++ in_words (codes "1.0     ")
    -- 27 to 46: model number
    ++ in_words (codes "BMCAST IMAGE                            ")
    -- 47 and 48
    ++ replicate 4 0
    -- 49: 0200h, addresses are numbers of sectors
    ++ bytes_low_first 0 2 CAPABILITIES
    -- 50 to 59
    ++ replicate 20 0
    -- 60 and 61: the low 32 bits of the number of sectors
    ++ bytes_low_first 0 4 sectors
    -- 62 to 82
    ++ replicate 42 0
    -- 83: 4400h, addresses may have 48 bits
    ++ bytes_low_first 0 2 COMMAND_SETS
    -- 84 to 99
    ++ replicate 32 0
    -- 100 to 103: the number of sectors
    ++ bytes_low_first 0 8 sectors
    -- 104 to 255
    ++ replicate 304 0
