-- Codec configuration records of AV1, Opus and FLAC, each judged by its head alone and free to be longer. As in specs/Records, what a grammar passes over
-- is sealed, what it reads is open.
use Rattle.std.specs.Prelude.{not, ◌||◌, List, [], ◌∷◌, ℕ, ◌+◌, ◌%◌, eqb, ltb, leb}
use Rattle.wire.specs.Wire.{high, be24}
use Rattle.wire.specs.Grammar.{Grammar, byte, skip, guard, word, branch, sealed_rest}
use Rattle.fourcc.specs.Fourcc.{flac}

-- AV1 (AV1CodecConfigurationRecord of the AV1 binding to ISOBMFF): 4 bytes, of which byte 0, marker and version, is `81`; anything after
unfoldable pub av1 : Grammar
av1 = byte λ b. guard (eqb b 0x81) (skip 3 sealed_rest)

-- Opus (identification header of RFC 7845, section 5.1), its last part first: what follows the mapping family. Family 0 has 1 or 2 channels; family 1 has
-- 1 to 8, others any, and both two counts of streams and a byte a channel; anything after
unfoldable pub opus_mapping : ℕ → ℕ → Grammar
opus_mapping family channels =
    branch (eqb family 0)
    (guard (leb channels 2) sealed_rest)
    (guard (not (eqb family 1) || leb channels 8) (skip (2 + channels) sealed_rest))

-- `OpusHead`
abbrev pub opus_head_letters : List ℕ
opus_head_letters = 0x4F ∷ 0x70 ∷ 0x75 ∷ 0x73 ∷ 0x48 ∷ 0x65 ∷ 0x61 ∷ 0x64 ∷ []

-- the letters; a version whose high four bits, the major version, are 0; channels, not 0; eight bytes of pre-skip, rate and gain; the mapping family
unfoldable pub opus_head : Grammar
opus_head =
    word opus_head_letters
    (byte λ version. guard (eqb (high version) 0)
    (byte λ channels. guard (ltb 0 channels)
    (skip 8 (byte λ family. opus_mapping family channels))))

-- FLAC (RFC 9639, sections 6 and 8.1): `fLaC`; the header of a metadata block: a last-block bit, either way, 7 bits of type, 0 for STREAMINFO, and a
-- 24-bit length, 34; 34 bytes; anything after
unfoldable pub flac_head : Grammar
flac_head =
    word flac
    (byte λ b. guard (eqb (b % 128) 0)
    (byte λ x. byte λ y. byte λ z. guard (eqb (be24 x y z) 34)
    (skip 34 sealed_rest)))
