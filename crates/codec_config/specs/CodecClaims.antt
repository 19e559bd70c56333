-- The rules of AV1, Opus and FLAC records by positions, exactly which bytes they leave open, and that what the others hold changes nothing.
-- specs/Heads does not lean on this file.
use Rattle.std.specs.Prelude.{◌≡◌, Bool, true, cond, not, ◌&&◌, List, ℕ, ◌+◌, ◌%◌, ◌<◌, eqb, ltb, leb, length}
use Rattle.wire.specs.Wire.{byte_at, part, be24_at, same_bytes}
use Rattle.wire.specs.Mask.{LowEquivalent, sealed_at}
use Rattle.wire.specs.Grammar.{Grammar, accepted, mask_of, Noninterfering}
use Rattle.fourcc.specs.Fourcc.{flac}
use Rattle.codec_config.specs.Heads.{av1, opus_head_letters, opus_head, flac_head}

-- THE THREE RULES BY POSITIONS. AV1: four bytes, of which byte 0 is `81`
abbrev pub is_av1 : List ℕ → Bool
is_av1 p = leb 4 (length p) && eqb (byte_at p 0) 0x81

-- Opus: whether a header of so many bytes may have this mapping family and so many channels
unfoldable pub mapping_fits : ℕ → ℕ → ℕ → Bool
mapping_fits family channels size =
    cond (eqb family 0) (leb channels 2)
    (cond (eqb family 1) (leb channels 8 && leb (21 + channels) size)
    (leb (21 + channels) size))

-- 19 bytes; the letters; byte 8, the version; byte 9, the channels; byte 18, the mapping family
abbrev pub is_opus_head : List ℕ → Bool
is_opus_head p =
    leb 19 (length p)
    && (same_bytes (part p 0 8) opus_head_letters
    && (ltb (byte_at p 8) 16
    && (ltb 0 (byte_at p 9) && mapping_fits (byte_at p 18) (byte_at p 9) (length p))))

-- FLAC: 42 bytes; the letters; byte 4, whose low seven bits are the block's type; bytes 5 to 7, its length
abbrev pub is_flac : List ℕ → Bool
is_flac p = leb 42 (length p) && (same_bytes (part p 0 4) flac && (eqb (byte_at p 4 % 128) 0 && eqb (be24_at p 5) 34))

-- WHICH RECORDS ARE VALID
pub record ValidExactly (p : List ℕ) : Type 0 where
  pub av1 : accepted (av1 p) ≡ is_av1 p
  pub opus_head : accepted (opus_head p) ≡ is_opus_head p
  pub flac : accepted (flac_head p) ≡ is_flac p

-- WHICH BYTES OF A VALID RECORD ARE SEALED: all but those whose values are judged, which are byte 0 of AV1, bytes 0 to 9 and 18 of Opus, bytes 0 to 7 of
-- FLAC
pub record SealedExactly (p : List ℕ) : Type 0 where
  pub av1 : accepted (av1 p) ≡ true → (i : ℕ) → i < length p → sealed_at (mask_of (av1 p)) i ≡ leb 1 i
  pub opus_head : accepted (opus_head p) ≡ true → (i : ℕ) → i < length p → sealed_at (mask_of (opus_head p)) i ≡ (leb 10 i && not (eqb i 18))
  pub flac : accepted (flac_head p) ≡ true → (i : ℕ) → i < length p → sealed_at (mask_of (flac_head p)) i ≡ leb 8 i

-- WHAT THE SEALED BYTES HOLD changes neither acceptance nor the mask
pub record HeadsNoninterfering : Type 0 where
  pub av1 : Noninterfering av1
  pub opus_head : Noninterfering opus_head
  pub flac : Noninterfering flac_head

-- so a record q that agrees with p outside the bytes sealed in p has p's verdict and mask; in a refused record none is sealed
pub record Alike (g : Grammar) (p q : List ℕ) : Type 0 where
  pub valid : accepted (g q) ≡ accepted (g p)
  pub mask : mask_of (g q) ≡ mask_of (g p)

pub record HeadsAlike (p q : List ℕ) : Type 0 where
  pub av1 : LowEquivalent (sealed_at (mask_of (av1 p))) p q → Alike av1 p q
  pub opus_head : LowEquivalent (sealed_at (mask_of (opus_head p))) p q → Alike opus_head p q
  pub flac : LowEquivalent (sealed_at (mask_of (flac_head p))) p q → Alike flac_head p q
