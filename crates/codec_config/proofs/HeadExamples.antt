-- Verdicts on AV1, Opus and FLAC records, and masks of accepted ones byte by byte.
use mathlib.Core.Path.{◌≡◌, refl}
use mathlib.Core.Bool.{Bool, true, false, ◌&&◌, beq}
use mathlib.Core.Option.{some}
use mathlib.Core.List.{List, [], ◌∷◌, ◌++◌}
use Prim.Native.Nat.{ℕ}
use lib.ListN.{replicate}
use Rattle.wire.specs.Grammar.{Grammar, byte, skip, guard, word, branch, sealed_rest, accepted}
use Rattle.fourcc.specs.Fourcc.{flac}
use Rattle.codec_config.specs.Heads.{av1, opus_mapping, opus_head_letters, opus_head, flac_head}

-- a grammar, a record, its verdict
record Verdict : Type 0 where
  grammar : Grammar
  rec : List ℕ
  valid : Bool

abbrev judged : Grammar → List ℕ → Bool → Verdict
judged grammar rec valid = record { grammar = grammar; rec = rec; valid = valid }

-- an identification header by version, channels and family, and what follows
abbrev header : ℕ → ℕ → ℕ → List ℕ → List ℕ
header version channels family more = opus_head_letters ++ (version ∷ channels ∷ (replicate 8 0xAA ++ (family ∷ more)))

-- a metadata block by its header, and so many bytes
abbrev block : ℕ → ℕ → ℕ → ℕ → ℕ → List ℕ
block first x y z more = flac ++ (first ∷ x ∷ y ∷ z ∷ replicate more 0x55)

verdicts : List Verdict
verdicts =
    -- four bytes or more, the first `81`
    judged av1 (0x81 ∷ 0 ∷ 0 ∷ 0 ∷ []) true
    ∷ judged av1 (0x81 ∷ 0 ∷ 0 ∷ 0 ∷ 0xFF ∷ []) true
    ∷ judged av1 (0x81 ∷ 0 ∷ 0 ∷ []) false
    ∷ judged av1 (0x80 ∷ 0 ∷ 0 ∷ 0 ∷ []) false
    -- versions 0 to 15
    ∷ judged opus_head (header 0x00 1 0 []) true
    ∷ judged opus_head (header 0x0F 2 0 []) true
    ∷ judged opus_head (header 0x10 1 0 []) false
    -- channels: not 0 in any family; 1 or 2 in family 0, 1 to 8 in family 1, any in others
    ∷ judged opus_head (header 0x01 0 0 []) false
    ∷ judged opus_head (header 0x01 0 255 (replicate 30 0)) false
    ∷ judged opus_head (header 0x01 3 0 (replicate 30 0)) false
    ∷ judged opus_head (header 0x01 8 1 (replicate 10 0)) true
    ∷ judged opus_head (header 0x01 8 1 (replicate 9 0)) false
    ∷ judged opus_head (header 0x01 9 1 (replicate 30 0)) false
    ∷ judged opus_head (header 0x01 9 2 (replicate 11 0)) true
    ∷ judged opus_head (header 0x01 9 2 (replicate 10 0)) false
    ∷ judged opus_head (header 0x01 1 255 (replicate 3 0)) true
    ∷ judged opus_head (header 0x01 1 255 (replicate 2 0)) false
    -- an empty record
    ∷ judged opus_head [] false
    -- either last-block bit; type 0; length 34 by all three bytes; 34 bytes or more
    ∷ judged flac_head (block 0x00 0 0 0x22 34) true
    ∷ judged flac_head (block 0x80 0 0 0x22 35) true
    ∷ judged flac_head (block 0x84 0 0 0x22 34) false
    ∷ judged flac_head (block 0x00 1 0 0x22 34) false
    ∷ judged flac_head (block 0x00 0 1 0x22 34) false
    ∷ judged flac_head (block 0x00 0 0 0x22 33) false
    ∷ []

all : List Verdict → Bool
all [] = true
all (v ∷ vs) = beq (accepted (v.grammar v.rec)) v.valid && all vs

every_verdict : all verdicts ≡ true
unfolding all verdicts av1 opus_mapping opus_head flac_head byte skip guard word branch sealed_rest
every_verdict = refl

-- WHAT IS SEALED: of AV1 bytes 1 on
av1_mask : av1 (0x81 ∷ 0xAA ∷ 0xBB ∷ 0xCC ∷ []) ≡ some (false ∷ true ∷ true ∷ true ∷ [])
unfolding av1 byte skip guard sealed_rest
av1_mask = refl

-- of Opus bytes 10 to 17, and 19 on: here the two counts of streams and a byte for one channel
opus_mask : opus_head (header 0x0F 1 1 (0xAA ∷ 0xBB ∷ 0xCC ∷ [])) ≡ some (replicate 10 false ++ (replicate 8 true ++ (false ∷ true ∷ true ∷ true ∷ [])))
unfolding opus_mapping opus_head byte skip guard word branch sealed_rest
opus_mask = refl

-- of FLAC bytes 8 on
flac_mask : flac_head (block 0x80 0x00 0x00 0x22 34) ≡ some (replicate 8 false ++ replicate 34 true)
unfolding flac_head byte skip guard word sealed_rest
flac_mask = refl
