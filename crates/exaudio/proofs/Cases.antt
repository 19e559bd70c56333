-- The definitions by the tests that the code makes, one law for each answer.
use mathlib.Core.Path.{◌≡◌}
use mathlib.Core.List.{List}
use Prim.Native.Nat.{ℕ, ◌/◌, ◌<◌, ◌≤◌}
use lib.ListN.{length}
use borrow.Author.Tests.{lt-ltb, le-ltb, le-leb, lt-leb, eq-eqb, ne_eqb}
use Rattle.std.specs.Prelude.{Ok}
use Rattle.wire.specs.Wire.{byte_at}
use Rattle.types.specs.declared.ErrorCode.TheVariants.{Io}
use Rattle.types.specs.declared.AudioCodec.{AudioCodec}
use Rattle.fourcc.specs.Fourcc.{fourcc_at}
use Rattle.exaudio.specs.Audio.{sound_format, legacy_audio, enhanced_audio, accept, refuse, legacy_header, enhanced_header, audio_header}

module _ (b : ℕ) (p : List ℕ) where
  -- LEGACY
  module _ (c : AudioCodec) where
    pub legacy_other : (b / 16 ≡ 10 → ⊥) → accept (legacy_audio b c 0 1) ≡ legacy_header b p (Ok c)
    unfolding legacy_header
    legacy_other h = simp (ne_eqb _ _ h)

    module _ (h : b / 16 ≡ 10) where
      pub legacy_short : length p < 2 → accept (legacy_audio b c 0 1) ≡ legacy_header b p (Ok c)
      unfolding legacy_header
      legacy_short l = simp (h, lt-leb _ _ l)

      pub legacy_aac : 2 ≤ length p → accept (legacy_audio b c (byte_at p 1) 2) ≡ legacy_header b p (Ok c)
      unfolding legacy_header
      legacy_aac l = simp (h, le-leb _ _ l)

  -- ENHANCED
  pub enhanced_cut : length p < 5 → refuse Io ≡ enhanced_header b p
  unfolding enhanced_header
  enhanced_cut l = simp (lt-ltb _ _ l)

  pub enhanced_whole : 5 ≤ length p → (f : List ℕ) → f ≡ fourcc_at p 1 → accept (enhanced_audio b f) ≡ enhanced_header b p
  unfolding enhanced_header
  enhanced_whole l f g = simp (← g, le-ltb _ _ l)

-- THE HEADER
module _ (p : List ℕ) where
  pub audio_empty : length p ≡ 0 → refuse Io ≡ audio_header p
  unfolding audio_header
  audio_empty h = simp (eq-eqb _ _ h)

  module _ (h : length p ≡ 0 → ⊥) where
    pub audio_enhanced : byte_at p 0 / 16 ≡ 9 → enhanced_header (byte_at p 0) p ≡ audio_header p
    unfolding audio_header
    audio_enhanced x = simp (ne_eqb _ _ h, eq-eqb _ _ x)

    pub audio_legacy : (byte_at p 0 / 16 ≡ 9 → ⊥) → legacy_header (byte_at p 0) p (sound_format (byte_at p 0 / 16)) ≡ audio_header p
    unfolding audio_header
    audio_legacy x = simp (ne_eqb _ _ h, ne_eqb _ _ x)
