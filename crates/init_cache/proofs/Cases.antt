-- The tests of a frame's head by the tests that the code makes, one law for each answer.
use mathlib.Core.Path.{◌≡◌, refl}
use mathlib.Core.Bool.{true, false}
use mathlib.Core.List.{List}
use Prim.Native.Nat.{ℕ}
use Rattle.std.specs.Prelude.{None}
use Rattle.wire.specs.Wire.{byte_at}
use Rattle.codec_config.specs.Records.{start_codec}
use Rattle.codec_config.specs.declared.ConfigCodec.TheVariants.{Avc, Aac}
use Rattle.init_cache.specs.Head.{frame_head, is_enhanced_of, is_video_of, is_avc_of, is_aac_of}
use Rattle.init_cache.specs.Verdicts.{record_at, sequence_start}
use Rattle.init_cache.specs.declared.head.FrameHead.{FrameHead}

-- BYTE 0 is the head's
module _ (p : List ℕ) where
  pub head_tag : (type : ℕ) (h : FrameHead) → h ≡ frame_head type p → h.tag ≡ byte_at p 0
  unfolding frame_head
  head_tag type h e = rw e refl

-- WHAT THE OTHER TYPE NEVER IS
module _ (k : ℕ) (h : FrameHead) where
  pub never_video : is_video_of k 0 h ≡ false
  unfolding is_video_of
  never_video = refl

-- THE START OF A SEQUENCE
module _ (type : ℕ) (h : FrameHead) where
  pub start_command : is_video_of 5 type h ≡ true → None ≡ sequence_start type h
  unfolding sequence_start
  start_command a = simp a

  module _ (a : is_video_of 5 type h ≡ false) where
    pub start_enhanced : is_enhanced_of 0 h ≡ true → record_at (start_codec type h.header.fourcc) 5 ≡ sequence_start type h
    unfolding sequence_start
    start_enhanced b = simp (a, b)

    module _ (b : is_enhanced_of 0 h ≡ false) where
      pub start_avc : is_avc_of 0 type h ≡ true → record_at Avc 5 ≡ sequence_start type h
      unfolding sequence_start
      start_avc c = simp (a, b, c)

      module _ (c : is_avc_of 0 type h ≡ false) where
        pub start_aac : is_aac_of 0 type h ≡ true → record_at Aac 2 ≡ sequence_start type h
        unfolding sequence_start
        start_aac d = simp (a, b, c, d)

        pub start_none : is_aac_of 0 type h ≡ false → None ≡ sequence_start type h
        unfolding sequence_start
        start_none d = simp (a, b, c, d)
