-- The definitions by the tests that the code makes, one law for each answer.
use mathlib.Core.Path.{◌≡◌}
use mathlib.Core.Bool.{true, false}
use mathlib.Core.List.{List}
use Prim.Native.Nat.{ℕ, ◌/◌, ◌%◌, ◌<◌, ◌≤◌}
use lib.ListN.{length}
use borrow.Author.Tests.{lt-ltb, le-ltb, le-leb, lt-leb, eq-eqb, ne_eqb}
use Rattle.wire.specs.Wire.{byte_at}
use Rattle.types.specs.Types.{no_fourcc, default_video_header}
use Rattle.fourcc.specs.Fourcc.{fourcc_at}
use Rattle.exvideo.specs.Video.{is_enhanced, tag_frame_type, is_command, is_legacy_avc, is_timed, time_at, legacy_video, enhanced_video, accept, refuse, legacy_header, enhanced_header, video_header}

-- WHAT BYTE 0 SAYS
module _ (b : ℕ) where
  pub frame_legacy : is_enhanced b ≡ false → b / 16 ≡ tag_frame_type b
  unfolding tag_frame_type
  frame_legacy x = simp x

  module _ (x : is_enhanced b ≡ true) where
    pub frame_enhanced : b / 16 % 8 ≡ tag_frame_type b
    unfolding tag_frame_type
    frame_enhanced = simp x

-- LEGACY
module _ (b : ℕ) (p : List ℕ) where
  module _ (x : is_enhanced b ≡ false) where
    pub legacy_other : (b % 16 ≡ 7 → ⊥) → accept (legacy_video b 0 1) ≡ legacy_header b p
    unfolding legacy_header is_legacy_avc
    legacy_other h = simp (x, ne_eqb _ _ h)

    module _ (h : b % 16 ≡ 7) where
      pub legacy_short : length p < 5 → accept (legacy_video b 0 1) ≡ legacy_header b p
      unfolding legacy_header is_legacy_avc
      legacy_short l = simp (x, h, lt-leb _ _ l)

      pub legacy_avc : 5 ≤ length p → (t : ℕ) → t ≡ time_at p 2 → accept (legacy_video b t 5) ≡ legacy_header b p
      unfolding legacy_header is_legacy_avc
      legacy_avc l t e = simp (x, h, le-leb _ _ l, e)

  -- ENHANCED
  pub enhanced_command_cut : is_command b ≡ true → length p < 2 → refuse (enhanced_video b no_fourcc 0 0) ≡ enhanced_header b p
  unfolding enhanced_header
  enhanced_command_cut c l = simp (c, lt-ltb _ _ l)

  pub enhanced_command : is_command b ≡ true → 2 ≤ length p → accept (enhanced_video b no_fourcc 0 2) ≡ enhanced_header b p
  unfolding enhanced_header
  enhanced_command c l = simp (c, le-ltb _ _ l)

  module _ (c : is_command b ≡ false) where
    pub enhanced_cut : length p < 5 → refuse (enhanced_video b no_fourcc 0 0) ≡ enhanced_header b p
    unfolding enhanced_header
    enhanced_cut l = simp (c, lt-ltb _ _ l)

    module _ (l : 5 ≤ length p) (f : List ℕ) (g : f ≡ fourcc_at p 1) where
      pub enhanced_time_cut : is_timed b f ≡ true → length p < 8 → refuse (enhanced_video b f 0 5) ≡ enhanced_header b p
      unfolding enhanced_header
      enhanced_time_cut t m = simp (← g, c, le-ltb _ _ l, t, lt-ltb _ _ m)

      pub enhanced_timed_lem : is_timed b f ≡ true → 8 ≤ length p → (u : ℕ) → u ≡ time_at p 5 → accept (enhanced_video b f u 8) ≡ enhanced_header b p
      unfolding enhanced_header
      enhanced_timed_lem t m u e = simp (← g, c, le-ltb _ _ l, t, le-ltb _ _ m, e)

      pub enhanced_plain : is_timed b f ≡ false → accept (enhanced_video b f 0 5) ≡ enhanced_header b p
      unfolding enhanced_header
      enhanced_plain t = simp (← g, c, le-ltb _ _ l, t)

-- THE HEADER
module _ (p : List ℕ) where
  pub video_empty : length p ≡ 0 → refuse default_video_header ≡ video_header p
  unfolding video_header
  video_empty h = simp (eq-eqb _ _ h)

  module _ (h : length p ≡ 0 → ⊥) where
    pub video_enhanced : is_enhanced (byte_at p 0) ≡ true → enhanced_header (byte_at p 0) p ≡ video_header p
    unfolding video_header
    video_enhanced x = simp (ne_eqb _ _ h, x)

    pub video_legacy : is_enhanced (byte_at p 0) ≡ false → legacy_header (byte_at p 0) p ≡ video_header p
    unfolding video_header
    video_legacy x = simp (ne_eqb _ _ h, x)
