-- The cache kind, by the first rule that fits.
use Rattle.std.specs.Prelude.{Bool, cond, not, ◌&&◌, ◌||◌, List, ℕ, eqb}
use Rattle.types.specs.Types.{is_video, is_script_or_metadata}
use Rattle.exvideo.specs.Video.{is_enhanced, is_legacy_avc}
use Rattle.multitrack_media.specs.Container.{opens_container}
use Rattle.init_cache.specs.Head.{is_readable, is_enhanced_of, is_video_of, is_avc_of, is_aac_of}
use Rattle.init_cache.specs.Seen.{seen, is_container_of, all_valid}
use Rattle.init_cache.specs.declared.head.FrameHead.{FrameHead}
use Rattle.init_cache.specs.declared.seen.Seen.{Seen}
use Rattle.init_cache.specs.declared.kind.CacheFrameKind.{CacheFrameKind}
use Rattle.init_cache.specs.declared.kind.CacheFrameKind.TheVariants.{LiveOnly, VideoSequenceHeader, AudioSequenceHeader, VideoKeyframe}

-- kinds: 0 LiveOnly, 1 VideoSequenceHeader, 2 AudioSequenceHeader, 3 VideoKeyframe
abbrev pub kind_number : CacheFrameKind → ℕ
kind_number LiveOnly = 0
kind_number VideoSequenceHeader = 1
kind_number AudioSequenceHeader = 2
kind_number VideoKeyframe = 3

-- and the kind of a number; LiveOnly also where no kind has it
unfoldable pub kind_by_number : ℕ → CacheFrameKind
kind_by_number n = cond (eqb n 1) VideoSequenceHeader (cond (eqb n 2) AudioSequenceHeader (cond (eqb n 3) VideoKeyframe LiveOnly))

-- 1 in video, 2 in audio if all records are valid, else 0
abbrev pub start_kind : ℕ → Seen → CacheFrameKind
start_kind type s = cond (all_valid s) (cond (is_video type) VideoSequenceHeader AudioSequenceHeader) LiveOnly

-- legacy video that is not AVC, or AVC with byte 1 equal to 1
unfoldable pub is_legacy_frame : ℕ → FrameHead → Bool
is_legacy_frame type h = not (is_enhanced h.tag) && (not (is_legacy_avc h.tag) || is_avc_of 1 type h)

-- of a single frame
unfoldable pub single_kind : ℕ → Seen → CacheFrameKind
single_kind type s =
    -- enhanced, packet type 0: 1 or 2 likewise, by the record from byte 5
    cond (is_enhanced_of 0 s.head) (start_kind type s)
    -- enhanced video, packet type 1 or 3, frame type 1: 3
    (cond (is_video_of 1 type s.head && (is_enhanced_of 1 s.head || is_enhanced_of 3 s.head)) VideoKeyframe
    -- legacy AVC or AAC with byte 1 equal to 0: likewise by its own rule, from byte 5 or 2
    (cond (is_avc_of 0 type s.head || is_aac_of 0 type s.head) (start_kind type s)
    -- legacy video of frame type 1, not AVC or with byte 1 equal to 1: 3
    (cond (is_video_of 1 type s.head && is_legacy_frame type s.head) VideoKeyframe
    -- else 0
    LiveOnly)))

-- of a frame, from what is seen of it
unfoldable pub kind_of : ℕ → Seen → CacheFrameKind
kind_of type s =
    -- types 2, 3 and video of frame type 5: 0
    cond (is_script_or_metadata type || is_video_of 5 type s.head) LiveOnly
    -- accepted container of packet type 0: 1 in video, 2 in audio if all records are valid, else 0
    (cond (is_container_of 0 s) (start_kind type s)
    -- accepted video container of packet type 1 or 3 and frame type 1: 3
    (cond (is_video_of 1 type s.head && (is_container_of 1 s || is_container_of 3 s)) VideoKeyframe
    -- other containers, refused headers: 0
    (cond (opens_container type s.head.tag || not (is_readable s.head)) LiveOnly
    (single_kind type s))))

-- THE CACHE KIND of a frame
unfoldable pub cache_kind : ℕ → List ℕ → CacheFrameKind
cache_kind type p = kind_of type (seen type p)
