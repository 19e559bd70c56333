-- The composition time of a frame in nanoseconds, and the two numbers that it is made of.
use Rattle.std.specs.Prelude.{cond, ◌&&◌, List, ℕ, ◌-◌, ◌/◌, ◌%◌, ℤ, pos, negsuc, ◌+ℤ◌, ◌*ℤ◌}
use Rattle.types.specs.Types.{is_ok, is_video}
use Rattle.modex.specs.Modex.{peeled}
use Rattle.modex.specs.Offsets.{chain_offset}
use Rattle.exvideo.specs.Video.{signed32}
use Rattle.init_cache.specs.Head.{tag_header}
use Rattle.init_cache.specs.declared.head.TagHeader.{TagHeader}
use Rattle.frame.specs.declared.time.SplitTime.{SplitTime}

-- the milliseconds that a header of a frame of this type has: 0 without a readable video header
unfoldable pub milliseconds : ℕ → TagHeader → ℤ
milliseconds type h = cond (is_video type && is_ok h.error) (signed32 h.composition_time) (pos 0)

-- milliseconds and an offset, in nanoseconds
unfoldable pub nanoseconds : ℤ → ℕ → ℤ
nanoseconds ms offset = ms *ℤ pos 1000000 +ℤ pos offset

-- THE COMPOSITION TIME: the milliseconds of the result's header, and the last offset of the peeled chain, or 0
unfoldable pub composition_time : ℕ → ℕ → List ℕ → ℤ
composition_time type mask p = nanoseconds (milliseconds type (tag_header type (peeled type mask p))) (chain_offset type mask p)

-- A TIME SPLIT: the milliseconds, rounded down, and the offset, at most 999,999. Below 0 the number is negsuc n, which is -1 - n
unfoldable pub split_time : ℤ → SplitTime
split_time (pos n) = record { milliseconds = pos (n / 1000000); offset = n % 1000000 }
split_time (negsuc n) = record { milliseconds = negsuc (n / 1000000); offset = 999999 - n % 1000000 }
