-- What is shown of the composition time: its two numbers are got back exactly; who is refused for an offset; and that nothing else has moved.
use Rattle.std.specs.Prelude.{◌≡◌, Bool, true, false, cond, ◌||◌, List, [], ◌∷◌, ℕ, ◌≤◌, ltb, eqb, ℤ, pos, negsuc, ◌*ℤ◌, length}
use Rattle.wire.specs.Wire.{Bytes, bit}
use Rattle.types.specs.Types.{is_unknown_type}
use Rattle.types.specs.declared.ErrorCode.TheVariants as error
use Rattle.modex.specs.Modex.{peeled_layers, peeled}
use Rattle.modex.specs.Offsets.{has_bad_offset, chain_offset}
use Rattle.modex.specs.declared.ModexLayer.{ModexLayer}
use Rattle.exvideo.specs.Video.{pattern32}
use Rattle.init_cache.specs.Head.{tag_header}
use Rattle.frame.specs.Time.{milliseconds, nanoseconds, composition_time, split_time}
use Rattle.frame.specs.Pass.{pass_error, pass_report}

-- A NUMBER OF NANOSECONDS SPLIT: both parts make it, the offset is at most 999,999, and no other such pair makes it
pub record SplitOf (ns : ℤ) : Type 0 where
  pub whole : nanoseconds (split_time ns).milliseconds (split_time ns).offset ≡ ns
  pub most : (split_time ns).offset ≤ 999999
  pub only : (ms : ℤ) (offset : ℕ) → offset ≤ 999999 → nanoseconds ms offset ≡ ns → split_time ns ≡ record { milliseconds = ms; offset = offset }

unfoldable pub Splits : Type 0
Splits = (ns : ℤ) → SplitOf ns

-- an integer from -n to n - 1
abbrev pub in_range : ℕ → ℤ → Bool
in_range n (pos m) = ltb m n
in_range n (negsuc m) = ltb m n

-- OLD TIME AND OFFSET of a pass that is not refused
pub record Recovered (type mask flag : ℕ) (p : List ℕ) (room : ℕ) : Type 0 where
  -- the report has the composition time, from -8,388,608,000,000 to 8,388,607,999,999
  pub reported : (pass_report type mask flag p room).composition_time_ns ≡ composition_time type mask p
  pub range : in_range 8388608000000 (composition_time type mask p) ≡ true
  -- split, it is the milliseconds of the result's header and the last offset of the chain
  pub parts : split_time (composition_time type mask p) ≡ record { milliseconds = milliseconds type (tag_header type (peeled type mask p)); offset = chain_offset type mask p }
  -- and the 32-bit pattern of the milliseconds is the field that the plain header has
  pub field : pattern32 (split_time (composition_time type mask p)).milliseconds ≡ (tag_header type (peeled type mask p)).composition_time

unfoldable pub Recovery : Type 0
Recovery = (type mask flag : ℕ) (p : List ℕ) (room : ℕ) → Bytes p → pass_error type mask p room ≡ error.Ok → Recovered type mask flag p room

-- WHO IS REFUSED with -3: a frame of a known type whose result has room, and whose peeled chain has a bad layer
pub record BadOffset (type mask : ℕ) (p : List ℕ) (room : ℕ) : Type 0 where
  pub known : is_unknown_type type ≡ false
  pub room_for : length (peeled type mask p) ≤ room
  pub bad : has_bad_offset type mask p ≡ true

pub record RefusedIff (type mask : ℕ) (p : List ℕ) (room : ℕ) : Type 0 where
  pub refused : BadOffset type mask p room → pass_error type mask p room ≡ error.Protocol
  pub only : pass_error type mask p room ≡ error.Protocol → BadOffset type mask p room

unfoldable pub Refusals : Type 0
Refusals = (type mask : ℕ) (p : List ℕ) (room : ℕ) → RefusedIff type mask p room

-- NOTHING ELSE HAS MOVED: without a layer of type 0 in the peeled chain, refused are -21 and -22 as ever, and the time is the milliseconds times 1,000,000
abbrev pub is_type0 : ModexLayer → Bool
is_type0 l = eqb l.modex_type 0

unfoldable pub has_type0 : List ModexLayer → Bool
has_type0 [] = false
has_type0 (l ∷ ls) = is_type0 l || has_type0 ls

pub record Unmoved (type mask : ℕ) (p : List ℕ) (room : ℕ) : Type 0 where
  pub refusals : pass_error type mask p room
      ≡ cond (is_unknown_type type) error.UnknownFrameType (cond (ltb room (length (peeled type mask p))) error.OutputTooShort error.Ok)
  pub time : composition_time type mask p ≡ milliseconds type (tag_header type (peeled type mask p)) *ℤ pos 1000000

unfoldable pub Unmoving : Type 0
Unmoving = (type mask : ℕ) (p : List ℕ) (room : ℕ) → has_type0 (peeled_layers type mask p) ≡ false → Unmoved type mask p room

-- and so under every mask without 0x04, whatever the layers hold
unfoldable pub UnmovingMasks : Type 0
UnmovingMasks = (type mask : ℕ) (p : List ℕ) (room : ℕ) → bit 2 mask ≡ false → Unmoved type mask p room
