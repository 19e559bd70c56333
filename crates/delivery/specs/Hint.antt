-- The delivery hint, by the first rule that fits.
use Rattle.std.specs.Prelude.{Bool, cond, not, ◌&&◌, ◌||◌, List, [], ◌∷◌, ℕ, eqb, Option, Some, None}
use Rattle.wire.specs.Wire.{low}
use Rattle.types.specs.Types.{is_audio, is_script_or_metadata}
use Rattle.exvideo.specs.Video.{is_enhanced}
use Rattle.init_cache.specs.Head.{is_enhanced_of, is_video_of}
use Rattle.init_cache.specs.Seen.{seen, is_container_of}
use Rattle.init_cache.specs.Kind.{kind_number, kind_of}
use Rattle.init_cache.specs.declared.head.FrameHead.{FrameHead}
use Rattle.init_cache.specs.declared.seen.Seen.{Seen}
use Rattle.init_cache.specs.declared.kind.CacheFrameKind.{CacheFrameKind}
use Rattle.delivery.specs.declared.DeliveryHint.{DeliveryHint}
use Rattle.delivery.specs.declared.DeliveryHint.TheVariants.{Critical, ResyncPoint, Droppable}

-- hints: 0 Critical, 1 ResyncPoint, 2 Droppable
abbrev pub hint_number : DeliveryHint → ℕ
hint_number Critical = 0
hint_number ResyncPoint = 1
hint_number Droppable = 2

-- the hint of a number; above 2 there is none
unfoldable pub hint_from : ℕ → Option DeliveryHint
hint_from n = cond (eqb n 0) (Some Critical) (cond (eqb n 1) (Some ResyncPoint) (cond (eqb n 2) (Some Droppable) None))

-- a hint in numbers, if there is one
abbrev pub hint_numbers : Option DeliveryHint → List ℕ
hint_numbers (Some h) = hint_number h ∷ []
hint_numbers None = []

-- kinds 1, 2: sequence headers
abbrev pub is_sequence_header : CacheFrameKind → Bool
is_sequence_header kind = eqb (kind_number kind) 1 || eqb (kind_number kind) 2

-- video of frame type 5 unless enhanced with packet type 7
unfoldable pub is_command_frame : ℕ → FrameHead → Bool
is_command_frame type h = is_video_of 5 type h && not (is_enhanced h.tag && eqb (low h.tag) 7)

-- packet type k of a readable enhanced header or accepted container
unfoldable pub names_packet_type : ℕ → Seen → Bool
names_packet_type k s = is_enhanced_of k s.head || is_container_of k s

-- packet type 4, or 3 in audio: metadata and MultichannelConfig
unfoldable pub is_metadata : ℕ → Seen → Bool
is_metadata type s = names_packet_type 4 s || (is_audio type && names_packet_type 3 s)

-- Critical: types 2, 3; kinds 1, 2; empty audio; video of frame type 5 unless enhanced with packet type 7; packet type 4, or 3 in audio
unfoldable pub is_critical : ℕ → Seen → CacheFrameKind → Bool
is_critical type s kind =
    is_script_or_metadata type
    || (is_sequence_header kind
    || ((is_audio type && eqb s.head.size 0)
    || (is_command_frame type s.head
    || is_metadata type s)))

-- ResyncPoint: kind 3; other audio if the flag is 0, which means no video on the route
unfoldable pub is_resync_point : ℕ → ℕ → CacheFrameKind → Bool
is_resync_point type flag kind = eqb (kind_number kind) 3 || (is_audio type && eqb flag 0)

-- else Droppable; from what is seen of a frame, and its kind
unfoldable pub hint_of : ℕ → ℕ → Seen → CacheFrameKind → DeliveryHint
hint_of type flag s kind = cond (is_critical type s kind) Critical (cond (is_resync_point type flag kind) ResyncPoint Droppable)

-- THE DELIVERY HINT of a frame
unfoldable pub delivery_hint : ℕ → ℕ → List ℕ → DeliveryHint
delivery_hint type flag p = hint_of type flag (seen type p) (kind_of type (seen type p))
