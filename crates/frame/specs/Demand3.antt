-- Demand 3: whatever the sealed bytes hold, the whole pass treats two frames alike.
use Rattle.std.specs.Prelude.{◌≡◌, false, List, ℕ, ◌<◌, length}
use Rattle.wire.specs.Wire.{byte_at}
use Rattle.types.specs.declared.ErrorCode.TheVariants as error
use Rattle.modex.specs.Modex.{peeled}
use Rattle.multitrack_media.specs.Container.{container_of}
use Rattle.multitrack_media.specs.Answer.{track_info}
use Rattle.init_cache.specs.Head.{tag_header}
use Rattle.init_cache.specs.Verdicts.{verdicts}
use Rattle.init_cache.specs.Seen.{count_tracks}
use Rattle.init_cache.specs.Kind.{cache_kind}
use Rattle.delivery.specs.Hint.{delivery_hint}
use Rattle.frame.specs.Time.{composition_time}
use Rattle.frame.specs.Pass.{pass_error, verdict_at}
use Rattle.frame.specs.Sealed.{sealed_in_result, sealed_in_payload}

-- THE PREMISE. Two frames of one type, mask and route flag agree in payload length and output length, and their payloads on every byte that is not sealed in
-- the first. What their outputs held before is free
pub record Agree (type mask : ℕ) (p q out out' : List ℕ) : Type 0 where
  pub lengths : length p ≡ length q
  pub outputs : length out ≡ length out'
  pub unsealed : (i : ℕ) → i < length p → sealed_in_payload type mask p i ≡ false → byte_at p i ≡ byte_at q i

-- what is the same of two peeled payloads r and s
pub record SameResult (type flag : ℕ) (r s : List ℕ) : Type 0 where
  -- the length; header and header error
  pub lengths : length r ≡ length s
  pub headers : tag_header type r ≡ tag_header type s
  -- the number of tracks; each track's id, FourCC, packet type and place, by its number
  pub track_counts : count_tracks (container_of type r) ≡ count_tracks (container_of type s)
  pub tracks : (n : ℕ) → track_info type r n ≡ track_info type s n
  -- every record's verdict, in track order
  pub verdict_counts : length (verdicts type r) ≡ length (verdicts type s)
  pub record_verdicts : (n : ℕ) → verdict_at (verdicts type r) n ≡ verdict_at (verdicts type s) n
  -- kind and hint
  pub kinds : cache_kind type r ≡ cache_kind type s
  pub hints : delivery_hint type flag r ≡ delivery_hint type flag s
  -- every byte that is not sealed in the first
  pub unsealed : (i : ℕ) → i < length r → sealed_in_result type r i ≡ false → byte_at r i ≡ byte_at s i

-- THE CONCLUSION: both are refused with the same number, or neither is; if neither, the results are the same as above, and the composition times are
pub record TreatedAlike (type mask flag : ℕ) (p q out out' : List ℕ) : Type 0 where
  pub refusals : pass_error type mask p (length out) ≡ pass_error type mask q (length out')
  pub results : pass_error type mask p (length out) ≡ error.Ok → SameResult type flag (peeled type mask p) (peeled type mask q)
  pub times : pass_error type mask p (length out) ≡ error.Ok → composition_time type mask p ≡ composition_time type mask q

-- DEMAND 3, over all pairs of frames
unfoldable pub Demand3 : Type 0
Demand3 =
    (type mask flag : ℕ) (p q out out' : List ℕ) → Agree type mask p q out out' → TreatedAlike type mask flag p q out out'
