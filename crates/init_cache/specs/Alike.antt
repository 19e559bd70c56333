-- What kind and hint depend on, the route flag apart.
use Rattle.std.specs.Prelude.{◌≡◌, true, List, ℕ, length}
use Rattle.wire.specs.Wire.{byte_at}
use Rattle.types.specs.Types.{is_video}
use Rattle.exvideo.specs.Video.{is_legacy_avc}
use Rattle.multitrack_media.specs.Answer.{has_packet_type}
use Rattle.init_cache.specs.Head.{tag_header}
use Rattle.init_cache.specs.Verdicts.{verdicts}

-- two payloads of one type have the same length, byte 0, byte 1 if they are legacy AVC, header with its error, acceptance and packet type of the
-- container, and verdicts
pub record Alike (type : ℕ) (p q : List ℕ) : Type 0 where
  pub long : length p ≡ length q
  pub byte0 : byte_at p 0 ≡ byte_at q 0
  pub byte1 : is_video type ≡ true → is_legacy_avc (byte_at p 0) ≡ true → byte_at p 1 ≡ byte_at q 1
  pub header : tag_header type p ≡ tag_header type q
  pub container : (k : ℕ) → has_packet_type type p k ≡ has_packet_type type q k
  pub verdict : verdicts type p ≡ verdicts type q
