-- What the calls say of acceptance, held against encodings alone: no reader stands between.
use Rattle.std.specs.Prelude.{◌≡◌, true, cond, ◌↔◌, List, [], ℕ, ◌+◌, ◌%◌, ◌≤◌, ◌<◌, length, get_or, take, Ok, Err}
use Rattle.wire.specs.Wire.{Bytes, byte_at, high, low}
use Rattle.types.specs.Types.{is_video}
use Rattle.types.specs.declared.ErrorCode.TheVariants as error
use Rattle.multitrack_media.specs.Tracks.{Track, head_size, tracks_bytes}
use Rattle.multitrack_media.specs.Container.{opens_container, form_of, legal_head, tracks_start, Encoding, container_bytes, Accepted}
use Rattle.multitrack_media.specs.Answer.{track_count, no_track, track_info, track_part}

-- A LEGAL HEAD, IN WORDS: byte 0 opens a container; byte 1's high nibble is a form; its low nibble, every track's packet type, is not that of byte 0, which
-- says container
unfoldable pub LegalHead : Type 0
LegalHead =
    (type b0 b1 : ℕ) → (legal_head type b0 b1 ≡ true) ↔ ((opens_container type b0 ≡ true) × (high b1 ≤ 2) × (low b1 ≡ low b0 → ⊥))

-- track n of an encoding, where it has one
abbrev pub absent : Track
absent = record { id = 0; fourcc = []; body = [] }

abbrev pub track_of : Encoding → ℕ → Track
track_of e n = get_or e.tracks n absent

-- where its body starts: behind byte 1 and the shared FourCC, the encodings of the tracks before it, and its own head
abbrev pub body_start : Encoding → ℕ → ℕ
body_start e n = tracks_start (form_of e.byte1) + length (tracks_bytes (form_of e.byte1) (take n e.tracks)) + head_size (form_of e.byte1)

-- THE ANSWERS ON AN ACCEPTED ENCODING
pub record AnswersOf (type : ℕ) (p : List ℕ) (e : Encoding) : Type 0 where
  -- the encoding, written, is the payload
  pub written : container_bytes e ≡ p
  -- track n: id, packet type, FourCC and place; its part is its body
  pub there : (n : ℕ) → n < length e.tracks
      → track_info type p n
      ≡ record {
        error = error.Ok;
        count = length e.tracks;
        track_id = (track_of e n).id;
        packet_type = low e.byte1;
        fourcc = (track_of e n).fourcc;
        video_frame_type = cond (is_video type) (high e.byte0 % 8) 0;
        start = body_start e n;
        length = length (track_of e n).body;
      }
  pub bodies : (n : ℕ) → n < length e.tracks → track_part type p n ≡ (track_of e n).body
  -- a number that is not below the count: -23, with the true count
  pub past : (n : ℕ) → length e.tracks ≤ n → track_info type p n ≡ no_track error.NoSuchTrack (length e.tracks)

-- ACCEPTANCE, of a frame type up to 3 and a payload of bytes
pub record AcceptanceOf (type : ℕ) (p : List ℕ) : Type 0 where
  -- there are n tracks exactly if an encoding with n tracks is accepted
  pub counted : (n : ℕ) → (track_count type p ≡ Ok n) ↔ ((e : Encoding) × Accepted type p e × (length e.tracks ≡ n))
  -- -24 exactly if none is; then every request is refused so
  pub refused : (track_count type p ≡ Err error.NotAContainer) ↔ ((e : Encoding) → Accepted type p e → ⊥)
  pub requests : ((e : Encoding) → Accepted type p e → ⊥) → (n : ℕ) → track_info type p n ≡ no_track error.NotAContainer 0
  -- none is where a container is named inside the container: byte 1 has the packet type of byte 0
  pub nested : low (byte_at p 1) ≡ low (byte_at p 0) → (e : Encoding) → Accepted type p e → ⊥
  -- at most one is
  pub unique : (e d : Encoding) → Accepted type p e → Accepted type p d → e ≡ d
  pub answers : (e : Encoding) → Accepted type p e → AnswersOf type p e

unfoldable pub Acceptance : Type 0
Acceptance = (type : ℕ) (p : List ℕ) → type ≤ 3 → Bytes p → AcceptanceOf type p
