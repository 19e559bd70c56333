-- Containers: the legal head, acceptance, and the reader.
use Rattle.std.specs.Prelude.{◌≡◌, Bool, true, cond, not, ◌&&◌, ◌||◌, List, [], ◌∷◌, ◌++◌, map, ℕ, zero, suc, ◌+◌, ◌-◌, ◌%◌, eqb, leb, length, Some, None}
use Rattle.std.specs.Prelude as std
use Rattle.std.proofs.Math.Option.{Option, none, some}
use Rattle.wire.specs.Wire.{byte_at, part, bit, high, low, be24_at}
use Rattle.wire.specs.Grammar.{require}
use Rattle.types.specs.Types.{is_audio, is_video, no_fourcc}
use Rattle.fourcc.specs.Fourcc.{fourcc_at}
use Rattle.multitrack_media.specs.Tracks.{Track, head_size, tracks_bytes, Tiles}
use Rattle.multitrack_media.specs.declared.AvMultitrackType.{AvMultitrackType}
use Rattle.multitrack_media.specs.declared.AvMultitrackType.TheVariants.{OneTrack, ManyTracks, ManyTracksManyCodecs}
use Rattle.multitrack_media.specs.declared.TrackHeader.{TrackHeader}
use Rattle.multitrack_media.specs.declared.TrackPlace.{TrackPlace}

-- a container by its byte 0: bit 7; Video with frame type not 5 and low nibble 6, or Audio with byte 0 `95`
unfoldable pub opens_container : ℕ → ℕ → Bool
opens_container type b = (is_audio type && eqb b 0x95) || (is_video type && (bit 7 b && (not (eqb (high b % 8) 5) && eqb (low b) 6)))

-- byte 1: its high nibble is the form, 0, 1 or 2; its low nibble, 0 to 15, is every track's packet type
abbrev pub form_number : AvMultitrackType → ℕ
form_number OneTrack = 0
form_number ManyTracks = 1
form_number ManyTracksManyCodecs = 2

-- the form that byte 1 names, where the head is legal
unfoldable pub form_of : ℕ → AvMultitrackType
form_of b = cond (eqb (high b) 0) OneTrack (cond (eqb (high b) 1) ManyTracks ManyTracksManyCodecs)

abbrev pub form_in : List ℕ → AvMultitrackType
form_in p = form_of (byte_at p 1)

-- a container's own number, the packet type that says container: 5 in audio, 6 in video
abbrev pub own_number : ℕ → ℕ
own_number type = cond (is_audio type) 5 6

-- A LEGAL HEAD, by bytes 0 and 1: byte 0 is that of a container; byte 1 names a form, and a packet type that is not the container's own number
unfoldable pub legal_head : ℕ → ℕ → ℕ → Bool
legal_head type b0 b1 = opens_container type b0 && (leb (high b1) 2 && not (eqb (low b1) (own_number type)))

-- forms 0 and 1 have one FourCC next; the tracks start behind it
abbrev pub shared_size : AvMultitrackType → ℕ
shared_size OneTrack = 4
shared_size ManyTracks = 4
shared_size ManyTracksManyCodecs = 0

abbrev pub tracks_start : AvMultitrackType → ℕ
tracks_start form = 2 + shared_size form

-- a container as it is written: two bytes, the shared FourCC, the tracks
pub record Encoding : Type 0 where
  pub byte0 : ℕ
  pub byte1 : ℕ
  pub shared : List ℕ
  pub tracks : List Track

abbrev pub container_bytes : Encoding → List ℕ
container_bytes e = e.byte0 ∷ e.byte1 ∷ (e.shared ++ tracks_bytes (form_of e.byte1) e.tracks)

-- ACCEPTANCE: the head is legal, so that no container names a container inside it, and the tracks tile the rest
pub record Accepted (type : ℕ) (p : List ℕ) (e : Encoding) : Type 0 where
  pub rest : List ℕ
  pub bytes : p ≡ e.byte0 ∷ e.byte1 ∷ (e.shared ++ rest)
  pub legal : legal_head type e.byte0 e.byte1 ≡ true
  pub four : length e.shared ≡ shared_size (form_of e.byte1)
  pub tiled : Tiles (form_of e.byte1) e.shared e.tracks rest

-- a container as it is read: every track's packet type; each track's id, FourCC and place, which is its body's start in the payload and its length
pub record Container : Type 0 where
  pub packet_type : ℕ
  pub tracks : List TrackPlace

-- the place of a track whose head starts at i, and the places of tracks from there on
abbrev pub place : AvMultitrackType → ℕ → Track → TrackPlace
place form i t = record { id = t.id; fourcc = t.fourcc; start = i + head_size form; length = length t.body }

abbrev pub places : AvMultitrackType → ℕ → List Track → List TrackPlace
places form i [] = []
places form i (t ∷ ts) = place form i t ∷ places form (i + head_size form + length t.body) ts

-- what there is to read in an encoding
abbrev pub contents : Encoding → Container
contents e = record { packet_type = low e.byte1; tracks = places (form_of e.byte1) (tracks_start (form_of e.byte1)) e.tracks }

-- a track, from its place
abbrev pub body_in : List ℕ → TrackPlace → List ℕ
body_in p t = part p t.start t.length

abbrev pub track_in : List ℕ → TrackPlace → Track
track_in p t = record { id = t.id; fourcc = t.fourcc; body = body_in p t }

-- a track's head as it is read: the id, the body's start and its length
abbrev pub header : ℕ → ℕ → ℕ → std.Option TrackHeader
header id start size = Some (record { track_id = id; start = start; length = size })

-- THE READER. A track's id, which stands at a position, and its body of so many bytes from start on, if it fits
unfoldable pub body_at : List ℕ → ℕ → ℕ → ℕ → std.Option TrackHeader
body_at p id start size = cond (leb (start + size) (length p)) (header (byte_at p id) start size) None

-- an id byte at i, a 24-bit length and the body
unfoldable pub sized_at : List ℕ → ℕ → std.Option TrackHeader
sized_at p i = body_at p i (i + 4) (be24_at p (i + 1))

-- the track whose head starts at i: in OneTrack its body is the rest, in ManyTracksManyCodecs its FourCC comes first
unfoldable pub header_at : AvMultitrackType → List ℕ → ℕ → std.Option TrackHeader
header_at OneTrack p i = body_at p i (i + 1) (length p - (i + 1))
header_at ManyTracks p i = sized_at p i
header_at ManyTracksManyCodecs p i = sized_at p (i + 4)

-- its FourCC, the shared one or its own
unfoldable pub track_fourcc : AvMultitrackType → List ℕ → ℕ → List ℕ
track_fourcc OneTrack p i = fourcc_at p 2
track_fourcc ManyTracks p i = fourcc_at p 2
track_fourcc ManyTracksManyCodecs p i = fourcc_at p i

-- its id, FourCC and place; all 0 where no track starts
abbrev pub no_place : TrackPlace
no_place = record { id = 0; fourcc = no_fourcc; start = 0; length = 0 }

abbrev pub place_of : std.Option TrackHeader → List ℕ → TrackPlace
place_of (Some t) fourcc = record { id = t.track_id; fourcc = fourcc; start = t.start; length = t.length }
place_of None fourcc = no_place

unfoldable pub place_at : AvMultitrackType → List ℕ → ℕ → TrackPlace
place_at form p i = place_of (header_at form p i) (track_fourcc form p i)

-- one more position in front
abbrev pub prepend : ℕ → Option (List ℕ) → Option (List ℕ)
prepend i none = none
prepend i (some heads) = some (i ∷ heads)

-- the track whose head starts at i ends with the payload, or more tracks follow
abbrev pub end_or_more : List ℕ → ℕ → std.Option TrackHeader → (ℕ → Option (List ℕ)) → Option (List ℕ)
end_or_more p i (Some t) more = cond (eqb (t.start + t.length) (length p)) (some (i ∷ [])) (prepend i (more (t.start + t.length)))
end_or_more p i None more = none

-- where the heads of at most n tracks start, the first at i, if the last of these tracks ends with the payload
unfoldable pub heads_at : ℕ → AvMultitrackType → List ℕ → ℕ → Option (List ℕ)
heads_at zero form p i = none
heads_at (suc n) form p i = end_or_more p i (header_at form p i) (heads_at n form p)

-- where the heads of a container's tracks start, 4,096 at most
unfoldable pub container_heads : ℕ → List ℕ → Option (List ℕ)
container_heads type p =
    require (legal_head type (byte_at p 0) (byte_at p 1)) (heads_at 4096 (form_in p) p (tracks_start (form_in p)))

-- the packet type and the tracks with these heads
abbrev pub with_heads : List ℕ → Option (List ℕ) → Option Container
with_heads p none = none
with_heads p (some heads) = some (record { packet_type = low (byte_at p 1); tracks = map (place_at (form_in p) p) heads })

-- THE CONTAINER that a payload is, if it is accepted
unfoldable pub container_of : ℕ → List ℕ → Option Container
container_of type p = with_heads p (container_heads type p)
