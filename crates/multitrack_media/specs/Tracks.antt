-- Tracks of a container (Enhanced RTMP v2, multitrack): how a track is written in each form, and when tracks tile the rest of a payload.
use Rattle.std.specs.Prelude.{◌≡◌, List, [], ◌∷◌, ◌++◌, ℕ, ◌≤◌, ◌<◌, length}
use Rattle.wire.specs.Wire.{bytes24}
use Rattle.multitrack_media.specs.declared.AvMultitrackType.{AvMultitrackType}
use Rattle.multitrack_media.specs.declared.AvMultitrackType.TheVariants.{OneTrack, ManyTracks, ManyTracksManyCodecs}

-- a track: its id, its FourCC and its body
pub record Track : Type 0 where
  pub id : ℕ
  pub fourcc : List ℕ
  pub body : List ℕ

-- what stands before a track's body: an id byte and a 24-bit length, which OneTrack does not have; in ManyTracksManyCodecs a FourCC before them
abbrev pub track_head : AvMultitrackType → Track → List ℕ
track_head OneTrack t = t.id ∷ []
track_head ManyTracks t = t.id ∷ bytes24 (length t.body)
track_head ManyTracksManyCodecs t = t.fourcc ++ (t.id ∷ bytes24 (length t.body))

-- how many bytes that is
abbrev pub head_size : AvMultitrackType → ℕ
head_size OneTrack = 1
head_size ManyTracks = 4
head_size ManyTracksManyCodecs = 8

-- a track's encoding, and those of tracks one after the other
abbrev pub track_bytes : AvMultitrackType → Track → List ℕ
track_bytes form t = track_head form t ++ t.body

abbrev pub tracks_bytes : AvMultitrackType → List Track → List ℕ
tracks_bytes form [] = []
tracks_bytes form (t ∷ ts) = track_bytes form t ++ tracks_bytes form ts

-- a track that the form can hold: its FourCC is the shared one, or has four bytes; its body's length has 24 bits where it is written
abbrev pub Holds : AvMultitrackType → List ℕ → Track → Type 0
Holds OneTrack shared t = t.fourcc ≡ shared
Holds ManyTracks shared t = (t.fourcc ≡ shared) × (length t.body < 16777216)
Holds ManyTracksManyCodecs shared t = (length t.fourcc ≡ 4) × (length t.body < 16777216)

-- of each of the tracks
abbrev pub Each : (Track → Type 0) → List Track → Type 0
Each P [] = Unit {0}
Each P (t ∷ ts) = P t × Each P ts

-- 4,096 tracks at most, in OneTrack one
abbrev pub most : AvMultitrackType → ℕ
most OneTrack = 1
most ManyTracks = 4096
most ManyTracksManyCodecs = 4096

-- TILING: the bytes are the encodings of tracks that the form can hold, 1 to 4,096 of them, exactly one in OneTrack
pub record Tiles (form : AvMultitrackType) (shared : List ℕ) (ts : List Track) (bytes : List ℕ) : Type 0 where
  pub written : bytes ≡ tracks_bytes form ts
  pub held : Each (Holds form shared) ts
  pub least : 0 < length ts
  pub limit : length ts ≤ most form
