-- Sealed bytes of a container, from a mask of bodies by FourCC. Whatever stands before and between the bodies is open.
use Rattle.std.specs.Prelude.{Bool, false, ◌&&◌, ◌||◌, List, [], ◌∷◌, map, ℕ, ◌+◌, ◌-◌, ltb, leb, length}
use Rattle.wire.specs.Mask.{Mask, sealed_bytes, sealed_at}
use Rattle.multitrack_media.specs.Container.{Container, body_in}
use Rattle.multitrack_media.specs.declared.TrackPlace.{TrackPlace}

-- byte i stands in a track's body
unfoldable pub in_body : TrackPlace → ℕ → Bool
in_body t i = leb t.start i && ltb i (t.start + t.length)

-- byte i stands in a body, and the mask of that body seals it there
abbrev pub sealed_in_tracks : (List ℕ → List ℕ → Mask) → List ℕ → List TrackPlace → ℕ → Bool
sealed_in_tracks mask p [] i = false
sealed_in_tracks mask p (t ∷ ts) i = (in_body t i && sealed_at (mask t.fourcc (body_in p t)) (i - t.start)) || sealed_in_tracks mask p ts i

unfoldable pub sealed_in_container : (List ℕ → List ℕ → Mask) → List ℕ → Container → ℕ → Bool
sealed_in_container mask p c i = sealed_in_tracks mask p c.tracks i

-- bodies sealed whole
abbrev pub whole : List ℕ → List ℕ → Mask
whole fourcc body = sealed_bytes (length body)

abbrev pub in_any_body : List TrackPlace → ℕ → Bool
in_any_body [] i = false
in_any_body (t ∷ ts) i = in_body t i || in_any_body ts i

-- a value for each track, from its FourCC and body
abbrev pub per_track : {W : Type 0} → (List ℕ → List ℕ → W) → List ℕ → List TrackPlace → List W
per_track value p ts = map (λ (t : TrackPlace). value t.fourcc (body_in p t)) ts
