-- The FourCC of a track is read back from its number.
use mathlib.Core.Path.{◌≡◌, refl, sym, ap, ◌∙◌, subst}
use mathlib.Core.Option.{some}
use mathlib.Core.List.{List}
use Prim.Native.Nat.{ℕ, ◌+◌, ◌<◌}
use native.Mathlib.Omega.{arith}
use lib.ListN.{length, get_or, length-map}
use Rattle.std.specs.Prelude.{Some, None}
use Rattle.std.specs.Prelude as std
use Rattle.wire.specs.Wire.{Bytes, be32_at, bytes32}
use Rattle.wire.proofs.Numbers.{bytes32_be}
use Rattle.fourcc.specs.Fourcc.{fourcc_at}
use Rattle.multitrack_media.specs.Container.{form_in, Container, track_fourcc, header_at, place_of, place_at, no_place, container_of}
use Rattle.multitrack_media.specs.declared.AvMultitrackType.{AvMultitrackType}
use Rattle.multitrack_media.specs.declared.AvMultitrackType.TheVariants.{OneTrack, ManyTracks, ManyTracksManyCodecs}
use Rattle.multitrack_media.specs.declared.TrackHeader.{TrackHeader}
use Rattle.multitrack_media.specs.declared.TrackPlace.{TrackPlace}
use Rattle.multitrack_media.proofs.Containers.{container_found}
use Rattle.multitrack_media.proofs.Answers.{get_d_map}

abbrev pub Numbered : List ℕ → Type 0
Numbered f = bytes32 (be32_at f 0) ≡ f

module _ (p : List ℕ) (bytes : Bytes p) where
  numbered_at : (i : ℕ) → Numbered (fourcc_at p i)
  unfolding fourcc_at
  numbered_at i = bytes32_be _ _ _ _ (bytes i) (bytes (i + 1)) (bytes (i + 2)) (bytes (i + 3))

  own_numbered : (i : ℕ) (form : AvMultitrackType) → Numbered (track_fourcc form p i)
  unfolding track_fourcc
  own_numbered i OneTrack = numbered_at 2
  own_numbered i ManyTracks = numbered_at 2
  own_numbered i ManyTracksManyCodecs = numbered_at i

  place_numbered : (form : AvMultitrackType) (i : ℕ) → Numbered (place_at form p i).fourcc
  unfolding place_at
  place_numbered form i = go (header_at form p i)
    where
      go : (h : std.Option TrackHeader) → Numbered (place_of h (track_fourcc form p i)).fourcc
      go (Some h) = own_numbered i form
      go None = refl

  pub track_numbered : (type : ℕ) (k : Container) → container_of type p ≡ some k → (i : ℕ) → i < length k.tracks → Numbered (get_or k.tracks i no_place).fourcc
  track_numbered type k q i l =
      let f = container_found type p k q in
      let m : i < length f.heads = omega (arith, l, ap length f.placed, length-map f.heads (place_at (form_in p) p)) in
      subst (λ (t : TrackPlace). Numbered t.fourcc)
      (sym (ap (λ (ts : List TrackPlace). get_or ts i no_place) f.placed ∙ get_d_map (place_at (form_in p) p) f.heads i 0 no_place m))
      (place_numbered (form_in p) (get_or f.heads i 0))
