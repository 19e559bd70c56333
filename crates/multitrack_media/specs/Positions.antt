-- For contracts of private functions and for proofs: what a walk over the heads of tracks is after.
use Rattle.std.specs.Prelude.{cond, List, [], ◌∷◌, ℕ, zero, suc, ◌+◌, ◌-◌, ◌/◌, eqb, ltb, leb, length, get_or, Result, Ok, Err, Some, None}
use Rattle.std.specs.Prelude as std
use Rattle.std.proofs.Math.Option.{Option, none, some}
use Rattle.types.specs.declared.ErrorCode.{ErrorCode}
use Rattle.types.specs.declared.ErrorCode.TheVariants as error
use Rattle.multitrack_media.specs.Container.{place_at}
use Rattle.multitrack_media.specs.declared.AvMultitrackType.{AvMultitrackType}
use Rattle.multitrack_media.specs.declared.TrackPlace.{TrackPlace}
use Rattle.multitrack_media.specs.declared.Walk.{Walk}

-- what a walk to the payload's end finds: the number of tracks, and where the head of the one that is wanted starts
abbrev pub walk : ℕ → ℕ → std.Option Walk
walk count at = Some (record { count = count; at = at })

-- the number of tracks, and where the head of track n starts, if there is one
unfoldable pub walk_of : ℕ → Option (List ℕ) → std.Option Walk
walk_of n none = None
walk_of n (some heads) = walk (length heads) (get_or heads n 0)

-- the same where c tracks are behind; the head of track n, if it was one of them, starts at w
unfoldable pub walk_on : ℕ → ℕ → ℕ → Option (List ℕ) → std.Option Walk
walk_on n c w none = None
walk_on n c w (some heads) = walk (c + length heads) (cond (ltb n c) w (get_or heads (n - c) w))

-- the head of track n, now that a track of number c has its head at i
abbrev pub pick : ℕ → ℕ → ℕ → ℕ → ℕ
pick n c i w = cond (eqb n c) i w

-- the places of n tracks one behind the other, the first of which has its head at i
unfoldable pub places_at : ℕ → AvMultitrackType → List ℕ → ℕ → List TrackPlace
places_at zero form p i = []
places_at (suc n) form p i = place_at form p i ∷ places_at n form p ((place_at form p i).start + (place_at form p i).length)

-- the count, where c tracks are behind
unfoldable pub count_heads : ℕ → Option (List ℕ) → Result ℕ ErrorCode
count_heads c none = Err error.NotAContainer
count_heads c (some heads) = Ok (c + length heads)
