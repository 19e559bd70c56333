-- For contracts of private functions: how much room entries take, and what stands before a body.
use Rattle.std.specs.Prelude.{cond, ℕ, ◌+◌, ◌-◌, eqb, ltb, Option, Some, None}
use Rattle.multitrack_media.specs.declared.AvMultitrackType.{AvMultitrackType}
use Rattle.multitrack_media.specs.declared.AvMultitrackType.TheVariants.{OneTrack, ManyTracks, ManyTracksManyCodecs}

-- an entry of length n, with what stands before it: `short` bytes up to 255, `long` from 256 on
abbrev pub with_head : ℕ → ℕ → ℕ → ℕ
with_head short long n = cond (ltb n 256) short long + n

-- what n bytes leave of so much room; none if it is too short
unfoldable pub left_after : ℕ → ℕ → Option ℕ
left_after room n = cond (ltb room n) None (Some (room - n))

-- the form of a number
abbrev pub form_from : ℕ → AvMultitrackType
form_from form = cond (eqb form 0) OneTrack (cond (eqb form 1) ManyTracks ManyTracksManyCodecs)
