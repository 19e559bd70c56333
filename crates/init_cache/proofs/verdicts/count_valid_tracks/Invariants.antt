-- `init_cache::verdicts::count_valid_tracks`: the records that were valid so far and those in the tracks that are left are those in all tracks.
use Rattle.std.proofs.Common.{◌≡◌, ℕ, ◌+◌, ◌-◌, ◌≤◌}
use Rattle.types.specs.Types.{frame_number}
use Rattle.multitrack_media.specs.Sealed.{per_track}
use Rattle.multitrack_media.specs.Positions.{places_at}
use Rattle.init_cache.specs.Verdicts.{track_verdict, count_valid}
use Rattle.init_cache.proofs.verdicts.count_valid_tracks.Given as goal

abbrev pub invariant-loop : goal.invariant-loop
invariant-loop l = let count : ℕ → ℕ → ℕ = λ n i. count_valid (per_track (track_verdict (frame_number l.frame_type)) l.payload (places_at n l.form l.payload i)) in
    (l.valid + count (l.tracks - l.counter) l.at ≡ count l.tracks l.from)
    × (l.valid ≤ l.counter)
