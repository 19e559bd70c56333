-- A count with a track about halfway, so that two walks can go side by side. Which track that is, is left open.
use Rattle.std.specs.Prelude.{◌≡◌, List, ℕ, zero, suc, ◌+◌, ◌≤◌, ◌<◌, Result, Ok, Err}
use Rattle.types.specs.declared.ErrorCode.{ErrorCode}
use Rattle.multitrack_media.specs.Container.{place_at}
use Rattle.multitrack_media.specs.declared.AvMultitrackType.{AvMultitrackType}
use Rattle.multitrack_media.specs.declared.Halves.{Halves}

-- where the head of the track behind n tracks starts, of which the first has its head at i
unfoldable pub head_behind : ℕ → AvMultitrackType → List ℕ → ℕ → ℕ
head_behind zero form p i = i
head_behind (suc n) form p i = head_behind n form p ((place_at form p i).start + (place_at form p i).length)

-- A COUNT WITH A MIDDLE TRACK: the count or the refusal, and where the head of that track starts
abbrev pub halves_count : Result Halves ErrorCode → Result ℕ ErrorCode
halves_count (Ok h) = Ok h.count
halves_count (Err e) = Err e

abbrev pub HalvesAt : AvMultitrackType → List ℕ → ℕ → Result Halves ErrorCode → Type 0
HalvesAt form p i (Ok h) = (h.middle ≤ h.count) × (h.middle < h.count → h.at ≡ head_behind h.middle form p i)
HalvesAt form p i (Err e) = Unit {0}
