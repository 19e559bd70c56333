-- What is seen of a frame. Its cache kind and its delivery hint are functions of this, of the frame type and of the route flag.
use Rattle.std.specs.Prelude.{Bool, ◌&&◌, List, ℕ, eqb, ltb, length}
use Rattle.std.proofs.Math.Option.{Option, none, some}
use Rattle.multitrack_media.specs.Container.{Container, container_of}
use Rattle.init_cache.specs.Head.{frame_head}
use Rattle.init_cache.specs.Verdicts.{verdicts_in, count_valid}
use Rattle.init_cache.specs.declared.seen.Seen.{Seen}

-- the number of tracks, 0 if there is no accepted container
abbrev pub count_tracks : Option Container → ℕ
count_tracks none = 0
count_tracks (some c) = length c.tracks

-- every track's packet type, 0 likewise
abbrev pub container_packet_type : Option Container → ℕ
container_packet_type none = 0
container_packet_type (some c) = c.packet_type

-- the head, a container, if there is one, and the verdicts by their numbers
abbrev pub seen_with : ℕ → List ℕ → Option Container → Seen
seen_with type p c =
    record {
      head = frame_head type p;
      tracks = count_tracks c;
      packet_type = container_packet_type c;
      records = length (verdicts_in type p c);
      valid_records = count_valid (verdicts_in type p c);
    }

-- with the container that the frame is
unfoldable pub seen : ℕ → List ℕ → Seen
seen type p = seen_with type p (container_of type p)

-- an accepted container
abbrev pub is_accepted : Seen → Bool
is_accepted s = ltb 0 s.tracks

-- an accepted container of packet type k
unfoldable pub is_container_of : ℕ → Seen → Bool
is_container_of k s = is_accepted s && eqb s.packet_type k

-- all records are valid
abbrev pub all_valid : Seen → Bool
all_valid s = eqb s.valid_records s.records
