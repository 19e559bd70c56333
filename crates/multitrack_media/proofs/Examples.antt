-- Containers, computed: tracks and sealed bytes of small ones, and edges. No tracks stands for a payload that is not accepted.
use mathlib.Core.Path.{◌≡◌, refl}
use mathlib.Core.Bool.{Bool, true, false, ◌&&◌}
use mathlib.Core.Option.{Option, none, some}
use mathlib.Core.List.{List, [], ◌∷◌, ◌++◌}
use Prim.Native.Nat.{ℕ, zero, suc, ◌+◌}
use lib.Dec.{eqb}
use lib.ListN.{length}
use Rattle.wire.specs.Mask.{sealed_at}
use Rattle.fourcc.specs.Fourcc.{fourcc_at, opus, avc1}
use Rattle.multitrack_media.specs.Container.{opens_container, form_of, legal_head, Container, body_at, sized_at, header_at, track_fourcc, place_at, heads_at, container_heads, container_of}
use Rattle.multitrack_media.specs.Sealed.{in_body, sealed_in_container, whole}
use Rattle.multitrack_media.specs.declared.TrackPlace.{TrackPlace}

-- a frame type and a payload; the packet type and, of each track, id, FourCC, start and length; the sealed bytes where bodies are sealed whole
record Row : Type 0 where
  type : ℕ
  payload : List ℕ
  read : List ℕ
  sealed : List ℕ

-- ManyTracks, where ids may repeat, a body is empty, and the packet type is any nibble
repeated : Row
repeated = record {
  type = 0;
  payload = 0x95 ∷ 0x1F ∷ opus ++ (7 ∷ 0 ∷ 0 ∷ 2 ∷ 0xAA ∷ 0xBB ∷ 7 ∷ 0 ∷ 0 ∷ 0 ∷ []);
  read = 15 ∷ 7 ∷ opus ++ (10 ∷ 2 ∷ 7 ∷ opus ++ (16 ∷ 0 ∷ []));
  sealed = 10 ∷ 11 ∷ [];
}

-- OneTrack, whose body is the rest, in a video container
rest : Row
rest = record { type = 1; payload = 0x96 ∷ 0x01 ∷ avc1 ++ (3 ∷ 0xAA ∷ []); read = 1 ∷ 3 ∷ avc1 ++ (7 ∷ 1 ∷ []); sealed = 7 ∷ [] }

-- ManyTracksManyCodecs, a FourCC before each track
codecs : Row
codecs = record {
  type = 0;
  payload = 0x95 ∷ 0x20 ∷ opus ++ (1 ∷ 0 ∷ 0 ∷ 1 ∷ 0xAA ∷ avc1 ++ (2 ∷ 0 ∷ 0 ∷ 0 ∷ []));
  read = 0 ∷ 1 ∷ opus ++ (10 ∷ 1 ∷ 2 ∷ avc1 ++ (19 ∷ 0 ∷ []));
  sealed = 10 ∷ [];
}

-- the other container's number is a packet type like any: 6 in audio, 5 in video
six : Row
six = record { type = 0; payload = 0x95 ∷ 0x06 ∷ opus ++ (7 ∷ 0xAA ∷ []); read = 6 ∷ 7 ∷ opus ++ (7 ∷ 1 ∷ []); sealed = 7 ∷ [] }

five : Row
five = record { type = 1; payload = 0x86 ∷ 0x05 ∷ 0 ∷ 0 ∷ 0 ∷ 0 ∷ 0 ∷ []; read = 5 ∷ 0 ∷ 0 ∷ 0 ∷ 0 ∷ 0 ∷ 7 ∷ 0 ∷ []; sealed = [] }

refused : ℕ → List ℕ → Row
refused type p = record { type = type; payload = p; read = []; sealed = [] }

rows : List Row
rows =
    repeated ∷ rest ∷ codecs ∷ six ∷ five
    -- a length cut short, a byte too much, no track, form 3, no form
    ∷ refused 0 (0x95 ∷ 0x11 ∷ opus ++ (7 ∷ 0 ∷ 0 ∷ []))
    ∷ refused 0 (0x95 ∷ 0x11 ∷ opus ++ (7 ∷ 0 ∷ 0 ∷ 0 ∷ 0x55 ∷ []))
    ∷ refused 0 (0x95 ∷ 0x11 ∷ opus)
    ∷ refused 0 (0x95 ∷ 0x31 ∷ opus ++ (7 ∷ []))
    ∷ refused 0 (0x95 ∷ [])
    -- a container named inside a container, 6 in video and 5 in audio, in each form
    ∷ refused 1 (0x86 ∷ 0x06 ∷ 0 ∷ 0 ∷ 0 ∷ 0 ∷ 0 ∷ [])
    ∷ refused 0 (0x95 ∷ 0x05 ∷ opus ++ (7 ∷ []))
    ∷ refused 0 (0x95 ∷ 0x15 ∷ opus ++ (7 ∷ 0 ∷ 0 ∷ 0 ∷ []))
    ∷ refused 1 (0x96 ∷ 0x26 ∷ avc1 ++ (7 ∷ 0 ∷ 0 ∷ 1 ∷ 0xAA ∷ []))
    -- a container of audio is none of video, and none of Script
    ∷ refused 1 (0x95 ∷ 0x01 ∷ opus ++ (7 ∷ []))
    ∷ refused 2 (0x95 ∷ 0x01 ∷ opus ++ (7 ∷ []))
    ∷ []

flat : List TrackPlace → List ℕ
flat [] = []
flat (t ∷ ts) = t.id ∷ t.fourcc ++ (t.start ∷ t.length ∷ flat ts)

numbers : Option Container → List ℕ
numbers none = []
numbers (some c) = c.packet_type ∷ flat c.tracks

pick : Bool → ℕ → List ℕ → List ℕ
pick true i is = i ∷ is
pick false i is = is

-- the indices at which a test holds, of n from i on
indices : (ℕ → Bool) → ℕ → ℕ → List ℕ
indices t i zero = []
indices t i (suc n) = pick (t i) i (indices t (i + 1) n)

sealed_in : List ℕ → Option Container → List ℕ
sealed_in p none = []
sealed_in p (some c) = indices (sealed_in_container whole p c) 0 (length p)

same : List ℕ → List ℕ → Bool
same [] [] = true
same [] (y ∷ ys) = false
same (x ∷ xs) [] = false
same (x ∷ xs) (y ∷ ys) = eqb x y && same xs ys

all : List Row → Bool
all [] = true
all (r ∷ rs) =
    same (numbers (container_of r.type r.payload)) r.read
    && (same (sealed_in r.payload (container_of r.type r.payload)) r.sealed && all rs)

every_row : all rows ≡ true
unfolding all rows repeated rest codecs six five refused flat numbers pick indices sealed_in same container_of container_heads
    heads_at place_at track_fourcc header_at sized_at body_at legal_head form_of opens_container fourcc_at in_body sealed_in_container sealed_at
every_row = refl
