-- The writers, computed: what each call answers and what an output then holds. `EE` stands for bytes that the output held before.
use mathlib.Core.Path.{◌≡◌, refl}
use mathlib.Core.Bool.{Bool, true, false}
use mathlib.Core.List.{List, [], ◌∷◌, ◌++◌, map}
use Prim.Native.Nat.{ℕ, ◌+◌, ◌-◌}
use lib.ListN.{length, replicate}
use Rattle.fourcc.specs.Fourcc.{opus}
use Rattle.modex.specs.Modex.{data_at, layer_at, chain_at, layers_at, is_wrapped, chain_of, peeled_layers}
use Rattle.modex.specs.Offsets.{any_bad, last_offset, has_bad_offset, chain_offset}
use Rattle.multitrack_media.specs.Container.{form_of}
use Rattle.writers.specs.Columns.{values_from, some_from, sum_from}
use Rattle.writers.specs.Writing.{any_of, or_short}
use Rattle.writers.specs.ContainerWriter.{
  ContainerCall,
  tracks_out,
  bodies_long,
  head_bad,
  first_byte,
  second_byte,
  shared_fourcc,
  container_written,
  container_length,
  body_start,
  container_fault,
  container_error,
  container_answer,
  container_output,
}
use Rattle.writers.specs.ModexWriter.{
  ModexCall,
  layers_out,
  data_bad,
  layers_bad,
  given_layers,
  size_bytes,
  layer_bytes,
  layers_bytes,
  modex_written,
  modex_fault,
  modex_error,
  modex_answer,
  modex_output,
}
use Rattle.writers.specs.Claims.{given_bad, given_offset}
use Rattle.types.specs.declared.ErrorCode.{ErrorCode}
use Rattle.types.specs.declared.ErrorCode.TheVariants as error
use Rattle.std.specs.Prelude.{Result, Ok, Err}

-- a call: what it answers and what the output then holds, and what both should be
record Row : Type 0 where
  answer : Result ℕ ErrorCode
  output : List ℕ
  expected : Result ℕ ErrorCode
  holds : List ℕ

answers : List Row → List (Result ℕ ErrorCode)
answers rows = map (λ (r : Row). r.answer) rows

all_expected : List Row → List (Result ℕ ErrorCode)
all_expected rows = map (λ (r : Row). r.expected) rows

outputs : List Row → List (List ℕ)
outputs rows = map (λ (r : Row). r.output) rows

all_hold : List Row → List (List ℕ)
all_hold rows = map (λ (r : Row). r.holds) rows

-- with an output of so many bytes `EE`: this answer and these bytes
container : ContainerCall → ℕ → Result ℕ ErrorCode → List ℕ → Row
container c room e bytes =
    record {
      answer = container_answer c room;
      output = container_output c (replicate room 0xEE);
      expected = e;
      holds = bytes ++ replicate (room - length bytes) 0xEE;
    }

-- written, with two bytes more than it takes; refused
writes : ContainerCall → List ℕ → Row
writes c bytes = container c (length bytes + 2) (Ok (length bytes)) bytes

refuses : ContainerCall → ErrorCode → Row
refuses c e = container c 100 (Err e) []

call : ℕ → ℕ → ℕ → ℕ → ℕ → List ℕ → List ℕ → List ℕ → List ℕ → ContainerCall
call type video form packet count ids fourccs starts lengths =
    record {
      type = type;
      video_frame_type = video;
      form = form;
      packet_type = packet;
      count = count;
      columns = record { ids = ids; fourccs = fourccs; starts = starts; lengths = lengths };
      bodies = 0xAA ∷ [];
    }

Opus : ℕ
Opus = 0x4F707573

one : ℕ → List ℕ
one n = n ∷ []

-- B: audio, ManyTracks, packet type 1, one track of id 1, `Opus`, part 0+1 of the lent byte `AA`
B : ContainerCall
B = call 0 1 1 1 1 (one 1) (one Opus) (one 0) (one 1)

bytes_b : List ℕ
bytes_b = 0x95 ∷ 0x11 ∷ opus ++ (1 ∷ 0 ∷ 0 ∷ 1 ∷ 0xAA ∷ [])

containers : List Row
containers =
    writes B bytes_b
    -- an output of exactly what it takes, and one byte shorter
    ∷ container B 11 (Ok 11) bytes_b ∷ container B 10 (Err error.OutputTooShort) []
    -- parts: past 2^64, an empty one past the end, one at the end, one over 16,777,215
    ∷ refuses (call 0 1 1 1 1 (one 1) (one Opus) (one 18446744073709551615) (one 2)) error.OutOfBounds
    ∷ refuses (call 0 1 1 1 1 (one 1) (one Opus) (one 2) (one 0)) error.OutOfBounds
    ∷ writes (call 0 1 1 1 1 (one 1) (one Opus) (one 1) (one 0)) (0x95 ∷ 0x11 ∷ opus ++ (1 ∷ 0 ∷ 0 ∷ 0 ∷ []))
    ∷ refuses (call 0 1 1 1 1 (one 1) (one Opus) (one 0) (one 16777216)) error.OutOfBounds
    -- columns: one FourCC for two tracks; a second FourCC behind the count
    ∷ refuses (call 0 1 1 1 2 (1 ∷ 2 ∷ []) (one Opus) (0 ∷ 0 ∷ []) (1 ∷ 1 ∷ [])) error.OutOfBounds
    ∷ writes (call 0 1 1 1 1 (one 1) (Opus ∷ 7 ∷ []) (one 0) (one 1)) bytes_b
    -- numbers of tracks
    ∷ refuses (call 0 1 0 1 2 (1 ∷ 2 ∷ []) (Opus ∷ Opus ∷ []) (0 ∷ 0 ∷ []) (1 ∷ 1 ∷ [])) error.OutOfBounds
    ∷ refuses (call 0 1 1 1 0 (one 1) (one Opus) (one 0) (one 1)) error.OutOfBounds ∷ refuses (call 0 1 0 1 0 [] [] [] []) error.OutOfBounds
    ∷ refuses (call 0 1 1 1 4097 (replicate 4097 1) (replicate 4097 Opus) (replicate 4097 0) (replicate 4097 0)) error.OutOfBounds
    -- types and forms
    ∷ refuses (call 2 1 1 1 1 (one 1) (one Opus) (one 0) (one 1)) error.BadValue ∷ refuses (call 2 1 3 1 1 (one 1) (one Opus) (one 0) (one 1)) error.OutOfBounds
    ∷ refuses (call 4 1 3 1 1 (one 1) (one Opus) (one 0) (one 1)) error.UnknownFrameType ∷ refuses (call 256 1 1 1 1 (one 1) (one Opus) (one 0) (one 1)) error.UnknownFrameType
    ∷ refuses (call 0 1 257 1 1 (one 1) (one Opus) (one 0) (one 1)) error.OutOfBounds
    -- OneTrack and ManyTracksManyCodecs, two tracks of one part
    ∷ writes (call 0 1 0 1 1 (one 1) (one Opus) (one 0) (one 1)) (0x95 ∷ 0x01 ∷ opus ++ (1 ∷ 0xAA ∷ []))
    ∷ writes (call 0 1 2 1 2 (1 ∷ 1 ∷ []) (Opus ∷ 7 ∷ []) (0 ∷ 0 ∷ []) (1 ∷ 1 ∷ [])) (0x95 ∷ 0x21 ∷ opus ++ (1 ∷ 0 ∷ 0 ∷ 1 ∷ 0xAA ∷ 0 ∷ 0 ∷ 0 ∷ 7 ∷ 1 ∷ 0 ∷ 0 ∷ 1 ∷ 0xAA ∷ []))
    ∷ writes (call 0 1 1 1 2 (1 ∷ 1 ∷ []) (Opus ∷ Opus ∷ []) (0 ∷ 0 ∷ []) (1 ∷ 1 ∷ [])) (bytes_b ++ (1 ∷ 0 ∷ 0 ∷ 1 ∷ 0xAA ∷ []))
    -- unequal FourCCs in ManyTracks; FourCC 0
    ∷ refuses (call 0 1 1 1 2 (1 ∷ 2 ∷ []) (Opus ∷ 7 ∷ []) (0 ∷ 0 ∷ []) (1 ∷ 1 ∷ [])) error.BadValue
    ∷ writes (call 0 1 1 1 1 (one 1) (one 0) (one 0) (one 1)) (0x95 ∷ 0x11 ∷ 0 ∷ 0 ∷ 0 ∷ 0 ∷ 1 ∷ 0 ∷ 0 ∷ 1 ∷ 0xAA ∷ [])
    -- the video frame type, in audio and in video; the packet type
    ∷ writes (call 0 5 1 1 1 (one 1) (one Opus) (one 0) (one 1)) bytes_b ∷ writes (call 1 7 1 1 1 (one 1) (one Opus) (one 0) (one 1)) (0xF6 ∷ 0x11 ∷ opus ++ (1 ∷ 0 ∷ 0 ∷ 1 ∷ 0xAA ∷ []))
    ∷ refuses (call 1 5 1 1 1 (one 1) (one Opus) (one 0) (one 1)) error.BadValue ∷ refuses (call 1 9 1 1 1 (one 1) (one Opus) (one 0) (one 1)) error.BadValue
    ∷ refuses (call 0 1 1 17 1 (one 1) (one Opus) (one 0) (one 1)) error.BadValue
    -- -22 is judged last
    ∷ container (call 2 1 1 1 1 (one 1) (one Opus) (one 0) (one 1)) 0 (Err error.BadValue) []
    -- the container's own number, 5 in audio and 6 in video; the other's, which is a packet type like any
    ∷ refuses (call 0 1 1 5 1 (one 1) (one Opus) (one 0) (one 1)) error.BadValue ∷ refuses (call 1 1 1 6 1 (one 1) (one Opus) (one 0) (one 1)) error.BadValue
    ∷ writes (call 0 1 1 6 1 (one 1) (one Opus) (one 0) (one 1)) (0x95 ∷ 0x16 ∷ opus ++ (1 ∷ 0 ∷ 0 ∷ 1 ∷ 0xAA ∷ []))
    ∷ writes (call 1 0 0 5 1 (one 1) (one Opus) (one 0) (one 1)) (0x86 ∷ 0x05 ∷ opus ++ (1 ∷ 0xAA ∷ []))
    -- it is judged after -26 and before -22
    ∷ refuses (call 0 1 1 5 1 (one 1) (one Opus) (one 2) (one 0)) error.OutOfBounds ∷ container (call 0 1 1 5 1 (one 1) (one Opus) (one 0) (one 1)) 0 (Err error.BadValue) []
    ∷ []

every_container : (answers containers ≡ all_expected containers) × (outputs containers ≡ all_hold containers)
unfolding answers all_expected outputs all_hold container writes refuses call Opus one B bytes_b containers form_of any_of values_from some_from tracks_out bodies_long head_bad first_byte second_byte
    shared_fourcc container_written container_fault container_error or_short container_answer container_output
every_container = (refl, refl)

-- MODEX: a call with an output of so many bytes, as above
modex : ModexCall → ℕ → Result ℕ ErrorCode → List ℕ → Row
modex c room e bytes =
    record {
      answer = modex_answer c room;
      output = modex_output c (replicate room 0xEE);
      expected = e;
      holds = bytes ++ replicate (room - length bytes) 0xEE;
    }

wraps : ModexCall → List ℕ → Row
wraps c bytes = modex c (length bytes + 2) (Ok (length bytes)) bytes

declines : ModexCall → ErrorCode → Row
declines c e = modex c 100 (Err e) []

layers : ℕ → ℕ → List ℕ → List ℕ → List ℕ → List ℕ → ModexCall
layers type count types starts lengths payload =
    record { type = type; count = count; types = types; starts = starts; lengths = lengths; lent = 0xAA ∷ []; payload = payload }

modexes : List Row
modexes =
    -- M: audio, one layer of type 1 with `AA`, around `91`
    wraps (layers 0 1 (one 1) (one 0) (one 1) (one 0x91)) (0x97 ∷ 0 ∷ 0xAA ∷ 0x11 ∷ [])
    ∷ modex (layers 0 1 (one 1) (one 0) (one 1) (one 0x91)) 3 (Err error.OutputTooShort) []
    -- the starred case; two layers; bytes behind byte 0; type 2
    ∷ wraps (layers 0 1 (one 0) (one 0) (one 1) (one 0x91)) (0x97 ∷ 0 ∷ 0xAA ∷ 0x01 ∷ [])
    ∷ wraps (record { type = 0; count = 2; types = 1 ∷ 2 ∷ []; starts = 0 ∷ 1 ∷ []; lengths = 1 ∷ 1 ∷ []; lent = 0xAA ∷ 0xBB ∷ []; payload = one 0x91 })
    (0x97 ∷ 0 ∷ 0xAA ∷ 0x17 ∷ 0 ∷ 0xBB ∷ 0x21 ∷ [])
    ∷ wraps (layers 1 1 (one 15) (one 0) (one 1) (0x91 ∷ 5 ∷ 6 ∷ [])) (0x97 ∷ 0 ∷ 0xAA ∷ 0xF1 ∷ 5 ∷ 6 ∷ [])
    ∷ wraps (layers 2 1 (one 1) (one 0) (one 1) (one 0x80)) (0x87 ∷ 0 ∷ 0xAA ∷ 0x10 ∷ [])
    -- numbers and parts: -26 before -27
    ∷ declines (layers 0 2 (1 ∷ 1 ∷ []) (0 ∷ 0 ∷ []) (0 ∷ 2 ∷ []) (one 0x91)) error.OutOfBounds
    ∷ declines (layers 0 1 (one 1) (one 0) (one 65537) (one 0x91)) error.OutOfBounds ∷ declines (layers 0 1 (one 1) (one 2) (one 0) (one 0x91)) error.OutOfBounds
    ∷ declines (layers 0 1 (one 1) (one 1) (one 0) (one 0x91)) error.BadLength
    ∷ declines (layers 0 0 (one 1) (one 0) (one 1) (one 0x91)) error.OutOfBounds ∷ declines (layers 0 33 (replicate 33 1) (replicate 33 0) (replicate 33 1) (one 0x91)) error.OutOfBounds
    -- values
    ∷ declines (layers 4 1 (one 1) (one 0) (one 1) (one 0x91)) error.UnknownFrameType ∷ declines (layers 0 1 (one 16) (one 0) (one 1) (one 0x91)) error.BadValue
    ∷ declines (layers 0 1 (one 1) (one 0) (one 1) []) error.BadValue ∷ declines (layers 0 1 (one 1) (one 0) (one 1) (one 0x81)) error.BadValue
    ∷ declines (layers 1 1 (one 1) (one 0) (one 1) (one 0x87)) error.BadValue ∷ declines (layers 1 1 (one 1) (one 0) (one 1) (one 0x11)) error.BadValue
    ∷ []

every_modex : (answers modexes ≡ all_expected modexes) × (outputs modexes ≡ all_hold modexes)
unfolding answers all_expected outputs all_hold one modex wraps declines layers modexes any_of values_from some_from layers_out data_bad layers_bad size_bytes layer_bytes layers_bytes modex_written
    modex_fault modex_error or_short modex_answer modex_output
every_modex = (refl, refl)

-- OFFSETS: around `91` in audio, layers whose data are parts of `00 00 01 0F 42 40`
timed : ℕ → List ℕ → List ℕ → List ℕ → ModexCall
timed count types starts lengths =
    record {
      type = 0;
      count = count;
      types = types;
      starts = starts;
      lengths = lengths;
      lent = 0x00 ∷ 0x00 ∷ 0x01 ∷ 0x0F ∷ 0x42 ∷ 0x40 ∷ [];
      payload = 0x91 ∷ [];
    }

-- whether a layer is bad and the last offset, of what was given and of what is peeled off again
given : ModexCall → Bool × ℕ
unfolding values_from given_bad given_offset
given c = (given_bad (given_layers c), given_offset 0 (given_layers c))

read : ModexCall → Bool × ℕ
unfolding values_from size_bytes layer_bytes layers_bytes modex_written data_at layer_at chain_at layers_at is_wrapped chain_of peeled_layers any_bad last_offset has_bad_offset chain_offset
read c = (has_bad_offset c.type 4 (modex_written c), chain_offset c.type 4 (modex_written c))

-- offset 1
offset_one : (given (timed 1 (one 0) (one 0) (one 3)) ≡ (false, 1)) × (read (timed 1 (one 0) (one 0) (one 3)) ≡ (false, 1))
unfolding given read timed one
offset_one = (refl, refl)

-- offset 1, then a layer of type 1
offset_kept : (given (timed 2 (0 ∷ 1 ∷ []) (0 ∷ 3 ∷ []) (3 ∷ 3 ∷ [])) ≡ (false, 1)) × (read (timed 2 (0 ∷ 1 ∷ []) (0 ∷ 3 ∷ []) (3 ∷ 3 ∷ [])) ≡ (false, 1))
unfolding given read timed
offset_kept = (refl, refl)

-- offset 1, then offset 271
offset_last : (given (timed 2 (0 ∷ 0 ∷ []) (0 ∷ 1 ∷ []) (3 ∷ 3 ∷ [])) ≡ (false, 271)) × (read (timed 2 (0 ∷ 0 ∷ []) (0 ∷ 1 ∷ []) (3 ∷ 3 ∷ [])) ≡ (false, 271))
unfolding given read timed
offset_last = (refl, refl)

-- two data bytes; offset 1,000,000
offset_short : ((given (timed 1 (one 0) (one 0) (one 2))).0 ≡ true) × ((read (timed 1 (one 0) (one 0) (one 2))).0 ≡ true)
unfolding given read timed one
offset_short = (refl, refl)

offset_over : ((given (timed 1 (one 0) (one 3) (one 3))).0 ≡ true) × ((read (timed 1 (one 0) (one 3) (one 3))).0 ≡ true)
unfolding given read timed one
offset_over = (refl, refl)

-- sizes: 1, 255, 256 and 65,536 data bytes
size_one : size_bytes 1 ≡ 0x00 ∷ []
unfolding size_bytes
size_one = refl

size_255 : size_bytes 255 ≡ 0xFE ∷ []
unfolding size_bytes
size_255 = refl

size_256 : size_bytes 256 ≡ 0xFF ∷ 0x00 ∷ 0xFF ∷ []
unfolding size_bytes
size_256 = refl

size_65536 : size_bytes 65536 ≡ 0xFF ∷ 0xFF ∷ 0xFF ∷ []
unfolding size_bytes
size_65536 = refl

-- the length and the places of bodies
length_b : container_length B ≡ 11
unfolding container_length sum_from B call Opus one
length_b = refl

start_b : body_start B 0 ≡ 10
unfolding body_start sum_from B call Opus one
start_b = refl
