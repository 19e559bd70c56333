-- Containers, written: all three forms.
use Rattle.std.specs.Prelude.{Bool, cond, not, ◌&&◌, ◌||◌, List, [], ◌∷◌, ℕ, ◌+◌, ◌*◌, eqb, ltb, length, Result}
use Rattle.wire.specs.Wire.{bytes32}
use Rattle.types.specs.Types.{is_video, is_script_or_metadata, is_unknown_type}
use Rattle.types.specs.declared.ErrorCode.{ErrorCode}
use Rattle.types.specs.declared.ErrorCode.TheVariants as error
use Rattle.multitrack_media.specs.Tracks.{Track}
use Rattle.multitrack_media.specs.Container.{own_number, Encoding, container_bytes}
use Rattle.writers.specs.Columns.{Columns, asked_columns, entry, lent_part, leaves, is_outside, is_other, values_from, some_from, sum_from}
use Rattle.writers.specs.Writing.{any_of, or_short, answer_of, output_of}
use Rattle.writers.specs.declared.container.ContainerCall as lent

-- A CONTAINER TO BE WRITTEN: frame type and head, the number of tracks, their columns, and the lent string of bodies
pub record ContainerCall : Type 0 where
  pub type : ℕ
  pub video_frame_type : ℕ
  pub form : ℕ
  pub packet_type : ℕ
  pub count : ℕ
  pub columns : Columns
  pub bodies : List ℕ

abbrev pub container_call : ℕ → ℕ → ℕ → ℕ → ℕ → List ℕ → List ℕ → List ℕ → List ℕ → List ℕ → ContainerCall
container_call type video_frame_type form packet_type count ids fourccs starts lengths bodies =
    record {
      type = type;
      video_frame_type = video_frame_type;
      form = form;
      packet_type = packet_type;
      count = count;
      columns = record { ids = ids; fourccs = fourccs; starts = starts; lengths = lengths };
      bodies = bodies;
    }

-- what a lent call asks for
abbrev pub asked_container : lent.ContainerCall → ContainerCall
asked_container c =
    record {
      type = c.frame_type;
      video_frame_type = c.video_frame_type;
      form = c.form;
      packet_type = c.packet_type;
      count = c.count;
      columns = asked_columns c.columns;
      bodies = c.bodies.now;
    }

-- how many tracks a form can have
abbrev pub most_tracks : ℕ → ℕ
most_tracks form = cond (eqb form 0) 1 4096

-- -26: a form above 2; a number of tracks that the form cannot have; a column shorter than that; a body that leaves what was lent
unfoldable pub tracks_out : ContainerCall → Bool
tracks_out c =
    any_of
    (ltb 2 c.form
    ∷ eqb c.count 0 ∷ ltb (most_tracks c.form) c.count
    ∷ ltb (length c.columns.ids) c.count ∷ ltb (length c.columns.fourccs) c.count
    ∷ ltb (length c.columns.starts) c.count ∷ ltb (length c.columns.lengths) c.count
    ∷ some_from (leaves c.bodies c.columns.starts c.columns.lengths) 0 c.count
    ∷ [])

-- -27: a body over 16,777,215 bytes where a length is written, which OneTrack does not have
unfoldable pub bodies_long : ContainerCall → Bool
bodies_long c = not (eqb c.form 0) && some_from (is_outside 0 16777215 c.columns.lengths) 0 c.count

-- -28: type 2 or 3; in ManyTracks unequal FourCCs; in video a frame type of 5 or above 7; a packet type above 15, or the container's own number
unfoldable pub head_bad : ContainerCall → Bool
head_bad c =
    any_of
    (is_script_or_metadata c.type
    ∷ (eqb c.form 1 && some_from (is_other c.columns.fourccs) 0 c.count)
    ∷ (is_video c.type && (eqb c.video_frame_type 5 || ltb 7 c.video_frame_type))
    ∷ ltb 15 c.packet_type ∷ eqb c.packet_type (own_number c.type)
    ∷ [])

-- WHAT IS WRITTEN. Byte 0: `95` in audio; in video bit 7, the frame type and 6. Byte 1: the form and the packet type
unfoldable pub first_byte : ContainerCall → ℕ
first_byte c = cond (is_video c.type) (128 + c.video_frame_type * 16 + 6) 0x95

unfoldable pub second_byte : ContainerCall → ℕ
second_byte c = c.form * 16 + c.packet_type

-- then the shared FourCC, which ManyTracksManyCodecs does not have, and the tracks in order
unfoldable pub shared_fourcc : ContainerCall → List ℕ
shared_fourcc c = cond (eqb c.form 2) [] (bytes32 (entry c.columns.fourccs 0))

abbrev pub given_track : ContainerCall → ℕ → Track
given_track c i =
    record {
      id = entry c.columns.ids i;
      fourcc = bytes32 (entry c.columns.fourccs i);
      body = lent_part c.bodies c.columns.starts c.columns.lengths i;
    }

abbrev pub given_tracks : ContainerCall → List Track
given_tracks c = values_from (given_track c) 0 c.count

abbrev pub encoding_of : ContainerCall → Encoding
encoding_of c = record { byte0 = first_byte c; byte1 = second_byte c; shared = shared_fourcc c; tracks = given_tracks c }

unfoldable pub container_written : ContainerCall → List ℕ
container_written c = container_bytes (encoding_of c)

-- how many bytes: 2, and 4 where the FourCC is shared; of each track 1, 4 or 8 and its body
abbrev pub head_length : ℕ → ℕ
head_length form = cond (eqb form 2) 2 6

abbrev pub track_head_length : ℕ → ℕ
track_head_length form = cond (eqb form 0) 1 (cond (eqb form 1) 4 8)

abbrev pub track_length : ContainerCall → ℕ → ℕ
track_length c i = track_head_length c.form + entry c.columns.lengths i

unfoldable pub container_length : ContainerCall → ℕ
container_length c = head_length c.form + sum_from (track_length c) 0 c.count

-- where the body of track i starts
unfoldable pub body_start : ContainerCall → ℕ → ℕ
body_start c i = head_length c.form + sum_from (track_length c) 0 i + track_head_length c.form

-- THE REFUSALS in their order: -21, -26, -27, -28; then, with an output of so many bytes, -22
unfoldable pub container_fault : ContainerCall → ErrorCode
container_fault c =
    cond (is_unknown_type c.type) error.UnknownFrameType
    (cond (tracks_out c) error.OutOfBounds
    (cond (bodies_long c) error.BadLength
    (cond (head_bad c) error.BadValue error.Ok)))

unfoldable pub container_error : ContainerCall → ℕ → ErrorCode
container_error c room = or_short (container_fault c) room (container_written c)

-- THE CALL: what it returns, and what the output then holds
unfoldable pub container_answer : ContainerCall → ℕ → Result ℕ ErrorCode
container_answer c room = answer_of (container_error c room) (container_written c)

unfoldable pub container_output : ContainerCall → List ℕ → List ℕ
container_output c out = output_of (container_error c (length out)) (container_written c) out
