-- What is claimed of the two writers.
use Rattle.std.specs.Prelude.{◌≡◌, Bool, true, false, cond, ◌&&◌, ◌||◌, ◌↔◌, List, [], ◌∷◌, map, ℕ, ◌+◌, ◌-◌, ◌/◌, ◌%◌, ◌≤◌, ◌<◌, eqb, ltb, length, take, drop, Some, Result, Ok, Err}
use Rattle.std.proofs.Math.Option.{some}
use Rattle.wire.specs.Wire.{Bytes, byte_at, part, bit, low, be24_at, bytes32}
use Rattle.types.specs.Types.{is_video}
use Rattle.modex.specs.Modex.{layer_at, peeled}
use Rattle.modex.specs.Offsets.{has_bad_offset, chain_offset}
use Rattle.modex.specs.declared.ModexLayer.{ModexLayer}
use Rattle.multitrack_media.specs.Container.{form_number, form_in, own_number, Accepted, Container, container_of, track_in}
use Rattle.multitrack_media.specs.Answer.{video_frame_type, track_part}
use Rattle.frame.specs.Pass.{report_by, pass_report, track_answer}
use Rattle.writers.specs.Columns.{entry, lent_part, columns_of}
use Rattle.writers.specs.ContainerWriter.{
  ContainerCall,
  most_tracks,
  given_tracks,
  encoding_of,
  container_written,
  container_length,
  body_start,
  container_error,
  container_answer,
  container_output,
}
use Rattle.writers.specs.ModexWriter.{ModexCall, GivenLayer, given_layers, next_type, modex_written, modex_length, modex_error, modex_answer, modex_output}
use Rattle.types.specs.declared.ErrorCode.{ErrorCode}
use Rattle.types.specs.declared.ErrorCode.TheVariants as error

-- A CONTAINER CALL THAT CAN BE WRITTEN, as propositions
pub record WritableContainer (c : ContainerCall) : Type 0 where
  pub media : c.type ≤ 1
  pub form : c.form ≤ 2
  pub least : 0 < c.count
  pub limit : c.count ≤ most_tracks c.form
  pub ids : c.count ≤ length c.columns.ids
  pub fourccs : c.count ≤ length c.columns.fourccs
  pub starts : c.count ≤ length c.columns.starts
  pub lengths : c.count ≤ length c.columns.lengths
  pub inside : (i : ℕ) → i < c.count → entry c.columns.starts i + entry c.columns.lengths i ≤ length c.bodies
  pub bodies : (c.form ≡ 0 → ⊥) → (i : ℕ) → i < c.count → entry c.columns.lengths i ≤ 16777215
  pub same : c.form ≡ 1 → (i : ℕ) → i < c.count → entry c.columns.fourccs i ≡ entry c.columns.fourccs 0
  pub frame : c.type ≡ 1 → (c.video_frame_type ≤ 7) × (c.video_frame_type ≡ 5 → ⊥)
  pub packet : c.packet_type ≤ 15
  pub other : c.packet_type ≡ own_number c.type → ⊥

-- a call is not refused exactly if it can be written and the output is long enough
unfoldable pub ContainerTaken : Type 0
ContainerTaken =
    (c : ContainerCall) (room : ℕ) → (container_error c room ≡ error.Ok) ↔ (WritableContainer c × (container_length c ≤ room))

-- THE HEAD AND THE TRACKS, READ BACK from a payload
pub record HeadAndTracks (c : ContainerCall) (p : List ℕ) : Type 0 where
  pub container : Container
  pub read : container_of c.type p ≡ some container
  pub form : form_number (form_in p) ≡ c.form
  pub packet : container.packet_type ≡ c.packet_type
  -- in audio the reader gives 0
  pub frame : video_frame_type c.type p ≡ cond (is_video c.type) c.video_frame_type 0
  -- exactly the given tracks, in order, bodies byte for byte
  pub tracks : map (track_in p) container.tracks ≡ given_tracks c
  pub count : length container.tracks ≡ c.count
  -- as demand 2 has it
  pub accepted : Accepted c.type p (encoding_of c)

-- track i, read back by a track request
pub record TrackBack (c : ContainerCall) (p : List ℕ) (i : ℕ) : Type 0 where
  pub info :
      (track_answer c.type p i).track
      ≡ record {
        error = error.Ok;
        count = c.count;
        track_id = entry c.columns.ids i;
        packet_type = c.packet_type;
        fourcc = bytes32 (entry c.columns.fourccs i);
        video_frame_type = cond (is_video c.type) c.video_frame_type 0;
        start = body_start c i;
        length = entry c.columns.lengths i;
      }
  pub body : track_part c.type p i ≡ lent_part c.bodies c.columns.starts c.columns.lengths i

-- WHATEVER IS WRITTEN IS READ BACK, by the reader and by track requests
unfoldable pub ContainerReadBack : Type 0
ContainerReadBack =
    (c : ContainerCall) (room : ℕ) → container_error c room ≡ error.Ok → HeadAndTracks c (container_written c)

unfoldable pub TracksReadBack : Type 0
TracksReadBack =
    (c : ContainerCall) (room : ℕ) → container_error c room ≡ error.Ok → (i : ℕ) → i < c.count → TrackBack c (container_written c) i

-- THE LENGTH
unfoldable pub ContainerLength : Type 0
ContainerLength =
    (c : ContainerCall) (room : ℕ) → container_error c room ≡ error.Ok
    → (length (container_written c) ≡ container_length c) × (length (container_written c) ≤ room)

-- THE OTHER WAY: the call with the head, the tracks and the places of an accepted container, which lends its payload
abbrev pub call_of : ℕ → List ℕ → Container → ContainerCall
call_of type p k =
    record {
      type = type;
      video_frame_type = video_frame_type type p;
      form = form_number (form_in p);
      packet_type = k.packet_type;
      count = length k.tracks;
      columns = columns_of k.tracks;
      bodies = p;
    }

-- writes that payload
unfoldable pub AcceptedWritten : Type 0
AcceptedWritten =
    (type : ℕ) (p : List ℕ) → Bytes p → (k : Container) → container_of type p ≡ some k
    → (room : ℕ) → length p ≤ room → (container_error (call_of type p k) room ≡ error.Ok) × (container_written (call_of type p k) ≡ p)

-- A MODEX CALL THAT CAN BE WRITTEN, likewise
pub record WritableModex (c : ModexCall) : Type 0 where
  pub known : c.type ≤ 3
  pub least : 0 < c.count
  pub limit : c.count ≤ 32
  pub types : c.count ≤ length c.types
  pub starts : c.count ≤ length c.starts
  pub lengths : c.count ≤ length c.lengths
  pub inside : (i : ℕ) → i < c.count → entry c.starts i + entry c.lengths i ≤ length c.lent
  pub some : (i : ℕ) → i < c.count → 0 < entry c.lengths i
  pub most : (i : ℕ) → i < c.count → entry c.lengths i ≤ 65536
  pub nibble : (i : ℕ) → i < c.count → entry c.types i ≤ 15
  pub filled : 0 < length c.payload
  pub enhanced : byte_at c.payload 0 / 128 % 2 ≡ 1
  pub other : byte_at c.payload 0 % 16 ≡ 7 → ⊥
  pub audio : c.type ≡ 0 → byte_at c.payload 0 / 16 ≡ 9

unfoldable pub ModexTaken : Type 0
ModexTaken = (c : ModexCall) (room : ℕ) → (modex_error c room ≡ error.Ok) ↔ (WritableModex c × (modex_length c ≤ room))

-- PEELED AGAIN: any mask with bit 0x04 brings the payload back, any other what was written
unfoldable pub PeeledBack : Type 0
PeeledBack =
    (c : ModexCall) (room mask : ℕ) → modex_error c room ≡ error.Ok → bit 2 mask ≡ true → peeled c.type mask (modex_written c) ≡ c.payload

unfoldable pub PeeledOtherwise : Type 0
PeeledOtherwise =
    (c : ModexCall) (room mask : ℕ) → modex_error c room ≡ error.Ok → bit 2 mask ≡ false → peeled c.type mask (modex_written c) ≡ modex_written c

-- OF GIVEN LAYERS: one is bad if it has type 0, and under 3 data bytes or an offset over 999,999
abbrev pub is_given_bad : GivenLayer → Bool
is_given_bad l = eqb l.type 0 && (ltb (length l.content) 3 || ltb 999999 (be24_at l.content 0))

-- whether any of them is bad
unfoldable pub given_bad : List GivenLayer → Bool
given_bad [] = false
given_bad (l ∷ ls) = is_given_bad l || given_bad ls

-- the last offset of these layers, or the one before them
unfoldable pub given_offset : ℕ → List GivenLayer → ℕ
given_offset before [] = before
given_offset before (l ∷ ls) = given_offset (cond (eqb l.type 0) (be24_at l.content 0) before) ls

-- THE OFFSETS, READ BACK by any mask with bit 0x04: a layer of the chain is bad exactly if one was given that is
unfoldable pub BadOffsetBack : Type 0
BadOffsetBack =
    (c : ModexCall) (room mask : ℕ) → modex_error c room ≡ error.Ok → bit 2 mask ≡ true
    → has_bad_offset c.type mask (modex_written c) ≡ given_bad (given_layers c)

-- and if none is, the chain's offset is the last that was given, or 0
unfoldable pub OffsetBack : Type 0
OffsetBack =
    (c : ModexCall) (room mask : ℕ) → modex_error c room ≡ error.Ok → bit 2 mask ≡ true → given_bad (given_layers c) ≡ false
    → chain_offset c.type mask (modex_written c) ≡ given_offset 0 (given_layers c)

-- so the whole pass reports of it what it reports of the payload, with the last offset that was given; or -3 if one is bad
unfoldable pub PassAlike : Type 0
PassAlike =
    (c : ModexCall) (room mask : ℕ) → modex_error c room ≡ error.Ok → bit 2 mask ≡ true
    → (flag output : ℕ)
    → pass_report c.type mask flag (modex_written c) output
    ≡ report_by (cond (ltb output (length c.payload)) error.OutputTooShort (cond (given_bad (given_layers c)) error.Protocol error.Ok))
    c.type flag (given_offset 0 (given_layers c)) c.payload

-- and exactly what it reports of the payload if no given layer has type 0
unfoldable pub PassSame : Type 0
PassSame =
    (c : ModexCall) (room mask : ℕ) → modex_error c room ≡ error.Ok → bit 2 mask ≡ true → ((i : ℕ) → i < c.count → entry c.types i ≡ 0 → ⊥)
    → (flag output : ℕ) → pass_report c.type mask flag (modex_written c) output ≡ pass_report c.type mask flag c.payload output

-- a layer as it is read: its type, the next packet type, where its data start and end, and where the next layer stands
abbrev pub layer_there : ℕ → ℕ → ℕ → ℕ → ℕ → ModexLayer
layer_there type next from to end = record { modex_type = type; next_packet_type = next; data_start = from; data_end = to; next_pos = end }

-- layers that stand in s from a position on, as `layer_at` reads them: the given types and data, next 7 but for the last; one size byte up to 255 data
-- bytes, three from 256 on; and where they end
pub data LayersStand (s : List ℕ) (last : ℕ) : ℕ → List GivenLayer → ℕ → Type 0 where
  none : {at : ℕ} → LayersStand s last at [] at
  layer : {at end stop : ℕ} {l : GivenLayer} {ls : List GivenLayer} (from to : ℕ)
      → layer_at s at ≡ Some (layer_there l.type (next_type last ls) from to end)
      → part s from (to - from) ≡ l.content
      → from ≡ at + cond (ltb (length l.content) 256) 1 3
      → LayersStand s last end ls stop
      → LayersStand s last at (l ∷ ls) stop

-- THE LAYERS, READ BACK from byte 1 on: as many as given, and behind them the payload from byte 1 on
pub record LayersBack (c : ModexCall) (s : List ℕ) : Type 0 where
  pub stop : ℕ
  pub stand : LayersStand s (low (byte_at c.payload 0)) 1 (given_layers c) stop
  pub count : length (given_layers c) ≡ c.count
  pub behind : drop stop s ≡ drop 1 c.payload

unfoldable pub LayersReadBack : Type 0
LayersReadBack = (c : ModexCall) (room : ℕ) → modex_error c room ≡ error.Ok → LayersBack c (modex_written c)

unfoldable pub ModexLength : Type 0
ModexLength =
    (c : ModexCall) (room : ℕ) → modex_error c room ≡ error.Ok → (length (modex_written c) ≡ modex_length c) × (length (modex_written c) ≤ room)

-- WHAT A CALL LEAVES in an output: refused, which is never with error 0, every byte; else n bytes of what is written, and behind them what it held before
pub record CallLeaves (answer : Result ℕ ErrorCode) (written before after : List ℕ) : Type 0 where
  pub refused : (e : ErrorCode) → answer ≡ Err e → (e ≡ error.Ok → ⊥) × (after ≡ before)
  pub wrote : (n : ℕ) → answer ≡ Ok n
      → (n ≡ length written) × (take (length written) after ≡ written) × (drop (length written) after ≡ drop (length written) before)
  pub long : length after ≡ length before

unfoldable pub ContainerLeaves : Type 0
ContainerLeaves =
    (c : ContainerCall) (out : List ℕ) → CallLeaves (container_answer c (length out)) (container_written c) out (container_output c out)

unfoldable pub ModexLeaves : Type 0
ModexLeaves = (c : ModexCall) (out : List ℕ) → CallLeaves (modex_answer c (length out)) (modex_written c) out (modex_output c out)
