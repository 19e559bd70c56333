-- What is claimed of tracks in columns.
use Rattle.std.specs.Prelude.{◌≡◌, List, ℕ, ◌+◌, ◌≤◌, ◌<◌, length}
use Rattle.std.proofs.Math.Option.{some}
use Rattle.wire.specs.Wire.{Bytes, be32_at}
use Rattle.types.specs.declared.ErrorCode.TheVariants as error
use Rattle.multitrack_media.specs.Container.{Container, container_of, form_number, form_in}
use Rattle.multitrack_media.specs.Answer.{video_frame_type, track_info, track_part}
use Rattle.frame.specs.Pass.{track_answer}
use Rattle.frame.specs.Demand3.{SameResult}
use Rattle.writers.specs.Columns.{Columns, entry}
use Rattle.writers.specs.ContainerWriter.{ContainerCall, container_written, container_error}
use Rattle.track_columns.specs.Columns.{shortest, columns_error, columns_count, columns_result, columns_after, column_track, column_part, column_answer}

-- ANY TRACK READ FROM THE COLUMNS, lent with count and payload as a walk that is not refused left them, equals the one found by walking: every field, the
-- verdict and, for a number past the count, the refusal
unfoldable pub ColumnsEqual : Type 0
ColumnsEqual =
    (type : ℕ) (p : List ℕ) (c : Columns) → Bytes p → columns_error type p (shortest c) ≡ error.Ok
    → (n : ℕ) → column_answer type (columns_after type p c) (columns_count type p (shortest c)) p n ≡ track_answer type p n

unfoldable pub ColumnsParts : Type 0
ColumnsParts =
    (type : ℕ) (p : List ℕ) (c : Columns) → Bytes p → columns_error type p (shortest c) ≡ error.Ok
    → (n : ℕ) → column_part type (columns_after type p c) (columns_count type p (shortest c)) p n ≡ track_part type p n

-- a walk is not refused for an accepted container of at most 16,777,215 bytes and columns that are long enough
unfoldable pub ColumnsTaken : Type 0
ColumnsTaken =
    (type : ℕ) (p : List ℕ) (c : Columns) (k : Container) → container_of type p ≡ some k → length k.tracks ≤ shortest c → length p ≤ 16777215
    → (columns_error type p (shortest c) ≡ error.Ok) × (columns_count type p (shortest c) ≡ length k.tracks)

-- WHAT IS KEPT: after a refusal all; else every column's length, and its entries past the count
pub record ColumnKept (count : ℕ) (before after : List ℕ) : Type 0 where
  pub long : length after ≡ length before
  pub behind : (n : ℕ) → count ≤ n → entry after n ≡ entry before n

pub record AllKept (count : ℕ) (before after : Columns) : Type 0 where
  pub ids : ColumnKept count before.ids after.ids
  pub fourccs : ColumnKept count before.fourccs after.fourccs
  pub starts : ColumnKept count before.starts after.starts
  pub lengths : ColumnKept count before.lengths after.lengths

unfoldable pub ColumnsKept : Type 0
ColumnsKept =
    (type : ℕ) (p : List ℕ) (c : Columns)
    → ((columns_error type p (shortest c) ≡ error.Ok → ⊥) → (columns_after type p c ≡ c) × (columns_count type p (shortest c) ≡ 0))
    × AllKept (columns_count type p (shortest c)) c (columns_after type p c)

-- THE ENTRIES: each is the field of the track found by walking, a FourCC its big-endian number
pub record EntriesAt (type : ℕ) (p : List ℕ) (c : Columns) (n : ℕ) : Type 0 where
  pub ids : entry c.ids n ≡ (track_info type p n).track_id
  pub fourccs : entry c.fourccs n ≡ be32_at (track_info type p n).fourcc 0
  pub starts : entry c.starts n ≡ (track_info type p n).start
  pub lengths : entry c.lengths n ≡ (track_info type p n).length

unfoldable pub ColumnsEntries : Type 0
ColumnsEntries =
    (type : ℕ) (p : List ℕ) (c : Columns) → columns_error type p (shortest c) ≡ error.Ok
    → (n : ℕ) → n < columns_count type p (shortest c) → EntriesAt type p (columns_after type p c) n

-- A TRACK READ FROM ANY COLUMNS WHATEVER is inside the payload
unfoldable pub ColumnInside : Type 0
ColumnInside = (type : ℕ) (c : Columns) (count : ℕ) (p : List ℕ) (n : ℕ) → (column_track type c count p n).start + (column_track type c count p n).length ≤ length p

-- WRITTEN AGAIN: the container writer, lent the columns as the walk left them and the payload for bodies, writes that payload
abbrev pub call_with : ℕ → List ℕ → Container → Columns → ContainerCall
call_with type p k c =
    record {
      type = type;
      video_frame_type = video_frame_type type p;
      form = form_number (form_in p);
      packet_type = k.packet_type;
      count = length k.tracks;
      columns = c;
      bodies = p;
    }

unfoldable pub ColumnsWritten : Type 0
ColumnsWritten =
    (type : ℕ) (p : List ℕ) (c : Columns) (k : Container) → Bytes p → container_of type p ≡ some k → columns_error type p (shortest c) ≡ error.Ok
    → (room : ℕ) → length p ≤ room
    → (container_error (call_with type p k (columns_after type p c)) room ≡ error.Ok) × (container_written (call_with type p k (columns_after type p c)) ≡ p)

-- two results that demand 3 treats alike fill columns alike
unfoldable pub ColumnsAlike : Type 0
ColumnsAlike =
    (type flag : ℕ) (r s : List ℕ) (c : Columns) → SameResult type flag r s
    → (columns_result type r (shortest c) ≡ columns_result type s (shortest c)) × (columns_after type r c ≡ columns_after type s c)
