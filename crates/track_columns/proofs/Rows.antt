-- Rows by computation: the examples of docs/REQUIREMENTS.md, section 23, N9. Entries hold 99 before a walk.
use mathlib.Core.Path.{◌≡◌, refl}
use mathlib.Core.List.{List, [], ◌∷◌, ◌++◌}
use Prim.Native.Nat.{ℕ}
use lib.ListN.{replicate}
use Rattle.std.specs.Prelude.{Result, Ok, Err}
use Rattle.types.specs.declared.ErrorCode.{ErrorCode}
use Rattle.types.specs.declared.ErrorCode.TheVariants as error
use Rattle.wire.specs.Grammar.{at_end, sealed_rest}
use Rattle.fourcc.specs.Fourcc.{fourcc_at, same_fourcc, opus, avc1}
use Rattle.codec_config.specs.Records.{record_grammar, record_valid, fourcc_codec, start_codec}
use Rattle.multitrack_media.specs.Container.{opens_container, form_of, legal_head, body_at, sized_at, header_at, track_fourcc, place_at, heads_at, container_heads, container_of}
use Rattle.multitrack_media.specs.Answer.{no_track}
use Rattle.frame.specs.Pass.{record_verdict}
use Rattle.frame.specs.declared.Verdict.{Verdict}
use Rattle.frame.specs.declared.Verdict.TheVariants.{NoRecord, Valid, Refused}
use Rattle.frame.specs.declared.TrackAnswer.{TrackAnswer}
use Rattle.writers.specs.Columns.{Columns}
use Rattle.track_columns.specs.Columns.{lent_columns, shortest, columns_error, columns_count, columns_result, columns_after, is_outside, column_track, column_part, found_verdict, column_answer}

-- A WALK into columns that hold 99 everywhere, each of so many entries
abbrev held : ℕ → ℕ → ℕ → ℕ → Columns
held ids fourccs starts lengths = lent_columns (replicate ids 99) (replicate fourccs 99) (replicate starts 99) (replicate lengths 99)

abbrev Walks : ℕ → List ℕ → Columns → Result ℕ ErrorCode → Columns → Type 0
Walks type p c r after = (columns_result type p (shortest c) ≡ r) × (columns_after type p c ≡ after)

abbrev Refuses : ℕ → List ℕ → Columns → ErrorCode → Type 0
Refuses type p c e = Walks type p c (Err e) c

-- one track of `Opus` without a body; with form 3; with the container's own packet type; cut in its second track
abbrev one : List ℕ
one = 0x95 ∷ 0x01 ∷ opus ++ (7 ∷ [])

abbrev illegal : List ℕ
illegal = 0x95 ∷ 0x31 ∷ opus ++ (7 ∷ [])

abbrev nested : List ℕ
nested = 0x95 ∷ 0x05 ∷ opus ++ (7 ∷ [])

abbrev cut : List ℕ
cut = 0x95 ∷ 0x11 ∷ opus ++ (7 ∷ 0 ∷ 0 ∷ 0 ∷ 8 ∷ [])

-- two tracks, each with its FourCC
abbrev two : List ℕ
two = 0x96 ∷ 0x21 ∷ opus ++ (7 ∷ 0 ∷ 0 ∷ 1 ∷ 0xAA ∷ avc1 ++ (8 ∷ 0 ∷ 0 ∷ 0 ∷ []))

-- A READING of one track's columns: an id, a FourCC, a start and a length
abbrev entries : ℕ → ℕ → ℕ → ℕ → Columns
entries id fourcc start length = lent_columns (id ∷ []) (fourcc ∷ []) (start ∷ []) (length ∷ [])

abbrev none : ErrorCode → ℕ → TrackAnswer
none e count = record { track = no_track e count; verdict = NoRecord }

abbrev found : ℕ → ℕ → List ℕ → ℕ → ℕ → ℕ → Verdict → TrackAnswer
found id packet fourcc frame start length verdict =
    record {
      track = record { error = error.Ok; count = 1; track_id = id; packet_type = packet; fourcc = fourcc; video_frame_type = frame; start = start; length = length };
      verdict = verdict;
    }

abbrev zero2 : List ℕ
zero2 = 0 ∷ 0 ∷ []

-- a video container of packet type 0, with a record of `av01`
abbrev av01 : List ℕ
av01 = 0x61 ∷ 0x76 ∷ 0x30 ∷ 0x31 ∷ []

abbrev starting : List ℕ
starting = 0x96 ∷ 0x00 ∷ av01 ++ (7 ∷ 0x81 ∷ 0 ∷ 0 ∷ 0 ∷ [])

pub record Rows : Type 0 where
  -- -21, -24 and -22, with count 0; what is judged first counts
  unknown_type_lem : Refuses 4 one (held 0 0 0 0) error.UnknownFrameType
  illegal_first : Refuses 0 illegal (held 0 0 0 0) error.NotAContainer
  no_columns : Refuses 0 one (held 0 0 0 0) error.OutputTooShort
  script : Refuses 2 one (held 1 1 1 1) error.NotAContainer
  names_itself_lem : Refuses 0 nested (held 1 1 1 1) error.NotAContainer
  -- any one column that is short
  short_ids : Refuses 0 one (held 0 1 1 1) error.OutputTooShort
  short_fourccs : Refuses 0 one (held 1 0 1 1) error.OutputTooShort
  short_starts : Refuses 0 one (held 1 1 0 1) error.OutputTooShort
  short_lengths : Refuses 0 one (held 1 1 1 0) error.OutputTooShort
  -- cut in the second track: the first is not handed out
  second_cut : Refuses 0 cut (held 2 2 2 2) error.NotAContainer
  -- exact columns; columns of several lengths, whose entries past the count are kept
  exact : Walks 0 one (held 1 1 1 1) (Ok 1) (entries 7 0x4F707573 7 0)
  longer : Walks 0 one (held 1 2 1 3) (Ok 1) (lent_columns (7 ∷ []) (0x4F707573 ∷ 99 ∷ []) (7 ∷ []) (0 ∷ 99 ∷ 99 ∷ []))
  own_fourccs : Walks 1 two (held 3 2 2 2) (Ok 2) (lent_columns (7 ∷ 8 ∷ 99 ∷ []) (0x4F707573 ∷ 0x61766331 ∷ []) (10 ∷ 19 ∷ []) (1 ∷ 0 ∷ []))
  -- read: of a container; of what is none, in audio and in script data; an empty part at the end
  video : column_answer 1 (entries 7 0x61766331 7 0) 1 (0x96 ∷ 0x01 ∷ avc1 ++ (7 ∷ [])) 0 ≡ found 7 1 avc1 1 7 0 NoRecord
  foreign : column_answer 0 (entries 7 0 0 1) 1 zero2 0 ≡ found 7 0 (0 ∷ 0 ∷ 0 ∷ 0 ∷ []) 0 0 1 Valid
  foreign_script : column_answer 2 (entries 7 0 0 1) 1 zero2 0 ≡ found 7 0 (0 ∷ 0 ∷ 0 ∷ 0 ∷ []) 0 0 1 NoRecord
  at_end_lem : column_answer 3 (entries 7 0 2 0) 1 zero2 0 ≡ found 7 0 (0 ∷ 0 ∷ 0 ∷ 0 ∷ []) 0 2 0 NoRecord
  -- -23 with the lent count: past the end, past 2^64, past the columns, past the count, under 2 bytes
  past_end : column_answer 0 (entries 7 0 3 0) 1 zero2 0 ≡ none error.NoSuchTrack 1
  past_all : column_answer 0 (entries 7 0 18446744073709551615 2) 1 zero2 0 ≡ none error.NoSuchTrack 1
  past_columns : column_answer 0 (entries 7 0 0 0) 77 zero2 5 ≡ none error.NoSuchTrack 77
  past_count : column_answer 0 (entries 7 0 0 0) 0 zero2 0 ≡ none error.NoSuchTrack 0
  one_byte : column_answer 0 (entries 7 0 0 0) 1 (0 ∷ []) 0 ≡ none error.NoSuchTrack 1
  -- -21 first, with count 0
  unknown_read : column_answer 4 (entries 7 0 0 0) 1 [] 0 ≡ none error.UnknownFrameType 0
  -- a record of packet type 0, valid and empty
  valid_record : column_answer 1 (entries 7 0x61763031 7 4) 1 starting 0 ≡ found 7 0 av01 1 7 4 Valid
  empty_record : column_answer 1 (entries 7 0x61763031 7 0) 1 starting 0 ≡ found 7 0 av01 1 7 0 Refused

pub rows : Rows
unfolding opens_container form_of legal_head body_at sized_at header_at track_fourcc place_at heads_at container_heads container_of fourcc_at columns_error columns_count columns_result columns_after is_outside column_track column_part found_verdict column_answer record_verdict record_valid record_grammar start_codec fourcc_codec same_fourcc at_end sealed_rest
rows =
    record {
      unknown_type_lem = (refl, refl);
      illegal_first = (refl, refl);
      no_columns = (refl, refl);
      script = (refl, refl);
      names_itself_lem = (refl, refl);
      short_ids = (refl, refl);
      short_fourccs = (refl, refl);
      short_starts = (refl, refl);
      short_lengths = (refl, refl);
      second_cut = (refl, refl);
      exact = (refl, refl);
      longer = (refl, refl);
      own_fourccs = (refl, refl);
      video = refl;
      foreign = refl;
      foreign_script = refl;
      at_end_lem = refl;
      past_end = refl;
      past_all = refl;
      past_columns = refl;
      past_count = refl;
      one_byte = refl;
      unknown_read = refl;
      valid_record = refl;
      empty_record = refl;
    }
