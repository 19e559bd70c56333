-- What is shown of FLV files.
use Rattle.std.specs.Prelude.{◌≡◌, ◌↔◌, true, false, cond, ◌&&◌, ◌||◌, List, [], ◌∷◌, ◌++◌, map, ℕ, ◌+◌, ◌-◌, ◌*◌, ◌≤◌, ◌<◌, eqb, ltb, length, take, drop, Option, Some, None, Result, Ok, Err}
use Rattle.wire.specs.Wire.{part}
use Rattle.types.specs.declared.ErrorCode.{ErrorCode}
use Rattle.types.specs.declared.ErrorCode.TheVariants as error
use Rattle.flv.specs.declared.reading.FlvFrame.{FlvFrame}
use Rattle.flv.specs.Files.{is_header, start_error, Tag, tag_bytes, body_size, tag_error, first_tag, Reading, tags_of, read_file, is_frame, Frame, frames_of}
use Rattle.flv.specs.Calls.{
  flv_start,
  no_frame,
  found_at,
  flv_next,
  start_bytes,
  written_tag,
  start_answer,
  start_output,
  frame_write_error,
  frame_answer,
  frame_output,
}
use Rattle.writers.specs.Claims.{CallLeaves}
use Rattle.flv.specs.Grammar.{WholeFile, tags_bytes}

abbrev pub clean : List Tag → Reading
clean ts = record { tags = ts; error = error.Ok }

-- CLEAN IFF WHOLE: a file reads to a clean end, with these tags, exactly if it is a header, a back-pointer of 0 and these tags, each whole
unfoldable pub CleanIff : Type 0
CleanIff = (file : List ℕ) (ts : List Tag) → (read_file file ≡ clean ts) ↔ WholeFile file ts

-- frames that can be written: types up to 2, 32-bit times, bodies up to 16,777,215 bytes
pub record Writable (f : Frame) : Type 0 where
  pub type : f.type ≤ 2
  pub time : f.time < 4294967296
  pub body : length f.body ≤ 16777215

pub data AllWritable : List Frame → Type 0 where
  none : AllWritable []
  also : {f : Frame} {fs : List Frame} → Writable f → AllWritable fs → AllWritable (f ∷ fs)

-- a file written: the start and the frames' tags, one behind the other
abbrev pub written_file : List Frame → List ℕ
written_file fs = start_bytes ++ tags_bytes (map written_tag fs)

-- WRITTEN IFF: a frame with a 32-bit time is written exactly if it can be, and there is room for its body and 15 bytes more
unfoldable pub WrittenIff : Type 0
WrittenIff = (f : Frame) (room : ℕ) → f.time < 4294967296 → (frame_write_error f room ≡ error.Ok) ↔ (Writable f × (length f.body + 15 ≤ room))

-- what the writers leave in an output: what they wrote in front, all further bytes as they were; after a refusal every byte
unfoldable pub StartLeaves : Type 0
StartLeaves = (out : List ℕ) → CallLeaves (start_answer (length out)) start_bytes out (start_output out)

unfoldable pub FrameLeaves : Type 0
FrameLeaves = (f : Frame) (out : List ℕ) → CallLeaves (frame_answer f (length out)) (tag_bytes (written_tag f)) out (frame_output f out)

-- ROUND TRIP: it reads back to the same frames and a clean end
unfoldable pub RoundTrip : Type 0
RoundTrip = (fs : List Frame) → AllWritable fs → ((read_file (written_file fs)).error ≡ error.Ok) × (frames_of (read_file (written_file fs)).tags ≡ fs)

-- OTHER TAGS put anywhere between change no frame
unfoldable pub OtherTags : Type 0
OtherTags = (file file' : List ℕ) (before behind : List Tag) (t : Tag) → is_frame t.head ≡ false → WholeFile file (before ++ t ∷ behind) → WholeFile file' (before ++ behind)
    → frames_of (read_file file).tags ≡ frames_of (read_file file').tags

-- what the calls answer one after the other, from a place on: the frames and then the end
abbrev pub answers_from : ℕ → List Tag → ErrorCode → List (Result (Option FlvFrame) ErrorCode)
answers_from at [] e = no_frame e ∷ []
answers_from at (t ∷ ts) e =
    cond (is_frame t.head) (Ok (Some (found_at at t)) ∷ answers_from (at + (length t.body + 15)) ts e) (answers_from (at + (length t.body + 15)) ts e)

abbrev pub answers_at : List ℕ → ℕ → List (Result (Option FlvFrame) ErrorCode)
answers_at file at = answers_from at (tags_of (drop at file)).tags (tags_of (drop at file)).error

-- CALL BY CALL: they are the answer of the next call and, if it found a frame, those of the calls behind it
abbrev pub answers_behind : List ℕ → Result (Option FlvFrame) ErrorCode → List (Result (Option FlvFrame) ErrorCode)
answers_behind file (Ok (Some f)) = answers_at file f.next
answers_behind file (Ok None) = []
answers_behind file (Err e) = []

unfoldable pub CallByCall : Type 0
CallByCall = (file : List ℕ) (at : ℕ) → at ≤ length file → answers_at file at ≡ flv_next file at ∷ answers_behind file (flv_next file at)

-- ANSWERS AND FRAMES: what was found, with its part of the file as body, are the frames
abbrev pub found_frames : List ℕ → List (Result (Option FlvFrame) ErrorCode) → List Frame
found_frames file [] = []
found_frames file (Ok (Some f) ∷ rest) = record { type = f.frame_type; time = f.timestamp; body = part file f.start f.length } ∷ found_frames file rest
found_frames file (Ok None ∷ rest) = found_frames file rest
found_frames file (Err e ∷ rest) = found_frames file rest

unfoldable pub AnswersAreFrames : Type 0
AnswersAreFrames = (file : List ℕ) (at : ℕ) → at ≤ length file → found_frames file (answers_at file at) ≡ frames_of (tags_of (drop at file)).tags

-- THE CALLS READ THE FILE: if its start is taken, the calls from there on find the frames of the file, and the last one says why the reading stopped
pub record FileRead (file : List ℕ) (at : ℕ) : Type 0 where
  pub frames : found_frames file (answers_at file at) ≡ frames_of (read_file file).tags
  pub stops : answers_at file at ≡ answers_from 13 (read_file file).tags (read_file file).error

unfoldable pub CallsReadFile : Type 0
CallsReadFile = (file : List ℕ) (at : ℕ) → flv_start file ≡ Ok at → FileRead file at

-- BYTES THAT DIFFER IN BODIES ONLY: tags with the same heads and back-pointers, right or wrong, and behind them the same bytes, or a tag that is cut in
-- its body
pub data SameOutside : List ℕ → List ℕ → Type 0 where
  same : {s : List ℕ} → SameOutside s s
  cut : (head body body' : List ℕ) → length head ≡ 11 → length body ≤ body_size head → length body' ≡ length body → SameOutside (head ++ body) (head ++ body')
  tag : {s s' : List ℕ} (head body body' pointer : List ℕ) → length head ≡ 11 → length body ≡ body_size head → length body' ≡ body_size head → length pointer ≡ 4
      → SameOutside s s' → SameOutside ((head ++ (body ++ pointer)) ++ s) ((head ++ (body' ++ pointer)) ++ s')

-- NO BODY BYTE DECIDES: files that differ in bodies only have the same start and give the same answers
unfoldable pub NoBodyByte : Type 0
NoBodyByte = (front s s' : List ℕ) → length front ≡ 13 → SameOutside s s'
    → (start_error (front ++ s) ≡ start_error (front ++ s')) × (answers_at (front ++ s) 13 ≡ answers_at (front ++ s') 13)

-- PROGRESS: a frame that is found is a whole tag inside the file, so that a file has at most a fifteenth of its bytes behind the start in frames
pub record Progresses (file : List ℕ) (at : ℕ) (f : FlvFrame) : Type 0 where
  pub least : at + 15 ≤ f.next
  pub within : f.next ≤ length file
  pub place : f.start + f.length + 4 ≡ f.next

unfoldable pub Progress : Type 0
Progress = (file : List ℕ) (at : ℕ) (f : FlvFrame) → flv_next file at ≡ Ok (Some f) → Progresses file at f

-- THE CLEAN END is the end of the file: where a call finds no more frames, the tags from its place on reach to the last byte
abbrev pub place_behind : ℕ → List Tag → ℕ
place_behind at [] = at
place_behind at (t ∷ ts) = place_behind (at + (length t.body + 15)) ts

unfoldable pub CleanEnd : Type 0
CleanEnd = (file : List ℕ) (at : ℕ) → flv_next file at ≡ Ok None → place_behind at (tags_of (drop at file)).tags ≡ length file

unfoldable pub FewFrames : Type 0
FewFrames = (file : List ℕ) → length (frames_of (read_file file).tags) * 15 ≤ length file - 13

-- START CUT IFF: -25 exactly where the file ends inside the header, or behind a right one inside the first back-pointer
unfoldable pub StartCutIff : Type 0
StartCutIff = (file : List ℕ) → (start_error file ≡ error.Truncated) ↔ ((ltb (length file) 9 || (is_header file && ltb (length file) 13)) ≡ true)

-- CUT IFF: -25 exactly where the bytes end inside a place of the tag
unfoldable pub CutIff : Type 0
CutIff = (s : List ℕ) → (tag_error (first_tag s) ≡ error.Truncated) ↔ ((ltb (length s) 11 || ltb (length s) (15 + body_size (take 11 s))) ≡ true)

-- CUT FILE: a whole file cut at any byte from 13 on gives the tags that end before the cut, then a clean end if the cut is a tag's end, else -25
pub record CutAt (file : List ℕ) (ts : List Tag) (n : ℕ) : Type 0 where
  pub kept : List Tag
  pub lost : List Tag
  pub split : ts ≡ kept ++ lost
  pub before : 13 + length (tags_bytes kept) ≤ n
  pub most : (t : Tag) (us : List Tag) → lost ≡ t ∷ us → n < 13 + length (tags_bytes (kept ++ t ∷ []))
  pub reading : read_file (take n file) ≡ record { tags = kept; error = cond (eqb n (13 + length (tags_bytes kept))) error.Ok error.Truncated }

unfoldable pub CutFile : Type 0
CutFile = (file : List ℕ) (ts : List Tag) (n : ℕ) → WholeFile file ts → 13 ≤ n → n ≤ length file → CutAt file ts n
