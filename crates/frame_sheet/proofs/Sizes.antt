-- Where the pass has 32,768 bytes of output: which frames are refused, and how long the text of a frame is.
use mathlib.Core.Path.{◌≡◌, refl}
use mathlib.Core.Bool.{true, false, cond}
use mathlib.Core.List.{List, []}
use mathlib.Core.Option.{Option, none, some}
use Prim.Native.Nat.{ℕ, ◌+◌, ◌^◌, ◌≤◌, ◌<◌}
use native.Mathlib.Omega.{arith}
use lib.IntN.{ℤ}
use lib.ListN.{length, length-append}
use lib.Seq.{length-take-le}
use borrow.Author.Tests.{le-ltb}
use Rattle.std.proofs.lemmas.Grind.{common_steps}
use Rattle.types.specs.Types.{error_number, is_ok, is_unknown_type}
use Rattle.types.specs.declared.ErrorCode.{ErrorCode}
use Rattle.types.specs.declared.ErrorCode.TheVariants as error
use Rattle.types.proofs.Laws.{only_ok}
use Rattle.modex.specs.Modex.{peeled}
use Rattle.modex.specs.Offsets.{has_bad_offset}
use Rattle.modex.proofs.Outputs.{peeled_within}
use Rattle.multitrack_media.specs.Container.{Container, container_of}
use Rattle.multitrack_media.proofs.Answers.{container_facts_lem}
use Rattle.init_cache.specs.Seen.{count_tracks}
use Rattle.init_cache.specs.Kind.{kind_number}
use Rattle.init_cache.specs.declared.kind.CacheFrameKind.{CacheFrameKind}
use Rattle.init_cache.specs.declared.kind.CacheFrameKind.TheVariants.{LiveOnly, VideoSequenceHeader, AudioSequenceHeader, VideoKeyframe}
use Rattle.delivery.specs.Hint.{hint_number}
use Rattle.delivery.specs.declared.DeliveryHint.{DeliveryHint}
use Rattle.delivery.specs.declared.DeliveryHint.TheVariants.{Critical, ResyncPoint, Droppable}
use Rattle.frame.specs.Pass.{pass_error, result_report, pass_report}
use Rattle.frame.proofs.Passes.{error_offset, error_none}
use Rattle.frame_sheet.specs.Text.{digits, decimal, signed, integer, column}
use Rattle.frame_sheet.specs.Lines.{sheet_line, refusal_line}
use Rattle.frame_sheet.specs.Steps.{head_type, head_length, input_error, sheet_mask, sheet_flag, payload_of, line_of, pass_of, frame_error, FrameRefusals, frame_text}
use Rattle.frame_sheet.specs.declared.lines.SheetLine.{SheetLine}
use Rattle.frame_sheet.proofs.Numerals.{digits_within, length_column, column_wide}
use Rattle.frame_sheet.proofs.StepLaws.{accepted_read, no_text, frame_text_lem, frame_accepted}

-- NUMBERS THAT FIT their columns, but for the frame number
pub record Fits (l : SheetLine) : Type 0 where
  pub type : l.frame_type < 1000
  pub size : l.length < 1000000000
  pub refused : length (integer l.header_error) ≤ 4
  pub tracks : l.tracks < 1000000
  pub kind : l.kind < 1000
  pub hint : l.hint < 1000

-- lines by the first column
module _ (w : ℕ) where
  pub line_fits : (l : SheetLine) → Fits l → length (sheet_line w l) ≡ length (column w (decimal l.number)) + 29
  unfolding sheet_line
  line_fits l f =
      simp length-append (
      omega (
        arith,
        column_wide 3 (decimal l.frame_type) (digits_within 2 l.frame_type (omega (arith, f.type))),
        column_wide 9 (decimal l.length) (digits_within 8 l.length (omega (arith, f.size))),
        column_wide 4 (integer l.header_error) f.refused,
        column_wide 6 (decimal l.tracks) (digits_within 5 l.tracks (omega (arith, f.tracks))),
        column_wide 3 (decimal l.kind) (digits_within 2 l.kind (omega (arith, f.kind))),
        column_wide 3 (decimal l.hint) (digits_within 2 l.hint (omega (arith, f.hint))),
      )
      )

  pub refusal_fits : (n : ℕ) (z : ℤ) → length (integer z) ≤ 4 → length (refusal_line w n z) ≡ length (column w (decimal n)) + 5
  unfolding refusal_line
  refusal_fits n z i = simp length-append (omega (arith, column_wide 4 (integer z) i))

-- THE NUMBERS OF A REPORT fit
error_fits : (e : ErrorCode) → length (integer (error_number e)) ≤ 4
unfolding error_number signed decimal digits
error_fits error.Ok = omega arith
error_fits error.Io = omega arith
error_fits error.Protocol = omega arith
error_fits error.Chunk = omega arith
error_fits error.Unsupported = omega arith
error_fits error.UnknownFrameType = omega arith
error_fits error.OutputTooShort = omega arith
error_fits error.NoSuchTrack = omega arith
error_fits error.NotAContainer = omega arith
error_fits error.Truncated = omega arith
error_fits error.OutOfBounds = omega arith
error_fits error.BadLength = omega arith
error_fits error.BadValue = omega arith
error_fits error.NotFlv = omega arith
error_fits error.WrongBackPointer = omega arith
error_fits error.SlotTooShort = omega arith
error_fits error.OutOfRange = omega arith
error_fits error.DebtLimit = omega arith

kind_fits : (k : CacheFrameKind) → kind_number k < 1000
kind_fits LiveOnly = omega arith
kind_fits VideoSequenceHeader = omega arith
kind_fits AudioSequenceHeader = omega arith
kind_fits VideoKeyframe = omega arith

hint_fits : (h : DeliveryHint) → hint_number h < 1000
hint_fits Critical = omega arith
hint_fits ResyncPoint = omega arith
hint_fits Droppable = omega arith

count_fits : (type : ℕ) (r : List ℕ) → count_tracks (container_of type r) < 1000000
count_fits type r = go (container_of type r) refl
  where
    go : (o : Option Container) → container_of type r ≡ o → count_tracks o < 1000000
    go none q = omega arith
    go (some c) q = omega (arith, (container_facts_lem type r c q).limit)

tracks_fit : (type mask flag : ℕ) (p : List ℕ) (room : ℕ) → (pass_report type mask flag p room).tracks < 1000000
unfolding pass_report result_report
tracks_fit type mask flag p room = grind (arith, common_steps, count_fits)

-- WHO IS REFUSED: the whole pass has room for every result
module _ (head body : List ℕ) (accepted : is_ok (input_error head (length body)) ≡ true) where
  known : is_unknown_type (head_type head) ≡ false
  known = le-ltb 3 (head_type head) (accepted_read head (length body) accepted).known

  room : length (peeled (head_type head) sheet_mask (payload_of head body)) ≤ 32768
  room =
      let f = accepted_read head (length body) accepted in
      let k : length (payload_of head body) ≤ 32768 = omega (arith, length-take-le (head_length head) body f.body, f.short) in
      omega (arith, peeled_within (head_type head) sheet_mask (payload_of head body))

  pass_error_lem : pass_error (head_type head) sheet_mask (payload_of head body) 32768
      ≡ cond (has_bad_offset (head_type head) sheet_mask (payload_of head body)) error.Protocol error.Ok
  pass_error_lem = grind (arith, common_steps, error_offset (head_type head) sheet_mask (payload_of head body) 32768 known room, error_none (head_type head) sheet_mask (payload_of head body) 32768 known room)

  -- the report has the pass's own error
  report_error : (pass_of head body 32768).error ≡ pass_error (head_type head) sheet_mask (payload_of head body) 32768
  unfolding pass_report result_report
  report_error = grind (arith, common_steps, only_ok)

pub frame_refusals_lem : FrameRefusals
unfolding FrameRefusals frame_error
frame_refusals_lem head body begun = grind (arith, common_steps, report_error, pass_error_lem)

-- THE TEXT OF A FRAME: its line, or a refusal
module _ (w n : ℕ) (head body : List ℕ) where
  line_numbers : is_ok (input_error head (length body)) ≡ true → Fits (line_of n head (pass_of head body 32768))
  line_numbers accepted =
      let f = accepted_read head (length body) accepted in
      record {
        type = omega (arith, f.known);
        size = omega (arith, f.short);
        refused = error_fits (pass_of head body 32768).header.error;
        tracks = tracks_fit (head_type head) sheet_mask sheet_flag (payload_of head body) 32768;
        kind = kind_fits (pass_of head body 32768).kind;
        hint = hint_fits (pass_of head body 32768).hint;
      }

  frame_long : 0 < length head → length (frame_text w n head body 32768) ≡ length (column w (decimal n)) + cond (is_ok (frame_error head body 32768)) 29 5
  frame_long begun =
      let line : is_ok (frame_error head body 32768) ≡ true → length (sheet_line w (line_of n head (pass_of head body 32768))) ≡ length (column w (decimal n)) + 29 =
      λ e. line_fits w (line_of n head (pass_of head body 32768)) (line_numbers (frame_accepted w n head body [] 32768 begun e)) in
      let refusal = refusal_fits w n (error_number (frame_error head body 32768)) (error_fits (frame_error head body 32768)) in
      rw (frame_text_lem w n head body [] 32768 begun) (grind (arith, common_steps))

  -- or, at a clean end, nothing
  text_long : length (frame_text w n head body 32768) ≤ length (column w (decimal n)) + 29
  text_long =
      grind (arith, common_steps, frame_long, no_text)

-- ROOM FOR EVERY TEXT: a first column of at most 255, and a number of at most 32 bits
module _ (w n : ℕ) (h : w < 256) (l : n ≤ 4294967295) where
  number_within : length (column w (decimal n)) ≤ 255
  number_within =
      let d : length (decimal n) ≤ 10 = let m : n < 10 ^ 10 = omega arith in digits_within 9 n m in
      omega (arith, length_column w (decimal n))

  pub refusal_within : (e : ErrorCode) → length (refusal_line w n (error_number e)) ≤ 284
  refusal_within e = omega (arith, refusal_fits w n (error_number e) (error_fits e), number_within)

  pub text_within : (head body : List ℕ) → length (frame_text w n head body 32768) ≤ 284
  text_within head body = omega (arith, text_long w n head body, number_within)

-- THE SHEET OF SIX COLUMNS: up to frame 999,999 a line has 35 bytes, and a refusal 11
module _ (n : ℕ) (head body : List ℕ) (last : n ≤ 999999) where
  six : length (column 6 (decimal n)) ≡ 6
  six = let h : n < 10 ^ 6 = omega arith in column_wide 6 (decimal n) (digits_within 5 n h)

  pub line_size : 0 < length head → is_ok (frame_error head body 32768) ≡ true → length (frame_text 6 n head body 32768) ≡ 35
  line_size begun fine = let long : length (frame_text 6 n head body 32768) ≡ length (column 6 (decimal n)) + 29 = rw fine at (frame_long 6 n head body begun) in omega (arith, six)

  pub refusal_size : 0 < length head → is_ok (frame_error head body 32768) ≡ false → length (frame_text 6 n head body 32768) ≡ 11
  refusal_size begun refused = let long : length (frame_text 6 n head body 32768) ≡ length (column 6 (decimal n)) + 5 = rw refused at (frame_long 6 n head body begun) in omega (arith, six)
