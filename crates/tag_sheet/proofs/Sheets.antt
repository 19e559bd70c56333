-- THE SHEET OF A WRITTEN FILE, and laws of what is left to print.
use mathlib.Core.Path.{◌≡◌, refl, sym, ap, ap₂, ◌∙◌}
use mathlib.Core.Bool.{Bool, true, false, cond}
use mathlib.Core.List.{List, [], ◌∷◌, ◌++◌, append-nil, map}
use Prim.Native.Nat.{ℕ, zero, suc, ◌+◌, ◌≤◌, ◌<◌}
use native.Mathlib.Decide.{dec_lt}
use native.Mathlib.Omega.{arith}
use lib.ListN.{length, take, drop}
use lib.Seq.{take_at, drop_at}
use borrow.Author.Tests.{lt-ltb, le-ltb}
use Rattle.wire.specs.Wire.{bytes24}
use Rattle.wire.proofs.Bools.{true_or_false}
use Rattle.wire.proofs.Numbers.{be24_bytes}
use Rattle.types.specs.Types.{error_number, is_ok}
use Rattle.types.specs.declared.ErrorCode.{ErrorCode}
use Rattle.types.specs.declared.ErrorCode.TheVariants as error
use Rattle.frame_sheet.specs.Lines.{refusal_line}
use Rattle.frame_sheet.specs.Steps.{head_length, input_error, body_length, frame_error, frame_text}
use Rattle.frame_sheet.specs.Sheet.{first_body, behind_first, first_text, frame_goes_on, goes_on, sheet_from}
use Rattle.frame_sheet.proofs.Sheets.{sheet_next}
use Rattle.frame_sheet.proofs.StepLaws.{too_long, all_read, body_none, body_some, frame_refused}
use Rattle.flv.specs.Files.{Tag, tag_bytes, body_size, first_tag, behind_tag, Reading, stopped, with_tag, tags_under, is_frame, Frame}
use Rattle.flv.specs.Calls.{start_bytes, written_tag}
use Rattle.flv.specs.Grammar.{tags_bytes}
use Rattle.flv.specs.Claims.{Writable, AllWritable, none, also}
use Rattle.flv.proofs.Tags.{whole_fine, tags_here, tags_none, tags_step}
use Rattle.flv.proofs.Readings.{start_complete}
use Rattle.flv.proofs.RoundTrips.{written_whole, written_frame, written_type, written_start}
use Rattle.tag_sheet.specs.Sheet.{sheet_refusal, sheet_error, sheet_head, frame_tag_text, frame_tag_goes_on, sheet_of_tags, sheet_left}
use Rattle.tag_sheet.specs.Claims.{sheet_input, SameSheet}

-- ONE FRAME in the sheet's own input, and what is behind it
module _ (f : Frame) (v : Writable f) (rest : List ℕ) where
  abbrev own_head : List ℕ
  own_head = f.type ∷ bytes24 (length f.body)

  abbrev input : List ℕ
  input = (f.type ∷ (bytes24 (length f.body) ++ f.body)) ++ rest

  own_size : head_length own_head ≡ length f.body
  own_size = be24_bytes (length f.body) (omega (arith, v.body))

  same_head : sheet_head (written_tag f).head ≡ own_head
  same_head = ap (λ (t : ℕ). t ∷ bytes24 (length f.body)) (written_type f v)

  -- a body of at most 32,768 bytes
  module _ (short : length f.body ≤ 32768) where
    short_length : body_length own_head ≡ length f.body
    short_length =
        sym (body_some own_head (ap is_ok (sym (all_read own_head 32768 (omega arith) (omega (arith, v.type)) (omega (arith, own_size)) (omega (arith, own_size))))))
        ∙ own_size

    pub short_body : first_body input ≡ f.body
    short_body = ap (λ (k : ℕ). take k (f.body ++ rest)) short_length ∙ take_at f.body rest (length f.body) refl

    pub short_behind : behind_first input ≡ rest
    short_behind = ap (λ (k : ℕ). drop k (f.body ++ rest)) short_length ∙ drop_at f.body rest (length f.body) refl

    pub short_text : (w n : ℕ) → first_text w n input ≡ frame_tag_text w n (written_tag f)
    short_text w n = ap₂ (λ (h b : List ℕ). frame_text w n h b 32768) (sym same_head) short_body

    pub short_goes_on : goes_on input ≡ frame_tag_goes_on (written_tag f)
    short_goes_on = ap₂ frame_goes_on (sym same_head) short_body

    pub short_fine : sheet_error (written_tag f) ≡ error.Ok
    unfolding sheet_refusal
    short_fine =
        let w = written_whole f v in
        rw (written_frame f v, le-ltb 32768 (body_size (written_tag f).head) (omega (arith, w.body)), whole_fine (written_tag f) w) refl

  -- a longer one
  module _ (long : 32768 < length f.body) where
    long_error : (got : ℕ) → error.OutputTooShort ≡ input_error own_head got
    long_error got = too_long own_head got (omega arith) (omega (arith, v.type)) (omega (arith, own_size))

    long_body : first_body input ≡ []
    long_body = ap (λ (k : ℕ). take k (f.body ++ rest)) (sym (body_none own_head (ap is_ok (sym (long_error 32768)))))

    pub long_text : (w n : ℕ) → first_text w n input ≡ refusal_line w n (error_number error.OutputTooShort)
    long_text w n =
        ap (λ (b : List ℕ). frame_text w n own_head b 32768) long_body
        ∙ (frame_refused w n own_head [] [] 32768 (omega arith) error.OutputTooShort (long_error 0) refl).text

    pub long_stops : goes_on input ≡ false
    unfolding frame_goes_on
    long_stops =
        ap (λ (b : List ℕ). is_ok (frame_error own_head b 32768)) long_body
        ∙ ap is_ok (frame_refused 6 1 own_head [] [] 32768 (omega arith) error.OutputTooShort (long_error 0) refl).error

    pub long_refused : sheet_error (written_tag f) ≡ error.OutputTooShort
    unfolding sheet_refusal
    long_refused =
        let w = written_whole f v in
        rw (written_frame f v, lt-ltb 32768 (body_size (written_tag f).head) (omega (arith, w.body))) refl

-- THE FRAMES, one behind the other
abbrev read_sheet : ℕ → ℕ → ℕ → Reading → List ℕ
read_sheet w most n r = sheet_of_tags w most n r.tags r.error

-- TAG BY TAG: a frame has its text and, if the sheet goes on, what follows; another tag has nothing
module _ (w most n : ℕ) (t : Tag) (ts : List Tag) (e : ErrorCode) where
  pub sheet_frame : is_frame t.head ≡ true → sheet_of_tags w (suc most) n (t ∷ ts) e ≡ frame_tag_text w n t ++ cond (frame_tag_goes_on t) (sheet_of_tags w most (n + 1) ts e) []
  unfolding sheet_of_tags
  sheet_frame p = go (is_frame t.head) p (frame_tag_goes_on t)
    where
      go : (b : Bool) → b ≡ true → (c : Bool)
          → ◌≡◌ {A = List ℕ} (elim b [ true ↦ frame_tag_text w n t ++ elim c [ true ↦ sheet_of_tags w most (n + 1) ts e | false ↦ [] ] | false ↦ sheet_of_tags w (suc most) n ts e ])
          (frame_tag_text w n t ++ cond c (sheet_of_tags w most (n + 1) ts e) [])
      go true p true = refl
      go true p false = refl
      go false p c = true_or_false p refl

  pub sheet_other : is_frame t.head ≡ false → sheet_of_tags w (suc most) n (t ∷ ts) e ≡ sheet_of_tags w (suc most) n ts e
  unfolding sheet_of_tags
  sheet_other p = go (is_frame t.head) p
    where
      go : (b : Bool) → b ≡ false
          → ◌≡◌ {A = List ℕ} (elim b [ true ↦ frame_tag_text w n t ++ elim (frame_tag_goes_on t) [ true ↦ sheet_of_tags w most (n + 1) ts e | false ↦ [] ] | false ↦ sheet_of_tags w (suc most) n ts e ])
          (sheet_of_tags w (suc most) n ts e)
      go true p = true_or_false refl p
      go false p = refl

-- WHAT IS LEFT TO PRINT of a file, for a program that reads tag by tag: n is the next frame's number
pub left_end : (w most n : ℕ) → sheet_left w most n [] ≡ []
unfolding sheet_of_tags
left_end w zero n = refl
left_end w (suc most) n = ap (λ (r : Reading). sheet_of_tags w (suc most) n r.tags r.error) (tags_none sheet_error)

pub left_limit : (w n : ℕ) (s : List ℕ) → sheet_left w zero n s ≡ []
unfolding sheet_of_tags
left_limit w n s = refl

module _ (w most n : ℕ) (s : List ℕ) (some : 0 < length s) where
  pub left_refused : is_ok (sheet_error (first_tag s)) ≡ false → sheet_left w (suc most) n s ≡ refusal_line w n (error_number (sheet_error (first_tag s)))
  unfolding sheet_of_tags
  left_refused e =
      let q : tags_under sheet_error s ≡ stopped (sheet_error (first_tag s)) = tags_step sheet_error s some ∙ rw e refl in
      ap (λ (r : Reading). sheet_of_tags w (suc most) n r.tags r.error) q ∙ ap (λ (b : Bool). cond b [] (refusal_line w n (error_number (sheet_error (first_tag s))))) e

  module _ (fine : is_ok (sheet_error (first_tag s)) ≡ true) where
    left_tags : tags_under sheet_error s ≡ with_tag (first_tag s) (tags_under sheet_error (behind_tag s))
    left_tags = tags_step sheet_error s some ∙ rw fine refl

    pub left_frame : is_frame (first_tag s).head ≡ true
        → sheet_left w (suc most) n s ≡ frame_tag_text w n (first_tag s) ++ cond (frame_tag_goes_on (first_tag s)) (sheet_left w most (n + 1) (behind_tag s)) []
    left_frame p =
        ap (λ (r : Reading). sheet_of_tags w (suc most) n r.tags r.error) left_tags
        ∙ sheet_frame w most n (first_tag s) (tags_under sheet_error (behind_tag s)).tags (tags_under sheet_error (behind_tag s)).error p

    pub left_other : is_frame (first_tag s).head ≡ false → sheet_left w (suc most) n s ≡ sheet_left w (suc most) n (behind_tag s)
    left_other p =
        ap (λ (r : Reading). sheet_of_tags w (suc most) n r.tags r.error) left_tags
        ∙ sheet_other w most n (first_tag s) (tags_under sheet_error (behind_tag s)).tags (tags_under sheet_error (behind_tag s)).error p

module _ (f : Frame) (v : Writable f) (tail rest : List ℕ) (w most n : ℕ) (same : read_sheet w most (n + 1) (tags_under sheet_error tail) ≡ sheet_from w most (n + 1) rest) where
  step_long : 32768 < length f.body → read_sheet w (suc most) n (tags_under sheet_error (tag_bytes (written_tag f) ++ tail)) ≡ sheet_from w (suc most) n (input f v rest)
  unfolding sheet_of_tags
  step_long l =
      let p : tags_under sheet_error (tag_bytes (written_tag f) ++ tail) ≡ stopped error.OutputTooShort
      = tags_here (written_tag f) (written_whole f v) tail sheet_error ∙ rw (long_refused f v rest l) refl in
      ap (read_sheet w (suc most) n) p
      ∙ sym (sheet_next w most n (input f v rest)
      ∙ ap₂ (λ (t : List ℕ) (b : Bool). t ++ cond b (sheet_from w most (n + 1) (behind_first (input f v rest))) []) (long_text f v rest l w n) (long_stops f v rest l)
      ∙ append-nil (refusal_line w n (error_number error.OutputTooShort)))

  step_short : length f.body ≤ 32768 → read_sheet w (suc most) n (tags_under sheet_error (tag_bytes (written_tag f) ++ tail)) ≡ sheet_from w (suc most) n (input f v rest)
  step_short l =
      let p : tags_under sheet_error (tag_bytes (written_tag f) ++ tail) ≡ with_tag (written_tag f) (tags_under sheet_error tail)
      = tags_here (written_tag f) (written_whole f v) tail sheet_error ∙ rw (short_fine f v rest l) refl in
      ap (read_sheet w (suc most) n) p
      ∙ sheet_frame w most n (written_tag f) (tags_under sheet_error tail).tags (tags_under sheet_error tail).error (written_frame f v)
      ∙ ap (λ (t : List ℕ). frame_tag_text w n (written_tag f) ++ cond (frame_tag_goes_on (written_tag f)) t []) (same ∙ ap (sheet_from w most (n + 1)) (sym (short_behind f v rest l)))
      ∙ sym (sheet_next w most n (input f v rest)
      ∙ ap₂ (λ (t : List ℕ) (b : Bool). t ++ cond b (sheet_from w most (n + 1) (behind_first (input f v rest))) []) (short_text f v rest l w n) (short_goes_on f v rest l))

  step : read_sheet w (suc most) n (tags_under sheet_error (tag_bytes (written_tag f) ++ tail)) ≡ sheet_from w (suc most) n (input f v rest)
  step = go (dec_lt 32768 (length f.body))
    where
      go : Dec (32768 < length f.body) → read_sheet w (suc most) n (tags_under sheet_error (tag_bytes (written_tag f) ++ tail)) ≡ sheet_from w (suc most) n (input f v rest)
      go (yes l) = step_long l
      go (no l) = step_short (omega arith)

nothing_left : (w most n : ℕ) → read_sheet w most n (stopped error.Ok) ≡ sheet_from w most n []
unfolding sheet_of_tags sheet_from frame_text frame_goes_on
nothing_left w zero n = refl
nothing_left w (suc most) n = refl

stop_both : (w n : ℕ) (r : Reading) (input : List ℕ) → read_sheet w zero n r ≡ sheet_from w zero n input
unfolding sheet_of_tags sheet_from
stop_both w n r input = refl

same_frames : (fs : List Frame) → AllWritable fs → (w most n : ℕ) → read_sheet w most n (tags_under sheet_error (tags_bytes (map written_tag fs))) ≡ sheet_from w most n (sheet_input fs)
same_frames [] none w most n = ap (read_sheet w most n) (tags_none sheet_error) ∙ nothing_left w most n
same_frames (f ∷ fs) (also v a) w zero n = stop_both w n (tags_under sheet_error (tags_bytes (map written_tag (f ∷ fs)))) (sheet_input (f ∷ fs))
same_frames (f ∷ fs) (also v a) w (suc most) n = step f v (tags_bytes (map written_tag fs)) (sheet_input fs) w most n (same_frames fs a w most (n + 1))

pub same_sheet_lem : SameSheet
unfolding SameSheet
same_sheet_lem layout fs a = rw (start_complete start_bytes written_start (tags_bytes (map written_tag fs))) (same_frames fs a layout.width layout.last 1)
