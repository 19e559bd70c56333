-- CALL BY CALL and PROGRESS; and laws for the code that goes from place to place.
use mathlib.Core.Path.{◌≡◌, refl, sym, ap, ap₂, subst, ◌∙◌}
use mathlib.Core.Bool.{Bool, true, false, cond}
use mathlib.Core.List.{List, [], ◌∷◌, ◌++◌, append_assoc}
use Prim.Native.Nat.{ℕ, zero, suc, ◌+◌, ◌-◌, ◌*◌, ◌≤◌, ◌<◌}
use native.Mathlib.Decide.{dec_lt, ℕ_discrete}
use native.Mathlib.Omega.{arith}
use lib.ListN.{length, take, drop, length-append, length-drop, take-append-drop}
use lib.Seq.{take_at, drop_at, drop-drop, drop-append-add, get_or-take, get_or-drop, drop-length, length-take-le}
use borrow.Author.Tests.{lt-ltb, le-ltb}
use Rattle.std.specs.Prelude.{Option, Some, None, Result, Ok, Err}
use Rattle.wire.specs.Wire.{byte_at, part}
use Rattle.types.specs.Types.{is_ok}
use Rattle.types.specs.declared.ErrorCode.{ErrorCode}
use Rattle.types.specs.declared.ErrorCode.TheVariants as error
use Rattle.flv.specs.declared.reading.FlvFrame.{FlvFrame}
use Rattle.flv.specs.Files.{
  start_error,
  Tag,
  tag_bytes,
  body_size,
  time_of,
  tag_error,
  first_tag,
  behind_tag,
  Reading,
  stopped,
  with_tag,
  tags_of,
  read_file,
  is_frame_byte,
  is_frame,
  frame_type,
  Frame,
  frame_of,
  frames_of,
}
use Rattle.flv.specs.Calls.{flv_start, found_at, frame_at, next_in, flv_next}
use Rattle.flv.specs.Grammar.{Whole, AllWhole, also, tags_bytes}
use Rattle.flv.specs.Claims.{answers_from, answers_at, answers_behind, CallByCall, found_frames, AnswersAreFrames, CallsReadFile, Progresses, Progress, place_behind, CleanEnd, FewFrames, FileRead}
use Rattle.flv.proofs.Tags.{tags_step, tags_none, first_whole, first_within, long_here}
use Rattle.flv.proofs.Readings.{sound, start_sound}

-- THE NEXT FRAME, TAG BY TAG
module _ (file : List ℕ) (at : ℕ) where
  -- the tag at a place, and the place behind it
  abbrev tag_at : Tag
  tag_at = first_tag (drop at file)

  abbrev behind_at : ℕ
  behind_at = at + (length tag_at.body + 15)

  pub next_past : length file < at → flv_next file at ≡ Err error.Truncated
  unfolding flv_next
  next_past l = rw (lt-ltb (length file) at l) refl

  next_inside : at ≤ length file → flv_next file at ≡ next_in at (tags_of (drop at file)).tags (tags_of (drop at file)).error
  unfolding flv_next
  next_inside l = rw (le-ltb (length file) at l) refl

  pub next_end : at ≡ length file → flv_next file at ≡ Ok None
  next_end e =
      next_inside (omega arith)
      ∙ ap (λ (s : List ℕ). next_in at (tags_of s).tags (tags_of s).error) (ap (λ (k : ℕ). drop k file) e ∙ drop-length file)
      ∙ ap (λ (r : Reading). next_in at r.tags r.error) (tags_none tag_error)

  tags_stop : at < length file → is_ok (tag_error tag_at) ≡ false → tags_of (drop at file) ≡ stopped (tag_error tag_at)
  tags_stop l e = tags_step tag_error (drop at file) (omega (arith, length-drop at file)) ∙ rw e refl

-- behind a tag that is not refused
module _ (file : List ℕ) (at : ℕ) (l : at < length file) (fine : is_ok (tag_error (tag_at file at)) ≡ true) where
  tag_within : behind_at file at ≤ length file
  tag_within = omega (arith, first_within (drop at file) fine, length-drop at file)

  next_place : behind_tag (drop at file) ≡ drop (behind_at file at) file
  next_place =
      let n : ℕ = body_size (take 11 (drop at file)) in
      let b : length (part (drop at file) 11 n) ≡ n = (first_whole (drop at file) fine).body in
      let e : at + (15 + n) ≡ at + (length (part (drop at file) 11 n) + 15) = omega arith in
      drop-drop (15 + n) at file ∙ ap (λ (k : ℕ). drop k file) e

  tags_next : tags_of (drop at file) ≡ with_tag (tag_at file at) (tags_of (drop (behind_at file at) file))
  tags_next =
      tags_step tag_error (drop at file) (omega (arith, length-drop at file))
      ∙ rw fine (ap (λ (s : List ℕ). with_tag (tag_at file at) (tags_of s)) next_place)

  next_fine : flv_next file at ≡ cond (is_frame (tag_at file at).head) (Ok (Some (found_at at (tag_at file at)))) (flv_next file (behind_at file at))
  next_fine =
      next_inside file at (omega arith)
      ∙ ap (λ (r : Reading). next_in at r.tags r.error) tags_next
      ∙ ap (cond (is_frame (tag_at file at).head) (Ok (Some (found_at at (tag_at file at))))) (sym (next_inside file (behind_at file at) tag_within))

-- THE STEP, without a bound: the tag at a place is refused, or a frame, or stepped over
module _ (file : List ℕ) (at : ℕ) (l : at < length file) where
  next_stop : is_ok (tag_error (tag_at file at)) ≡ false → flv_next file at ≡ Err (tag_error (tag_at file at))
  next_stop e = next_inside file at (omega arith) ∙ ap (λ (r : Reading). next_in at r.tags r.error) (tags_stop file at l e) ∙ rw e refl

  first_byte : byte_at (take 11 (drop at file)) 0 ≡ byte_at file at
  first_byte = let z : at + 0 ≡ at = omega arith in get_or-take 11 (drop at file) 0 0 (omega arith) ∙ get_or-drop at file 0 0 ∙ ap (byte_at file) z

  -- the same by the frame that a tag is taken for
  abbrev on_frame : Result FlvFrame ErrorCode → Result (Option FlvFrame) ErrorCode
  on_frame (Ok f) = cond (is_frame_byte (byte_at file at)) (Ok (Some f)) (flv_next file f.next)
  on_frame (Err e) = Err e

  next_step : flv_next file at ≡ on_frame (frame_at file at)
  unfolding frame_at
  next_step = go (is_ok (tag_error (tag_at file at))) refl
    where
      go : (b : Bool) → is_ok (tag_error (tag_at file at)) ≡ b
          → flv_next file at ≡ on_frame (cond b (Ok (found_at at (tag_at file at))) (Err (tag_error (tag_at file at))))
      go true e = next_fine file at l e ∙ rw first_byte refl
      go false e = next_stop e

  pub next_refused : {e : ErrorCode} → frame_at file at ≡ Err e → flv_next file at ≡ Err e
  next_refused q = next_step ∙ ap on_frame q

  pub next_found : {f : FlvFrame} → frame_at file at ≡ Ok f → is_frame_byte (byte_at file at) ≡ true → flv_next file at ≡ Ok (Some f)
  next_found q b = next_step ∙ ap on_frame q ∙ rw b refl

  pub next_stepped : {f : FlvFrame} → frame_at file at ≡ Ok f → is_frame_byte (byte_at file at) ≡ false → flv_next file at ≡ flv_next file f.next
  next_stepped q b = next_step ∙ ap on_frame q ∙ rw b refl

-- FROM PLACE TO PLACE: what holds where no tag begins, where one is refused or a frame, and before one that is stepped over if it holds behind it
module _ (file : List ℕ) (P : ℕ → Type 0)
    (ends : (at : ℕ) → length file ≤ at → P at)
    (refused : (at : ℕ) → at < length file → is_ok (tag_error (tag_at file at)) ≡ false → P at)
    (found : (at : ℕ) → at < length file → is_ok (tag_error (tag_at file at)) ≡ true → is_frame (tag_at file at).head ≡ true → P at)
    (stepped : (at : ℕ) → at < length file → is_ok (tag_error (tag_at file at)) ≡ true → is_frame (tag_at file at).head ≡ false → P (behind_at file at) → P at) where
  places_upto : (k at : ℕ) → length file ≤ at + k → P at
  places_upto zero at l = ends at (omega arith)
  places_upto (suc k) at l = go (dec_lt at (length file)) (places_upto k (behind_at file at) (omega arith))
    where
      inside : at < length file → P (behind_at file at) → (b c : Bool) → is_ok (tag_error (tag_at file at)) ≡ b → is_frame (tag_at file at).head ≡ c → P at
      inside m h false c p q = refused at m p
      inside m h true true p q = found at m p q
      inside m h true false p q = stepped at m p q h

      go : Dec (at < length file) → P (behind_at file at) → P at
      go (yes m) h = inside m h (is_ok (tag_error (tag_at file at))) (is_frame (tag_at file at).head) refl refl
      go (no m) h = ends at (omega arith)

  places : (at : ℕ) → P at
  places at = places_upto (length file) at (omega arith)

-- PROGRESS
pub progress : Progress
unfolding Progress
progress file = places file Goes ends refused found stepped
  where
    Goes : ℕ → Type 0
    Goes at = (f : FlvFrame) → flv_next file at ≡ Ok (Some f) → Progresses file at f

    ends : (at : ℕ) → length file ≤ at → Goes at
    ends at l f e = absurd (none (ℕ_discrete at (length file)))
      where
        none : Dec (at ≡ length file) → ⊥
        none (yes p) = cc (sym (next_end file at p) ∙ e)
        none (no p) = cc (sym (next_past file at (omega arith)) ∙ e)

    refused : (at : ℕ) → at < length file → is_ok (tag_error (tag_at file at)) ≡ false → Goes at
    refused at l p f e = absurd (cc (sym (next_stop file at l p) ∙ e))

    found : (at : ℕ) → at < length file → is_ok (tag_error (tag_at file at)) ≡ true → is_frame (tag_at file at).head ≡ true → Goes at
    found at l p q f e =
        let n : flv_next file at ≡ Ok (Some (found_at at (tag_at file at))) = next_fine file at l p ∙ rw q refl in
        let s : found_at at (tag_at file at) ≡ f = cc in
        subst (Progresses file at) s (record { least = omega arith; within = tag_within file at l p; place = omega arith })

    stepped : (at : ℕ) → at < length file → is_ok (tag_error (tag_at file at)) ≡ true → is_frame (tag_at file at).head ≡ false → Goes (behind_at file at) → Goes at
    stepped at l p q h f e =
        let n : flv_next file at ≡ flv_next file (behind_at file at) = next_fine file at l p ∙ rw q refl in
        let g = h f (sym n ∙ e) in
        record { least = omega (arith, g.least); within = g.within; place = g.place }

-- THE CLEAN END
pub clean_end : CleanEnd
unfolding CleanEnd
clean_end file = places file Reaches ends refused found stepped
  where
    Reaches : ℕ → Type 0
    Reaches at = flv_next file at ≡ Ok None → place_behind at (tags_of (drop at file)).tags ≡ length file

    ends : (at : ℕ) → length file ≤ at → Reaches at
    ends at l e = go (ℕ_discrete at (length file))
      where
        go : Dec (at ≡ length file) → place_behind at (tags_of (drop at file)).tags ≡ length file
        go (yes p) =
            ap (λ (s : List ℕ). place_behind at (tags_of s).tags) (ap (λ (k : ℕ). drop k file) p ∙ drop-length file)
            ∙ ap (λ (r : Reading). place_behind at r.tags) (tags_none tag_error)
            ∙ p
        go (no p) = absurd (cc (sym (next_past file at (omega arith)) ∙ e))

    refused : (at : ℕ) → at < length file → is_ok (tag_error (tag_at file at)) ≡ false → Reaches at
    refused at l p e = absurd (cc (sym (next_stop file at l p) ∙ e))

    found : (at : ℕ) → at < length file → is_ok (tag_error (tag_at file at)) ≡ true → is_frame (tag_at file at).head ≡ true → Reaches at
    found at l p q e =
        let n : flv_next file at ≡ Ok (Some (found_at at (tag_at file at))) = next_fine file at l p ∙ rw q refl in
        absurd (cc (sym n ∙ e))

    stepped : (at : ℕ) → at < length file → is_ok (tag_error (tag_at file at)) ≡ true → is_frame (tag_at file at).head ≡ false → Reaches (behind_at file at) → Reaches at
    stepped at l p q h e =
        let n : flv_next file at ≡ flv_next file (behind_at file at) = next_fine file at l p ∙ rw q refl in
        ap (λ (r : Reading). place_behind at r.tags) (tags_next file at l p) ∙ h (sym n ∙ e)

-- each frame is a tag of 15 bytes at least
few_upto : (ts : List Tag) → AllWhole ts → length (frames_of ts) * 15 ≤ length (tags_bytes ts)
few_upto [] a = omega arith
few_upto (t ∷ ts) (also w a) = go (is_frame t.head) (few_upto ts a)
  where
    go : (b : Bool) → length (frames_of ts) * 15 ≤ length (tags_bytes ts) → length (cond b (frame_of t ∷ frames_of ts) (frames_of ts)) * 15 ≤ length (tag_bytes t ++ tags_bytes ts)
    go true h = omega (arith, length-append (tag_bytes t) (tags_bytes ts), long_here t w [])
    go false h = omega (arith, length-append (tag_bytes t) (tags_bytes ts), long_here t w [])

pub few_frames_lem : FewFrames
unfolding FewFrames read_file
few_frames_lem file = go (is_ok (start_error file))
  where
    go : (b : Bool) → length (frames_of (cond b (tags_of (drop 13 file)) (stopped (start_error file))).tags) * 15 ≤ length file - 13
    go true =
        let h = sound (drop 13 file) in
        omega (arith, few_upto (tags_of (drop 13 file)).tags h.whole, ap length h.split, length-append (tags_bytes (tags_of (drop 13 file)).tags) h.rest, length-drop 13 file)
    go false = omega arith

-- CALL BY CALL
pub call_by_call_lem : CallByCall
unfolding CallByCall
call_by_call_lem file = places file Called ends refused found stepped
  where
    -- an answer, and those behind it
    Then : Result (Option FlvFrame) ErrorCode → List (Result (Option FlvFrame) ErrorCode)
    Then a = a ∷ answers_behind file a

    Called : ℕ → Type 0
    Called at = at ≤ length file → answers_at file at ≡ Then (flv_next file at)

    ends : (at : ℕ) → length file ≤ at → Called at
    ends at l m =
        let e : at ≡ length file = omega arith in
        ap (λ (s : List ℕ). answers_from at (tags_of s).tags (tags_of s).error) (ap (λ (k : ℕ). drop k file) e ∙ drop-length file)
        ∙ ap (λ (r : Reading). answers_from at r.tags r.error) (tags_none tag_error)
        ∙ sym (ap Then (next_end file at e))

    refused : (at : ℕ) → at < length file → is_ok (tag_error (tag_at file at)) ≡ false → Called at
    refused at l p m =
        ap (λ (r : Reading). answers_from at r.tags r.error) (tags_stop file at l p) ∙ rw p (sym (ap Then (next_stop file at l p)))

    found : (at : ℕ) → at < length file → is_ok (tag_error (tag_at file at)) ≡ true → is_frame (tag_at file at).head ≡ true → Called at
    found at l p q m =
        ap (λ (r : Reading). answers_from at r.tags r.error) (tags_next file at l p) ∙ rw q (sym (ap Then (next_fine file at l p ∙ rw q refl)))

    stepped : (at : ℕ) → at < length file → is_ok (tag_error (tag_at file at)) ≡ true → is_frame (tag_at file at).head ≡ false → Called (behind_at file at) → Called at
    stepped at l p q h m =
        ap (λ (r : Reading). answers_from at r.tags r.error) (tags_next file at l p)
        ∙ rw q (h (tag_within file at l p) ∙ sym (ap Then (next_fine file at l p ∙ rw q refl)))

-- ANSWERS AND FRAMES, behind some bytes
body_part : (pre : List ℕ) (t : Tag) → Whole t → (s : List ℕ) → part (pre ++ (tag_bytes t ++ s)) (length pre + 11) (length t.body) ≡ t.body
body_part pre t w s =
    ap (take (length t.body))
    (drop-append-add pre (tag_bytes t ++ s) 11
    ∙ ap (drop 11) (append_assoc t.head (t.body ++ t.pointer) s)
    ∙ drop_at t.head ((t.body ++ t.pointer) ++ s) 11 w.head
    ∙ append_assoc t.body t.pointer s)
    ∙ take_at t.body (t.pointer ++ s) (length t.body) refl

frames_behind : (ts : List Tag) → AllWhole ts → (pre rest : List ℕ) (e : ErrorCode) → found_frames (pre ++ (tags_bytes ts ++ rest)) (answers_from (length pre) ts e) ≡ frames_of ts
frames_behind [] a pre rest e = go (is_ok e)
  where
    go : (b : Bool) → found_frames (pre ++ rest) (cond b (Ok None) (Err e) ∷ []) ≡ []
    go true = refl
    go false = refl
frames_behind (t ∷ ts) (also w a) pre rest e =
    let at : ℕ = length pre + (length t.body + 15) in
    let n : length (pre ++ tag_bytes t) ≡ at = length-append pre (tag_bytes t) ∙ ap (λ (k : ℕ). length pre + k) (long_here t w []) in
    let f : pre ++ ((tag_bytes t ++ tags_bytes ts) ++ rest) ≡ (pre ++ tag_bytes t) ++ (tags_bytes ts ++ rest)
    = ap (λ (x : List ℕ). pre ++ x) (append_assoc (tag_bytes t) (tags_bytes ts) rest) ∙ sym (append_assoc pre (tag_bytes t) (tags_bytes ts ++ rest)) in
    let h : found_frames (pre ++ ((tag_bytes t ++ tags_bytes ts) ++ rest)) (answers_from at ts e) ≡ frames_of ts
    = ap₂ (λ (x : List ℕ) (k : ℕ). found_frames x (answers_from k ts e)) f (sym n) ∙ frames_behind ts a (pre ++ tag_bytes t) rest e in
    let b : part (pre ++ ((tag_bytes t ++ tags_bytes ts) ++ rest)) (length pre + 11) (length t.body) ≡ t.body
    = ap (λ (x : List ℕ). part (pre ++ x) (length pre + 11) (length t.body)) (append_assoc (tag_bytes t) (tags_bytes ts) rest) ∙ body_part pre t w (tags_bytes ts ++ rest) in
    go (is_frame t.head) h b
  where
    go : (c : Bool) → found_frames (pre ++ ((tag_bytes t ++ tags_bytes ts) ++ rest)) (answers_from (length pre + (length t.body + 15)) ts e) ≡ frames_of ts
        → part (pre ++ ((tag_bytes t ++ tags_bytes ts) ++ rest)) (length pre + 11) (length t.body) ≡ t.body
        → found_frames (pre ++ ((tag_bytes t ++ tags_bytes ts) ++ rest))
        (cond c (Ok (Some (found_at (length pre) t)) ∷ answers_from (length pre + (length t.body + 15)) ts e) (answers_from (length pre + (length t.body + 15)) ts e))
        ≡ cond c (frame_of t ∷ frames_of ts) (frames_of ts)
    go true h b = ap₂ (λ (x : List ℕ) (fs : List Frame). record { type = frame_type t.head; time = time_of t.head; body = x } ∷ fs) b h
    go false h b = h

pub answers_are_frames_lem : AnswersAreFrames
unfolding AnswersAreFrames
answers_are_frames_lem file at l =
    let h = sound (drop at file) in
    let n : length (take at file) ≡ at = length-take-le at file l in
    let f : file ≡ take at file ++ (tags_bytes (tags_of (drop at file)).tags ++ h.rest) = sym (take-append-drop at file) ∙ ap (λ (x : List ℕ). take at file ++ x) h.split in
    ap₂ (λ (x : List ℕ) (k : ℕ). found_frames x (answers_from k (tags_of (drop at file)).tags (tags_of (drop at file)).error)) f (sym n)
    ∙ frames_behind (tags_of (drop at file)).tags h.whole (take at file) h.rest (tags_of (drop at file)).error

-- THE CALLS READ THE FILE
pub calls_read_file_lem : CallsReadFile
unfolding CallsReadFile AnswersAreFrames flv_start read_file
calls_read_file_lem file at q = go (is_ok (start_error file)) refl q
  where
    go : (b : Bool) → is_ok (start_error file) ≡ b → cond b (Ok 13) (Err (start_error file)) ≡ Ok at → FileRead file at
    go true o q =
        let e : 13 ≡ at = cc in
        subst (FileRead file) e (record { frames = rw o (answers_are_frames_lem file 13 (start_sound file o).1); stops = rw o refl })
    go false o q = absurd cc
