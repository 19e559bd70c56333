-- The program prints the sheet of its file: every run of its steps does, within its bound, and every file has a run.
use mathlib.Core.Path.{◌≡◌, refl, sym, ap, ap₂, subst, ◌∙◌}
use mathlib.Core.Bool.{Bool, true, false, cond, not, ◌&&◌}
use mathlib.Core.List.{List, [], ◌∷◌, ◌++◌, append-nil}
use Prim.Native.Nat.{ℕ, zero, suc, ◌+◌, ◌-◌, ◌*◌, ◌≤◌, ◌<◌}
use native.Mathlib.Decide.{dec_lt, ℕ_discrete}
use native.Mathlib.Omega.{arith}
use lib.Dec.{eqb, ltb}
use lib.ListN.{length, take, drop, length-append, length-take, length-drop}
use lib.Seq.{take-append_seam, drop-drop}
use borrow.Author.Tests.{lt-ltb, le-ltb, eq-eqb, ne_eqb, not-true}
use Rattle.wire.specs.Wire.{part}
use Rattle.wire.proofs.Bools.{true_or_false, and_right, and_no_right}
use Rattle.types.specs.Types.{error_number, is_ok}
use Rattle.types.specs.declared.ErrorCode.{ErrorCode}
use Rattle.frame_sheet.specs.Lines.{refusal_line}
use Rattle.frame_sheet.specs.Steps.{frame_text}
use Rattle.frame_sheet.specs.Sheet.{sheet_layout, frame_goes_on, step_text, step_goes_on}
use Rattle.frame_sheet.specs.declared.sheet.Layout.{Layout}
use Rattle.frame_sheet.specs.declared.sheet.SheetStep.{SheetStep}
use Rattle.frame_sheet.proofs.Sheets.{text_there, text_behind, goes_there, goes_behind}
use Rattle.flv.specs.Files.{is_header, start_refusal, start_error, tag_bytes, body_size, tag_error, first_tag, behind_tag, is_frame}
use Rattle.flv.proofs.Tags.{first_split, first_whole, long_here}
use Rattle.flv.proofs.Refusals.{header_short, header_other}
use Rattle.tag_sheet.specs.Sheet.{is_long_frame, sheet_refusal, sheet_error, sheet_head, frame_tag_text, frame_tag_goes_on, sheet_left, flv_sheet_of, flv_sheet}
use Rattle.tag_sheet.specs.Steps.{
  is_header_refused,
  first_length,
  start_text,
  is_head_refused,
  body_length,
  pointer_length,
  is_passed,
  other_text,
  other_goes_on,
  tag_text,
  tag_goes_on,
  frames_after,
}
use Rattle.tag_sheet.specs.Program.{First, Step, Run, ends, goes, FileRun, refused, taken, PrintsFlvSheet}
use Rattle.tag_sheet.specs.declared.TagStep.{TagStep}
use Rattle.tag_sheet.proofs.Exits.{some_behind, head_whole, refusal_cut, refusal_long, refusal_tag, fine_whole}
use Rattle.tag_sheet.proofs.Sheets.{left_end, left_limit, left_refused, left_frame, left_other}

-- WHAT A STEP READS of an input
abbrev head_of : List ℕ → List ℕ
head_of input = take 11 input

abbrev body_of : List ℕ → List ℕ
body_of input = take (body_length (head_of input)) (drop 11 input)

abbrev pointer_of : List ℕ → List ℕ
pointer_of input = take (pointer_length (head_of input)) (drop (body_length (head_of input)) (drop 11 input))

abbrev left_of : List ℕ → List ℕ
left_of input = drop (pointer_length (head_of input)) (drop (body_length (head_of input)) (drop 11 input))

-- it is the first tag and leaves what is behind it, unless the head itself is refused
module _ (input : List ℕ) (r : is_head_refused (head_of input) ≡ false) where
  abbrev size : ℕ
  size = body_size (head_of input)

  body_first : body_of input ≡ (first_tag input).body
  body_first = ap (λ (k : ℕ). take k (drop 11 input)) (sym (some_behind (head_of input) r).0)

  pointer_first : pointer_of input ≡ (first_tag input).pointer
  pointer_first =
      ap₂ (λ (j k : ℕ). take j (drop k (drop 11 input))) (sym (some_behind (head_of input) r).1) (sym (some_behind (head_of input) r).0)
      ∙ ap (take 4) (drop-drop size 11 input)

  left_first : left_of input ≡ behind_tag input
  left_first =
      let c : 11 + size + 4 ≡ 15 + size = omega arith in
      ap₂ (λ (j k : ℕ). drop j (drop k (drop 11 input))) (sym (some_behind (head_of input) r).1) (sym (some_behind (head_of input) r).0)
      ∙ ap (drop 4) (drop-drop size 11 input)
      ∙ drop-drop 4 (11 + size) input
      ∙ ap (λ (k : ℕ). drop k input) c

-- a head that is refused is so whatever is behind it
head_refused : (head p q : List ℕ) (m n : ℕ) → is_head_refused head ≡ true → sheet_refusal head m p ≡ sheet_refusal head n q
head_refused head p q m n r = go (dec_lt (length head) 11)
  where
    go : Dec (length head < 11) → sheet_refusal head m p ≡ sheet_refusal head n q
    go (yes l) = sym (refusal_cut head p m l) ∙ refusal_cut head q n l
    go (no l) =
        let k : 11 ≤ length head = omega arith in
        let long : is_long_frame head ≡ true = head_whole head k ∙ r in
        sym (refusal_long head p m k long) ∙ refusal_long head q n k long

-- and is not taken
refused_not : (head p : List ℕ) (n : ℕ) → is_head_refused head ≡ true → is_ok (sheet_refusal head n p) ≡ false
refused_not head p n r = go (dec_lt (length head) 11)
  where
    go : Dec (length head < 11) → is_ok (sheet_refusal head n p) ≡ false
    go (yes l) = ap is_ok (sym (refusal_cut head p n l))
    go (no l) = let k : 11 ≤ length head = omega arith in ap is_ok (sym (refusal_long head p n k (head_whole head k ∙ r)))

-- THE REFUSAL is the first tag's
read_error : (input : List ℕ) → sheet_refusal (head_of input) (length (body_of input)) (pointer_of input) ≡ sheet_error (first_tag input)
read_error input = go (is_head_refused (head_of input)) refl
  where
    go : (b : Bool) → is_head_refused (head_of input) ≡ b → sheet_refusal (head_of input) (length (body_of input)) (pointer_of input) ≡ sheet_error (first_tag input)
    go true r = head_refused (head_of input) (pointer_of input) (first_tag input).pointer (length (body_of input)) (length (first_tag input).body) r
    go false r = ap₂ (λ (b p : List ℕ). sheet_refusal (head_of input) (length b) p) (body_first input r) (pointer_first input r)

fine_head : (input : List ℕ) → is_ok (sheet_error (first_tag input)) ≡ true → is_head_refused (head_of input) ≡ false
fine_head input o = go (is_head_refused (head_of input)) refl
  where
    go : (b : Bool) → is_head_refused (head_of input) ≡ b → is_head_refused (head_of input) ≡ false
    go true r = true_or_false o (refused_not (head_of input) (first_tag input).pointer (length (first_tag input).body) r)
    go false r = r

module _ (layout : Layout) where
  -- ONE STEP over an input: what it prints, how many frames there are then, and whether it goes on
  abbrev printed_at : ℕ → List ℕ → List ℕ
  printed_at before input = tag_text layout before (head_of input) (body_of input) (pointer_of input)

  abbrev frames_at : ℕ → List ℕ → ℕ
  frames_at before input = frames_after layout before (head_of input) (body_of input) (pointer_of input)

  abbrev more_at : ℕ → List ℕ → Bool
  more_at before input = tag_goes_on layout before (head_of input) (body_of input) (pointer_of input)

  -- what is left to print after so many frames, none of them refused
  abbrev sheet_after : ℕ → List ℕ → List ℕ
  sheet_after before input = sheet_left layout.width (layout.last - before) (before + 1) input

  behind_last : (before : ℕ) (input : List ℕ) → layout.last ≤ before → sheet_after before input ≡ []
  behind_last before input l =
      let z : layout.last - before ≡ 0 = omega arith in ap (λ (m : ℕ). sheet_left layout.width m (before + 1) input) z ∙ left_limit layout.width (before + 1) input

  -- STEP BY STEP: what is left to print is what the next step prints and, if the sheet goes on, what is left to print then
  module _ (before : ℕ) (input : List ℕ) where
    abbrev Splits : Type 0
    Splits = sheet_after before input ≡ printed_at before input ++ cond (more_at before input) (sheet_after (frames_at before input) (left_of input)) []

    abbrev passed : Bool
    passed = is_passed (head_of input) (length (body_of input)) (pointer_of input)

    -- a tag that is not passed as a frame
    module _ (no-frame : passed ≡ false) where
      split_judged : other_goes_on layout before (head_of input) (length (body_of input)) (pointer_of input) ≡ false
          → sheet_after before input ≡ other_text layout before (head_of input) (length (body_of input)) (pointer_of input)
          → Splits
      unfolding tag_text tag_goes_on frames_after
      split_judged g t = t ∙ sym (rw (no-frame, g) (append-nil _))

      split_over : other_goes_on layout before (head_of input) (length (body_of input)) (pointer_of input) ≡ true
          → other_text layout before (head_of input) (length (body_of input)) (pointer_of input) ≡ []
          → sheet_after before input ≡ sheet_after before (left_of input)
          → Splits
      unfolding tag_text tag_goes_on frames_after
      split_over g t e = e ∙ sym (rw (no-frame, g, t) refl)

    -- a frame that is passed
    module _ (frame : passed ≡ true) where
      split_frame : (t : List ℕ) (b : Bool)
          → sheet_after before input ≡ t ++ cond b (sheet_after (before + 1) (left_of input)) []
          → t ≡ step_text layout before (sheet_head (head_of input)) (body_of input)
          → b ≡ step_goes_on layout before (sheet_head (head_of input)) (body_of input)
          → before < layout.last
          → Splits
      unfolding tag_text tag_goes_on frames_after
      split_frame t b e p q l = e ∙ sym (rw (frame, lt-ltb before layout.last l, ← p, ← q) refl)

      split_behind : layout.last ≤ before → Splits
      unfolding tag_text tag_goes_on frames_after
      split_behind l =
          behind_last before input l
          ∙ sym (rw (frame, text_behind layout before (sheet_head (head_of input)) (body_of input) l, goes_behind layout before (sheet_head (head_of input)) (body_of input) (omega arith)) refl)

    -- behind the last frame
    at_limit : layout.last ≤ before → Splits
    unfolding other_text other_goes_on
    at_limit l = go passed refl
      where
        go : (b : Bool) → passed ≡ b → Splits
        go true p = split_behind p l
        go false p = split_judged p (simp (le-ltb before layout.last l)) (behind_last before input l ∙ simp (le-ltb before layout.last l))

    module _ (l : before < layout.last) where
      more_left : layout.last - before ≡ suc (layout.last - (before + 1))
      more_left = omega arith

      -- at the clean end
      at_end_lem : length input ≡ 0 → Splits
      unfolding other_text other_goes_on
      at_end_lem z =
          let h : length (head_of input) ≡ 0 = omega (arith, length-take 11 input) in
          let n : passed ≡ false = none_passed input z in
          split_judged n (simp (lt-ltb before layout.last l, eq-eqb (length (head_of input)) 0 h))
          (nothing_there input z ∙ simp (lt-ltb before layout.last l, eq-eqb (length (head_of input)) 0 h))
        where
          none_passed : (s : List ℕ) → length s ≡ 0 → is_passed (head_of s) (length (body_of s)) (pointer_of s) ≡ false
          none_passed [] z = refl
          none_passed (x ∷ s) z = absurd (omega arith)

          nothing_there : (s : List ℕ) → length s ≡ 0 → sheet_after before s ≡ []
          nothing_there [] z = left_end layout.width (layout.last - before) (before + 1)
          nothing_there (x ∷ s) z = absurd (omega arith)

      module _ (some : 0 < length input) where
        begun : eqb (length (head_of input)) 0 ≡ false
        begun = ne_eqb (length (head_of input)) 0 (λ z. omega (arith, length-take 11 input))

        abbrev left' : ℕ → List ℕ → List ℕ
        left' most s = sheet_left layout.width most (before + 1) s

        at_refused : is_ok (sheet_error (first_tag input)) ≡ false → Splits
        unfolding other_text other_goes_on
        at_refused e =
            let k : is_ok (sheet_refusal (head_of input) (length (body_of input)) (pointer_of input)) ≡ false = ap is_ok (read_error input) ∙ e in
            let n : passed ≡ false = and_no_right (is_frame (head_of input)) (is_ok (sheet_refusal (head_of input) (length (body_of input)) (pointer_of input))) k in
            split_judged n (simp (lt-ltb before layout.last l, begun, k))
            (ap (λ (m : ℕ). left' m input) more_left
            ∙ left_refused layout.width (layout.last - (before + 1)) (before + 1) input some e
            ∙ ap (λ (x : ErrorCode). refusal_line layout.width (before + 1) (error_number x)) (sym (read_error input))
            ∙ simp (lt-ltb before layout.last l, begun, k))

        module _ (fine : is_ok (sheet_error (first_tag input)) ≡ true) where
          taken_here : is_ok (sheet_refusal (head_of input) (length (body_of input)) (pointer_of input)) ≡ true
          taken_here = ap is_ok (read_error input) ∙ fine

          at_other : is_frame (head_of input) ≡ false → Splits
          unfolding other_text other_goes_on
          at_other f =
              split_over (rw f refl) (simp (lt-ltb before layout.last l, begun, taken_here)) (simp (lt-ltb before layout.last l, begun, taken_here))
              (ap (λ (m : ℕ). left' m input) more_left
              ∙ left_other layout.width (layout.last - (before + 1)) (before + 1) input some fine f
              ∙ ap₂ left' (sym more_left) (sym (left_first input (fine_head input fine))))

          at_frame : is_frame (head_of input) ≡ true → Splits
          at_frame f = go (dec_lt (before + 1) layout.last)
            where
              h : List ℕ
              h = sheet_head (head_of input)

              same : body_of input ≡ (first_tag input).body
              same = body_first input (fine_head input fine)

              text : frame_tag_text layout.width (before + 1) (first_tag input) ≡ step_text layout before (sheet_head (head_of input)) (body_of input)
              text =
                  ap (λ (b : List ℕ). frame_text layout.width (before + 1) (sheet_head (head_of input)) b 32768) (sym same)
                  ∙ sym (text_there layout before (sheet_head (head_of input)) (body_of input) l)

              step : sheet_after before input
                  ≡ frame_tag_text layout.width (before + 1) (first_tag input) ++ cond (frame_tag_goes_on (first_tag input)) (sheet_after (before + 1) (left_of input)) []
              step =
                  ap (λ (m : ℕ). left' m input) more_left
                  ∙ left_frame layout.width (layout.last - (before + 1)) (before + 1) input some fine f
                  ∙ ap (λ (s : List ℕ). frame_tag_text layout.width (before + 1) (first_tag input) ++ cond (frame_tag_goes_on (first_tag input)) (sheet_after (before + 1) s) [])
                  (sym (left_first input (fine_head input fine)))

              last_one : (b : Bool) (t r : List ℕ) → r ≡ [] → t ++ cond b r [] ≡ t ++ cond false r []
              last_one true t r e = ap (λ (x : List ℕ). t ++ x) e
              last_one false t r e = refl

              go : Dec (before + 1 < layout.last) → Splits
              go (yes k) =
                  split_frame (rw f taken_here) (frame_tag_text layout.width (before + 1) (first_tag input)) (frame_tag_goes_on (first_tag input)) step text
                  (ap (frame_goes_on (sheet_head (head_of input))) (sym same) ∙ sym (goes_there layout before (sheet_head (head_of input)) (body_of input) k)) l
              go (no k) =
                  split_frame (rw f taken_here) (frame_tag_text layout.width (before + 1) (first_tag input)) false
                  (step ∙ last_one (frame_tag_goes_on (first_tag input)) (frame_tag_text layout.width (before + 1) (first_tag input)) (sheet_after (before + 1) (left_of input))
                  (behind_last (before + 1) (left_of input) (omega arith))) text
                  (sym (goes_behind layout before (sheet_head (head_of input)) (body_of input) (omega arith))) l

    pub sheet_step : Splits
    sheet_step = go (dec_lt before layout.last) (ℕ_discrete (length input) 0)
      where
        inside : before < layout.last → 0 < length input → (b c : Bool) → is_ok (sheet_error (first_tag input)) ≡ b → is_frame (head_of input) ≡ c → Splits
        inside l s false c e f = at_refused l s e
        inside l s true true e f = at_frame l s e f
        inside l s true false e f = at_other l s e f

        go : Dec (before < layout.last) → Dec (length input ≡ 0) → Splits
        go (no l) d = at_limit (omega arith)
        go (yes l) (yes z) = at_end_lem l z
        go (yes l) (no z) = inside l (omega arith) (is_ok (sheet_error (first_tag input))) (is_frame (head_of input)) refl refl

  -- THE STEPS OF THE PROGRAM are these
  module _ {before : ℕ} {input printed left : List ℕ} {frames : ℕ} {more : Bool} (s : Step layout before input printed left frames more) where
    body_read : s.body ≡ body_of input
    body_read = s.read_body.gets ∙ ap₂ (λ (h b : List ℕ). take (body_length h) b) s.read_head.gets s.read_head.leaves

    rest_read : s.rest ≡ drop (body_length (head_of input)) (drop 11 input)
    rest_read = s.read_body.leaves ∙ ap₂ (λ (h b : List ℕ). drop (body_length h) b) s.read_head.gets s.read_head.leaves

    pointer_read : s.pointer ≡ pointer_of input
    pointer_read = s.read_pointer.gets ∙ ap₂ (λ (h r : List ℕ). take (pointer_length h) r) s.read_head.gets rest_read

    step_leaves : left ≡ left_of input
    step_leaves = s.read_pointer.leaves ∙ ap₂ (λ (h r : List ℕ). drop (pointer_length h) r) s.read_head.gets rest_read

    all_read : {A : Type 0} (f : List ℕ → List ℕ → List ℕ → A) → f s.head s.body s.pointer ≡ f (head_of input) (body_of input) (pointer_of input)
    all_read f = ap₂ (λ (h b : List ℕ). f h b s.pointer) s.read_head.gets body_read ∙ ap (f (head_of input) (body_of input)) pointer_read

    step_prints : printed ≡ printed_at before input
    step_prints =
        s.prints
        ∙ ap₂ (λ (a : TagStep) (t : List ℕ). take a.length t) s.answers s.writes
        ∙ take-append_seam (tag_text layout before s.head s.body s.pointer) (drop (length (tag_text layout before s.head s.body s.pointer)) s.held)
        ∙ all_read (tag_text layout before)

    step_counts : frames ≡ frames_at before input
    step_counts = s.counts ∙ ap (λ (a : TagStep). a.frames) s.answers ∙ all_read (frames_after layout before)

    step_goes : more ≡ more_at before input
    step_goes = s.goes ∙ ap (λ (a : TagStep). a.goes_on) s.answers ∙ all_read (tag_goes_on layout before)

  -- and each of these is a step of the program
  a_step : (before : ℕ) (input : List ℕ) → Step layout before input (printed_at before input) (left_of input) (frames_at before input) (more_at before input)
  a_step before input =
      record {
        head = head_of input;
        behind = drop 11 input;
        body = body_of input;
        rest = drop (body_length (head_of input)) (drop 11 input);
        pointer = pointer_of input;
        read_head = record { gets = refl; leaves = refl };
        read_body = record { gets = refl; leaves = refl };
        read_pointer = record { gets = refl; leaves = refl };
        answer = _;
        held = [];
        text = _;
        answers = refl;
        writes = refl;
        prints = sym (take-append_seam (printed_at before input) (drop (length (printed_at before input)) []));
        counts = refl;
        goes = refl;
      }

  -- A RUN prints what is left of the sheet
  run_prints : {before : ℕ} {input printed : List ℕ} {steps : ℕ} → Run layout before input printed steps → printed ≡ sheet_after before input
  run_prints (ends {before} {input} s) = step_prints s ∙ sym (sheet_step before input ∙ rw (← step_goes s) (append-nil (printed_at before input)))
  run_prints (goes {before} {input} s r) =
      ap₂ ◌++◌ (step_prints s) (run_prints r ∙ ap₂ sheet_after (step_counts s) (step_leaves s)) ∙ sym (sheet_step before input ∙ rw (← step_goes s) refl)

  -- EACH STEP that goes on takes a whole tag off
  goes_fine : (before : ℕ) (input : List ℕ) → more_at before input ≡ true → is_ok (sheet_error (first_tag input)) ≡ true
  unfolding tag_goes_on other_goes_on
  goes_fine before input g = sym (ap is_ok (read_error input)) ∙ go (passed before input) (is_ok (sheet_refusal (head_of input) (length (body_of input)) (pointer_of input))) refl refl g
    where
      go : (b fine : Bool) → passed before input ≡ b → is_ok (sheet_refusal (head_of input) (length (body_of input)) (pointer_of input)) ≡ fine
          → cond b (step_goes_on layout before (sheet_head (head_of input)) (body_of input))
          (ltb before layout.last && (not (eqb (length (head_of input)) 0) && fine)) ≡ true
          → is_ok (sheet_refusal (head_of input) (length (body_of input)) (pointer_of input)) ≡ true
      go true fine p q e = and_right (is_frame (head_of input)) (is_ok (sheet_refusal (head_of input) (length (body_of input)) (pointer_of input))) p
      go false fine p q e =
          q ∙ and_right (not (eqb (length (head_of input)) 0)) fine (and_right (ltb before layout.last) (not (eqb (length (head_of input)) 0) && fine) e)

  goes_forward : (before : ℕ) (input : List ℕ) → more_at before input ≡ true → 15 + length (left_of input) ≤ length input
  goes_forward before input g =
      let fine = goes_fine before input g in
      let r = fine_head input fine in
      let l = fine_whole (head_of input) (first_tag input).pointer (length (first_tag input).body) fine in
      let t : is_ok (tag_error (first_tag input)) ≡ true =
      ap is_ok (refusal_tag (head_of input) (first_tag input).pointer (length (first_tag input).body) l (head_whole (head_of input) l ∙ r)) ∙ fine in
      omega (
        arith,
        ap length (left_first input r),
        ap length (first_split input),
        length-append (tag_bytes (first_tag input)) (behind_tag input),
        long_here (first_tag input) (first_whole input t) [],
      )

  run_within : {before : ℕ} {input printed : List ℕ} {steps : ℕ} → Run layout before input printed steps → steps * 15 ≤ length input + 15
  run_within (ends s) = omega arith
  run_within (goes {before} {input} s r) = omega (arith, run_within r, ap length (step_leaves s), goes_forward before input (sym (step_goes s)))

  -- EVERY INPUT has a run
  last_step : (before : ℕ) (input : List ℕ) → more_at before input ≡ false → Run layout before input (sheet_after before input) 1
  last_step before input e =
      let printed : printed_at before input ≡ sheet_after before input = sym (sheet_step before input ∙ rw e (append-nil (printed_at before input))) in
      subst (λ (t : List ℕ). Run layout before input t 1) printed (ends (rw e at (a_step before input)))

  next_step : (before steps : ℕ) (input : List ℕ) → more_at before input ≡ true
      → Run layout (frames_at before input) (left_of input) (sheet_after (frames_at before input) (left_of input)) steps
      → Run layout before input (sheet_after before input) (suc steps)
  next_step before steps input e r =
      let printed : printed_at before input ++ sheet_after (frames_at before input) (left_of input) ≡ sheet_after before input = sym (sheet_step before input ∙ rw e refl) in
      subst (λ (t : List ℕ). Run layout before input t (suc steps)) printed (goes (rw e at (a_step before input)) r)

  run_of : (k before : ℕ) (input : List ℕ) → length input ≤ k → (steps : ℕ) × Run layout before input (sheet_after before input) steps
  run_of zero before input l = go (more_at before input) refl
    where
      go : (b : Bool) → more_at before input ≡ b → (steps : ℕ) × Run layout before input (sheet_after before input) steps
      go true e = absurd (omega (arith, goes_forward before input e))
      go false e = (1, last_step before input e)
  run_of (suc k) before input l = go (more_at before input) refl (run_of k (frames_at before input) (left_of input))
    where
      go : (b : Bool) → more_at before input ≡ b
          → (length (left_of input) ≤ k → (steps : ℕ) × Run layout (frames_at before input) (left_of input) (sheet_after (frames_at before input) (left_of input)) steps)
          → (steps : ℕ) × Run layout before input (sheet_after before input) steps
      go true e ih = let r = ih (omega (arith, goes_forward before input e)) in (suc r.0, next_step before r.0 input e r.1)
      go false e ih = (1, last_step before input e)

-- WHAT THE FIRST STEP READS of a file
abbrev header_of : List ℕ → List ℕ
header_of file = take 9 file

abbrev first_of : List ℕ → List ℕ
first_of file = take (first_length (header_of file)) (drop 9 file)

-- a header that is refused is so whatever is behind it
header_refused : (header p q : List ℕ) → is_header_refused header ≡ true → start_refusal header p ≡ start_refusal header q
unfolding is_header_refused
header_refused header p q r = go (dec_lt (length header) 9)
  where
    go : Dec (length header < 9) → start_refusal header p ≡ start_refusal header q
    go (yes l) = sym (header_short header p l) ∙ header_short header q l
    go (no l) =
        let k : 9 ≤ length header = omega arith in
        let h : is_header header ≡ false = not-true (is_header header) (rw (le-ltb (length header) 9 k) at r) in
        sym (header_other header p k h) ∙ header_other header q k h

-- and is not taken
header_not : (header p : List ℕ) → is_header_refused header ≡ true → is_ok (start_refusal header p) ≡ false
unfolding is_header_refused
header_not header p r = go (dec_lt (length header) 9)
  where
    go : Dec (length header < 9) → is_ok (start_refusal header p) ≡ false
    go (yes l) = ap is_ok (sym (header_short header p l))
    go (no l) =
        let k : 9 ≤ length header = omega arith in
        ap is_ok (sym (header_other header p k (not-true (is_header header) (rw (le-ltb (length header) 9 k) at r))))

-- THE START is judged by it
start_read : (file : List ℕ) → start_refusal (header_of file) (first_of file) ≡ start_error file
unfolding start_error first_length
start_read file = go (is_header_refused (header_of file)) refl
  where
    go : (b : Bool) → is_header_refused (header_of file) ≡ b → start_refusal (header_of file) (take (cond b 0 4) (drop 9 file)) ≡ start_refusal (header_of file) (part file 9 4)
    go true r = header_refused (header_of file) (take 0 (drop 9 file)) (part file 9 4) r
    go false r = refl

-- and leaves what is behind the start, if that is taken
left_behind : (file : List ℕ) → is_ok (start_error file) ≡ true → drop (first_length (header_of file)) (drop 9 file) ≡ drop 13 file
unfolding first_length
left_behind file o = go (is_header_refused (header_of file)) refl
  where
    go : (b : Bool) → is_header_refused (header_of file) ≡ b → drop (cond b 0 4) (drop 9 file) ≡ drop 13 file
    go true r = true_or_false o (sym (ap is_ok (start_read file)) ∙ header_not (header_of file) (first_of file) r)
    go false r = drop-drop 4 9 file

module _ (layout : Layout) (file : List ℕ) where
  module _ {printed left : List ℕ} {more : Bool} (s : First layout file printed left more) where
    first_read : s.pointer ≡ first_of file
    first_read = s.read_pointer.gets ∙ ap₂ (λ (h b : List ℕ). take (first_length h) b) s.read_header.gets s.read_header.leaves

    first_leaves : left ≡ drop (first_length (header_of file)) (drop 9 file)
    first_leaves = s.read_pointer.leaves ∙ ap₂ (λ (h b : List ℕ). drop (first_length h) b) s.read_header.gets s.read_header.leaves

    first_prints : printed ≡ start_text layout (header_of file) (first_of file)
    first_prints =
        s.prints
        ∙ ap₂ (λ (a : SheetStep) (t : List ℕ). take a.length t) s.answers s.writes
        ∙ take-append_seam (start_text layout s.header s.pointer) (drop (length (start_text layout s.header s.pointer)) s.held)
        ∙ ap₂ (start_text layout) s.read_header.gets first_read

    first_goes : more ≡ is_ok (start_error file)
    first_goes =
        s.goes ∙ ap (λ (a : SheetStep). a.goes_on) s.answers
        ∙ ap₂ (λ (h p : List ℕ). is_ok (start_refusal h p)) s.read_header.gets first_read
        ∙ ap is_ok (start_read file)

  a_first : First layout file (start_text layout (header_of file) (first_of file)) (drop (first_length (header_of file)) (drop 9 file))
      (is_ok (start_refusal (header_of file) (first_of file)))
  a_first =
      record {
        header = header_of file;
        behind = drop 9 file;
        pointer = first_of file;
        read_header = record { gets = refl; leaves = refl };
        read_pointer = record { gets = refl; leaves = refl };
        answer = _;
        held = [];
        text = _;
        answers = refl;
        writes = refl;
        prints = sym (take-append_seam (start_text layout (header_of file) (first_of file)) (drop (length (start_text layout (header_of file) (first_of file))) []));
        goes = refl;
      }

  -- what the first step prints: nothing, or the whole sheet
  start_nothing : is_ok (start_error file) ≡ true → start_text layout (header_of file) (first_of file) ≡ []
  unfolding start_text
  start_nothing o = rw (start_read file, o) refl

  start_all : is_ok (start_error file) ≡ false → start_text layout (header_of file) (first_of file) ≡ flv_sheet_of layout file
  unfolding start_text
  start_all o = rw (start_read file, o) refl

  sheet_behind : is_ok (start_error file) ≡ true → sheet_after layout 0 (drop 13 file) ≡ flv_sheet_of layout file
  sheet_behind o = let z : layout.last - 0 ≡ layout.last = omega arith in rw (o, z) refl

  file_prints : {printed : List ℕ} {steps : ℕ} → FileRun layout file printed steps → printed ≡ flv_sheet_of layout file
  file_prints (refused s) = first_prints s ∙ start_all (sym (first_goes s))
  file_prints (taken s r) =
      let o = sym (first_goes s) in
      ap₂ ◌++◌ (first_prints s ∙ start_nothing o) (run_prints layout r ∙ ap (sheet_after layout 0) (first_leaves s ∙ left_behind file o)) ∙ sheet_behind o

  file_within : {printed : List ℕ} {steps : ℕ} → FileRun layout file printed steps → steps * 15 ≤ length file + 15
  file_within (refused s) = omega arith
  file_within (taken s r) = omega (arith, run_within layout r, ap length (first_leaves s ∙ left_behind file (sym (first_goes s))), length-drop 13 file)

  file_run_lem : (steps : ℕ) × FileRun layout file (flv_sheet_of layout file) steps
  file_run_lem = go (is_ok (start_error file)) refl
    where
      go : (b : Bool) → is_ok (start_error file) ≡ b → (steps : ℕ) × FileRun layout file (flv_sheet_of layout file) steps
      go true o =
          let r = run_of layout (length (drop 13 file)) 0 (drop 13 file) (omega arith) in
          let f : First layout file [] (drop 13 file) true =
          rw (start_read file, o) at (subst (λ (p : List ℕ). First layout file p (drop 13 file) (is_ok (start_refusal (header_of file) (first_of file)))) (start_nothing o)
          (subst (λ (l : List ℕ). First layout file (start_text layout (header_of file) (first_of file)) l (is_ok (start_refusal (header_of file) (first_of file)))) (left_behind file o) a_first)) in
          (r.0, taken f (subst (λ (t : List ℕ). Run layout 0 (drop 13 file) t r.0) (sheet_behind o) r.1))
      go false o =
          let f : First layout file (flv_sheet_of layout file) (drop (first_length (header_of file)) (drop 9 file)) false =
          subst (λ (p : List ℕ). First layout file p (drop (first_length (header_of file)) (drop 9 file)) false) (start_all o) (rw (start_read file, o) at a_first) in
          (0, refused f)

-- THE THEOREM
pub prints_flv_sheet_lem : PrintsFlvSheet
unfolding PrintsFlvSheet flv_sheet
prints_flv_sheet_lem file =
    record {
      sheet = λ printed steps r. file_prints sheet_layout file r;
      bound = λ printed steps r. file_within sheet_layout file r;
      some = file_run_lem sheet_layout file;
    }
