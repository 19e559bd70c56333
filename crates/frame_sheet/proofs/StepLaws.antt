-- Laws of one frame of the sheet: its refusals in their order, and its text by what was read.
use mathlib.Core.Path.{◌≡◌, sym, ◌∙◌}
use mathlib.Core.Bool.{true, false, cond}
use mathlib.Core.List.{List, []}
use Prim.Native.Nat.{ℕ, ◌≤◌, ◌<◌}
use native.Mathlib.Omega.{arith}
use lib.Dec.{eqb}
use lib.ListN.{length}
use borrow.Author.Tests.{lt-ltb, le-ltb, eq-eqb, ne_eqb}
use Rattle.std.proofs.lemmas.Grind.{common_steps}
use Rattle.types.specs.Types.{error_number, is_ok}
use Rattle.types.specs.declared.ErrorCode.{ErrorCode}
use Rattle.types.specs.declared.ErrorCode.TheVariants as error
use Rattle.frame_sheet.specs.Lines.{sheet_line, refusal_line}
use Rattle.frame_sheet.specs.Steps.{head_type, head_length, input_error, body_length, line_of, pass_of, frame_error, frame_text, frame_output}

-- THE REFUSALS OF THE INPUT, case by case
module _ (head : List ℕ) (got : ℕ) where
  pub too_long : 4 ≤ length head → head_type head ≤ 3 → 32768 < head_length head → error.OutputTooShort ≡ input_error head got
  unfolding input_error
  too_long a b c = simp (le-ltb (length head) 4 a, le-ltb 3 (head_type head) b, lt-ltb 32768 (head_length head) c)

  pub all_read : 4 ≤ length head → head_type head ≤ 3 → head_length head ≤ 32768 → head_length head ≤ got → error.Ok ≡ input_error head got
  unfolding input_error
  all_read a b c d = simp (le-ltb (length head) 4 a, le-ltb 3 (head_type head) b, le-ltb 32768 (head_length head) c, le-ltb got (head_length head) d)

  -- what was read where nothing is refused
  pub record Read : Type 0 where
    pub whole : 4 ≤ length head
    pub known : head_type head ≤ 3
    pub short : head_length head ≤ 32768
    pub body : head_length head ≤ got

  pub accepted_read : is_ok (input_error head got) ≡ true → Read
  unfolding input_error
  accepted_read e =
      record {
        whole = grind (arith, common_steps);
        known = grind (arith, common_steps);
        short = grind (arith, common_steps);
        body = grind (arith, common_steps);
      }

-- how much to read behind a head
module _ (head : List ℕ) where
  pub body_none : is_ok (input_error head 32768) ≡ false → 0 ≡ body_length head
  unfolding body_length
  body_none e = simp e

  pub body_some : is_ok (input_error head 32768) ≡ true → head_length head ≡ body_length head
  unfolding body_length
  body_some e = simp e

-- A CLEAN END is no frame
module _ (head body : List ℕ) where
  pub no_error : (room : ℕ) → length head ≡ 0 → frame_error head body room ≡ error.Ok
  unfolding frame_error
  no_error room z = simp (eq-eqb (length head) 0 z)

  pub no_text : (w n room : ℕ) → length head ≡ 0 → frame_text w n head body room ≡ []
  unfolding frame_text
  no_text w n room z = simp (eq-eqb (length head) 0 z)

  pub no_output : (out : List ℕ) → length head ≡ 0 → frame_output head body out ≡ out
  unfolding input_error frame_output
  no_output out z = simp (lt-ltb (length head) 4 (omega arith))

pub ruleset no_frame = (no_error, no_text, no_output)

-- ONE FRAME: its error, its text and what the output then holds, by what was read
module _ (w n : ℕ) (head body out : List ℕ) (room : ℕ) where
  -- an error, a text and an output are the frame's
  pub record Frame (e : ErrorCode) (t o : List ℕ) : Type 0 where
    pub error : frame_error head body room ≡ e
    pub text : frame_text w n head body room ≡ t
    pub output : frame_output head body out ≡ o

  module _ (some : 0 < length head) where
    begun : eqb (length head) 0 ≡ false
    begun = ne_eqb (length head) 0 (λ z. omega arith)

    pub frame_text_lem : frame_text w n head body room
        ≡ cond (is_ok (frame_error head body room)) (sheet_line w (line_of n head (pass_of head body room))) (refusal_line w n (error_number (frame_error head body room)))
    unfolding frame_text
    frame_text_lem = simp begun

    pub frame_accepted : is_ok (frame_error head body room) ≡ true → is_ok (input_error head (length body)) ≡ true
    unfolding frame_error
    frame_accepted e = grind (arith, common_steps)

    pub frame_refused : (e : ErrorCode) → e ≡ input_error head (length body) → is_ok e ≡ false → Frame e (refusal_line w n (error_number e)) out
    unfolding frame_error frame_output
    frame_refused e p k =
        let i : is_ok (input_error head (length body)) ≡ false = rw p at k in
        let q : frame_error head body room ≡ e = simp (begun, i) (sym p) in
        record { error = q; text = frame_text_lem ∙ simp (q, k); output = simp i }
