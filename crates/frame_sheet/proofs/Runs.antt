-- The program prints the frame sheet: every run of its steps prints the sheet of its input, within the limit, and every input has a run.
use mathlib.Core.Path.{◌≡◌, refl, sym, ap, ap₂, subst, ◌∙◌}
use mathlib.Core.Bool.{Bool, true, false}
use mathlib.Core.List.{List, [], ◌++◌, append-nil}
use Prim.Native.Nat.{ℕ, zero, suc, ◌+◌, ◌≤◌, ◌<◌}
use native.Mathlib.Omega.{arith}
use lib.ListN.{length, drop}
use lib.Seq.{take-append_seam}
use Rattle.frame_sheet.specs.Sheet.{first_head, first_body, behind_first, sheet_layout, frame_sheet, step_text, step_goes_on}
use Rattle.frame_sheet.specs.Program.{Step, Run, ends, goes, PrintsFrameSheet}
use Rattle.frame_sheet.specs.declared.sheet.Layout.{Layout}
use Rattle.frame_sheet.proofs.Sheets.{goes_behind, goes_below, sheet_after, sheet_step}

module _ (layout : Layout) where
  -- ONE STEP over an input: what it prints, and whether it goes on
  abbrev printed_at : ℕ → List ℕ → List ℕ
  printed_at before input = step_text layout before (first_head input) (first_body input)

  abbrev more_at : ℕ → List ℕ → Bool
  more_at before input = step_goes_on layout before (first_head input) (first_body input)

  -- the steps of the program are these
  module _ {before : ℕ} {input printed left : List ℕ} {more : Bool} (s : Step layout before input printed left more) where
    body_read : s.body ≡ first_body input
    body_read = cc

    step_prints : printed ≡ printed_at before input
    step_prints = let seam = take-append_seam (step_text layout before s.head s.body) (drop (length (step_text layout before s.head s.body)) s.held) in let q = body_read in cc

    step_leaves : left ≡ behind_first input
    step_leaves = cc

    step_goes : more ≡ more_at before input
    step_goes = cc body_read

  -- and each of these is a step of the program
  a_step : (before : ℕ) (input : List ℕ) → Step layout before input (printed_at before input) (behind_first input) (more_at before input)
  a_step before input =
      record {
        head = first_head input;
        behind = drop 4 input;
        body = first_body input;
        read_head = record { gets = refl; leaves = refl };
        read_body = record { gets = refl; leaves = refl };
        answer = _;
        held = [];
        text = _;
        answers = refl;
        writes = refl;
        prints = sym (take-append_seam (printed_at before input) (drop (length (printed_at before input)) []));
        goes = refl;
      }

  -- A RUN prints what is left of the sheet
  pub run_prints : {before : ℕ} {input printed : List ℕ} {steps : ℕ} → Run layout before input printed steps → printed ≡ sheet_after layout before input
  run_prints (ends {before} {input} s) =
      step_prints s ∙ sym (sheet_step layout before input ∙ rw (← step_goes s) (append-nil (printed_at before input)))
  run_prints (goes {before} {input} s r) =
      ap₂ ◌++◌ (step_prints s) (run_prints r ∙ ap (sheet_after layout (before + 1)) (step_leaves s))
      ∙ sym (sheet_step layout before input ∙ rw (← step_goes s) refl)

  -- and does not pass the last frame
  pub run_within : {before : ℕ} {input printed : List ℕ} {steps : ℕ} → Run layout before input printed steps → before < layout.last → before + steps ≤ layout.last
  run_within (ends s) l = omega arith
  run_within (goes {before} {input} s r) l =
      let k = run_within r (goes_below layout before (first_head input) (first_body input) (sym (step_goes s))) in
      omega arith

  -- EVERY INPUT has a run
  last_step : (before : ℕ) (input : List ℕ) → more_at before input ≡ false → Run layout before input (sheet_after layout before input) 1
  last_step before input e =
      let printed : printed_at before input ≡ sheet_after layout before input = sym (sheet_step layout before input ∙ rw e (append-nil (printed_at before input))) in
      subst (λ (t : List ℕ). Run layout before input t 1) printed (ends (rw e at (a_step before input)))

  first_step : (before steps : ℕ) (input : List ℕ) → more_at before input ≡ true
      → Run layout (before + 1) (behind_first input) (sheet_after layout (before + 1) (behind_first input)) steps
      → Run layout before input (sheet_after layout before input) (suc steps)
  first_step before steps input e r =
      let printed : printed_at before input ++ sheet_after layout (before + 1) (behind_first input) ≡ sheet_after layout before input = sym (sheet_step layout before input ∙ rw e refl) in
      subst (λ (t : List ℕ). Run layout before input t (suc steps)) printed (goes (rw e at (a_step before input)) r)

  pub run_of : (left before : ℕ) (input : List ℕ) → layout.last ≤ before + left → (steps : ℕ) × Run layout before input (sheet_after layout before input) steps
  run_of zero before input l = (1, last_step before input (goes_behind layout before (first_head input) (first_body input) (omega arith)))
  run_of (suc left) before input l = go (more_at before input) refl (run_of left (before + 1) (behind_first input) (omega arith))
    where
      go : (b : Bool) → more_at before input ≡ b
          → (steps : ℕ) × Run layout (before + 1) (behind_first input) (sheet_after layout (before + 1) (behind_first input)) steps
          → (steps : ℕ) × Run layout before input (sheet_after layout before input) steps
      go true e r = (suc r.0, first_step before r.0 input e r.1)
      go false e r = (1, last_step before input e)

-- THE THEOREM
pub prints_frame_sheet_lem : PrintsFrameSheet
unfolding PrintsFrameSheet frame_sheet
prints_frame_sheet_lem input =
    record {
      sheet = λ printed steps r. run_prints sheet_layout r;
      bound = λ printed steps r. omega (arith, run_within sheet_layout r (omega arith));
      some = run_of sheet_layout 999999 0 input (omega arith);
    }
