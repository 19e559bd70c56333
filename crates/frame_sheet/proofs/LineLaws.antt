-- Laws of the lines: what they are made of, how they are written, and how long they are.
use mathlib.Core.Path.{◌≡◌, refl, sym, ap}
use mathlib.Core.Bool.{false}
use mathlib.Core.List.{List, [], ◌∷◌, ◌++◌, append_assoc, append-nil}
use Prim.Native.Nat.{ℕ, ◌+◌, ◌-◌, ◌≤◌, ◌<◌}
use native.Mathlib.Omega.{arith}
use lib.IntN.{ℤ, pos, nat_abs}
use lib.Signed.{lt_z}
use lib.ListN.{length, length-replicate, get_or, take, drop, set, length-append, take-append-drop}
use mir.Facts.{to_z-of_z}
use borrow.Author.Tests.{le-ltb}
use borrow.Rule.Slice.PartMut.{put_mid}
use Rattle.std.specs.List.{flat_map}
use Rattle.std.proofs.lemmas.List.{take_all, take_more, take_at, drop_at, take-append-le, drop-append-le, take-replicate, drop-replicate, drop_more, set_at}
use Rattle.std.proofs.lemmas.List.Concat.{flat_map-append, length-flat_map}
use Rattle.types.specs.declared.ErrorCode.{ErrorCode}
use Rattle.frame_sheet.specs.Text.{signed, spaces, newline}
use Rattle.outputs.specs.Outputs.{in_front}
use Rattle.frame_sheet.specs.Lines.{sheet_line, refusal_line, text_answer, text_output}
use Rattle.frame_sheet.specs.Columns.{column_text, columns_line}
use Rattle.frame_sheet.specs.declared.text.Column.{Column}
use Rattle.frame_sheet.specs.declared.lines.SheetLine.{SheetLine}

-- COLUMN BY COLUMN
abbrev pub texts : List Column → List ℕ
texts cs = flat_map column_text cs

abbrev column_at : List Column → ℕ → Column
column_at cs i = get_or cs i (record { width = 0; negative = false; n = 0 })

module _ (cs : List Column) (i : ℕ) (h : i < length cs) where
  pub texts_more : texts (take (i + 1) cs) ≡ texts (take i cs) ++ column_text (column_at cs i)
  texts_more = rw (take_more cs i (record { width = 0; negative = false; n = 0 }) h, flat_map-append, append-nil) refl

  pub texts_within : length (texts (take i cs)) + length (column_text (column_at cs i)) ≤ length (texts cs)
  texts_within =
      let whole = ap length (flat_map-append column_text (take (i + 1) cs) (drop (i + 1) cs)) in
      let same : length (texts (take (i + 1) cs ++ drop (i + 1) cs)) ≡ length (texts cs) = rw (take-append-drop (i + 1) cs) refl in
      omega (arith, same, whole, ap length texts_more, length-append (texts (take i cs)) (column_text (column_at cs i)), length-append (texts (take (i + 1) cs)) (texts (drop (i + 1) cs)))

-- IN A BUFFER with the texts so far in front, and spaces up to a place: one more text, and the line's end
module _ (t s : List ℕ) (at end : ℕ) (q : at ≡ length t) where
  pub blank_cell : (next : ℕ) → at ≤ next → next ≤ end → take (next - at) (drop at (t ++ (spaces (end - at) ++ s))) ≡ spaces (next - at)
  blank_cell next a b =
      let l : length t ≡ at = sym q in
      let h : next - at ≤ length (spaces (end - at)) = omega (arith, length-replicate {A = ℕ} (end - at) 32) in
      rw (drop_at t (spaces (end - at) ++ s) at l, take-append-le (next - at) (spaces (end - at)) s h, take-replicate {X = ℕ} (next - at) (end - at) 32 (omega arith)) refl

  pub put_next : (u : List ℕ) (next : ℕ) → next ≡ at + length u → next ≤ end
      → put_mid at (next - at) (t ++ (spaces (end - at) ++ s)) u ≡ (t ++ u) ++ (spaces (end - next) ++ s)
  put_next u next p b =
      let l : length t ≡ at = sym q in
      let h : next - at ≤ length (spaces (end - at)) = omega (arith, length-replicate {A = ℕ} (end - at) 32) in
      let k : end - at - (next - at) ≡ end - next = omega arith in
      rw (take_at t (spaces (end - at) ++ s) at l, drop_at t (spaces (end - at) ++ s) at l, drop-append-le (next - at) (spaces (end - at)) s h, drop-replicate {X = ℕ} (next - at) (end - at) 32, k, append_assoc) refl

pub put_end : (t s : List ℕ) (at : ℕ) → at ≡ length t → at < length s → set (t ++ drop at s) at 10 ≡ text_output (t ++ newline) s
unfolding text_output
put_end t s at q h =
    let l : length t ≡ at = sym q in
    let k : length (t ++ newline) ≡ at + 1 = omega (arith, length-append t newline) in
    rw (drop_more s at 0 h, set_at t (get_or s at 0) (drop (at + 1) s) 10 at l, k, le-ltb (length s) (at + 1) (omega arith), append_assoc) refl

pub ruleset lengths = (length-flat_map)

pub ruleset puts = (texts_more, texts_within, blank_cell, put_next, put_end, take_all, length-append)

-- LINES BY THEIR COLUMNS
abbrev pub unsigned_column : ℕ → ℕ → Column
unsigned_column w n = record { width = w; negative = false; n = n }

abbrev pub signed_column : ℕ → ℤ → Column
signed_column w z = record { width = w; negative = lt_z z (pos 0); n = nat_abs z }

pub sheet_columns : (w : ℕ) (l : SheetLine)
    → columns_line (unsigned_column w l.number ∷ unsigned_column 3 l.frame_type ∷ unsigned_column 9 l.length ∷ signed_column 4 l.header_error ∷ unsigned_column 6 l.tracks ∷ unsigned_column 3 l.kind ∷ unsigned_column 3 l.hint ∷ [])
    ≡ sheet_line w l
unfolding columns_line column_text sheet_line signed
sheet_columns w l = simp append_assoc

pub refusal_columns : (w n : ℕ) (z : ℤ) → columns_line (unsigned_column w n ∷ signed_column 4 z ∷ []) ≡ refusal_line w n z
unfolding columns_line column_text refusal_line signed
refusal_columns w n z = simp append_assoc

pub ruleset by_columns = (sheet_columns, refusal_columns, to_z-of_z)

-- WHAT A WRITER ANSWERS AND LEAVES where there is room: the text stands in front
module _ (e : ErrorCode) (t s : List ℕ) where
  pub text_room : length t ≤ length s → (text_answer e t (length s) ≡ record { error = e; length = length t }) × (text_output t s ≡ in_front t s)
  unfolding text_answer text_output
  text_room h = let z = le-ltb (length s) (length t) h in (simp z, simp z)
