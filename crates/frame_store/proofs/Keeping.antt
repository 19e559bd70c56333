-- One frame kept: what the code's copy leaves in the slot of the frame's kind, and what the call answers.
use mathlib.Core.Path.{◌≡◌, refl, sym, ap, ◌∙◌}
use mathlib.Core.Bool.{Bool, true, false, cond, not, true≢false}
use mathlib.Core.List.{List}
use Prim.Native.Nat.{ℕ, ◌+◌, ◌≤◌}
use native.Mathlib.Omega.{arith}
use lib.Dec.{eqb, leb}
use lib.ListN.{length, take}
use lib.Seq.{take-append_seam}
use Rattle.std.specs.Prelude.{Some, None, is_some, is_none, unwrap_or}
use Rattle.std.specs.Prelude as std
use borrow.Author.Tests.{eq-eqb, ne_eqb}
use Rattle.types.specs.declared.ErrorCode.{ErrorCode}
use Rattle.types.specs.declared.ErrorCode.TheVariants as error
use Rattle.types.proofs.Laws.{only_ok}
use Rattle.outputs.specs.Outputs.{put_at}
use Rattle.outputs.proofs.Laws.{put_front_if}
use Rattle.modex.specs.Modex.{peeled}
use Rattle.init_cache.specs.Kind.{kind_number}
use Rattle.frame.specs.Pass.{result_report, pass_report, pass_output}
use Rattle.frame.specs.declared.Report.{Report}
use Rattle.frame.proofs.Passes.{refused_report_lem, output_written}
use Rattle.frame_store.specs.Store.{Store, Frame, offered, buffer_of, fits, is_too_long, length_after, buffer_after, keep_in, error_of, accepts, result_of, kept_kind, store_after, store_error, store_answer}
use Rattle.frame_store.proofs.Runs.{keep_none}

-- a copy to the front has room exactly if the frame fits
pub room_at : (bytes slot : List ℕ) (t : Bool) → t ≡ leb (0 + length bytes) (length slot) → t ≡ fits bytes slot
room_at bytes slot t e = let z : 0 + length bytes ≡ length bytes = omega arith in rw z at e

pub none_told : (o : std.Option ℕ) (r : Bool) → is_some o ≡ not r → r ≡ is_none o
none_told (Some n) true e = absurd (true≢false e)
none_told (Some n) false e = refl
none_told None true e = refl
none_told None false e = absurd (true≢false (sym e))

-- SLOT k AFTER A FRAME OF KIND k, by what the copy answers
module _ (s : Store) (bytes : List ℕ) (k : ℕ) (held : std.Option ℕ) (after : List ℕ) where
  pub record Own : Type 0 where
    pub too_long : is_none held ≡ is_too_long k bytes s
    pub length_then : unwrap_or held 0 ≡ length_after k k bytes s
    pub buffer_then : after ≡ buffer_after k k bytes s

  pub own_slot : 1 ≤ k → held ≡ cond (fits bytes (buffer_of k s)) (Some (length bytes)) None → after ≡ put_at (buffer_of k s) 0 bytes → Own
  unfolding is_too_long length_after buffer_after
  own_slot positive t b =
      let own : eqb k k ≡ true = eq-eqb k k refl in
      let some : eqb k 0 ≡ false = ne_eqb k 0 (λ z. omega arith) in
      record {
        too_long = ap is_none t ∙ by_room (λ f. is_none (cond f (Some (length bytes)) None) ≡ not f) refl refl (fits bytes (buffer_of k s)) ∙ simp some;
        length_then =
            ap (λ (o : std.Option ℕ). unwrap_or o 0) t
            ∙ by_room (λ f. unwrap_or (cond f (Some (length bytes)) None) 0 ≡ cond f (length bytes) 0) refl refl (fits bytes (buffer_of k s)) ∙ simp own;
        buffer_then = b ∙ simp own (put_front_if (buffer_of k s) bytes);
      }
    where
      by_room : (A : Bool → Type 0) → A true → A false → (f : Bool) → A f
      by_room A x y true = x
      by_room A x y false = y

-- THE PASS, AND THEN THE STORE: what is told of a frame by the report of its pass, and the front of the output that the store is lent
module _ (type mask flag : ℕ) (p out : List ℕ) (s : Store) where
  abbrev f : Frame
  f = offered type mask flag p (length out)

  pub record Told (r : Report) (frame : List ℕ) : Type 0 where
    pub error_of_lem : r.error ≡ error_of f
    pub too_long : is_too_long (kind_number r.kind) frame s ≡ is_too_long (kept_kind f) (result_of f) s
    pub store_then : keep_in s (kind_number r.kind) frame ≡ store_after f s

  -- of a refused frame the kind is 0, and nothing is kept whatever the front is
  refused : accepts f ≡ false → Told (pass_report type mask flag p (length out)) (take (pass_report type mask flag p (length out)).result_length (pass_output type mask p out))
  unfolding kept_kind store_after is_too_long
  refused e =
      rw (refused_report_lem type mask p (length out) flag e)
      (record { error_of_lem = refl; too_long = simp (kept_kind, is_too_long, e); store_then = keep_none s _ ∙ sym (simp (store_after, kept_kind, e) (keep_none s (result_of f))) })

  -- of one that is not, the front is the result
  taken : accepts f ≡ true → Told (pass_report type mask flag p (length out)) (take (pass_report type mask flag p (length out)).result_length (pass_output type mask p out))
  unfolding kept_kind store_after pass_report result_report
  taken e =
      let ok = only_ok _ e in
      let front : take (length (peeled type mask p)) (pass_output type mask p out) ≡ peeled type mask p = rw (← output_written type mask p out ok) (take-append_seam (peeled type mask p) _) in
      rw ok (record { error_of_lem = sym ok; too_long = simp (front, kept_kind, e); store_then = simp (front, store_after, kept_kind, e) })

  pub told : (r : Report) → r ≡ pass_report type mask flag p (length out) → (last : List ℕ) → last ≡ pass_output type mask p out → Told r (take r.result_length last)
  told r e last q = rw (e, q) (go (accepts f) refl)
    where
      go : (b : Bool) → accepts f ≡ b → Told (pass_report type mask flag p (length out)) (take (pass_report type mask flag p (length out)).result_length (pass_output type mask p out))
      go true a = taken a
      go false a = refused a

  pub answered : (r : Report) → r ≡ pass_report type mask flag p (length out) → (frame : List ℕ) → Told r frame → (t : Bool) → t ≡ is_too_long (kind_number r.kind) frame s
      → (e : ErrorCode) → e ≡ cond t error.SlotTooShort r.error → record { error = e; report = r } ≡ store_answer f s
  unfolding store_answer store_error
  answered r q frame w t tq e eq =
      let x : e ≡ store_error f s = eq ∙ rw (tq, w.too_long, w.error_of_lem) refl in
      rw (x, q) refl
