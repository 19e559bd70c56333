-- WHAT A CALL LEAVES in an output.
use mathlib.Core.Path.{◌≡◌, refl, sym, ap, ◌∙◌}
use mathlib.Core.Bool.{Bool, true, false}
use mathlib.Core.List.{List, ◌++◌}
use Prim.Native.Nat.{ℕ, ◌≤◌, ◌<◌}
use native.Mathlib.Omega.{arith}
use lib.ListN.{length, drop, length-append, length-drop}
use borrow.Author.Tests.{lt-ltb, le-ltb}
use lib.Seq.{take-append_seam, drop-append_seam}
use Rattle.std.specs.Prelude.{Ok, Err}
use Rattle.wire.proofs.Bools.{true_or_false}
use Rattle.types.specs.Types.{is_ok, outcome}
use Rattle.types.proofs.Laws.{only_ok}
use Rattle.writers.specs.Writing.{or_short, answer_of, output_of}
use Rattle.writers.specs.ContainerWriter.{ContainerCall, container_fault, container_written, container_error, container_answer, container_output}
use Rattle.writers.specs.ModexWriter.{ModexCall, modex_fault, modex_written, modex_error, modex_answer, modex_output}
use Rattle.writers.specs.Claims.{WritableContainer, WritableModex, CallLeaves, ContainerLeaves, ModexLeaves}
use Rattle.types.specs.declared.ErrorCode.{ErrorCode}
use Rattle.types.specs.declared.ErrorCode.TheVariants as error
use Rattle.writers.proofs.Refusals.{container_fine}
use Rattle.writers.proofs.Refusals as container
use Rattle.writers.proofs.ModexRefusals.{modex_fine}
use Rattle.writers.proofs.ModexRefusals as modex

pub call_leaves_lem : (e : ErrorCode) (written out : List ℕ) → (e ≡ error.Ok → length written ≤ length out) → CallLeaves (answer_of e written) written out (output_of e written out)
call_leaves_lem e written out room = go (is_ok e) refl
  where
    go : (b : Bool) → is_ok e ≡ b → CallLeaves (answer_of e written) written out (output_of e written out)
    go true q =
        record {
          refused = λ x k. let z : answer_of e written ≡ Ok (length written) = simp q in absurd (cc);
          wrote =
              λ n k. let z : answer_of e written ≡ Ok (length written) = simp q in
              (cc, rw q (take-append_seam written (drop (length written) out)), rw q (drop-append_seam written (drop (length written) out)));
          long = rw q (omega (arith, length-append written (drop (length written) out), length-drop (length written) out, room (only_ok e q)));
        }
    go false q =
        record {
          refused = λ x k. let z : answer_of e written ≡ Err e = simp q in let y : x ≡ e = cc in (λ ok. true_or_false (ap is_ok (sym y ∙ ok)) q, rw q);
          wrote = λ n k. let z : answer_of e written ≡ Err e = simp q in absurd (cc);
          long = rw q;
        }

pub container_leaves_lem : ContainerLeaves
unfolding ContainerLeaves container_answer container_output
container_leaves_lem c out = call_leaves_lem (container_error c (length out)) (container_written c) out (λ ok. (container_fine c (length out) ok).1)

pub modex_leaves_lem : ModexLeaves
unfolding ModexLeaves modex_answer modex_output
modex_leaves_lem c out = call_leaves_lem (modex_error c (length out)) (modex_written c) out (λ ok. (modex_fine c (length out) ok).1)

-- an error number as a result: without it the call goes on, and what it asks for can be written
goes_on : (e : ErrorCode) → Ok tt ≡ outcome e → e ≡ error.Ok
goes_on e q = go (is_ok e) refl
  where
    go : (b : Bool) → is_ok e ≡ b → e ≡ error.Ok
    go true k = only_ok e k
    go false k = let z : outcome e ≡ Err e = simp k in absurd (cc)

pub container_writable : (c : ContainerCall) → Ok tt ≡ outcome (container_fault c) → WritableContainer c
container_writable c q = container.fault_fine c (goes_on (container_fault c) q)

pub modex_writable : (c : ModexCall) → Ok tt ≡ outcome (modex_fault c) → WritableModex c
modex_writable c q = modex.fault_fine c (goes_on (modex_fault c) q)

-- THE ANSWER AND THE OUTPUT of a call, for each exit of a writer: a fault, an output that is too short, written
module _ (e : ErrorCode) (written out : List ℕ) where
  pub answers_fault : is_ok e ≡ false
      → (Err e ≡ answer_of (or_short e (length out) written) written) × (out ≡ output_of (or_short e (length out) written) written out)
  unfolding or_short
  answers_fault q = (simp q, simp q)

  module _ (q : e ≡ error.Ok) where
    pub answers_short : length out < length written
        → (Err error.OutputTooShort ≡ answer_of (or_short e (length out) written) written)
        × (out ≡ output_of (or_short e (length out) written) written out)
    unfolding or_short
    answers_short l = (simp (q, lt-ltb _ _ l), simp (q, lt-ltb _ _ l))

    pub answers_written : (n : ℕ) (last : List ℕ) → n ≡ length written → n ≤ length out → last ≡ written ++ drop (length written) out
        → (Ok n ≡ answer_of (or_short e (length out) written) written)
        × (last ≡ output_of (or_short e (length out) written) written out)
    unfolding or_short
    answers_written n last k l h =
        let m : length written ≤ length out = omega arith in
        (simp (q, le-ltb _ _ m, k), simp (q, le-ltb _ _ m) h)
