-- Demand 3 about the calls, from demand 3 about the definitions: the contracts of the calls equate what they return and write with the definitions.
use mathlib.Core.Path.{◌≡◌, sym, ap, ◌∙◌}
use mathlib.Core.List.{List}
use Prim.Native.Nat.{ℕ, ◌+◌, ◌-◌, ◌≤◌, ◌<◌}
use native.Mathlib.Omega.{arith}
use lib.ListN.{length, drop, get_or-append}
use lib.Seq.{get_or-take, get_or-drop, get_or-append-add}
use Rattle.wire.specs.Wire.{byte_at}
use Rattle.wire.proofs.Parts.{length_part}
use Rattle.types.specs.Types.{is_ok}
use Rattle.types.specs.declared.ErrorCode.TheVariants as error
use Rattle.types.proofs.Laws.{not_ok}
use Rattle.modex.specs.Modex.{peeled}
use Rattle.multitrack_media.specs.Answer.{track_info, track_part}
use Rattle.multitrack_media.specs.declared.TrackInfo.{TrackInfo}
use Rattle.multitrack_media.proofs.Answers.{info_inside}
use Rattle.frame.specs.Pass.{pass_error, pass_output, track_answer}
use Rattle.frame.specs.Demand3.{Agree}
use Rattle.frame.specs.Calls.{RequestsAlike, OutputsAlike, CallsAlike, Demand3Calls}
use Rattle.frame.specs.declared.TrackAnswer.{TrackAnswer}
use Rattle.frame.proofs.Passes.{output_written, refused_output}
use Rattle.frame.proofs.Demand.{results_agree, errors_same, passed_known, reports_same, answers_same}

-- WHAT AN OUTPUT HOLDS after a pass that is not refused, byte by byte
module _ (type mask : ℕ) (p out : List ℕ) (e : pass_error type mask p (length out) ≡ error.Ok) where
  output_front : (i : ℕ) → i < length (peeled type mask p) → byte_at (pass_output type mask p out) i ≡ byte_at (peeled type mask p) i
  output_front i m = rw (← output_written type mask p out e) (get_or-append (peeled type mask p) (drop (length (peeled type mask p)) out) 0 i m)

  output_behind : (i : ℕ) → length (peeled type mask p) ≤ i → byte_at (pass_output type mask p out) i ≡ byte_at out i
  output_behind i m =
      let n : ℕ = length (peeled type mask p) in
      let d : n + (i - n) ≡ i = omega arith in
      rw (← output_written type mask p out e, ← d)
      (get_or-append-add (peeled type mask p) (drop n out) (i - n) 0 ∙ get_or-drop n out (i - n) 0)

-- A TRACK'S PART, byte by byte
module _ (type : ℕ) (r : List ℕ) (n : ℕ) where
  part_length : length (track_part type r n) ≡ (track_info type r n).length
  unfolding track_part
  part_length = length_part r (track_info type r n).start (track_info type r n).length (info_inside type r n)

  part_byte : (j : ℕ) → j < (track_info type r n).length → byte_at (track_part type r n) j ≡ byte_at r ((track_info type r n).start + j)
  unfolding track_part
  part_byte j l = get_or-take (track_info type r n).length (drop (track_info type r n).start r) j 0 l ∙ get_or-drop (track_info type r n).start r j 0

module _ (type mask flag : ℕ) (p q out out' : List ℕ) (a : Agree type mask p q out out') where
  requests_alike_lem : pass_error type mask p (length out) ≡ error.Ok → (n : ℕ) → RequestsAlike type (peeled type mask p) (peeled type mask q) n
  requests_alike_lem e n =
      let r : List ℕ = peeled type mask p in
      let s : List ℕ = peeled type mask q in
      let low = results_agree type mask p q out out' (passed_known type mask flag p q out out' a e) a in
      let answer = answers_same type mask flag p q out out' a e n in
      let info : track_info type r n ≡ track_info type s n = unfold track_answer in ap (λ (x : TrackAnswer). x.track) answer in
      let sizes = ap (λ (t : TrackInfo). t.length) info in
      record {
        answers = answer;
        lengths = part_length type r n ∙ sizes ∙ sym (part_length type s n);
        parts = λ j l z.
            let m : j < (track_info type r n).length = omega (arith, part_length type r n) in
            part_byte type r n j m
            ∙ low.same ((track_info type r n).start + j) (omega (arith, info_inside type r n)) z
            ∙ ap (λ (t : TrackInfo). byte_at s (t.start + j)) info
            ∙ sym (part_byte type s n j (omega (arith, sizes)));
      }

  outputs_alike_lem : pass_error type mask p (length out) ≡ error.Ok → OutputsAlike type mask p q out out'
  outputs_alike_lem e =
      let low = results_agree type mask p q out out' (passed_known type mask flag p q out out' a e) a in
      let f = sym (errors_same type mask flag p q out out' a) ∙ e in
      record {
        results = λ i l z. output_front type mask p out e i l ∙ low.same i l z ∙ sym (output_front type mask q out' f i (omega (arith, low.long)));
        behind = λ i l. (output_behind type mask p out e i l, output_behind type mask q out' f i (omega (arith, low.long)));
      }

  both_alike : CallsAlike type mask flag p q out out'
  both_alike =
      record {
        reports = reports_same type mask flag p q out out' a;
        kept = λ n.
            let x = not_ok n in
            (refused_output type mask p out x, refused_output type mask q out' (ap is_ok (sym (errors_same type mask flag p q out out' a)) ∙ x));
        outputs = outputs_alike_lem;
        requests = requests_alike_lem;
      }

-- DEMAND 3 ABOUT THE CALLS
pub calls_alike_lem : Demand3Calls
unfolding Demand3Calls
calls_alike_lem = both_alike
