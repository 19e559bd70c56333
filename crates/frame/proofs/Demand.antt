-- DEMAND 3, and what follows from it: the same bytes are sealed in both frames, so that its premise is symmetric; the reports and the answers to all track
-- requests are the same.
use mathlib.Core.Path.{◌≡◌, refl, sym, ap, ◌∙◌}
use mathlib.Core.Bool.{Bool, true, false}
use mathlib.Core.List.{List}
use Prim.Native.Nat.{ℕ, ◌≤◌, ◌<◌}
use native.Mathlib.Decide.{dec_lt}
use native.Mathlib.Omega.{arith}
use lib.ListN.{length}
use borrow.Author.Tests.{lt-ltb}
use Rattle.wire.specs.Mask.{LowEquivalent}
use Rattle.wire.proofs.Masks.{low_clear}
use Rattle.types.specs.Types.{is_ok}
use Rattle.types.specs.declared.ErrorCode.TheVariants as error
use Rattle.types.proofs.Laws.{only_ok}
use Rattle.modex.specs.Modex.{peeled}
use Rattle.modex.specs.Offsets.{has_bad_offset, chain_offset}
use Rattle.modex.specs.Sealed.{sealed_under_layers}
use Rattle.modex.proofs.Noninterference.{peel_noninterference, sealed_same as received-same, bad_offset_same, offset_same}
use Rattle.multitrack_media.proofs.Answers.{info_same}
use Rattle.init_cache.specs.Seen.{count_tracks}
use Rattle.init_cache.proofs.Alike.{kind_alike}
use Rattle.delivery.proofs.Rules.{hint_alike}
use Rattle.frame.specs.Time.{composition_time}
use Rattle.frame.specs.Pass.{pass_error, result_report, report_by, pass_report, verdict_at, request_verdict, track_answer}
use Rattle.frame.specs.Sealed.{sealed_in_result, sealed_in_payload}
use Rattle.frame.specs.Demand3.{Agree, SameResult, TreatedAlike, Demand3}
use Rattle.frame.proofs.Results.{Observed, observe, observe_equal}
use Rattle.frame.proofs.Payloads.{first_open, wrapped_open, sealed_script}
use Rattle.frame.proofs.Passes.{error_unknown, passed}
use Rattle.frame.proofs.Accepted.{accepted_known}

-- above type 3 all is sealed
pub sealed_unknown : (type mask : ℕ) (p : List ℕ) (i : ℕ) → 3 < type → sealed_in_payload type mask p i ≡ true
unfolding sealed_in_payload sealed_under_layers
sealed_unknown type mask p i l = simp (lt-ltb 3 type l)

-- TWO FRAMES whose payloads agree, of a known type
module _ (type mask : ℕ) (p q out out' : List ℕ) (known : type ≤ 3) (a : Agree type mask p q out out') where
  received : LowEquivalent (sealed_in_payload type mask p) p q
  received = record { long = a.lengths; same = a.unsealed }

  -- the results agree outside the bytes sealed in the first
  pub results_agree : LowEquivalent (sealed_in_result type (peeled type mask p)) (peeled type mask p) (peeled type mask q)
  unfolding sealed_in_payload
  results_agree = peel_noninterference (sealed_in_result type) type mask known p q (first_open type p known) (wrapped_open type mask p known) received

  -- the chains have the same offsets
  pub bad_offsets : has_bad_offset type mask q ≡ has_bad_offset type mask p
  unfolding sealed_in_payload
  bad_offsets = bad_offset_same (sealed_in_result type) type mask known p q (first_open type p known) (wrapped_open type mask p known) received

  pub offsets : has_bad_offset type mask p ≡ false → chain_offset type mask q ≡ chain_offset type mask p
  unfolding sealed_in_payload
  offsets fine = offset_same (sealed_in_result type) type mask known p q (first_open type p known) (wrapped_open type mask p known) received fine

  -- and the results look the same to every rule
  pub results_observed : Observed type (peeled type mask p) (peeled type mask q)
  results_observed = go (dec_lt 1 type)
    where
      go : Dec (1 < type) → Observed type (peeled type mask p) (peeled type mask q)
      go (yes l) = observe_equal type _ _ (low_clear (sealed_script type (peeled type mask p) l known) results_agree)
      go (no l) = observe type _ _ (omega arith) results_agree

  pub payloads_sealed : (i : ℕ) → sealed_in_payload type mask q i ≡ sealed_in_payload type mask p i
  unfolding sealed_in_payload
  payloads_sealed = received-same (sealed_in_result type) type mask known p q (first_open type p known) (wrapped_open type mask p known) received results_observed.sealed

-- WHAT IS OBSERVED is all that is reported
module _ (type flag : ℕ) (r s : List ℕ) (o : Observed type r s) where
  pub same_result_lem : LowEquivalent (sealed_in_result type r) r s → SameResult type flag r s
  same_result_lem low =
      record {
        lengths = low.long;
        headers = o.alike.header;
        track_counts = ap count_tracks (sym o.container);
        tracks = λ n. sym (info_same type r s o.container (sym o.alike.byte0) n);
        verdict_counts = ap length o.alike.verdict;
        record_verdicts = λ n. ap (λ (vs : List Bool). verdict_at vs n) o.alike.verdict;
        kinds = kind_alike type r s o.alike;
        hints = hint_alike type flag r s o.alike;
        unsealed = low.same;
      }

  pub same_report : (offset : ℕ) → result_report type flag offset r ≡ result_report type flag offset s
  unfolding result_report
  same_report offset = rw (o.alike.long, o.alike.header, o.container, o.alike.verdict, kind_alike type r s o.alike, hint_alike type flag r s o.alike) refl

  pub same_answer_lem : (n : ℕ) → track_answer type r n ≡ track_answer type s n
  unfolding track_answer request_verdict
  same_answer_lem n = rw (sym (info_same type r s o.container (sym o.alike.byte0) n), o.alike.verdict) refl

module _ (type mask flag : ℕ) (p q out out' : List ℕ) (a : Agree type mask p q out out') where
  errors_known : type ≤ 3 → pass_error type mask p (length out) ≡ pass_error type mask q (length out')
  unfolding pass_error
  errors_known k = rw (a.outputs, (results_agree type mask p q out out' k a).long, bad_offsets type mask p q out out' k a) refl

  errors_unknown : 3 < type → pass_error type mask p (length out) ≡ pass_error type mask q (length out')
  errors_unknown l = sym (error_unknown type mask p (length out) (lt-ltb 3 type l)) ∙ error_unknown type mask q (length out') (lt-ltb 3 type l)

  pub errors_same : pass_error type mask p (length out) ≡ pass_error type mask q (length out')
  errors_same = go (dec_lt 3 type)
    where
      go : Dec (3 < type) → pass_error type mask p (length out) ≡ pass_error type mask q (length out')
      go (yes l) = errors_unknown l
      go (no l) = errors_known (omega arith)

  -- a pass that is not refused has a known type
  pub passed_known : pass_error type mask p (length out) ≡ error.Ok → type ≤ 3
  passed_known e = accepted_known type mask p (length out) e

  -- and the offset of the other
  passed_offset : pass_error type mask p (length out) ≡ error.Ok → chain_offset type mask p ≡ chain_offset type mask q
  passed_offset e = sym (offsets type mask p q out out' (passed_known e) a (passed type mask p (length out) e).fine)

  times_same : pass_error type mask p (length out) ≡ error.Ok → composition_time type mask p ≡ composition_time type mask q
  unfolding composition_time
  times_same e = rw ((results_observed type mask p q out out' (passed_known e) a).alike.header, passed_offset e) refl

  pub treated_alike_lem : TreatedAlike type mask flag p q out out'
  treated_alike_lem =
      record {
        refusals = errors_same;
        results = λ e.
            let k = passed_known e in
            same_result_lem type flag (peeled type mask p) (peeled type mask q) (results_observed type mask p q out out' k a) (results_agree type mask p q out out' k a);
        times = times_same;
      }

  -- THE REPORTS are the same
  pub reports_same : pass_report type mask flag p (length out) ≡ pass_report type mask flag q (length out')
  unfolding pass_report
  reports_same = rw (← errors_same) (go (is_ok (pass_error type mask p (length out))) refl)
    where
      go : (b : Bool) → is_ok (pass_error type mask p (length out)) ≡ b
          → report_by (pass_error type mask p (length out)) type flag (chain_offset type mask p) (peeled type mask p)
          ≡ report_by (pass_error type mask p (length out)) type flag (chain_offset type mask q) (peeled type mask q)
      go true b =
          let e = only_ok _ b in
          simp b (same_report type flag (peeled type mask p) (peeled type mask q) (results_observed type mask p q out out' (passed_known e) a) (chain_offset type mask p)
          ∙ ap (λ (o : ℕ). result_report type flag o (peeled type mask q)) (passed_offset e))
      go false b = simp b

  -- and the answers to every track request on the results
  pub answers_same : pass_error type mask p (length out) ≡ error.Ok → (n : ℕ) → track_answer type (peeled type mask p) n ≡ track_answer type (peeled type mask q) n
  answers_same e n = same_answer_lem type flag (peeled type mask p) (peeled type mask q) (results_observed type mask p q out out' (passed_known e) a) n

  -- THE SAME BYTES ARE SEALED in both
  pub sealed_same : (i : ℕ) → sealed_in_payload type mask q i ≡ sealed_in_payload type mask p i
  sealed_same i = go (dec_lt 3 type)
    where
      go : Dec (3 < type) → sealed_in_payload type mask q i ≡ sealed_in_payload type mask p i
      go (yes l) = sealed_unknown type mask q i l ∙ sym (sealed_unknown type mask p i l)
      go (no l) = payloads_sealed type mask p q out out' (omega arith) a i

  pub agree_symmetric : Agree type mask q p out' out
  agree_symmetric =
      record {
        lengths = sym a.lengths;
        outputs = sym a.outputs;
        unsealed = λ i l e. sym (a.unsealed i (omega (arith, a.lengths)) (sym (sealed_same i) ∙ e));
      }

-- DEMAND 3
pub demand3 : Demand3
unfolding Demand3
demand3 = treated_alike_lem
