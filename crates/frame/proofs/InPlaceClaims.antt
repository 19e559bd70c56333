-- What is claimed of the whole pass without a copy, shown; demand 3 of it follows from demand 3.
use mathlib.Core.Path.{◌≡◌, refl, sym, ap, ap₂, ◌∙◌}
use mathlib.Core.Bool.{Bool, true, false}
use mathlib.Core.List.{List}
use Prim.Native.Nat.{ℕ, ◌+◌, ◌≤◌, ◌<◌}
use native.Mathlib.Decide.{ℕ_discrete}
use native.Mathlib.Omega.{arith}
use lib.ListN.{length, drop}
use lib.Seq.{get_or-drop}
use borrow.Author.Tests.{ltb-false}
use Rattle.wire.specs.Wire.{byte_at}
use Rattle.wire.specs.Mask.{LowEquivalent}
use Rattle.wire.proofs.Bools.{true_or_false}
use Rattle.wire.proofs.Masks.{low_at}
use Rattle.types.specs.Types.{is_ok}
use Rattle.types.specs.declared.ErrorCode.TheVariants as error
use Rattle.types.proofs.Laws.{only_ok, not_ok}
use Rattle.modex.specs.Modex.{chain_of, peeled}
use Rattle.modex.specs.InPlace.{peeled_start}
use Rattle.modex.specs.declared.ModexChain.{ModexChain}
use Rattle.std.specs.Prelude.{Option, Some, None}
use Rattle.modex.proofs.Outputs.{peeled_within}
use Rattle.modex.proofs.Places.{start_none, start_ends, placed_none, placed_peeled, start_length, placed_length, placed_kept}
use Rattle.modex.proofs.Noninterference.{start_open, start_same, placed_noninterference}
use Rattle.frame.specs.Pass.{pass_error, result_report, pass_report}
use Rattle.frame.specs.Sealed.{sealed_in_result, sealed_in_payload}
use Rattle.frame.specs.Demand3.{Agree}
use Rattle.frame.specs.Calls.{RequestsAlike, Demand3Calls}
use Rattle.frame.specs.InPlace.{pass_start, pass_payload}
use Rattle.frame.specs.InPlaceClaims.{AlwaysRoom, ResultStands, Kept, OthersKept, SealedKept, PlacedAlike, Demand3InPlace}
use Rattle.frame.specs.declared.Report.{Report}
use Rattle.frame.proofs.Payloads.{first_open, wrapped_open}
use Rattle.frame.proofs.Passes.{error_unknown, error_offset, error_none, by_tests, passed, report_passed}
use Rattle.frame.proofs.Demand.{results_agree, errors_same, passed_known, reports_same}
use Rattle.frame.proofs.Calls.{calls_alike_lem}
use Rattle.frame.proofs.InPlace.{start_refused, payload_refused, start_passed, payload_passed}

-- -22 CANNOT ARISE
pub always_room_lem : AlwaysRoom
unfolding AlwaysRoom
always_room_lem type mask p e =
    by_tests type mask p (length p) ⊥
    (λ u. let w = error_unknown type mask p (length p) u in let z : ◌≡◌ {A = ℕ} 0 1 = cc in absurd (omega arith))
    (λ u l. absurd (omega (arith, peeled_within type mask p)))
    (λ u l b. let w = error_offset type mask p (length p) u l b in let z : ◌≡◌ {A = ℕ} 0 1 = cc in absurd (omega arith))
    (λ v. let w = error_none type mask p (length p) v.known v.room_for v.fine in let z : ◌≡◌ {A = ℕ} 0 1 = cc in absurd (omega arith))

-- WHERE THE RESULT STANDS
module _ (type mask : ℕ) (p : List ℕ) (e : pass_error type mask p (length p) ≡ error.Ok) where
  result_from : drop (pass_start type mask p) (pass_payload type mask p) ≡ peeled type mask p
  result_from = rw (← start_passed type mask p e, ← payload_passed type mask p e) (placed_peeled type mask p)

  result_byte : (i : ℕ) → byte_at (pass_payload type mask p) (pass_start type mask p + i) ≡ byte_at (peeled type mask p) i
  result_byte i = sym (get_or-drop (pass_start type mask p) (pass_payload type mask p) i 0) ∙ ap (λ (r : List ℕ). byte_at r i) result_from

  reported_length : (flag : ℕ) → (pass_report type mask flag p (length p)).result_length ≡ length (peeled type mask p)
  unfolding result_report
  reported_length flag = ap (λ (r : Report). r.result_length) (sym (report_passed type mask p (length p) flag (passed type mask p (length p) e) _ refl _ refl))

pub result_stands_lem : ResultStands
unfolding ResultStands
result_stands_lem type mask flag p e =
    record {
      result = result_from type mask p e;
      whole = omega (arith, start_passed type mask p e, reported_length type mask p e flag, start_length type mask p);
    }

-- WHAT IS KEPT
module _ (type mask : ℕ) (p : List ℕ) where
  -- by whether the pass is refused
  by_answer : (A : Type 0) → (is_ok (pass_error type mask p (length p)) ≡ false → A) → (pass_error type mask p (length p) ≡ error.Ok → A) → A
  by_answer A refused taken = go (is_ok (pass_error type mask p (length p))) refl
    where
      go : (b : Bool) → is_ok (pass_error type mask p (length p)) ≡ b → A
      go true b = taken (only_ok _ b)
      go false b = refused b

  all_kept_lem : is_ok (pass_error type mask p (length p)) ≡ false → (pass_start type mask p ≡ 0) × (pass_payload type mask p ≡ p)
  all_kept_lem r = (sym (start_refused type mask p r), sym (payload_refused type mask p r))

  kept : Kept type mask p
  kept =
      record {
        lengths = by_answer _ (λ r. ap length (sym (payload_refused type mask p r))) (λ e. ap length (sym (payload_passed type mask p e)) ∙ placed_length type mask p);
        others = λ i other.
            by_answer _ (λ r. ap (λ (s : List ℕ). byte_at s i) (sym (payload_refused type mask p r)))
            (λ e. ap (λ (s : List ℕ). byte_at s i) (sym (payload_passed type mask p e)) ∙ placed_kept type mask p i (λ x. other (x ∙ start_passed type mask p e)));
        refused = λ n. all_kept_lem (not_ok n);
        unpeeled = λ x.
            by_answer _ all_kept_lem
            (λ e. (sym (start_passed type mask p e) ∙ start_none type mask p x, sym (payload_passed type mask p e) ∙ placed_none type mask p x));
      }

pub others_kept_lem : OthersKept
unfolding OthersKept
others_kept_lem = kept

-- SEALED BYTES ARE KEPT: the byte that changes is an option byte, and open
pub sealed_kept_lem : SealedKept
unfolding SealedKept sealed_in_payload
sealed_kept_lem type mask p i z =
    by_answer type mask p _ (λ r. ap (λ (s : List ℕ). byte_at s i) (sym (payload_refused type mask p r))) (λ e. by_chain e (chain_of type mask p) refl)
  where
    by_chain : pass_error type mask p (length p) ≡ error.Ok → (c : Option ModexChain) → chain_of type mask p ≡ c → byte_at (pass_payload type mask p) i ≡ byte_at p i
    by_chain e None x = ap (λ (s : List ℕ). byte_at s i) (sym (payload_passed type mask p e) ∙ placed_none type mask p x)
    by_chain e (Some c) x = by_place (ℕ_discrete i (peeled_start type mask p))
      where
        by_place : Dec (i ≡ peeled_start type mask p) → byte_at (pass_payload type mask p) i ≡ byte_at p i
        by_place (yes y) =
            let known = ltb-false 3 type (passed type mask p (length p) e).known in
            true_or_false z
            (ap (sealed_in_payload type mask p) (y ∙ start_ends type mask p c x) ∙ start_open (sealed_in_result type) mask p type c known x)
        by_place (no y) = ap (λ (s : List ℕ). byte_at s i) (sym (payload_passed type mask p e)) ∙ placed_kept type mask p i y

-- DEMAND 3 WITHOUT A COPY
module _ (type mask flag : ℕ) (p q : List ℕ) (a : Agree type mask p q p q) where
  same_error : pass_error type mask p (length p) ≡ pass_error type mask q (length q)
  same_error = errors_same type mask flag p q p q a

  received : LowEquivalent (sealed_in_payload type mask p) p q
  received = record { long = a.lengths; same = a.unsealed }

  other_refused : is_ok (pass_error type mask p (length p)) ≡ false → is_ok (pass_error type mask q (length q)) ≡ false
  other_refused r = ap is_ok (sym same_error) ∙ r

  module _ (e : pass_error type mask p (length p) ≡ error.Ok) where
    known : type ≤ 3
    known = passed_known type mask flag p q p q a e

    other_passed : pass_error type mask q (length q) ≡ error.Ok
    other_passed = sym same_error ∙ e

    starts_passed : pass_start type mask p ≡ pass_start type mask q
    unfolding sealed_in_payload
    starts_passed =
        sym (start_passed type mask p e)
        ∙ sym (start_same (sealed_in_result type) type mask known p q (first_open type p known) (wrapped_open type mask p known) received)
        ∙ start_passed type mask q other_passed

    payloads_passed : LowEquivalent (sealed_in_payload type mask p) (pass_payload type mask p) (pass_payload type mask q)
    unfolding sealed_in_payload
    payloads_passed =
        rw (← payload_passed type mask p e, ← payload_passed type mask q other_passed)
        (placed_noninterference (sealed_in_result type) type mask known p q (first_open type p known) (wrapped_open type mask p known) received)

    results_alike : (i : ℕ) → i < length (peeled type mask p) → sealed_in_result type (peeled type mask p) i ≡ false
        → byte_at (pass_payload type mask p) (pass_start type mask p + i) ≡ byte_at (pass_payload type mask q) (pass_start type mask q + i)
    results_alike i l z = result_byte type mask p e i ∙ (results_agree type mask p q p q known a).same i l z ∙ sym (result_byte type mask q other_passed i)

    requests_alike_lem : (n : ℕ) → RequestsAlike type (drop (pass_start type mask p) (pass_payload type mask p)) (drop (pass_start type mask q) (pass_payload type mask q)) n
    unfolding Demand3Calls
    requests_alike_lem n = rw (result_from type mask p e, result_from type mask q other_passed) ((calls_alike_lem type mask flag p q p q a).requests e n)

  placed_alike : PlacedAlike type mask flag p q
  placed_alike =
      record {
        answers = ap₂ (λ (r : Report) (s : ℕ). record { report = r; start = s }) (reports_same type mask flag p q p q a) starts;
        payloads = λ i l z.
            by_answer type mask p _
            (λ r.
            ap (λ (s : List ℕ). byte_at s i) (sym (payload_refused type mask p r)) ∙ a.unsealed i l z
            ∙ ap (λ (s : List ℕ). byte_at s i) (payload_refused type mask q (other_refused r)))
            (λ e. low_at (payloads_passed e) i z);
        results = results_alike;
        requests = requests_alike_lem;
      }
    where
      starts : pass_start type mask p ≡ pass_start type mask q
      starts = by_answer type mask p _ (λ r. sym (start_refused type mask p r) ∙ start_refused type mask q (other_refused r)) starts_passed

pub in_place_alike : Demand3InPlace
unfolding Demand3InPlace
in_place_alike = placed_alike
