-- Laws of the whole pass without a copy.
use mathlib.Core.Path.{◌≡◌, refl, sym, ap, ap₂, ◌∙◌}
use mathlib.Core.Bool.{true, false}
use mathlib.Core.List.{List}
use Prim.Native.Nat.{ℕ, ◌-◌}
use lib.ListN.{length, take, drop, length-drop}
use Rattle.wire.proofs.Parts.{rest_part}
use Rattle.types.specs.Types.{is_ok, is_unknown_type}
use Rattle.types.specs.declared.ErrorCode.{ErrorCode}
use Rattle.types.specs.declared.ErrorCode.TheVariants as error
use Rattle.modex.specs.Modex.{peeled}
use Rattle.modex.specs.Offsets.{has_bad_offset, chain_offset}
use Rattle.modex.specs.InPlace.{peeled_start, peeled_in_place}
use Rattle.modex.proofs.Outputs.{peeled_within}
use Rattle.modex.proofs.Places.{placed_peeled}
use Rattle.frame.specs.Pass.{pass_error, result_report, refused_report}
use Rattle.frame.specs.InPlace.{pass_start, pass_placed, pass_payload}
use Rattle.frame.specs.declared.Report.{Report}
use Rattle.frame.proofs.Passes.{Passed, error_unknown, error_offset, error_none, refused_report_lem, report_passed}

-- how long the rest from a position on is
pub rest_length : (p : List ℕ) (i : ℕ) → length p - i ≡ length (take (length p - i) (drop i p))
rest_length p i = sym (ap length (rest_part p i) ∙ length-drop i p)

module _ (type mask : ℕ) (p : List ℕ) where
  -- refused: start 0, and every byte kept
  module _ (r : is_ok (pass_error type mask p (length p)) ≡ false) where
    pub start_refused : 0 ≡ pass_start type mask p
    unfolding pass_start
    start_refused = simp r

    pub payload_refused : p ≡ pass_payload type mask p
    unfolding pass_payload
    payload_refused = simp r

  -- not refused: where peeling puts the result
  module _ (e : pass_error type mask p (length p) ≡ error.Ok) where
    pub start_passed : peeled_start type mask p ≡ pass_start type mask p
    unfolding pass_start
    start_passed = simp e

    pub payload_passed : peeled_in_place type mask p ≡ pass_payload type mask p
    unfolding pass_payload
    payload_passed = simp e

  -- ONE LAW FOR EACH ANSWER, and what the payload then holds: a frame type above 3, a bad layer, none of these
  refused : (flag : ℕ) (e : ErrorCode) → e ≡ pass_error type mask p (length p) → is_ok e ≡ false → (s : ℕ) → s ≡ 0 → (a : Report) → a ≡ refused_report e
      → (record { report = a; start = s } ≡ pass_placed type mask flag p) × (p ≡ pass_payload type mask p)
  refused flag e q n s z a x =
      let r : is_ok (pass_error type mask p (length p)) ≡ false = ap is_ok (sym q) ∙ n in
      (ap₂ (λ (b : Report) (t : ℕ). record { report = b; start = t }) (x ∙ ap refused_report q ∙ sym (refused_report_lem type mask p (length p) flag r)) (z ∙ start_refused r), payload_refused r)

  pub placed_unknown : (flag : ℕ) → is_unknown_type type ≡ true → (e : ErrorCode) → error.UnknownFrameType ≡ e → (a : Report) → a ≡ refused_report e
      → (record { report = a; start = 0 } ≡ pass_placed type mask flag p) × (p ≡ pass_payload type mask p)
  placed_unknown flag u e q a x = refused flag e (sym q ∙ error_unknown type mask p (length p) u) (ap is_ok (sym q)) 0 refl a x

  module _ (known : is_unknown_type type ≡ false) where
    pub placed_bad : (flag : ℕ) → has_bad_offset type mask p ≡ true → (e : ErrorCode) → e ≡ error.Protocol → (s : ℕ) → s ≡ 0 → (a : Report) → a ≡ refused_report e
        → (record { report = a; start = s } ≡ pass_placed type mask flag p) × (p ≡ pass_payload type mask p)
    placed_bad flag b e q s z a x = refused flag e (q ∙ error_offset type mask p (length p) known (peeled_within type mask p) b) (ap is_ok q) s z a x

    pub placed_passed : (flag : ℕ) → has_bad_offset type mask p ≡ false → (o : ℕ) → o ≡ chain_offset type mask p → (s : ℕ) → s ≡ peeled_start type mask p
        → (last : List ℕ) → last ≡ peeled_in_place type mask p → (a : Report) → a ≡ result_report type flag o (take (length last - s) (drop s last))
        → (record { report = a; start = s } ≡ pass_placed type mask flag p) × (last ≡ pass_payload type mask p)
    placed_passed flag b o y s z last l a x =
        let w : Passed type mask p (length p) = record { known = known; room_for = peeled_within type mask p; fine = b } in
        let e = sym (error_none type mask p (length p) known (peeled_within type mask p) b) in
        let part : take (length last - s) (drop s last) ≡ peeled type mask p = rest_part last s ∙ ap₂ drop z l ∙ placed_peeled type mask p in (
          ap₂ (λ (b : Report) (t : ℕ). record { report = b; start = t }) (x ∙ report_passed type mask p (length p) flag w o y _ part) (z ∙ start_passed e),
          l ∙ payload_passed e,
        )
