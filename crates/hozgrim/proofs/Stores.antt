-- What the store's entry answers, from the report of the pass as it leaves.
use mathlib.Core.Path.{◌≡◌, refl, sym, ap, ◌∙◌}
use mathlib.Core.Bool.{Bool, true, false}
use mathlib.Core.List.{List}
use Prim.Native.Nat.{ℕ, ◌≤◌}
use lib.IntN.{ℤ}
use mir.Syntax.{w32}
use mir.Val.{to_z, of_z}
use lib.ListN.{length, take}
use Rattle.types.specs.Types.{error_number}
use Rattle.types.specs.declared.ErrorCode.TheVariants as error
use Rattle.types.proofs.Laws.{error_kept}
use Rattle.init_cache.specs.Kind.{kind_number, kind_by_number}
use Rattle.init_cache.specs.declared.kind.CacheFrameKind.{CacheFrameKind}
use Rattle.init_cache.proofs.KindLaws.{by_number}
use Rattle.frame.specs.Pass.{pass_report, pass_output}
use Rattle.frame.proofs.Accepted.{result_inside}
use Rattle.frame_store.specs.Store.{Store, Frame, offered, result_of, kept_kind, is_too_long, keep_in, store_after, store_error, store_answer}
use Rattle.frame_store.proofs.Keeping.{Told, told}
use Rattle.hozgrim.specs.Entries.{hozgrim_report, hozgrim_stored}
use Rattle.hozgrim.specs.declared.HozgrimReport.{HozgrimReport}

pub length_inside : (type mask flag : ℕ) (p : List ℕ) (room : ℕ) (r : HozgrimReport) → r ≡ hozgrim_report (pass_report type mask flag p room) → r.result_length ≤ room
length_inside type mask flag p room r e = rw e (result_inside type mask flag p room _ refl)

module _
    (type mask flag : ℕ)
    (p out : List ℕ)
    (r : HozgrimReport)
    (e : r ≡ hozgrim_report (pass_report type mask flag p (length out)))
    (last : List ℕ)
    (q : last ≡ pass_output type mask p out)
    (s : Store)
    (kind : CacheFrameKind)
    (k : kind ≡ kind_by_number r.kind)
  where
    abbrev f : Frame
    f = offered type mask flag p (length out)

    abbrev frame : List ℕ
    frame = take r.result_length last

    same_kind : kind ≡ (pass_report type mask flag p (length out)).kind
    same_kind = k ∙ ap (λ (x : HozgrimReport). kind_by_number x.kind) e ∙ by_number _

    told_then : Told type mask flag p out s (pass_report type mask flag p (length out)) frame
    told_then = rw e (told type mask flag p out s _ refl last q)

    pub store_then : keep_in s (kind_number kind) frame ≡ store_after f s
    store_then = rw same_kind told_then.store_then

    -- the call's error, and the whole report: -31, or the pass's own
    pub answer_long : (t : Bool) → t ≡ is_too_long (kind_number kind) frame s → t ≡ true → (z y : ℤ) → z ≡ to_z w32 (of_z w32 y) → y ≡ error_number error.SlotTooShort
        → record { error = z; report = r } ≡ hozgrim_stored (store_answer f s)
    unfolding store_answer store_error
    answer_long t x w z y d q =
        let long : is_too_long (kept_kind f) (result_of f) s ≡ true = sym told_then.too_long ∙ ap (λ (j : CacheFrameKind). is_too_long (kind_number j) frame s) (sym same_kind) ∙ sym x ∙ w in
        rw (long, d, error_kept error.SlotTooShort y q, e) refl

    pub answer_own : (t : Bool) → t ≡ is_too_long (kind_number kind) frame s → t ≡ false → (z : ℤ) → z ≡ to_z w32 (of_z w32 r.error)
        → record { error = z; report = r } ≡ hozgrim_stored (store_answer f s)
    unfolding store_answer store_error
    answer_own t x w z d =
        let other : is_too_long (kept_kind f) (result_of f) s ≡ false = sym told_then.too_long ∙ ap (λ (j : CacheFrameKind). is_too_long (kind_number j) frame s) (sym same_kind) ∙ sym x ∙ w in
        let own : to_z w32 (of_z w32 r.error) ≡ error_number (pass_report type mask flag p (length out)).error = error_kept _ _ (ap (λ (h : HozgrimReport). h.error) e) in
        rw (other, ← told_then.error_of_lem, d, own, e) refl
