-- What is known of a frame that the pass accepts, and of the length that its report says.
use mathlib.Core.Path.{◌≡◌, refl}
use mathlib.Core.Bool.{Bool, true, false}
use mathlib.Core.List.{List}
use Prim.Native.Nat.{ℕ, ◌≤◌}
use native.Mathlib.Omega.{arith}
use borrow.Author.Tests.{ltb-false}
use Rattle.types.specs.Types.{is_ok}
use Rattle.types.specs.declared.ErrorCode.TheVariants as error
use Rattle.types.proofs.Laws.{only_ok}
use Rattle.frame.specs.Pass.{pass_error, result_report, pass_report}
use Rattle.frame.specs.declared.Report.{Report}
use Rattle.frame.proofs.Passes.{passed, refused_report_lem}

-- its type is known
pub accepted_known : (type mask : ℕ) (p : List ℕ) (room : ℕ) → pass_error type mask p room ≡ error.Ok → type ≤ 3
accepted_known type mask p room e = ltb-false 3 type (passed type mask p room e).known

-- a report says no more bytes than the output has
pub result_inside : (type mask flag : ℕ) (p : List ℕ) (room : ℕ) (r : Report) → r ≡ pass_report type mask flag p room → r.result_length ≤ room
unfolding pass_report result_report
result_inside type mask flag p room r e = rw e (go (is_ok (pass_error type mask p room)) refl)
  where
    go : (b : Bool) → is_ok (pass_error type mask p room) ≡ b → (pass_report type mask flag p room).result_length ≤ room
    go true a = let ok = only_ok (pass_error type mask p room) a in rw ok (passed type mask p room ok).room_for
    go false a = rw (refused_report_lem type mask p room flag a) (omega arith)
