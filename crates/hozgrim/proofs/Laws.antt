-- Laws of the class, by the frame type, from kind and hint of a payload, and of an outcome in numbers.
use mathlib.Core.Path.{◌≡◌, refl}
use mathlib.Core.Bool.{Bool, true, false}
use mathlib.Core.List.{List}
use Prim.Native.Nat.{ℕ}
use lib.IntN.{pos}
use Rattle.std.specs.Prelude.{Ok, Err}
use Rattle.types.specs.Types.{error_number, is_ok, is_unknown_type, outcome}
use Rattle.types.specs.declared.ErrorCode.{ErrorCode}
use Rattle.types.specs.declared.ErrorCode.TheVariants as error
use Rattle.types.proofs.Laws.{only_ok}
use Rattle.init_cache.specs.Kind.{kind_number}
use Rattle.delivery.specs.Hint.{hint_number}
use Rattle.frame.specs.Pass.{frame_class}
use Rattle.frame.specs.declared.Class.{Class}
use Rattle.hozgrim.specs.Entries.{hozgrim_class}

module _ (type flag : ℕ) (p : List ℕ) where
  pub class_known : is_unknown_type type ≡ false → (r : Class) → r ≡ frame_class type flag p
      → record { error = pos 0; kind = kind_number r.kind; hint = hint_number r.hint } ≡ hozgrim_class type flag p
  unfolding hozgrim_class
  class_known u r e = rw e (simp u)

  pub class_unknown : is_unknown_type type ≡ true → (e : ErrorCode) → error.UnknownFrameType ≡ e → record { error = error_number e; kind = 0; hint = 0 } ≡ hozgrim_class type flag p
  unfolding hozgrim_class
  class_unknown u e q = simp (← q, u)

-- no fault is the number 0
pub no_error : (e : ErrorCode) → Ok tt ≡ outcome e → pos 0 ≡ error_number e
unfolding error_number
no_error e q = go (is_ok e) refl
  where
    go : (b : Bool) → is_ok e ≡ b → pos 0 ≡ error_number e
    go true k = rw (only_ok e k) refl
    go false k = let z : outcome e ≡ Err e = simp k in absurd (cc)
