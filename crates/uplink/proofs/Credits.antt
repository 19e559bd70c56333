-- Laws of one viewer's credit: it stays in range, and nothing of a share is lost.
use mathlib.Core.Path.{◌≡◌, refl, sym, ap}
use mathlib.Core.Bool.{Bool, true, false, cond, not, ◌&&◌}
use Prim.Native.Nat.{ℕ, zero, suc, ◌+◌, ◌-◌, ◌≤◌, ◌<◌}
use native.Mathlib.Decide.{dec_lt}
use native.Mathlib.Omega.{arith}
use lib.Dec.{leb}
use lib.IntN.{ℤ, pos, negsuc, ◌+ℤ◌, ◌-ℤ◌, +ℤ_idr, -ℤ-+ℤ_cancel}
use lib.Signed.{le_z}
use borrow.Author.Tests.{lt-ltb, le-ltb, le-leb, lt-leb, leb-true}
use Rattle.wire.proofs.Bools.{and_left, true_or_false}
use Rattle.types.specs.declared.ErrorCode.TheVariants as error
use Rattle.uplink.specs.Uplink.{Offered, most_uplink, most_credit, most_debt, credit_ok, carried, credited, is_critical_hint, is_droppable_hint, decide, credit_after}
use Rattle.uplink.specs.Histories.{bytes_sent, excess}
use Rattle.std.specs.Prelude.{Ok, Err}
use Rattle.uplink.specs.declared.Decision.TheVariants.{Sent, Dropped}

-- in range, by the sign
ok_pos : (c : ℕ) → c ≤ most_credit → credit_ok (pos c) ≡ true
unfolding credit_ok
ok_pos c l = simp (le-leb c most_credit l)

ok_neg : (c : ℕ) → c < most_debt → credit_ok (negsuc c) ≡ true
unfolding credit_ok
ok_neg c l = simp (le-leb c 1999999999 (omega arith))

pub bound_pos : (c : ℕ) → credit_ok (pos c) ≡ true → c ≤ most_credit
unfolding credit_ok
bound_pos c e = leb-true c most_credit e

pub bound_neg : (c : ℕ) → credit_ok (negsuc c) ≡ true → c < most_debt
unfolding credit_ok
bound_neg c e = let h = leb-true c 1999999999 (and_left _ _ e) in omega arith

-- a difference of two plain numbers
ok_sub : (a b : ℕ) → a ≤ most_credit → b ≤ a + most_debt → credit_ok (pos a -ℤ pos b) ≡ true
ok_sub a zero l m = rw (+ℤ_idr (pos a)) (ok_pos a l)
ok_sub a (suc b) l m = go (dec_lt a (suc b))
  where
    go : Dec (a < suc b) → credit_ok (pos a +ℤ negsuc b) ≡ true
    go (yes k) = rw (lt-ltb a (suc b) k) (ok_neg (suc b - suc a) (omega arith))
    go (no k) = rw (le-ltb a (suc b) (omega arith)) (ok_pos (a - suc b) (omega arith))

-- THE CREDIT AFTER A TICK is in range
pub credited_ok : (share : ℕ) (c : ℤ) → share ≤ most_uplink → credit_ok c ≡ true → credit_ok (credited share c) ≡ true
unfolding credited carried
credited_ok share (pos c) l e = go (dec_lt share c)
  where
    go : Dec (share < c) → credit_ok (cond (leb c share) (pos c) (pos share) +ℤ pos share) ≡ true
    go (yes k) = rw (lt-leb c share k) (ok_pos (share + share) (omega arith))
    go (no k) = rw (le-leb c share (omega arith)) (ok_pos (c + share) (omega arith))
credited_ok share (negsuc c) l e = go (dec_lt share (suc c))
  where
    b : c < most_debt
    b = bound_neg c e

    go : Dec (share < suc c) → credit_ok (negsuc c +ℤ pos share) ≡ true
    go (yes k) = rw (lt-ltb share (suc c) k) (ok_neg (suc c - suc share) (omega (arith, b)))
    go (no k) = rw (le-ltb share (suc c) (omega arith)) (ok_pos (share - suc c) (omega arith))

-- and nothing is lost: what is cut off is what was beyond one share
pub tick_balance : (share : ℕ) (c : ℤ) → pos share +ℤ c ≡ credited share c +ℤ pos (excess share c)
unfolding credited carried
tick_balance share (pos c) = go (dec_lt share c)
  where
    go : Dec (share < c) → pos (share + c) ≡ (cond (leb c share) (pos c) (pos share) +ℤ pos share) +ℤ pos (c - share)
    go (yes k) = rw (lt-leb c share k) (ap pos (omega arith))
    go (no k) = rw (le-leb c share (omega arith)) (ap pos (omega arith))
tick_balance share (negsuc c) = sym (+ℤ_idr (negsuc c +ℤ pos share))

-- THE CREDIT AFTER AN OFFER is in range
sent_ok : (size : ℕ) (c : ℤ) → credit_ok c ≡ true → le_z (pos size) (c +ℤ pos most_debt) ≡ true → credit_ok (c -ℤ pos size) ≡ true
sent_ok size (pos c) e f = ok_sub c size (bound_pos c e) (leb-true size (c + most_debt) f)
sent_ok zero (negsuc c) e f = rw (+ℤ_idr (negsuc c)) e
sent_ok (suc size) (negsuc c) e f =
    let b = bound_neg c e in
    let h = leb-true (suc size) (most_debt - suc c) (rw (le-ltb most_debt (suc c) (omega arith)) at f) in
    ok_neg (suc (c + size)) (omega arith)

within_debt : (size : ℕ) (c : ℤ) → le_z (pos size) c ≡ true → le_z (pos size) (c +ℤ pos most_debt) ≡ true
within_debt size (pos c) e = le-leb size (c + most_debt) (let h = leb-true size c e in omega arith)
within_debt size (negsuc c) e = true_or_false e refl

pub decided_ok : (hint size : ℕ) (c : ℤ) (waits : Bool) → credit_ok c ≡ true → credit_ok (credit_after (decide hint size c waits) size c) ≡ true
unfolding decide
decided_ok hint size c waits e =
    go (is_critical_hint hint) (le_z (pos size) (c +ℤ pos most_debt)) refl (le_z (pos size) c) refl (not (is_droppable_hint hint && waits))
  where
    go : (a : Bool) (b : Bool) → le_z (pos size) (c +ℤ pos most_debt) ≡ b → (d : Bool) → le_z (pos size) c ≡ d → (f : Bool)
        → credit_ok (credit_after (cond a (cond b (Ok Sent) (Err error.DebtLimit)) (cond (d && f) (Ok Sent) (Ok Dropped))) size c) ≡ true
    go true true b d h f = sent_ok size c e b
    go true false b d h f = e
    go false a b true h true = sent_ok size c e (within_debt size c h)
    go false a b true h false = e
    go false a b false h f = e

-- and nothing is lost: what is paid is sent
pub offer_balance : (o : Offered) (size : ℕ) (c : ℤ) → credit_after o size c +ℤ pos (bytes_sent o size) ≡ c
offer_balance (Ok Sent) size c = -ℤ-+ℤ_cancel c (pos size)
offer_balance (Ok Dropped) size c = +ℤ_idr c
offer_balance (Err e) size c = +ℤ_idr c
