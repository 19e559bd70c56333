-- What one call does to a viewer: every credit stays in range, a tick credits every viewer, an offer touches its own viewer alone.
use mathlib.Core.Path.{◌≡◌, refl, sym}
use mathlib.Core.Bool.{Bool, true, false, cond}
use mathlib.Core.List.{List, [], ◌∷◌}
use Prim.Native.Nat.{ℕ, ◌/◌, ◌≤◌, ◌<◌}
use native.Mathlib.Nat.{div-le_self}
use native.Mathlib.Decide.{dec_lt, ℕ_discrete}
use native.Mathlib.Omega.{arith}
use lib.Dec.{leb}
use lib.IntN.{ℤ, pos}
use lib.ListN.{length, length-set}
use lib.Seq.{get_or-set_same, get_or-set_other}
use borrow.Author.Tests.{lt-leb, le-leb}
use Rattle.types.specs.declared.ErrorCode.TheVariants as error
use Rattle.uplink.specs.Uplink.{Offered, most_viewers, most_uplink, credit_ok, share_of, credited, tick_ok, tick_credits, decide, credit_after, mark_after, credit_of, mark_of, waits, offer_ok, offer_answer, offer_credits, offer_waiting}
use Rattle.uplink.specs.Histories.{Event, tick, offer, Sharer, Fresh, sharer_after, run_sharer, decide_alone, credited_alone}
use Rattle.uplink.proofs.Credits.{credited_ok, decided_ok}
use Rattle.uplink.proofs.Columns.{all_ok_lem, front, front_length, front_at, viewers_ok_lem, tick_uplink, tick_ok_lem, ok_uplink, tick_refused, tick_taken, offer_ok_lem, offer_hint, offer_judged, offer_refused}
use Rattle.std.specs.Prelude.{Err}

-- columns with entries for n viewers, whose credits are in range
pub record InRange (n : ℕ) (s : Sharer) : Type 0 where
  pub long_credits : n ≤ length s.credits
  pub long_waiting : n ≤ length s.waiting
  pub ok : (v : ℕ) → v < n → credit_ok (credit_of s.credits v) ≡ true

pub fresh_range : (n : ℕ) (s : Sharer) → Fresh n s → InRange n s
unfolding credit_ok
fresh_range n s f = record { long_credits = f.long_credits; long_waiting = f.long_waiting; ok = λ v l. rw (f.credit v l) refl }

-- A TICK, taken or not
module _ (n u : ℕ) (s : Sharer) (r : InRange n s) where
  by_test : (P : List ℤ → Type 0) → (tick_ok n u s.credits ≡ true → P (front (credited (share_of u n)) n s.credits)) → P s.credits → P (tick_credits n u s.credits)
  by_test P taken kept = go (tick_ok n u s.credits) refl
    where
      go : (b : Bool) → tick_ok n u s.credits ≡ b → P (tick_credits n u s.credits)
      go true e = rw (← (tick_taken n u s.credits e).1) (taken e)
      go false e = rw (← (tick_refused n u s.credits e).1) kept

  -- leaves every credit in range
  pub tick_range : InRange n (sharer_after n u tick s)
  unfolding sharer_after
  tick_range =
      record {
        long_credits = by_test (λ cs. n ≤ length cs) (λ e. rw (front_length (credited (share_of u n)) n s.credits) r.long_credits) r.long_credits;
        long_waiting = r.long_waiting;
        ok = λ v l. by_test (λ cs. credit_ok (credit_of cs v) ≡ true) (credited_range v l) (r.ok v l);
      }
    where
      credited_range : (v : ℕ) → v < n → tick_ok n u s.credits ≡ true → credit_ok (credit_of (front (credited (share_of u n)) n s.credits) v) ≡ true
      credited_range v l e =
          rw (front_at (credited (share_of u n)) n s.credits v l r.long_credits)
          (credited_ok (u / n) (credit_of s.credits v) (omega (arith, div-le_self u n, ok_uplink n u s.credits e)) (r.ok v l))

  -- is refused for U alone, and credits each viewer as if it were alone
  module _ (some : 0 < n) (most : n ≤ most_viewers) where
    pub tick_in_range : u ≤ most_uplink → tick_ok n u s.credits ≡ true
    tick_in_range l =
        tick_ok_lem n u s.credits (viewers_ok_lem n _ (record { some = some; most = most; lent = r.long_credits })) l (all_ok_lem n s.credits r.long_credits r.ok)

    pub tick_credit : (v : ℕ) → v < n → credit_of (tick_credits n u s.credits) v ≡ credited_alone n u (credit_of s.credits v)
    unfolding credited_alone
    tick_credit v l = go (dec_lt most_uplink u)
      where
        go : Dec (most_uplink < u) → credit_of (tick_credits n u s.credits) v ≡ cond (leb u most_uplink) (credited (share_of u n) (credit_of s.credits v)) (credit_of s.credits v)
        go (yes k) = rw (lt-leb u most_uplink k, ← (tick_refused n u s.credits (tick_uplink n u s.credits k)).1)
        go (no k) =
            rw (le-leb u most_uplink (omega arith), ← (tick_taken n u s.credits (tick_in_range (omega arith))).1)
            (front_at (credited (share_of u n)) n s.credits v l r.long_credits)

-- AN OFFER to viewer w
module _ (n u w hint size : ℕ) (s : Sharer) where
  abbrev answer : Offered
  answer = offer_answer n w hint size s.credits s.waiting

  -- leaves every other viewer alone
  pub other_credit : (v : ℕ) → (v ≡ w → ⊥) → credit_of (sharer_after n u (offer w hint size) s).credits v ≡ credit_of s.credits v
  unfolding sharer_after offer_credits
  other_credit v d = get_or-set_other s.credits w v _ (pos 0) d

  pub other_mark : (v : ℕ) → (v ≡ w → ⊥) → mark_of (sharer_after n u (offer w hint size) s).waiting v ≡ mark_of s.waiting v
  unfolding sharer_after offer_waiting
  other_mark v d = get_or-set_other s.waiting w v _ 0 d

  module _ (l : w < n) (r : InRange n s) where
    pub own_credit : credit_of (sharer_after n u (offer w hint size) s).credits w ≡ credit_after answer size (credit_of s.credits w)
    unfolding sharer_after offer_credits
    own_credit = get_or-set_same s.credits w _ (pos 0) (omega (arith, r.long_credits))

    pub own_mark : mark_of (sharer_after n u (offer w hint size) s).waiting w ≡ mark_after answer hint (mark_of s.waiting w)
    unfolding sharer_after offer_waiting
    own_mark = get_or-set_same s.waiting w _ 0 (omega (arith, r.long_waiting))

    -- and decides as if its own were alone
    pub own_decision : n ≤ most_viewers → answer ≡ decide_alone hint size (credit_of s.credits w) (mark_of s.waiting w)
    unfolding decide_alone
    own_decision most = go (dec_lt 2 hint)
      where
        go : Dec (2 < hint) → answer ≡ cond (leb hint 2) (decide hint size (credit_of s.credits w) (waits (mark_of s.waiting w))) (Err error.OutOfRange)
        go (yes k) = rw (lt-leb hint 2 k) (sym (offer_refused n w hint size s.credits s.waiting (offer_hint n w hint size s.credits s.waiting k)).0)
        go (no k) =
            let viewers = viewers_ok_lem n _ (record { some = omega arith; most = most; lent = r.long_credits }) in
            rw (le-leb hint 2 (omega arith))
            (offer_judged n w hint size s.credits s.waiting (offer_ok_lem n w hint size s.credits s.waiting viewers r.long_waiting l (omega arith) (r.ok w l)))

  -- and leaves every credit in range
  pub offer_range : InRange n s → InRange n (sharer_after n u (offer w hint size) s)
  unfolding sharer_after offer_credits offer_waiting offer_answer
  offer_range r =
      record {
        long_credits = simp (offer_credits, length-set) r.long_credits;
        long_waiting = simp (offer_waiting, length-set) r.long_waiting;
        ok = λ v l. go v l (ℕ_discrete v w);
      }
    where
      chosen : (b : Bool) (c : ℤ) → credit_ok c ≡ true → credit_ok (credit_after (cond b (decide hint size c (waits (mark_of s.waiting w))) (Err error.OutOfRange)) size c) ≡ true
      chosen true c e = decided_ok hint size c (waits (mark_of s.waiting w)) e
      chosen false c e = e

      go : (v : ℕ) → v < n → Dec (v ≡ w) → credit_ok (credit_of (sharer_after n u (offer w hint size) s).credits v) ≡ true
      go v l (yes e) = rw (e, own_credit (omega arith) r, offer_answer) (chosen (offer_ok n w hint s.credits s.waiting) (credit_of s.credits w) (r.ok w (omega arith)))
      go v l (no d) = rw (other_credit v d) (r.ok v l)

-- A WHOLE HISTORY leaves every credit in range
pub run_range : (n u : ℕ) (es : List Event) (s : Sharer) → InRange n s → InRange n (run_sharer n u es s)
run_range n u [] s r = r
run_range n u (tick ∷ es) s r = run_range n u es (sharer_after n u tick s) (tick_range n u s r)
run_range n u (offer w hint size ∷ es) s r = run_range n u es (sharer_after n u (offer w hint size) s) (offer_range n u w hint size s r)
