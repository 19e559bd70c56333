-- Laws of the columns: their entries, and what one call leaves in them.
use mathlib.Core.Path.{◌≡◌, refl, sym, ap}
use mathlib.Core.Bool.{Bool, true, false, ◌&&◌}
use mathlib.Core.List.{List, [], ◌∷◌, ◌++◌, map}
use Prim.Native.Nat.{ℕ, zero, suc, ◌+◌, ◌≤◌, ◌<◌}
use native.Mathlib.Omega.{arith}
use lib.Dec.{ltb, leb}
use lib.IntN.{ℤ, pos}
use lib.ListN.{length, set, take, drop}
use lib.Seq.{set-get_or}
use borrow.Author.Tests.{lt-ltb, le-ltb, le-leb, lt-leb, leb-true}
use Rattle.std.proofs.lemmas.List.{get_or_default}
use Rattle.std.proofs.lemmas.List.Edits.{map_over_more}
use Rattle.std.specs.List.{list_all}
use Rattle.wire.proofs.Bools.{and_left, and_right, and_no_left, and_no_right}
use Rattle.types.specs.declared.ErrorCode.TheVariants as error
use Rattle.uplink.specs.Uplink.{most_viewers, most_uplink, viewers_ok, credit_ok, share_of, credited, all_ok, tick_ok, tick_error, tick_credits, decide, credit_of, mark_of, waits, offer_ok, offer_answer, offer_credits, offer_waiting}
use Rattle.uplink.specs.Claims.{RefusedKept}
use Rattle.std.specs.Prelude.{Err}

-- EVERY CREDIT IN RANGE, entry by entry
pub all_ok_lem : (n : ℕ) (cs : List ℤ) → n ≤ length cs → ((v : ℕ) → v < n → credit_ok (credit_of cs v) ≡ true) → all_ok (take n cs) ≡ true
all_ok_lem zero cs l h = refl
all_ok_lem (suc n) [] l h = absurd (omega arith)
all_ok_lem (suc n) (c ∷ cs) l h = rw (h 0 (omega arith)) (all_ok_lem n cs (omega arith) (λ v k. h (suc v) (omega arith)))

-- the same as a chain of the code finds it
pub all_ok_is : (cs : List ℤ) → list_all credit_ok cs ≡ all_ok cs
all_ok_is [] = refl
all_ok_is (c ∷ cs) = ap (λ (b : Bool). credit_ok c && b) (all_ok_is cs)

-- THE FRONT OF A COLUMN CHANGED, entry by entry
abbrev pub front : (ℤ → ℤ) → ℕ → List ℤ → List ℤ
front g n cs = map g (take n cs) ++ drop n cs

pub front_length : (g : ℤ → ℤ) (n : ℕ) (cs : List ℤ) → length (front g n cs) ≡ length cs
front_length g zero cs = refl
front_length g (suc n) [] = refl
front_length g (suc n) (c ∷ cs) = ap suc (front_length g n cs)

pub front_at : (g : ℤ → ℤ) (n : ℕ) (cs : List ℤ) (v : ℕ) → v < n → n ≤ length cs → credit_of (front g n cs) v ≡ g (credit_of cs v)
front_at g zero cs v k l = absurd (omega arith)
front_at g (suc n) [] v k l = absurd (omega arith)
front_at g (suc n) (c ∷ cs) zero k l = refl
front_at g (suc n) (c ∷ cs) (suc v) k l = front_at g n cs v (omega arith) (omega arith)

-- a loop that changes one entry after the other
pub front_step : (g : ℤ → ℤ) (n : ℕ) (cs ds : List ℤ) → n < length cs → ds ≡ front g n cs → (c : ℤ) → c ≡ g (credit_of ds n) → set ds n c ≡ front g (n + 1) cs
front_step g n cs ds l e c p =
    let here : n < length ds = omega (arith, ap length e, front_length g n cs) in
    rw p (map_over_more g cs ds n (credit_of ds n) l e (get_or_default ds n (pos 0) _ here))

-- THE NUMBER OF VIEWERS
pub record Viewers (n entries : ℕ) : Type 0 where
  pub some : 0 < n
  pub most : n ≤ most_viewers
  pub lent : n ≤ entries

pub viewers_ok_lem : (n entries : ℕ) → Viewers n entries → viewers_ok n entries ≡ true
unfolding viewers_ok
viewers_ok_lem n entries w = rw (lt-ltb 0 n w.some, le-leb n most_viewers w.most, le-leb n entries w.lent)

pub viewers_out : (n entries : ℕ) → most_viewers < n → viewers_ok n entries ≡ false
unfolding viewers_ok
viewers_out n entries l = and_no_right (ltb 0 n) _ (and_no_left _ _ (lt-leb n most_viewers l))

-- A TICK, by its tests
module _ (n u : ℕ) (cs : List ℤ) where
  pub tick_uplink : most_uplink < u → tick_ok n u cs ≡ false
  unfolding tick_ok
  tick_uplink l = and_no_right (viewers_ok n (length cs)) _ (and_no_left _ _ (lt-leb u most_uplink l))

  pub tick_ok_lem : viewers_ok n (length cs) ≡ true → u ≤ most_uplink → all_ok (take n cs) ≡ true → tick_ok n u cs ≡ true
  unfolding tick_ok
  tick_ok_lem e l a = rw (e, le-leb u most_uplink l, a)

  pub ok_uplink : tick_ok n u cs ≡ true → u ≤ most_uplink
  unfolding tick_ok
  ok_uplink e = leb-true u most_uplink (and_left _ _ (and_right (viewers_ok n (length cs)) _ e))

  pub tick_refused : tick_ok n u cs ≡ false → (error.OutOfRange ≡ tick_error n u cs) × (cs ≡ tick_credits n u cs)
  unfolding tick_error tick_credits
  tick_refused e = rw e (refl, refl)

  pub tick_taken : tick_ok n u cs ≡ true → (error.Ok ≡ tick_error n u cs) × (front (credited (share_of u n)) n cs ≡ tick_credits n u cs)
  unfolding tick_error tick_credits
  tick_taken e = rw e (refl, refl)

-- AN OFFER, by its tests
pub refused_kept_lem : RefusedKept
unfolding RefusedKept offer_credits offer_waiting
refused_kept_lem n v hint size s e a = rw a (set-get_or s.credits v (pos 0), set-get_or s.waiting v 0)

module _ (n v hint size : ℕ) (cs : List ℤ) (ws : List ℕ) where
  pub offer_viewers : viewers_ok n (length cs) ≡ false → offer_ok n v hint cs ws ≡ false
  unfolding offer_ok
  offer_viewers e = and_no_left _ _ e

  pub offer_viewer : n ≤ v → offer_ok n v hint cs ws ≡ false
  unfolding offer_ok
  offer_viewer l = and_no_right (viewers_ok n (length cs)) _ (and_no_right (leb n (length ws)) _ (and_no_left _ _ (le-ltb v n l)))

  pub offer_hint : 2 < hint → offer_ok n v hint cs ws ≡ false
  unfolding offer_ok
  offer_hint l = and_no_right (viewers_ok n (length cs)) _ (and_no_right (leb n (length ws)) _ (and_no_right (ltb v n) _ (and_no_left _ _ (lt-leb hint 2 l))))

  pub offer_ok_lem : viewers_ok n (length cs) ≡ true → n ≤ length ws → v < n → hint ≤ 2 → credit_ok (credit_of cs v) ≡ true → offer_ok n v hint cs ws ≡ true
  unfolding offer_ok
  offer_ok_lem e l k h o = rw (e, le-leb n (length ws) l, lt-ltb v n k, le-leb hint 2 h, o)

  pub offer_refused : offer_ok n v hint cs ws ≡ false
      → (Err error.OutOfRange ≡ offer_answer n v hint size cs ws) × ((cs ≡ offer_credits n v hint size cs ws) × (ws ≡ offer_waiting n v hint size cs ws))
  unfolding RefusedKept offer_answer
  offer_refused e =
      let a : offer_answer n v hint size cs ws ≡ Err error.OutOfRange = rw e in
      let k = refused_kept_lem n v hint size (record { credits = cs; waiting = ws }) error.OutOfRange a in
      (sym a, (sym k.0, sym k.1))

  pub offer_judged : offer_ok n v hint cs ws ≡ true → offer_answer n v hint size cs ws ≡ decide hint size (credit_of cs v) (waits (mark_of ws v))
  unfolding offer_answer
  offer_judged e = rw e
